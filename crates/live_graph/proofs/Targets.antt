-- How many vertices have a live parent edge, where one edge is added.
use Rattle.std.proofs.Common.{◌≡◌, ℕ, suc, ◌+◌, ◌≤◌, Bool, true, false, cond, true≢false, List, [], ◌∷◌, length, refl, sym, ap, ◌∙◌, arith}
use Rattle.std.specs.Prelude.{◌||◌, ◌==◌, not}
use Rattle.std.specs.List.{IsDistinct}
use Rattle.std.specs.declared.cmp.Ordering.{Ordering}
use Rattle.std.specs.declared.cmp.Ordering.TheVariants.{Less, Equal, Greater}
use lib.Dec.{eqb-suc-zero}
use Rattle.std.proofs.lemmas.List.{length-map}
use Rattle.edge_lattice.specs.declared.state.State.{State}
use Rattle.grove_sorts.proofs.Truths.{or_swap, or_again}
use Rattle.grove_edits.specs.declared.vertex.Vertex.{Vertex}
use Rattle.grove_edits.specs.declared.edge.Edge.{Edge}
use Rattle.grove_edits.specs.Edge.{edge_cmp}
use Rattle.grove_edits.specs.Vertex.{is_same_vertex, stands_in}
use Rattle.grove_edits.specs.Graph.{is_same_edge}
use Rattle.grove_edits.proofs.Orders.{edge_cmp_exact}
use Rattle.grove_edits.proofs.Vertices.{same_vertex_exact, same_vertex_itself, same_vertex_laws}
use Rattle.graph_words.specs.Live.{targets_of, parents_of}
use Rattle.graph_words.specs.Ordered.{with_edge, put_before}
use Rattle.graph_words.proofs.Ordered.{holds-with_edge, in_order-with_edge, same_lists}
use Rattle.edge_numbers.specs.Numbered.{Numbered, edges_of, edge_at, vertex_at, IsVertexNumber}
use Rattle.graph_words.specs.States.{Entries, state_in, with_state, is_live}
use Rattle.edge_lists.specs.Lists.{Listed, numbers_at}
use Rattle.live_graph.specs.Live.{live}
use Rattle.live_graph.specs.Around.{once, AreAround, target_of}
use Rattle.live_graph.proofs.Children.{parents_listed}
use Rattle.live_graph.proofs.Lives.{in_order-live, holds-live}

-- ---- which vertices are targets

stands-targets : (v : Vertex) (e : Edge) (es : List Edge) → stands_in v (targets_of (e ∷ es)) ≡ (is_same_vertex e.target v || stands_in v (targets_of es))
stands-targets v e es = by_test (stands_in e.target (targets_of es)) refl where
  by_test : (b : Bool) → stands_in e.target (targets_of es) ≡ b → stands_in v (cond b (targets_of es) (e.target ∷ targets_of es)) ≡ (is_same_vertex e.target v || stands_in v (targets_of es))
  by_test false _ = refl
  by_test true there = by_vertex (is_same_vertex e.target v) refl where
    by_vertex : (b : Bool) → is_same_vertex e.target v ≡ b → stands_in v (targets_of es) ≡ (b || stands_in v (targets_of es))
    by_vertex true same = ap (λ w. stands_in w (targets_of es)) (sym (same_vertex_exact e.target v same)) ∙ there
    by_vertex false _ = refl

stands-with_edge : (v : Vertex) (x : Edge) (xs : List Edge) → stands_in v (targets_of (with_edge x xs)) ≡ (is_same_vertex x.target v || stands_in v (targets_of xs))
stands-with_edge v x [] = refl
stands-with_edge v x (y ∷ ys) = by_order (edge_cmp x y) refl (stands-with_edge v x ys) where
  by_order : (o : Ordering) → edge_cmp x y ≡ o → stands_in v (targets_of (with_edge x ys)) ≡ (is_same_vertex x.target v || stands_in v (targets_of ys))
      → stands_in v (targets_of (put_before o x y ys (with_edge x ys))) ≡ (is_same_vertex x.target v || stands_in v (targets_of (y ∷ ys)))
  by_order Less _ _ = stands-targets v x (y ∷ ys)
  by_order Equal tie _ =
      let st = stands_in v (targets_of ys) in
      stands-targets v y ys ∙ or_again (is_same_vertex y.target v) st ∙ ap (λ (e : Edge). is_same_vertex e.target v || (is_same_vertex y.target v || st)) (sym (edge_cmp_exact x y tie))
      ∙ ap (λ b. is_same_vertex x.target v || b) (sym (stands-targets v y ys))
  by_order Greater _ rest =
      stands-targets v y (with_edge x ys) ∙ ap (λ b. is_same_vertex y.target v || b) rest
      ∙ or_swap (is_same_vertex y.target v) (is_same_vertex x.target v) (stands_in v (targets_of ys)) ∙ ap (λ b. is_same_vertex x.target v || b) (sym (stands-targets v y ys))

-- ---- how many they are

-- one vertex more, which is the first of a list or not
sizes : (q a b : Bool) → (q ≡ true → a ≡ b) → (more rest : List Vertex) (w : Vertex) → length more ≡ length rest + once (not b)
    → length (cond (q || a) more (w ∷ more)) ≡ length (cond a rest (w ∷ rest)) + once (not (q || b))
sizes true true true alike more rest w count = omega (arith, count)
sizes true false false alike more rest w count = omega (arith, count)
sizes true true false alike more rest w count = absurd (true≢false (alike refl))
sizes true false true alike more rest w count = absurd (true≢false (sym (alike refl)))
sizes false true b alike more rest w count = count
sizes false false b alike more rest w count = omega (arith, count)

pub length-with_edge : (x : Edge) (xs : List Edge) → length (targets_of (with_edge x xs)) ≡ length (targets_of xs) + once (not (stands_in x.target (targets_of xs)))
length-with_edge x [] = refl
length-with_edge x (y ∷ ys) = by_order (edge_cmp x y) refl (length-with_edge x ys) where
  by_order : (o : Ordering) → edge_cmp x y ≡ o → length (targets_of (with_edge x ys)) ≡ length (targets_of ys) + once (not (stands_in x.target (targets_of ys)))
      → length (targets_of (put_before o x y ys (with_edge x ys))) ≡ length (targets_of (y ∷ ys)) + once (not (stands_in x.target (targets_of (y ∷ ys))))
  by_order Less _ _ = by_test (stands_in x.target (targets_of (y ∷ ys))) where
    by_test : (b : Bool) → length (cond b (targets_of (y ∷ ys)) (x.target ∷ (targets_of (y ∷ ys)))) ≡ length (targets_of (y ∷ ys)) + once (not b)
    by_test true = omega arith
    by_test false = omega arith
  by_order Equal tie _ =
      let itself : stands_in x.target (targets_of (y ∷ ys)) ≡ true =
      stands-targets x.target y ys ∙ ap (λ b. b || stands_in x.target (targets_of ys)) (ap (λ (e : Edge). is_same_vertex e.target x.target) (sym (edge_cmp_exact x y tie)) ∙ same_vertex_itself x.target) in
      let none : once (not (stands_in x.target (targets_of (y ∷ ys)))) ≡ 0 = ap (λ b. once (not b)) itself in
      omega (arith, none)
  by_order Greater _ count =
      let more = targets_of (with_edge x ys) in
      let rest = targets_of ys in
      let q = is_same_vertex x.target y.target in
      let a = stands_in y.target rest in
      let b = stands_in x.target rest in
      let alike : q ≡ true → a ≡ b = λ same. ap (λ w. stands_in w rest) (sym (same_vertex_exact x.target y.target same)) in
      ap (λ t. length (cond t more (y.target ∷ more))) (stands-with_edge y.target x ys)
      ∙ sizes q a b alike more rest y.target count
      ∙ ap (λ t. length (cond a rest (y.target ∷ rest)) + once (not t)) (ap (λ t. t || b) (same_vertex_laws.symm x.target y.target) ∙ sym (stands-targets x.target y ys))

length-targets : (es : List Edge) → length (targets_of es) ≤ length es
length-targets [] = omega arith
length-targets (e ∷ es) = by_test (stands_in e.target (targets_of es)) (length-targets es) where
  by_test : (b : Bool) → length (targets_of es) ≤ length es → length (cond b (targets_of es) (e.target ∷ targets_of es)) ≤ suc (length es)
  by_test true rest = omega (arith, rest)
  by_test false rest = omega (arith, rest)

length-with_edge-le : (x : Edge) (xs : List Edge) → length (with_edge x xs) ≤ length xs + 1
length-with_edge-le x [] = omega arith
length-with_edge-le x (y ∷ ys) = by_order (edge_cmp x y) (length-with_edge-le x ys) where
  by_order : (o : Ordering) → length (with_edge x ys) ≤ length ys + 1 → length (put_before o x y ys (with_edge x ys)) ≤ suc (length ys) + 1
  by_order Less rest = omega arith
  by_order Equal rest = omega arith
  by_order Greater rest = omega (arith, rest)

length-live : (entries : Entries) → length (live entries) ≤ length entries
length-live [] = omega arith
length-live (x ∷ xs) = by_test (is_live x.1) (length-live xs) where
  by_test : (b : Bool) → length (live xs) ≤ length xs → length (cond b (with_edge x.0 (live xs)) (live xs)) ≤ suc (length xs)
  by_test true rest = omega (arith, rest, length-with_edge-le x.0 (live xs))
  by_test false rest = omega (arith, rest)

-- no more vertices than edges
pub targets_fit : (entries : Entries) → length (targets_of (live entries)) ≤ length entries
targets_fit entries = omega (arith, length-targets (live entries), length-live entries)

pub some_target : (v : Vertex) (vs : List Vertex) → once (stands_in v vs) ≤ length vs
some_target v [] = omega arith
some_target v (x ∷ xs) = by_test (is_same_vertex x v || stands_in v xs) where
  by_test : (b : Bool) → once b ≤ suc (length xs)
  by_test true = omega arith
  by_test false = omega arith

-- ---- where one edge has another state

-- the same with an edge added to both
alike_with : (edge : Edge) (state : State) (before after : Entries) → IsDistinct is_same_edge (edges_of before) → IsDistinct is_same_edge (edges_of after)
    → ((e : Edge) → state_in after e ≡ with_state edge state (state_in before) e) → with_edge edge (live after) ≡ with_edge edge (live before)
alike_with edge state before after once_before once_after set =
    same_lists (with_edge edge (live after)) (with_edge edge (live before)) (in_order-with_edge edge (live after) (in_order-live after)) (in_order-with_edge edge (live before) (in_order-live before))
    (λ e. holds-with_edge e edge (live after) ∙ ap (λ b. is_same_edge edge e || b) (holds-live after e once_after ∙ ap is_live (set e)) ∙ by_test e (is_same_edge edge e)
    ∙ ap (λ b. is_same_edge edge e || b) (sym (holds-live before e once_before)) ∙ sym (holds-with_edge e edge (live before)))
  where
    by_test : (e : Edge) (b : Bool) → (b || is_live (cond b state (state_in before e))) ≡ (b || is_live (state_in before e))
    by_test e true = refl
    by_test e false = refl

once_both : (b : Bool) → once b + once (not b) ≡ 1
once_both true = refl
once_both false = refl

pub targets_set : (edge : Edge) (state : State) (before after : Entries) → IsDistinct is_same_edge (edges_of before) → IsDistinct is_same_edge (edges_of after)
    → ((e : Edge) → state_in after e ≡ with_state edge state (state_in before) e)
    → length (targets_of (live after)) + once (stands_in edge.target (targets_of (live before))) ≡ length (targets_of (live before)) + once (stands_in edge.target (targets_of (live after)))
targets_set edge state before after once_before once_after set =
    let had = stands_in edge.target (targets_of (live before)) in
    let has = stands_in edge.target (targets_of (live after)) in
    let alike : length (targets_of (with_edge edge (live after))) ≡ length (targets_of (with_edge edge (live before))) = ap (λ es. length (targets_of es)) (alike_with edge state before after once_before once_after set) in
    omega (arith, alike, length-with_edge edge (live before), length-with_edge edge (live after), once_both had, once_both has)

-- ---- the parent edges of a vertex

no_parents_listed : (v : Vertex) (es : List Edge) → stands_in v (targets_of es) ≡ not (length (parents_of v es) == 0)
no_parents_listed v [] = refl
no_parents_listed v (e ∷ es) = stands-targets v e es ∙ by_test (is_same_vertex e.target v) (no_parents_listed v es) where
  by_test : (b : Bool) → stands_in v (targets_of es) ≡ not (length (parents_of v es) == 0) → (b || stands_in v (targets_of es)) ≡ not (length (cond b (e ∷ parents_of v es) (parents_of v es)) == 0)
  by_test true _ = ap not (sym (eqb-suc-zero (length (parents_of v es))))
  by_test false rest = rest

-- a vertex is a target where edges are listed at its number
pub listed_target : (edges : Numbered) (n : ℕ) (lists : List Listed) → IsDistinct is_same_edge (edges_of edges.entries) → IsDistinct is_same_vertex edges.vertices → IsVertexNumber edges n
    → AreAround target_of edge_cmp edges lists → stands_in (vertex_at edges n) (targets_of (live edges.entries)) ≡ not (length (numbers_at lists n) == 0)
listed_target edges n lists once_edges once_vertices number around =
    let v = vertex_at edges n in
    no_parents_listed v (live edges.entries)
    ∙ ap (λ es. not (length es == 0)) (sym (parents_listed edges v once_edges once_vertices n (number, refl) lists around))
    ∙ ap (λ k. not (k == 0)) (length-map (numbers_at lists n) (edge_at edges))
