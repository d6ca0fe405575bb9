-- A walk up has at most one vertex more than there are vertices with a live parent edge.
use Rattle.std.proofs.Common.{◌≡◌, ℕ, suc, ◌+◌, ◌<◌, ◌≤◌, Bool, true, false, cond, List, [], ◌∷◌, length, refl, sym, ap, subst, ◌∙◌, arith}
use Rattle.std.specs.Prelude.{◌||◌, ◌-◌, leb, Option, None, Some, IfSome}
use Rattle.std.proofs.lemmas.Bool.{leb-true, leb-false}
use Rattle.grove_edits.specs.declared.vertex.Vertex.{Vertex}
use Rattle.grove_edits.specs.declared.edge.Edge.{Edge}
use Rattle.edge_numbers.specs.Numbered.{Numbered, vertex_at, IsVertexNumber, IsNumberOfVertex}
use Rattle.graph_words.specs.Live.{targets_of}
use Rattle.grove_edits.specs.Vertex.{is_same_vertex, stands_in}
use Rattle.graph_words.specs.Walk.{above, GoesOn, walk}
use Rattle.grove_edits.proofs.Vertices.{same_vertex_exact, same_vertex_itself}
use Rattle.graph_words.proofs.Endings.{AllStandIn, AreApart, length-AllStandIn, target_list, target-from_above, walk_is}
use Rattle.graph_words.proofs.Up.{up, walk_len, up_none_along}
use Rattle.graph_words.specs.Cycle.{leads_to}
use Rattle.graph_words.proofs.Cycles.{Reaches, reaches_from_leads, leads_from_reaches, within_walk}
use Rattle.grove_sorts.proofs.Truths.{false_from, or_left, or_right}

or_both : (a b c : Bool) → a ≡ b → (a || c) ≡ (b || c)
or_both a b c e = ap (λ x. x || c) e

-- each target stands among the vertices with a parent
target_stands : (edges : List Edge) (v : Vertex) → stands_in v (target_list edges) ≡ true → stands_in v (targets_of edges) ≡ true
target_stands [] v h = absurd cc
target_stands (e ∷ es) v h = by_tests (stands_in e.target (targets_of es)) (is_same_vertex e.target v) refl refl h (target_stands es v) where
  by_tests : (a b : Bool) → stands_in e.target (targets_of es) ≡ a → is_same_vertex e.target v ≡ b → (b || stands_in v (target_list es)) ≡ true → (stands_in v (target_list es) ≡ true → stands_in v (targets_of es) ≡ true)
      → stands_in v (cond a (targets_of es) (e.target ∷ targets_of es)) ≡ true
  by_tests true true known same rest later = ap (λ w. stands_in w (targets_of es)) (sym (same_vertex_exact e.target v same)) ∙ known
  by_tests true false known other rest later = later rest
  by_tests false true new same rest later = or_left (is_same_vertex e.target v) (stands_in v (targets_of es)) same
  by_tests false false new other rest later = or_right (is_same_vertex e.target v) (stands_in v (targets_of es)) (later rest)

goes_short : (edges : List Edge) (passed : List Vertex) (next : Option Vertex) (xs : List Vertex) → GoesOn edges passed next xs → AreApart passed → AllStandIn (targets_of edges) passed
    → length passed + length xs ≤ suc (length (targets_of edges))
goes_short edges passed next [] g apart all = let few = length-AllStandIn (targets_of edges) passed apart all in omega arith
goes_short edges passed next (x ∷ []) g apart all = let few = length-AllStandIn (targets_of edges) passed apart all in omega arith
goes_short edges passed next (x ∷ y ∷ ys) g apart all =
    let target : stands_in x (targets_of edges) ≡ true = target_stands edges x (target-from_above edges x y g.2.0) in
    let rest = goes_short edges (x ∷ passed) (above edges x) (y ∷ ys) g.2 (g.1, apart) (target, all) in
    omega arith

pub walk_short : (edges : List Edge) (v : Vertex) → walk_len edges v ≤ suc (length (targets_of edges))
walk_short edges v = let short = goes_short edges [] (Some v) (walk edges v) (walk_is edges v) tt tt in omega arith

-- ---- a walk that looks for a vertex

pub record HasNotMet (live : List Edge) (from vertex at : Vertex) (step : ℕ) : Type 0 where
  pub here : up live step (Some from) ≡ Some at
  pub passed : (j : ℕ) → j < step → up live j (Some from) ≡ Some vertex → ⊥

pub met : (live : List Edge) (from vertex at : Vertex) (step : ℕ) → HasNotMet live from vertex at step → is_same_vertex at vertex ≡ true → leads_to live from vertex ≡ true
met live from vertex at step so_far same = leads_from_reaches live from vertex (step, so_far.here ∙ ap Some (same_vertex_exact at vertex same))

not_here : (live : List Edge) (from vertex at : Vertex) (step : ℕ) → HasNotMet live from vertex at step → is_same_vertex at vertex ≡ false → (j : ℕ) → j ≤ step → up live j (Some from) ≡ Some vertex → ⊥
not_here live from vertex at step so_far other j le found = by_place (leb (suc j) step) refl where
  by_place : (b : Bool) → leb (suc j) step ≡ b → ⊥
  by_place true lt = so_far.passed j (omega (arith, leb-true (suc j) step lt)) found
  by_place false ge =
      let e : j ≡ step = omega (arith, leb-false (suc j) step ge) in
      let both : Some at ≡ Some vertex = sym so_far.here ∙ ap (λ i. up live i (Some from)) (sym e) ∙ found in
      let same : at ≡ vertex = cc in
      let itself : is_same_vertex at vertex ≡ true = ap (λ w. is_same_vertex w vertex) same ∙ same_vertex_itself vertex in
      cc

pub goes_further : (live : List Edge) (from vertex at above_at : Vertex) (step : ℕ) → HasNotMet live from vertex at step → is_same_vertex at vertex ≡ false → above live at ≡ Some above_at → HasNotMet live from vertex above_at (step + 1)
goes_further live from vertex at above_at step so_far other next = record {
  here = shifted (step + 1) (suc step) (omega arith) (ap (next_up live) so_far.here ∙ next);
  passed = λ j lt found. not_here live from vertex at step so_far other j (omega arith) found;
} where
  shifted : (m n : ℕ) → m ≡ n → up live n (Some from) ≡ Some above_at → up live m (Some from) ≡ Some above_at
  shifted m n same at_n = ap (λ i. up live i (Some from)) same ∙ at_n

  next_up : List Edge → Option Vertex → Option Vertex
  next_up edges o = up edges 1 o

pub never_met : (live : List Edge) (from vertex at : Vertex) (step : ℕ) → HasNotMet live from vertex at step → is_same_vertex at vertex ≡ false → above live at ≡ None → leads_to live from vertex ≡ false
never_met live from vertex at step so_far other none = false_from (leads_to live from vertex) (λ leads. by_reach (reaches_from_leads live from vertex leads)) where
  by_reach : Reaches live from vertex → ⊥
  by_reach (n, found) = by_place (leb n step) refl where
    by_place : (b : Bool) → leb n step ≡ b → ⊥
    by_place true le = not_here live from vertex at step so_far other n (leb-true n step le) found
    by_place false gt =
        let further : up live (suc step) (Some from) ≡ None = ap (λ o. up live 1 o) so_far.here ∙ none in
        let over = leb-false n step gt in
        let sum : suc step + (n - suc step) ≡ n = omega arith in
        let ends = up_none_along live (Some from) (suc step) (n - suc step) further in
        let same = ap (λ i. up live i (Some from)) sum in
        cc

pub met_at_last : (live : List Edge) (from vertex at : Vertex) (step : ℕ) → HasNotMet live from vertex at step → length (targets_of live) ≤ step → is_same_vertex at vertex ≡ leads_to live from vertex
met_at_last live from vertex at step so_far enough = by_test (is_same_vertex at vertex) refl where
  by_test : (b : Bool) → is_same_vertex at vertex ≡ b → b ≡ leads_to live from vertex
  by_test true same = sym (met live from vertex at step so_far same)
  by_test false other = sym (false_from (leads_to live from vertex) (λ leads. by_reach (reaches_from_leads live from vertex leads))) where
    by_reach : Reaches live from vertex → ⊥
    by_reach (n, found) =
        let w = within_walk live from n vertex found in
        let short = walk_short live from in
        let lt = w.1 in
        not_here live from vertex at step so_far other w.0 (omega arith) w.2

-- where no vertex is above the first, the walk is that vertex alone
pub met_at_first : (live : List Edge) (from vertex : Vertex) → above live from ≡ None → is_same_vertex from vertex ≡ leads_to live from vertex
met_at_first live from vertex none = by_test (is_same_vertex from vertex) refl where
  first : HasNotMet live from vertex from 0
  first = record { here = refl; passed = λ j lt found. absurd (omega (arith, lt)) }

  by_test : (b : Bool) → is_same_vertex from vertex ≡ b → b ≡ leads_to live from vertex
  by_test true same = sym (met live from vertex from 0 first same)
  by_test false other = sym (never_met live from vertex from 0 first other none)

-- a vertex with a number is the one that is looked for where that has the number
pub same_by_number : (edges : Numbered) (v : Vertex) (at : ℕ) (number : Option ℕ) (b : Bool) → IsVertexNumber edges at → IfSome number (IsNumberOfVertex edges v) → ((n : ℕ) → IsNumberOfVertex edges v n → number ≡ Some n)
    → (b ≡ true → number ≡ Some at) → (number ≡ Some at → b ≡ true) → is_same_vertex (vertex_at edges at) v ≡ b
same_by_number edges v at number true has known only found no_other =
    let is : IsNumberOfVertex edges v at = subst (λ o. IfSome o (IsNumberOfVertex edges v)) (found refl) known in
    ap (λ w. is_same_vertex w v) is.1 ∙ same_vertex_itself v
same_by_number edges v at number false has known only found no_other =
    false_from (is_same_vertex (vertex_at edges at) v)
    (λ same. let wrong : false ≡ true = no_other (only at (has, same_vertex_exact (vertex_at edges at) v same)) in absurd cc)
