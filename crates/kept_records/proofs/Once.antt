-- The records that one walk down makes are of vertices each of which stands once among them, and is a vertex of the graph.
use Rattle.std.proofs.Common.{◌≡◌, ◌≢◌, ◌⊎◌, inl, inr, ℕ, ◌+◌, ◌≤◌, Bool, true, false, cond, List, [], ◌∷◌, ◌++◌, length, filter, refl, sym, ap, subst, ◌∙◌, arith, length-append, append_assoc}
use Rattle.std.specs.Prelude.{◌||◌, Option, Some}
use Rattle.std.specs.List.{AllByRecursion}
use Rattle.std.specs.declared.cmp.Ordering.TheVariants.{Less}
use Rattle.std.specs.Ordering.{is_eq}
use Rattle.std.proofs.lemmas.Bool.{or_cases, false_from_ne_true, or_left, or_right}
use Rattle.edge_lattice.specs.declared.state.State.TheVariants.{Absent}
use Rattle.grove_edits.specs.declared.vertex.Vertex.{Vertex}
use Rattle.grove_edits.specs.declared.edge.Edge.{Edge}
use Rattle.grove_edits.specs.Edge.{IsWellFormed, edge_cmp}
use Rattle.grove_edits.specs.Graph.{Graph, is_same_edge}
use Rattle.grove_edits.proofs.Orders.{same_edge_laws, one_edge}
use Rattle.graph_words.specs.declared.class.Class.TheVariants.{Inner}
use Rattle.graph_words.specs.Live.{IsInEdgeOrder, holds_edge, parents_of}
use Rattle.grove_edits.specs.Vertex.{is_same_vertex, stands_in}
use Rattle.graph_words.specs.Walk.{only_source, above, GoesOn, walk}
use Rattle.graph_words.specs.Class.{class}
use Rattle.graph_words.specs.Whole.{IsVertexOf}
use Rattle.grove_edits.proofs.Vertices.{same_vertex_exact, same_vertex_itself}
use Rattle.graph_words.proofs.Endings.{walk_is}
use Rattle.graph_words.proofs.Returns.{some_same}
use Rattle.grove_terms.specs.Forest.{Forest, none, multi_ref, cycle_ref, tree, child_edges, edges_under, StandsUnder}
use Rattle.grove_terms.proofs.InLive.{same_edge_itself}
use Rattle.grove_terms.proofs.Totals.{once, total}
use Rattle.grove_terms.proofs.EdgesUnder.{total-edges_under}
use Rattle.mark_step.specs.Expression.{Demanded}
use Rattle.kept_records.specs.Kept.{Kept, Records, alone, kept_of, expression_of, demanded_at, IsTreeIn, Stands}
use Rattle.kept_records.specs.Change.{is_on_walks, StandOnce}
use Rattle.kept_records.specs.Renewal.{MakesUnder, MakesTree, MakesTrees, names}
use Rattle.grove_sorts.proofs.Truths.{not_both}
use Rattle.kept_records.proofs.Names.{has_name}
use Rattle.kept_records.proofs.Children.{sole_parent, held_in_filter, IsTreeOf, children_are_of, tree_inner}
use Rattle.kept_records.proofs.Standing.{one_place, child_stands, stands_under}

-- ---- no edge stands twice under a vertex

same_edge_back : (a b : Edge) → is_same_edge a b ≡ is_same_edge b a
same_edge_back a b = same_edge_laws.symm a b

total_later : (d : Edge) (es : List Edge) → AllByRecursion (λ later. edge_cmp d later ≡ Less) es → total (λ x. once (is_same_edge d x)) es ≡ 0
total_later d [] all = refl
total_later d (x ∷ xs) all =
    let here : once (is_same_edge d x) ≡ 0 = ap (λ o. once (is_eq o)) all.0 in
    let rest = total_later d xs all.1 in
    omega (arith, here, rest)

total_once : (d : Edge) (es : List Edge) → IsInEdgeOrder es → total (λ x. once (is_same_edge d x)) es ≤ 1
total_once d [] order = omega arith
total_once d (x ∷ xs) order = by_test (is_same_edge d x) refl (total_once d xs order.1) where
  by_test : (b : Bool) → is_same_edge d x ≡ b → total (λ y. once (is_same_edge d y)) xs ≤ 1 → once b + total (λ y. once (is_same_edge d y)) xs ≤ 1
  by_test true one rest =
      let none : total (λ y. once (is_same_edge d y)) xs ≡ 0 = total_later d xs (subst (λ z. AllByRecursion (λ later. edge_cmp z later ≡ Less) xs) (sym (one_edge d x one)) order.0) in
      omega (arith, none)
  by_test false other rest = omega (arith, rest)

total_part : (f : Edge → ℕ) (p : Edge → Bool) (es : List Edge) → total f (filter p es) ≤ total f es
total_part f p [] = omega arith
total_part f p (x ∷ xs) = by_test (p x) (total_part f p xs) where
  by_test : (b : Bool) → total f (filter p xs) ≤ total f xs → total f (cond b (x ∷ filter p xs) (filter p xs)) ≤ f x + total f xs
  by_test true rest = omega (arith, rest)
  by_test false rest = omega (arith, rest)

total_held : (d : Edge) (es : List Edge) → holds_edge d es ≡ true → 1 ≤ total (λ x. once (is_same_edge d x)) es
total_held d [] held = absurd cc
total_held d (x ∷ xs) held = by_test (is_same_edge x d) refl held (total_held d xs) where
  by_test : (b : Bool) → is_same_edge x d ≡ b → (b || holds_edge d xs) ≡ true → (holds_edge d xs ≡ true → 1 ≤ total (λ y. once (is_same_edge d y)) xs) → 1 ≤ once (is_same_edge d x) + total (λ y. once (is_same_edge d y)) xs
  by_test true one h rest = let here : once (is_same_edge d x) ≡ 1 = ap once (same_edge_back d x ∙ one) in omega (arith, here)
  by_test false other h rest = let later = rest h in omega (arith, later)

-- no edge stands among those after it
abbrev pub EdgesOnce : List Edge → Type 0
EdgesOnce [] = Unit {0}
EdgesOnce (e ∷ es) = (holds_edge e es ≡ false) × EdgesOnce es

edges_once : (es : List Edge) → ((d : Edge) → total (λ x. once (is_same_edge d x)) es ≤ 1) → EdgesOnce es
edges_once [] few = tt
edges_once (e ∷ es) few = (by_test (holds_edge e es) refl, edges_once es (λ d. let all = few d in omega (arith, all))) where
  by_test : (b : Bool) → holds_edge e es ≡ b → holds_edge e es ≡ false
  by_test true held =
      let all = few e in
      let here : once (is_same_edge e e) ≡ 1 = ap once (same_edge_itself e) in
      let again = total_held e es held in
      absurd (omega (arith, all, here, again))
  by_test false other = other

pub under_once : (live : List Edge) → IsInEdgeOrder live → AllByRecursion IsWellFormed live → (v : Vertex) → EdgesOnce (edges_under live v)
under_once live order well v = edges_once (edges_under live v) few where
  few : (d : Edge) → total (λ x. once (is_same_edge d x)) (edges_under live v) ≤ 1
  few d =
      let same = total-edges_under (λ x. once (is_same_edge d x)) v live well in
      let part = total_part (λ x. once (is_same_edge d x)) (λ (e : Edge). is_same_vertex e.source v) live in
      let whole = total_once d live order in
      omega (arith, same, part, whole)

-- ---- names

pub name_split : (w : Vertex) (xs : List (Vertex × Kept)) (m : Vertex × Kept) (ys : List (Vertex × Kept)) → has_name w (xs ++ m ∷ ys) ≡ true → (has_name w xs ≡ true) ⊎ ((m.0 ≡ w) ⊎ (has_name w ys ≡ true))
name_split w [] m ys h = by_test (is_same_vertex m.0 w) refl h where
  by_test : (b : Bool) → is_same_vertex m.0 w ≡ b → (b || has_name w ys) ≡ true → (has_name w [] ≡ true) ⊎ ((m.0 ≡ w) ⊎ (has_name w ys ≡ true))
  by_test true one h = inr (inl (same_vertex_exact m.0 w one))
  by_test false other h = inr (inr h)
name_split w (x ∷ xs) m ys h = by_test (is_same_vertex x.0 w) refl h (name_split w xs m ys) where
  moved : (has_name w xs ≡ true) ⊎ ((m.0 ≡ w) ⊎ (has_name w ys ≡ true)) → (has_name w (x ∷ xs) ≡ true) ⊎ ((m.0 ≡ w) ⊎ (has_name w ys ≡ true))
  moved (inl k) = inl (or_right (is_same_vertex x.0 w) (has_name w xs) k)
  moved (inr k) = inr k

  by_test : (b : Bool) → is_same_vertex x.0 w ≡ b → (b || has_name w (xs ++ m ∷ ys)) ≡ true → (has_name w (xs ++ m ∷ ys) ≡ true → (has_name w xs ≡ true) ⊎ ((m.0 ≡ w) ⊎ (has_name w ys ≡ true)))
      → (has_name w (x ∷ xs) ≡ true) ⊎ ((m.0 ≡ w) ⊎ (has_name w ys ≡ true))
  by_test true one h later = inl (or_left (is_same_vertex x.0 w) (has_name w xs) one)
  by_test false other h later = moved (later h)

pub once_join : (xs : List (Vertex × Kept)) (m : Vertex × Kept) (ys : List (Vertex × Kept)) → StandOnce (names xs) → StandOnce (names ys) → (has_name m.0 xs ≡ true → ⊥) → (has_name m.0 ys ≡ true → ⊥)
    → ((w : Vertex) → has_name w xs ≡ true → has_name w ys ≡ true → ⊥) → StandOnce (names (xs ++ m ∷ ys))
once_join [] m ys once_x once_y out_x out_y apart = (false_from_ne_true (has_name m.0 ys) out_y, once_y)
once_join (x ∷ xs) m ys once_x once_y out_x out_y apart = (
  false_from_ne_true (has_name x.0 (xs ++ m ∷ ys)) (λ h. refuted (name_split x.0 xs m ys h)),
  once_join xs m ys once_x.1 once_y (λ h. out_x (or_right (is_same_vertex x.0 m.0) (has_name m.0 xs) h)) out_y (λ w h k. apart w (or_right (is_same_vertex x.0 w) (has_name w xs) h) k),
) where
  itself : has_name x.0 (x ∷ xs) ≡ true
  itself = or_left (is_same_vertex x.0 x.0) (has_name x.0 xs) (same_vertex_itself x.0)

  refuted : (has_name x.0 xs ≡ true) ⊎ ((m.0 ≡ x.0) ⊎ (has_name x.0 ys ≡ true)) → ⊥
  refuted (inl h) = not_both (has_name x.0 xs) h once_x.0
  refuted (inr (inl one)) = out_x (or_left (is_same_vertex x.0 m.0) (has_name m.0 xs) (ap (is_same_vertex x.0) one ∙ same_vertex_itself x.0))
  refuted (inr (inr h)) = apart x.0 itself h

pub once_append : (xs ys : List (Vertex × Kept)) → StandOnce (names xs) → StandOnce (names ys) → ((w : Vertex) → has_name w xs ≡ true → has_name w ys ≡ true → ⊥) → StandOnce (names (xs ++ ys))
once_append xs [] once_x once_y apart = none_behind xs once_x where
  none_behind : (zs : List (Vertex × Kept)) → StandOnce (names zs) → StandOnce (names (zs ++ []))
  none_behind [] o = tt
  none_behind (z ∷ zs) o = (out_of zs o.0, none_behind zs o.1) where
    out_of : (ws : List (Vertex × Kept)) → has_name z.0 ws ≡ false → has_name z.0 (ws ++ []) ≡ false
    out_of [] h = refl
    out_of (w ∷ ws) h = by_test (is_same_vertex w.0 z.0) h (out_of ws) where
      by_test : (b : Bool) → (b || has_name z.0 ws) ≡ false → (has_name z.0 ws ≡ false → has_name z.0 (ws ++ []) ≡ false) → (b || has_name z.0 (ws ++ [])) ≡ false
      by_test true h rest = absurd cc
      by_test false h rest = rest h
once_append xs (y ∷ ys) once_x once_y apart =
    once_join xs y ys once_x once_y.1 (λ h. apart y.0 h (or_left (is_same_vertex y.0 y.0) (has_name y.0 ys) (same_vertex_itself y.0))) (λ h. not_both (has_name y.0 ys) h once_y.0)
    (λ w h k. apart w h (or_right (is_same_vertex y.0 w) (has_name w ys) k))

-- ---- chains up

tail_of : (x y : Vertex) (xs ys : List Vertex) → x ∷ xs ≡ y ∷ ys → xs ≡ ys
tail_of x y xs ys e = cc

head_of : (x y : Vertex) (xs ys : List Vertex) → x ∷ xs ≡ y ∷ ys → x ≡ y
head_of x y xs ys e = cc

pub longer : (base ps : List Vertex) (t : Vertex) → base ≡ ps ++ t ∷ base → ⊥
longer base ps t e =
    let long : length base ≡ length (ps ++ t ∷ base) = ap (λ (xs : List Vertex). length xs) e in
    let sum : length (ps ++ t ∷ base) ≡ length ps + length (t ∷ base) = length-append ps (t ∷ base) in
    omega (arith, long, sum)

pub same_turn : (ps qs base : List Vertex) (t u : Vertex) → ps ++ t ∷ base ≡ qs ++ u ∷ base → t ≡ u
same_turn [] [] base t u e = head_of t u base base e
same_turn [] (q ∷ qs) base t u e = absurd (longer base qs u (tail_of t q base (qs ++ u ∷ base) e))
same_turn (p ∷ ps) [] base t u e = absurd (longer base ps t (sym (tail_of p u (ps ++ t ∷ base) base e)))
same_turn (p ∷ ps) (q ∷ qs) base t u e = same_turn ps qs base t u (tail_of p q (ps ++ t ∷ base) (qs ++ u ∷ base) e)

module _ (new : List Edge) (order : IsInEdgeOrder new) (well_new : AllByRecursion IsWellFormed new) where
  -- going up from the vertex one comes to t, and then to the vertices of the base
  pub record Passes (w t : Vertex) (base : List Vertex) : Type 0 where
    pub above_it : List Vertex
    pub forest : Forest
    pub demanded : Demanded
    pub stands : Stands new above_it w forest demanded
    pub before : List Vertex
    pub chain : w ∷ above_it ≡ before ++ t ∷ base

  pub one_turn : (w t u : Vertex) (base : List Vertex) → Passes w t base → Passes w u base → t ≡ u
  one_turn w t u base a b =
      let one = one_place new well_new a.above_it b.above_it w a.forest b.forest a.demanded b.demanded a.stands b.stands in
      same_turn a.before b.before base t u (sym a.chain ∙ ap (λ xs. w ∷ xs) one.above ∙ b.chain)

  -- a vertex does not stand below itself
  pub not_below : (t : Vertex) (base : List Vertex) (f : Forest) (d : Demanded) → Stands new base t f d → (u : Vertex) → Passes t u (t ∷ base) → ⊥
  not_below t base f d s u a =
      let one = one_place new well_new a.above_it base t a.forest f a.demanded d a.stands s in
      longer (t ∷ base) a.before u (ap (λ xs. t ∷ xs) (sym one.above) ∙ a.chain)

  -- what goes up through a vertex goes up through the one above it
  pub passes_on : (w t u : Vertex) (base : List Vertex) → Passes w u (t ∷ base) → Passes w t base
  passes_on w t u base a = record {
    above_it = a.above_it;
    forest = a.forest;
    demanded = a.demanded;
    stands = a.stands;
    before = a.before ++ u ∷ [];
    chain = a.chain ∙ sym (append_assoc a.before (u ∷ []) (t ∷ base));
  }

  module _ (on : Vertex → Bool) (records : Records) where
    pub record PassesSome (v : Vertex) (us : List Vertex) (some : Forest) (w : Vertex) : Type 0 where
      pub edge : Edge
      pub below : Forest
      pub is_tree : IsTreeIn some edge below
      pub passes : Passes w edge.target (v ∷ us)

    pub record OnceUnder (v : Vertex) (us : List Vertex) (some : Forest) (made : List (Vertex × Kept)) : Type 0 where
      pub once_each : StandOnce (names made)
      pub pass : (w : Vertex) → has_name w made ≡ true → PassesSome v us some w

    pub once_under : (us : List Vertex) (v : Vertex) (f : Forest) (d : Demanded) → Stands new us v f d → (some : Forest) → ((x : Edge) (b : Forest) → IsTreeIn some x b → IsTreeIn f x b) → EdgesOnce (child_edges some)
        → (made : List (Vertex × Kept)) → MakesUnder on records (demanded_at (expression_of v f d) f) some made → OnceUnder v us some made
    once_under us v f d s none among distinct made makes = record { once_each = subst (λ ms. StandOnce (names ms)) (sym makes) tt; pass = λ w h. absurd (not_both (has_name w made) h (ap (has_name w) makes)) }
    once_under us v f d s (multi_ref x rest) among distinct made makes =
        let r = once_under us v f d s rest among distinct.1 made makes in
        record { once_each = r.once_each; pass = λ w h. let p = r.pass w h in record { edge = p.edge; below = p.below; is_tree = p.is_tree; passes = p.passes } }
    once_under us v f d s (cycle_ref x rest) among distinct made makes =
        let r = once_under us v f d s rest among distinct.1 made makes in
        record { once_each = r.once_each; pass = λ w h. let p = r.pass w h in record { edge = p.edge; below = p.below; is_tree = p.is_tree; passes = p.passes } }
    once_under us v f d s (tree x below rest) among distinct made (inl makes) =
        let r = once_under us v f d s rest (λ y b is. among y b (inr is)) distinct.1 made makes.1 in
        record { once_each = r.once_each; pass = λ w h. let p = r.pass w h in record { edge = p.edge; below = p.below; is_tree = inr p.is_tree; passes = p.passes } }
    once_under us v f d s (tree x below rest) among distinct made (inr makes) =
        joined (once_under (v ∷ us) x.target below given there below (λ y b is. is) below_once makes.1 makes.4) (once_under us v f d s rest (λ y b is. among y b (inr is)) distinct.1 makes.2 makes.5) where
          given : Demanded
          given = demanded_at (expression_of v f d) f x.position

          is_in : IsTreeIn f x below
          is_in = among x below (inl (refl, refl))

          there : Stands new (v ∷ us) x.target below given
          there = child_stands new well_new v us f d s x below is_in

          m : Vertex × Kept
          m = (x.target, kept_of x.target below given)

          below_once : EdgesOnce (child_edges below)
          below_once = subst EdgesOnce (sym (stands_under new (v ∷ us) x.target below given there).edges) (under_once new order well_new x.target)

          under_v : StandsUnder new v f
          under_v = stands_under new us v f d s

          -- another tree among the children has another target
          other_target : (y : Edge) (b : Forest) → IsTreeIn rest y b → y.target ≡ x.target → ⊥
          other_target y b is same =
              let of_x : IsTreeOf new v x = children_are_of new well_new v f under_v.edges x below is_in in
              let of_y : IsTreeOf new v y = children_are_of new well_new v f under_v.edges y b (among y b (inr is)) in
              let sole_x = sole_parent new x of_x.held (tree_inner new f under_v.children x below is_in) in
              let sole_y = sole_parent new y of_y.held (tree_inner new f under_v.children y b (among y b (inr is))) in
              let one : y ∷ [] ≡ x ∷ [] = sym sole_y ∙ ap (λ z. parents_of z new) same ∙ sole_x in
              let edge : y ≡ x = one_of y x one in
              not_both (holds_edge x (child_edges rest)) (ap (λ z. holds_edge z (child_edges rest)) (sym edge) ∙ tree_held rest y b is) distinct.0
            where
              one_of : (a b : Edge) → a ∷ [] ≡ b ∷ [] → a ≡ b
              one_of a b e = cc

              tree_held : (g : Forest) (z : Edge) (c : Forest) → IsTreeIn g z c → holds_edge z (child_edges g) ≡ true
              tree_held none z c is = absurd is
              tree_held (multi_ref k more) z c is = or_right (is_same_edge k z) (holds_edge z (child_edges more)) (tree_held more z c is)
              tree_held (cycle_ref k more) z c is = or_right (is_same_edge k z) (holds_edge z (child_edges more)) (tree_held more z c is)
              tree_held (tree k under more) z c (inl is) = or_left (is_same_edge k z) (holds_edge z (child_edges more)) (ap (is_same_edge k) (sym is.0) ∙ same_edge_itself k)
              tree_held (tree k under more) z c (inr is) = or_right (is_same_edge k z) (holds_edge z (child_edges more)) (tree_held more z c is)

          passes_x : Passes x.target x.target (v ∷ us)
          passes_x = record { above_it = v ∷ us; forest = below; demanded = given; stands = there; before = []; chain = refl }

          joined : OnceUnder x.target (v ∷ us) below makes.1 → OnceUnder v us rest makes.2 → OnceUnder v us (tree x below rest) made
          joined deep wide = record {
            once_each = subst (λ ms. StandOnce (names ms)) (sym makes.3)
                (once_join makes.1 m makes.2 deep.once_each wide.once_each
                (λ h. let p = deep.pass x.target h in not_below x.target (v ∷ us) below given there p.edge.target p.passes)
                (λ h. let p = wide.pass x.target h in other_target p.edge p.below p.is_tree (one_turn x.target p.edge.target x.target (v ∷ us) p.passes passes_x))
                (λ w h k. let p = deep.pass w h in let q = wide.pass w k in
                other_target q.edge q.below q.is_tree (one_turn w q.edge.target x.target (v ∷ us) q.passes (passes_on w x.target p.edge.target (v ∷ us) p.passes))));
            pass = λ w h. by_side w (name_split w makes.1 m makes.2 (ap (has_name w) (sym makes.3) ∙ h));
          } where
            by_side : (w : Vertex) → (has_name w makes.1 ≡ true) ⊎ ((m.0 ≡ w) ⊎ (has_name w makes.2 ≡ true)) → PassesSome v us (tree x below rest) w
            by_side w (inl h) =
                let p = deep.pass w h in
                record { edge = x; below = below; is_tree = inl (refl, refl); passes = passes_on w x.target p.edge.target (v ∷ us) p.passes }
            by_side w (inr (inl one)) = record { edge = x; below = below; is_tree = inl (refl, refl); passes = subst (λ z. Passes z x.target (v ∷ us)) one passes_x }
            by_side w (inr (inr h)) = let p = wide.pass w h in record { edge = p.edge; below = p.below; is_tree = inr p.is_tree; passes = p.passes }

    -- ---- whole trees

    pub record OnceOf (heads : List Vertex) (made : List (Vertex × Kept)) : Type 0 where
      pub once_each : StandOnce (names made)
      pub pass : (w : Vertex) → has_name w made ≡ true → (head : Vertex) × (stands_in head heads ≡ true) × Passes w head []

    pub once_of : (heads : List Vertex) → StandOnce heads → ((v : Vertex) → stands_in v heads ≡ true → class new v ≡ Inner → ⊥) → (made : List (Vertex × Kept)) → MakesTrees on new records heads made → OnceOf heads made
    once_of [] distinct outer made makes = record { once_each = subst (λ ms. StandOnce (names ms)) (sym makes) tt; pass = λ w h. absurd (not_both (has_name w made) h (ap (has_name w) makes)) }
    once_of (head ∷ heads) distinct outer made makes =
        joined (once_of heads distinct.1 (λ v stands. outer v (or_right (is_same_vertex head v) (stands_in v heads) stands)) makes.1 makes.4) where
          t : MakesTree on new records head makes.0
          t = makes.3

          m : Vertex × Kept
          m = (head, kept_of head t.forest alone)

          itself : stands_in head (head ∷ heads) ≡ true
          itself = or_left (is_same_vertex head head) (stands_in head heads) (same_vertex_itself head)

          there : Stands new [] head t.forest alone
          there = (outer head itself, t.stands, refl)

          deep : OnceUnder head [] t.forest t.inner
          deep = once_under [] head t.forest alone there t.forest (λ y b is. is) (subst EdgesOnce (sym t.stands.edges) (under_once new order well_new head)) t.inner t.under

          passes_head : Passes head head []
          passes_head = record { above_it = []; forest = t.forest; demanded = alone; stands = there; before = []; chain = refl }

          none_named : (w : Vertex) → has_name w [] ≡ true → ⊥
          none_named w h = cc

          one_once : StandOnce (names makes.0)
          one_once = subst (λ ms. StandOnce (names ms)) (sym t.made_are)
              (once_join t.inner m [] deep.once_each tt (λ h. let p = deep.pass head h in not_below head [] t.forest alone there p.edge.target p.passes) (none_named head) (λ w h k. none_named w k))

          by_place : (w : Vertex) → (has_name w t.inner ≡ true) ⊎ ((m.0 ≡ w) ⊎ (has_name w [] ≡ true)) → Passes w head []
          by_place w (inl h) = let p = deep.pass w h in passes_on w head p.edge.target [] p.passes
          by_place w (inr (inl one)) = subst (λ z. Passes z head []) one passes_head
          by_place w (inr (inr h)) = absurd (none_named w h)

          one_pass : (w : Vertex) → has_name w makes.0 ≡ true → Passes w head []
          one_pass w h = by_place w (name_split w t.inner m [] (ap (has_name w) (sym t.made_are) ∙ h))

          joined : OnceOf heads makes.1 → OnceOf (head ∷ heads) made
          joined rest = record {
            once_each = subst (λ ms. StandOnce (names ms)) (sym makes.2)
                (once_append makes.0 makes.1 one_once rest.once_each
                (λ w h k. let q = rest.pass w k in
                not_both (stands_in head heads) (ap (λ z. stands_in z heads) (one_turn w head q.0 [] (one_pass w h) q.2) ∙ q.1) distinct.0));
            pass = λ w h. by_side w (split_names w makes.0 makes.1 (ap (has_name w) (sym makes.2) ∙ h));
          } where
            split_names : (w : Vertex) (xs ys : List (Vertex × Kept)) → has_name w (xs ++ ys) ≡ true → (has_name w xs ≡ true) ⊎ (has_name w ys ≡ true)
            split_names w [] ys h = inr h
            split_names w (z ∷ xs) ys h = by_test (is_same_vertex z.0 w) h (split_names w xs ys) where
              by_test : (b : Bool) → (b || has_name w (xs ++ ys)) ≡ true → (has_name w (xs ++ ys) ≡ true → (has_name w xs ≡ true) ⊎ (has_name w ys ≡ true)) → ((b || has_name w xs) ≡ true) ⊎ (has_name w ys ≡ true)
              by_test true h later = inl refl
              by_test false h later = later h

            by_side : (w : Vertex) → (has_name w makes.0 ≡ true) ⊎ (has_name w makes.1 ≡ true) → (z : Vertex) × (stands_in z (head ∷ heads) ≡ true) × Passes w z []
            by_side w (inl h) = (head, itself, one_pass w h)
            by_side w (inr h) = let q = rest.pass w h in (q.0, or_right (is_same_vertex head q.0) (stands_in q.0 heads) q.1, q.2)

-- ---- the vertices of walks

pub goes_all : (P : Vertex → Type 0) (live : List Edge) → ((x w : Vertex) → above live x ≡ Some w → P w) → (passed : List Vertex) (o : Option Vertex) → ((w : Vertex) → o ≡ Some w → P w) → (xs : List Vertex) → GoesOn live passed o xs
    → (v : Vertex) → stands_in v xs ≡ true → P v
goes_all P live up passed o first [] g v stands = absurd cc
goes_all P live up passed o first (x ∷ xs) g v stands = by_test (is_same_vertex x v) refl stands (goes_all P live up (x ∷ passed) (above live x) (up x) xs g.2 v) where
  by_test : (b : Bool) → is_same_vertex x v ≡ b → (b || stands_in v xs) ≡ true → (stands_in v xs ≡ true → P v) → P v
  by_test true one h later = subst P (same_vertex_exact x v one) (first x g.0)
  by_test false other h later = later h

pub record IsSource (live : List Edge) (w : Vertex) : Type 0 where
  pub edge : Edge
  pub held : holds_edge edge live ≡ true
  pub source : edge.source ≡ w

pub source_above : (live : List Edge) (x w : Vertex) → above live x ≡ Some w → IsSource live w
source_above live x w up = by_parents (parents_of x live) refl up where
  by_parents : (ps : List Edge) → parents_of x live ≡ ps → only_source ps ≡ Some w → IsSource live w
  by_parents [] are up = absurd cc
  by_parents (p ∷ []) are up = record {
    edge = p;
    held = held_in_filter (λ e. is_same_vertex e.target x) p live (ap (holds_edge p) are ∙ or_left (is_same_edge p p) false (same_edge_itself p));
    source = some_same p.source w up;
  }
  by_parents (p ∷ q ∷ ps) are up = absurd cc

module _ (e : Edge) (old new : List Edge) (h : Graph) (there : h e ≢ Absent) (present_old : (x : Edge) → holds_edge x old ≡ true → h x ≢ Absent) (present_new : (x : Edge) → holds_edge x new ≡ true → h x ≢ Absent) where
  on_walk_of : (live : List Edge) → ((x : Edge) → holds_edge x live ≡ true → h x ≢ Absent) → (from : Vertex) → IsVertexOf h from → (v : Vertex) → stands_in v (walk live from) ≡ true → IsVertexOf h v
  on_walk_of live present from vertex v stands =
      goes_all (IsVertexOf h) live (λ x w up. let s = source_above live x w up in inr (s.edge, present s.edge s.held, inl s.source)) [] (Some from) (λ w is. subst (IsVertexOf h) (some_same from w is) vertex) (walk live from) (walk_is live from) v stands

  source_vertex : IsVertexOf h e.source
  source_vertex = inr (e, there, inl refl)

  target_vertex : IsVertexOf h e.target
  target_vertex = inr (e, there, inr refl)

  -- each vertex on the walks is a vertex of the graph
  pub on_walks_vertex : (v : Vertex) → is_on_walks e old new v ≡ true → IsVertexOf h v
  on_walks_vertex v on = by_side (or_cases (stands_in v (walk old e.source) || stands_in v (walk old e.target)) (stands_in v (walk new e.source) || stands_in v (walk new e.target)) on) where
    by_walk : (live : List Edge) → ((x : Edge) → holds_edge x live ≡ true → h x ≢ Absent) → (stands_in v (walk live e.source) ≡ true) ⊎ (stands_in v (walk live e.target) ≡ true) → IsVertexOf h v
    by_walk live present (inl k) = on_walk_of live present e.source source_vertex v k
    by_walk live present (inr k) = on_walk_of live present e.target target_vertex v k

    by_side : ((stands_in v (walk old e.source) || stands_in v (walk old e.target)) ≡ true) ⊎ ((stands_in v (walk new e.source) || stands_in v (walk new e.target)) ≡ true) → IsVertexOf h v
    by_side (inl k) = by_walk old present_old (or_cases (stands_in v (walk old e.source)) (stands_in v (walk old e.target)) k)
    by_side (inr k) = by_walk new present_new (or_cases (stands_in v (walk new e.source)) (stands_in v (walk new e.target)) k)
