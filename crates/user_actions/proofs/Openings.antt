-- The edges of a canonical list, and a search in edges that are in order.
use Rattle.std.proofs.Common.{◌≡◌, ◌≢◌, ℕ, zero, suc, ◌<◌, ◌≤◌, Bool, true, false, cond, List, [], ◌∷◌, length, map, get_or, refl, sym, ap, ◌∙◌, arith}
use Rattle.std.specs.Prelude.{◌||◌, leb, Result, Ok, Err, is_ok}
use Rattle.std.proofs.lemmas.Bool.{leb-true, leb-false}
use Rattle.std.specs.List.{AllByRecursion}
use Rattle.std.specs.List.Sorted.{IsBinarySearchResult, IsNonDecreasingBy, IsSearchInRange}
use Rattle.std.specs.declared.cmp.Ordering.{Ordering}
use Rattle.std.specs.declared.cmp.Ordering.TheVariants.{Less, Equal, Greater}
use Rattle.std.specs.Ordering.{ordering_index, ordering_reverse}
use Rattle.std.proofs.lemmas.Cmp.{tied_itself}
use Rattle.edge_lattice.specs.declared.state.State.{State}
use Rattle.edge_lattice.specs.declared.state.State.TheVariants.{Absent, Live, Deleted}
use Rattle.edge_lattice.specs.State.{state_join}
use Rattle.grove_edits.specs.declared.edge.Edge.{Edge}
use Rattle.grove_edits.specs.declared.edit.Edit.{Edit}
use Rattle.grove_edits.specs.declared.edit.EditKind.{EditKind}
use Rattle.grove_edits.specs.declared.edit.EditKind.TheVariants.{Insert, Delete}
use Rattle.grove_edits.specs.contracts.edge.EdgeOrd.TheImpl as edge_impl
use Rattle.grove_edits.specs.Edge.{edge_cmp}
use Rattle.grove_edits.specs.Edit.{edit_edge, edit_kind}
use Rattle.grove_edits.specs.Graph.{Graph, graph, state_of, is_same_edge, Ascends, IsCanonical}
use Rattle.grove_edits.proofs.Orders.{cmp_is_edge_cmp, edge_cmp_exact, edge_cmp_total, one_edge}
use Rattle.graph_words.specs.Live.{IsInEdgeOrder, holds_edge}
use Rattle.grove_terms.proofs.InLive.{same_edge_itself}
use Rattle.user_actions.specs.Lists.{ArePresent}
use Rattle.grove_sorts.proofs.Truths.{or_left, or_right, false_from}
use Rattle.user_actions.proofs.SomeLists.{absent_joined, edits_have}

after_all : (e : Edge) (edits : List Edit) → AllByRecursion (λ later. edge_cmp e (edit_edge later) ≡ Less) edits → AllByRecursion (λ later. edge_cmp e later ≡ Less) (map edit_edge edits)
after_all e [] all = tt
after_all e (edit ∷ edits) all = (all.0, after_all e edits all.1)

pub edges_in_order : (edits : List Edit) → Ascends edits → IsInEdgeOrder (map edit_edge edits)
edges_in_order [] up = tt
edges_in_order (edit ∷ edits) up = (after_all (edit_edge edit) edits up.0, edges_in_order edits up.1)

join_first : (kind : EditKind) (t : State) → state_join (state_of kind) t ≡ Absent → ⊥
join_first Insert Absent h = cc
join_first Insert Live h = cc
join_first Insert Deleted h = cc
join_first Delete Absent h = cc
join_first Delete Live h = cc
join_first Delete Deleted h = cc

edits_name : (edits : List Edit) (e : Edge) → holds_edge e (map edit_edge edits) ≡ true → graph edits e ≢ Absent
edits_name [] e held = absurd cc
edits_name (edit ∷ edits) e held = by_test (is_same_edge (edit_edge edit) e) refl held (edits_name edits e) where
  by_test : (b : Bool) → is_same_edge (edit_edge edit) e ≡ b → (b || holds_edge e (map edit_edge edits)) ≡ true → (holds_edge e (map edit_edge edits) ≡ true → graph edits e ≢ Absent) → graph (edit ∷ edits) e ≢ Absent
  by_test true same h later absent =
      join_first (edit_kind edit) (graph edits e) (sym (ap (λ b. state_join (cond b (state_of (edit_kind edit)) Absent) (graph edits e)) same) ∙ absent)
  by_test false other h later absent = later h (sym (absent_joined (is_same_edge (edit_edge edit) e) (state_of (edit_kind edit)) (graph edits e) other) ∙ absent)

pub canonical_present : (g : Graph) (edits : List Edit) → IsCanonical g edits → ArePresent g (map edit_edge edits)
canonical_present g edits is = record {
  in_order = edges_in_order edits is.in_order;
  each = λ e some. edits_have edits e (λ absent. some (sym (is.same e) ∙ absent));
  no_other = λ e held absent. edits_name edits e held (is.same e ∙ absent);
}

-- ---- a search

later_than : (x : Edge) (xs : List Edge) → AllByRecursion (λ later. edge_cmp x later ≡ Less) xs → (j : ℕ) (d : Edge) → j < length xs → edge_cmp x (get_or xs j d) ≡ Less
later_than x [] all j d lt = absurd (omega arith)
later_than x (y ∷ ys) all zero d lt = all.0
later_than x (y ∷ ys) all (suc j) d lt = later_than x ys all.1 j d (omega arith)

pub up_or_same : (xs : List Edge) → IsInEdgeOrder xs → (i j : ℕ) (d : Edge) → i < j → j < length xs → edge_cmp (get_or xs i d) (get_or xs j d) ≡ Less
up_or_same [] order i j d before lt = absurd (omega arith)
up_or_same (x ∷ xs) order zero zero d before lt = absurd (omega arith)
up_or_same (x ∷ xs) order zero (suc j) d before lt = later_than x xs order.0 j d (omega arith)
up_or_same (x ∷ xs) order (suc i) zero d before lt = absurd (omega arith)
up_or_same (x ∷ xs) order (suc i) (suc j) d before lt = up_or_same xs order.1 i j d (omega arith) (omega arith)

pub held_at : (xs : List Edge) (i : ℕ) (d : Edge) → i < length xs → holds_edge (get_or xs i d) xs ≡ true
held_at [] i d lt = absurd (omega arith)
held_at (x ∷ xs) zero d lt = or_left (is_same_edge x x) (holds_edge x xs) (same_edge_itself x)
held_at (x ∷ xs) (suc i) d lt = or_right (is_same_edge x (get_or xs i d)) (holds_edge (get_or xs i d) xs) (held_at xs i d (omega arith))

pub held_where : (xs : List Edge) (e : Edge) → holds_edge e xs ≡ true → (i : ℕ) × (i < length xs) × ((d : Edge) → get_or xs i d ≡ e)
held_where [] e held = absurd cc
held_where (x ∷ xs) e held = by_test (is_same_edge x e) refl held (held_where xs e) where
  by_test : (b : Bool) → is_same_edge x e ≡ b → (b || holds_edge e xs) ≡ true → (holds_edge e xs ≡ true → (i : ℕ) × (i < length xs) × ((d : Edge) → get_or xs i d ≡ e))
      → (i : ℕ) × (i < suc (length xs)) × ((d : Edge) → get_or (x ∷ xs) i d ≡ e)
  by_test true same h later = (0, omega arith, λ d. one_edge x e same)
  by_test false other h later = let found = later h in let lt = found.1 in (suc found.0, omega arith, found.2)

index_rises : (xs : List Edge) (e : Edge) → IsInEdgeOrder xs → IsNonDecreasingBy (λ y. ordering_index (edge_cmp y e)) xs
index_rises xs e order i j d le lt = by_place (leb (suc i) j) refl where
  not_less : (o p : Ordering) → (o ≡ Less → ⊥) → (o ≡ Equal → p ≡ Greater) → (o ≡ Greater → p ≡ Greater) → ordering_index o ≤ ordering_index p
  not_less Less p not same above = absurd (not refl)
  not_less Equal p not same above = ap_index p (same refl) where
    ap_index : (q : Ordering) → q ≡ Greater → 1 ≤ ordering_index q
    ap_index Less is = absurd cc
    ap_index Equal is = absurd cc
    ap_index Greater is = omega arith
  not_less Greater p not same above = ap_index p (above refl) where
    ap_index : (q : Ordering) → q ≡ Greater → 2 ≤ ordering_index q
    ap_index Less is = absurd cc
    ap_index Equal is = absurd cc
    ap_index Greater is = omega arith

  flipped : (x y : Edge) → edge_cmp x y ≡ Less → edge_cmp y x ≡ Greater
  flipped x y lt_xy = edge_cmp_total.antisymm y x ∙ ap ordering_reverse lt_xy

  by_order : (o : Ordering) → edge_cmp (get_or xs i d) e ≡ o → edge_cmp (get_or xs i d) (get_or xs j d) ≡ Less → ordering_index o ≤ ordering_index (edge_cmp (get_or xs j d) e)
  by_order Less is before = omega arith
  by_order Equal is before =
      let one : get_or xs i d ≡ e = edge_cmp_exact (get_or xs i d) e is in
      let above : edge_cmp (get_or xs j d) e ≡ Greater = flipped e (get_or xs j d) (ap (λ x. edge_cmp x (get_or xs j d)) (sym one) ∙ before) in
      not_less Equal (edge_cmp (get_or xs j d) e) (λ h. cc) (λ _. above) (λ h. above)
  by_order Greater is before =
      let from_e : edge_cmp e (get_or xs i d) ≡ Less = edge_cmp_total.antisymm e (get_or xs i d) ∙ ap ordering_reverse is in
      let above : edge_cmp (get_or xs j d) e ≡ Greater = flipped e (get_or xs j d) (edge_cmp_total.trans e (get_or xs i d) (get_or xs j d) from_e before) in
      not_less Greater (edge_cmp (get_or xs j d) e) (λ h. cc) (λ _. above) (λ h. above)

  by_place : (b : Bool) → leb (suc i) j ≡ b → ordering_index (edge_cmp (get_or xs i d) e) ≤ ordering_index (edge_cmp (get_or xs j d) e)
  by_place true before = by_order (edge_cmp (get_or xs i d) e) refl (up_or_same xs order i j d (leb-true (suc i) j before) lt)
  by_place false same =
      let one : i ≡ j = omega (arith, leb-false (suc i) j same) in
      let alike = ap (λ k. ordering_index (edge_cmp (get_or xs k d) e)) one in
      omega arith

pub search_tells : (e : Edge) (xs : List Edge) (r : Result ℕ ℕ) → IsInEdgeOrder xs → IsSearchInRange r (length xs) → IsBinarySearchResult (λ y. edge_impl.ghosts.cmp y e) xs r → is_ok r ≡ holds_edge e xs
search_tells e xs (Ok i) order within found =
    let one : get_or xs i e ≡ e = edge_cmp_exact (get_or xs i e) e (sym (cmp_is_edge_cmp (get_or xs i e) e) ∙ found e) in
    sym (ap (λ x. holds_edge x xs) (sym one) ∙ held_at xs i e within)
search_tells e xs (Err i) order within found = sym (false_from (holds_edge e xs) (λ held. by_where (held_where xs e held))) where
  alike : IsNonDecreasingBy (λ y. ordering_index (edge_impl.ghosts.cmp y e)) xs
  alike a b d le lt =
      let rises = index_rises xs e order a b d le lt in
      let first = ap ordering_index (cmp_is_edge_cmp (get_or xs a d) e) in
      let second = ap ordering_index (cmp_is_edge_cmp (get_or xs b d) e) in
      omega arith

  tie : edge_impl.ghosts.cmp e e ≡ Equal
  tie = cmp_is_edge_cmp e e ∙ tied_itself edge_cmp_total e

  by_where : (j : ℕ) × (j < length xs) × ((d : Edge) → get_or xs j d ≡ e) → ⊥
  by_where (j, lt, is) = by_place (leb (suc j) i) refl where
    by_place : (b : Bool) → leb (suc j) i ≡ b → ⊥
    by_place true before =
        let less = (found alike).0 j e (omega arith) (leb-true (suc j) i before) in
        let same : edge_impl.ghosts.cmp (get_or xs j e) e ≡ Equal = ap (λ x. edge_impl.ghosts.cmp x e) (is e) ∙ tie in
        cc
    by_place false after =
        let greater = (found alike).1 j e (omega (arith, leb-false (suc j) i after)) lt in
        let same : edge_impl.ghosts.cmp (get_or xs j e) e ≡ Equal = ap (λ x. edge_impl.ghosts.cmp x e) (is e) ∙ tie in
        cc
