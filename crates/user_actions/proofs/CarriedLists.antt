-- The edges that are carried over, position by position.
use Rattle.std.proofs.Common.{◌≡◌, ℕ, zero, suc, ◌+◌, true, false, cond, List, [], ◌∷◌, ◌++◌, filter, take, sym, ap, ◌∙◌, arith, append_assoc}
use Rattle.std.specs.Prelude.{not, Some, option_map, slice_get}
use Rattle.std.specs.List.{AllByRecursion}
use Rattle.std.proofs.lemmas.List.{append-nil}
use Rattle.grove_sorts.specs.declared.sort.Sort.{Sort}
use Rattle.grove_sorts.specs.declared.position.Position.{Position}
use Rattle.grove_sorts.specs.declared.ctor.Ctor.{Ctor}
use Rattle.grove_sorts.specs.Ctor.{sort_at, positions}
use Rattle.grove_sorts.proofs.Rows.{places_found}
use Rattle.grove_edits.specs.declared.vertex.Vertex.{Vertex}
use Rattle.grove_edits.specs.declared.edge.Edge.{Edge}
use Rattle.grove_edits.specs.Edge.{is_sort}
use Rattle.grove_edits.specs.Graph.{is_same_edge}
use Rattle.graph_words.specs.Live.{children_of}
use Rattle.user_actions.specs.Carried.{has_same_sort, carried_from}

module _ (ctor : Ctor) (w : Vertex) (e : Edge) (live : List Edge) where
  abbrev pub at_entry : Position × Sort → List Edge
  at_entry entry = cond (is_sort (sort_at ctor entry.0) entry.1) (filter (λ c. not (is_same_edge c e)) (children_of w entry.0 live)) []

  -- one more entry of the table
  one_more : (entries : List (Position × Sort)) (i : ℕ) (p : Position) → option_map (λ (entry : Position × Sort). entry.0) (slice_get entries i) ≡ Some p
      → (s : Sort) × (slice_get entries i ≡ Some (p, s)) × (carried_from (take (i + 1) entries) ctor w e live ≡ carried_from (take i entries) ctor w e live ++ at_entry (p, s))
  one_more [] i p found = absurd cc
  one_more ((q, s) ∷ entries) zero p found =
      let same : q ≡ p = cc in
      let one : 0 + 1 ≡ suc zero = omega arith in
      (s, ap (λ r. Some (r, s)) same, ap (λ n. carried_from (take n ((q, s) ∷ entries)) ctor w e live) one ∙ append-nil (at_entry (q, s)) ∙ ap (λ r. at_entry (r, s)) same)
  one_more (entry ∷ entries) (suc i) p found =
      let rest = one_more entries i p found in
      let next : suc i + 1 ≡ suc (i + 1) = omega arith in (
        rest.0,
        rest.1,
        ap (λ n. carried_from (take n (entry ∷ entries)) ctor w e live) next ∙ ap (λ xs. at_entry entry ++ xs) rest.2
            ∙ sym (append_assoc (at_entry entry) (carried_from (take i entries) ctor w e live) (at_entry (p, rest.0))),
      )

  some_entry : (a b : Position × Sort) → Some a ≡ Some b → a ≡ b
  some_entry a b h = cc

  found_sort : (k : Ctor) (entries : List (Position × Sort)) → AllByRecursion (λ (entry : Position × Sort). sort_at k entry.0 ≡ Some entry.1) entries → (i : ℕ) (p : Position) (s : Sort) → slice_get entries i ≡ Some (p, s) → sort_at k p ≡ Some s
  found_sort k [] all i p s is = absurd cc
  found_sort k (entry ∷ entries) all zero p s is =
      let same = some_entry entry (p, s) is in
      ap (λ (x : Position × Sort). sort_at k x.0) (sym same) ∙ all.0 ∙ ap (λ (x : Position × Sort). Some x.1) same
  found_sort k (entry ∷ entries) all (suc i) p s is = found_sort k entries all.1 i p s is

  pub taken_over : (i : ℕ) (p : Position) (list more : List Edge) → option_map (λ (entry : Position × Sort). entry.0) (slice_get (positions w.ctor) i) ≡ Some p → has_same_sort (sort_at ctor p) (sort_at w.ctor p) ≡ true
      → list ≡ carried_from (take i (positions w.ctor)) ctor w e live → more ≡ list ++ filter (λ c. not (is_same_edge c e)) (children_of w p live)
      → more ≡ carried_from (take (i + 1) (positions w.ctor)) ctor w e live
  taken_over i p list more found same so_far pushed =
      let step = one_more (positions w.ctor) i p found in
      let own : sort_at w.ctor p ≡ Some step.0 = found_sort w.ctor (positions w.ctor) (places_found w.ctor) i p step.0 step.1 in
      let test : is_sort (sort_at ctor p) step.0 ≡ true = ap (has_same_sort (sort_at ctor p)) (sym own) ∙ same in
      pushed ∙ ap (λ xs. xs ++ filter (λ c. not (is_same_edge c e)) (children_of w p live)) so_far
      ∙ ap (λ b. carried_from (take i (positions w.ctor)) ctor w e live ++ cond b (filter (λ c. not (is_same_edge c e)) (children_of w p live)) []) (sym test) ∙ sym step.2

  pub passed_over : (i : ℕ) (p : Position) (list : List Edge) → option_map (λ (entry : Position × Sort). entry.0) (slice_get (positions w.ctor) i) ≡ Some p → has_same_sort (sort_at ctor p) (sort_at w.ctor p) ≡ false
      → list ≡ carried_from (take i (positions w.ctor)) ctor w e live → list ≡ carried_from (take (i + 1) (positions w.ctor)) ctor w e live
  passed_over i p list found other so_far =
      let step = one_more (positions w.ctor) i p found in
      let own : sort_at w.ctor p ≡ Some step.0 = found_sort w.ctor (positions w.ctor) (places_found w.ctor) i p step.0 step.1 in
      let test : is_sort (sort_at ctor p) step.0 ≡ false = ap (has_same_sort (sort_at ctor p)) (sym own) ∙ other in
      so_far ∙ sym (append-nil (carried_from (take i (positions w.ctor)) ctor w e live))
      ∙ ap (λ b. carried_from (take i (positions w.ctor)) ctor w e live ++ cond b (filter (λ c. not (is_same_edge c e)) (children_of w p live)) []) (sym test) ∙ sym step.2
