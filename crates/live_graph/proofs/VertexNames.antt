-- The vertices with a name by the numbers that stand under it.
use Rattle.std.proofs.Common.{◌≡◌, ℕ, zero, suc, ◌+◌, ◌<◌, ◌≤◌, Bool, true, false, true≢false, List, [], ◌∷◌, length, get_or, take, refl, sym, ap, subst, ◌∙◌, inl, inr, ◌⊎◌, arith}
use Rattle.std.specs.Prelude.{◌&&◌, ◌||◌, nat_lt}
use Rattle.std.specs.List.{IsDistinct, list_any}
use Rattle.std.proofs.lemmas.Bool.{ltb-true, lt-ltb, eq-eqb}
use Rattle.grove_names.specs.declared.name.Name.{Name}
use Rattle.grove_edits.specs.declared.vertex.Vertex.{Vertex}
use Rattle.grove_edits.specs.declared.edge.Edge.{Edge}
use Rattle.grove_edits.specs.Vertex.{is_same_vertex, stands_in, root}
use Rattle.grove_edits.specs.Graph.{is_same_edge}
use Rattle.grove_edits.proofs.Vertices.{same_vertex_exact, same_vertex_itself}
use Rattle.graph_words.specs.Whole.{IsVertexOf}
use Rattle.edge_numbers.specs.Numbered.{Numbered, edges_of, edge_at, state_at, vertex_at, HasEndsIn}
use Rattle.graph_words.specs.States.{Entries, state_in, is_present}
use Rattle.edge_lists.specs.Lists.{holds_number}
use Rattle.numbers_by_name.specs.ByName.{Lists, numbers_of, is_same_name}
use Rattle.graph_words.specs.declared.named.Named.{Named}
use Rattle.live_graph.specs.Ends.{has_end, IsEndIn}
use Rattle.live_graph.specs.Around.{once, is_at, total}
use Rattle.live_graph.specs.Uses.{use_weight, AreUses, HasVertexNames, is_vertex_named, is_named_vertex}
use Rattle.graph_words.specs.Named.{AreLeastTwo, IsVertexNamed}
use Rattle.live_graph.proofs.Numbers.{is_at-number, within_edges}
use Rattle.live_graph.proofs.Totals.{total-at}
use Rattle.live_graph.proofs.Children.{is_at-same}
use Rattle.live_graph.proofs.Counts.{all_at}
use Rattle.live_graph.proofs.Ends.{held_end, and_left, and_right}
use Rattle.graph_words.proofs.Truths.{test_from_present}
use Rattle.live_graph.proofs.Names.{state_there, number_of_present, any_held, any_found, same_name, one_name}
use Rattle.live_graph.proofs.LeastTwo.{least_two_iff}

or_right : (a : Bool) {b : Bool} → b ≡ true → (a || b) ≡ true
or_right true h = refl
or_right false h = h

-- what counts at a number is an end there
some_end : (test_from_present from to : Bool) → 0 < once (test_from_present && from) + once (test_from_present && to) → (test_from_present && (from || to)) ≡ true
some_end true true to above = refl
some_end true false true above = refl
some_end true false false above = absurd (omega (arith, above))
some_end false from to above = absurd (omega (arith, above))

counted_end : (vs : List Vertex) (n : ℕ) (v : Vertex) → ((x : Vertex) → is_at vs x n ≡ is_same_vertex x v) → (entries : Entries) → 0 < total (use_weight vs n) entries → list_any (has_end v) entries ≡ true
counted_end vs n v at [] above = absurd (omega (arith, above))
counted_end vs n v at (x ∷ xs) above = by_test (has_end v x) refl (counted_end vs n v at xs) where
  here : use_weight vs n x.0 x.1 ≡ once (is_present x.1 && is_same_vertex x.0.source v) + once (is_present x.1 && is_same_vertex x.0.target v)
  here = λ j. once (is_present x.1 && at x.0.source j) + once (is_present x.1 && at x.0.target j)

  none : has_end v x ≡ false → use_weight vs n x.0 x.1 ≡ 0
  none not = by_weight (use_weight vs n x.0 x.1) refl where
    by_weight : (k : ℕ) → use_weight vs n x.0 x.1 ≡ k → k ≡ 0
    by_weight zero is = refl
    by_weight (suc k) is =
        absurd (true≢false (sym (some_end (is_present x.1) (is_same_vertex x.0.source v) (is_same_vertex x.0.target v) (omega (arith, here, is))) ∙ not))

  by_test : (b : Bool) → has_end v x ≡ b → (0 < total (use_weight vs n) xs → list_any (has_end v) xs ≡ true) → (has_end v x || list_any (has_end v) xs) ≡ true
  by_test true is rest = ap (λ b. b || list_any (has_end v) xs) is
  by_test false not rest = or_right (has_end v x) (rest (omega (arith, above, none not)))

number_among : (vs : List Vertex) (m : ℕ) (v : Vertex) → stands_in v (take m vs) ≡ true → (n : ℕ) × (n < m) × (n < length vs) × (get_or vs n root ≡ v)
number_among [] zero v stands = absurd cc
number_among [] (suc m) v stands = absurd cc
number_among (w ∷ ws) zero v stands = absurd cc
number_among (w ∷ ws) (suc m) v stands = by_test (is_same_vertex w v) refl stands (number_among ws m v) where
  by_test : (b : Bool) → is_same_vertex w v ≡ b → (b || stands_in v (take m ws)) ≡ true → (stands_in v (take m ws) ≡ true → (n : ℕ) × (n < m) × (n < length ws) × (get_or ws n root ≡ v))
      → (n : ℕ) × (n < suc m) × (n < length (w ∷ ws)) × (get_or (w ∷ ws) n root ≡ v)
  by_test true same _ _ = (0, omega arith, omega arith, same_vertex_exact w v same)
  by_test false _ later rest = let found = rest later in (suc found.0, omega (arith, found.1), omega (arith, found.2), found.3)

module _ (edges : Numbered) (once_edges : IsDistinct is_same_edge (edges_of edges.entries)) (once_vertices : IsDistinct is_same_vertex edges.vertices) (uses : List ℕ) (are : AreUses edges uses) where
  -- a vertex that is used is an end of an edge
  pub used_end : (n : ℕ) → n < length uses → 0 < get_or uses n 0 → IsEndIn edges.entries (vertex_at edges n)
  used_end n lt above =
      let v = vertex_at edges n in
      held_end edges.entries v once_edges
      (counted_end edges.vertices n v (λ x. is_at-same edges v x n once_vertices (omega (arith, lt, are.within), refl)) edges.entries (omega (arith, above, are.exact n lt)))

  -- an end of an edge is used
  pub end_used : (v : Vertex) → IsEndIn edges.entries v → (n : ℕ) × (n < length uses) × (vertex_at edges n ≡ v) × (0 < get_or uses n 0)
  end_used v end = by_number (number_among edges.vertices (length uses) v (stands end.2)) where
    number : (k : ℕ) × (k < length edges.entries) × (edge_at edges k ≡ end.0)
    number = let found = number_of_present edges once_edges end.0 end.1 in (found.0, found.1.0, found.1.1)

    has : HasEndsIn (take (length uses) edges.vertices) end.0
    has = subst (HasEndsIn (take (length uses) edges.vertices)) number.2 (all_at (HasEndsIn (take (length uses) edges.vertices)) (edges_of edges.entries) number.0 (within_edges edges number.0 number.1) are.ends)

    stands : (end.0.source ≡ v) ⊎ (end.0.target ≡ v) → stands_in v (take (length uses) edges.vertices) ≡ true
    stands (inl from) = subst (λ w. stands_in w (take (length uses) edges.vertices) ≡ true) from has.0
    stands (inr to) = subst (λ w. stands_in w (take (length uses) edges.vertices) ≡ true) to has.1

    there : is_present (state_at edges number.0) ≡ true
    there = ap is_present (sym (state_there edges once_edges number.0 number.1) ∙ ap (state_in edges.entries) number.2) ∙ test_from_present (state_in edges.entries end.0) end.1

    counts : (n : ℕ) → is_at edges.vertices v n ≡ true → (end.0.source ≡ v) ⊎ (end.0.target ≡ v) → 1 ≤ use_weight edges.vertices n (edge_at edges number.0) (state_at edges number.0)
    counts n at (inl from) =
        let one : once (is_present (state_at edges number.0) && is_at edges.vertices (edge_at edges number.0).source n) ≡ 1 =
        (λ j. once (there j && is_at edges.vertices ((ap (λ (e : Edge). e.source) number.2 ∙ from) j) n)) ∙ ap once at in
        omega (arith, one)
    counts n at (inr to) =
        let one : once (is_present (state_at edges number.0) && is_at edges.vertices (edge_at edges number.0).target n) ≡ 1 =
        (λ j. once (there j && is_at edges.vertices ((ap (λ (e : Edge). e.target) number.2 ∙ to) j) n)) ∙ ap once at in
        omega (arith, one)

    by_number : (n : ℕ) × (n < length uses) × (n < length edges.vertices) × (get_or edges.vertices n root ≡ v) → (n : ℕ) × (n < length uses) × (vertex_at edges n ≡ v) × (0 < get_or uses n 0)
    by_number found =
        let n = found.0 in
        let at : is_at edges.vertices v n ≡ true = is_at-number edges.vertices v n n once_vertices found.2 found.3 ∙ eq-eqb n n refl in
        let some = counts n at end.2 in
        let here = total-at (use_weight edges.vertices n) edges.entries number.0 number.1 in
        (n, found.1, found.3, omega (arith, some, here, are.exact n found.1))

  module _ (names : Lists) (named : HasVertexNames edges (length uses) names) (name : Name) where
    -- a number tells a vertex with the name that is an end
    pub told_end : (n : ℕ) → is_vertex_named edges uses name n ≡ true → ((vertex_at edges n).name ≡ name) × IsEndIn edges.entries (vertex_at edges n)
    told_end n is =
        let rest = and_right (nat_lt n (length uses)) (nat_lt 0 (get_or uses n 0) && is_same_name (vertex_at edges n).name name) is in (
          one_name (vertex_at edges n).name name (and_right (nat_lt 0 (get_or uses n 0)) (is_same_name (vertex_at edges n).name name) rest),
          used_end n (ltb-true n (length uses) (and_left (nat_lt n (length uses)) (nat_lt 0 (get_or uses n 0) && is_same_name (vertex_at edges n).name name) is))
              (ltb-true 0 (get_or uses n 0) (and_left (nat_lt 0 (get_or uses n 0)) (is_same_name (vertex_at edges n).name name) rest)),
        )

    -- an end with the name has a number under it
    pub end_told : (v : Vertex) → v.name ≡ name → IsEndIn edges.entries v → (n : ℕ) × (vertex_at edges n ≡ v) × (holds_number n (numbers_of names name) ≡ true) × (is_vertex_named edges uses name n ≡ true)
    end_told v is end =
        let found = end_used v end in
        let n = found.0 in
        let name_is : (vertex_at edges n).name ≡ name = ap (λ (w : Vertex). w.name) found.2 ∙ is in (
          n,
          found.2,
          ap (λ m. holds_number n (numbers_of names m)) (sym name_is) ∙ named n found.1,
          λ j. lt-ltb n (length uses) found.1 j && (lt-ltb 0 (get_or uses n 0) found.3 j && same_name (vertex_at edges n).name name name_is j),
        )

    abbrev Told : Vertex → Type 0
    Told v = ((is_same_name root.name name && is_same_vertex root v) || list_any (is_named_vertex edges uses name v) (numbers_of names name)) ≡ true

    told_named : (v : Vertex) → Told v → IsVertexNamed edges.entries name v
    told_named v told = by_test (is_same_name root.name name && is_same_vertex root v) refl told where
      by_number : (n : ℕ) × (is_named_vertex edges uses name v n ≡ true) → IsVertexNamed edges.entries name v
      by_number hit =
          let at = same_vertex_exact (vertex_at edges hit.0) v (and_right (is_vertex_named edges uses name hit.0) (is_same_vertex (vertex_at edges hit.0) v) hit.1) in
          let end = told_end hit.0 (and_left (is_vertex_named edges uses name hit.0) (is_same_vertex (vertex_at edges hit.0) v) hit.1) in
          (subst (λ (w : Vertex). w.name ≡ name) at end.0, inr (subst (IsEndIn edges.entries) at end.1))

      by_test : (b : Bool) → (is_same_name root.name name && is_same_vertex root v) ≡ b → (b || list_any (is_named_vertex edges uses name v) (numbers_of names name)) ≡ true → IsVertexNamed edges.entries name v
      by_test true is _ =
          let at : root ≡ v = same_vertex_exact root v (and_right (is_same_name root.name name) (is_same_vertex root v) is) in
          (subst (λ (w : Vertex). w.name ≡ name) at (one_name root.name name (and_left (is_same_name root.name name) (is_same_vertex root v) is)), inl (sym at))
      by_test false _ later = by_number (any_found (is_named_vertex edges uses name v) (numbers_of names name) later)

    named_told : (v : Vertex) → IsVertexNamed edges.entries name v → Told v
    named_told v is = cases is.1 where
      cases : IsVertexOf (state_in edges.entries) v → Told v
      cases (inl at) =
          let here : (is_same_name root.name name && is_same_vertex root v) ≡ true =
          λ j. same_name root.name name (ap (λ (w : Vertex). w.name) (sym at) ∙ is.0) j && (ap (is_same_vertex root) at ∙ same_vertex_itself root) j in
          ap (λ b. b || list_any (is_named_vertex edges uses name v) (numbers_of names name)) here
      cases (inr end) =
          let found = end_told v is.0 end in
          or_right (is_same_name root.name name && is_same_vertex root v)
          (any_held (is_named_vertex edges uses name v) (numbers_of names name) found.0 found.2
          (λ j. found.3 j && (ap (λ w. is_same_vertex w v) found.1 ∙ same_vertex_itself v) j))

    pub least_two_named : (result : Named) → AreLeastTwo Told result → AreLeastTwo (IsVertexNamed edges.entries name) result
    least_two_named result is = least_two_iff Told (IsVertexNamed edges.entries name) told_named named_told result is
