-- The greatest counter of an author, sought from the greatest one down.
use Rattle.std.proofs.Common.{◌≡◌, ℕ, ◌<◌, ◌≤◌, max, Bool, true, false, true≢false, Option, Some, List, [], length, refl, sym, ap, subst, ◌∙◌, inl, inr, ◌⊎◌, arith}
use Rattle.std.specs.Prelude.{◌≢◌}
use Rattle.std.specs.List.{IsDistinct, list_any}
use Rattle.std.proofs.lemmas.Bool.{cases_lt}
use Rattle.grove_names.specs.declared.name.Name.{Name}
use Rattle.grove_edits.specs.declared.vertex.Vertex.{Vertex}
use Rattle.grove_edits.specs.Vertex.{is_same_vertex}
use Rattle.grove_edits.specs.Graph.{is_same_edge}
use Rattle.graph_words.specs.Whole.{IsVertexOf}
use Rattle.edge_numbers.specs.Numbered.{Numbered, edges_of, edge_at, vertex_at}
use Rattle.graph_words.specs.States.{Entries, state_in}
use Rattle.edge_lists.specs.Lists.{holds_number}
use Rattle.numbers_by_name.specs.ByName.{Lists, numbers_of, name_by, IsBefore, IsLastBefore, HasNoneBefore}
use Rattle.live_graph.specs.Greatest.{IsNameOfEnd}
use Rattle.graph_words.specs.Names.{IsGreatest, IsNameOf, IsNameOfEdge}
use Rattle.live_graph.specs.ByName.{is_named, HasEdgeNames}
use Rattle.live_graph.specs.Uses.{is_vertex_named, AreUses, HasVertexNames}
use Rattle.live_graph.proofs.Names.{any_held, any_found, told_edge, edge_told}
use Rattle.live_graph.proofs.VertexNames.{told_end, end_told}

-- no name by the author is left that is not before a bound
abbrev pub AreBefore : (Name → Type 0) → ℕ → Option ℕ → Type 0
AreBefore IsName author bound = (n : Name) → IsName n → n.author ≡ author → IsBefore bound n.counter

not_empty : (ns : List ℕ) (n : ℕ) → holds_number n ns ≡ true → ns ≢ []
not_empty ns n held none = absurd (true≢false (sym held ∙ ap (holds_number n) none))

-- a test that passes at a number just where the name is one of these
module _ (IsName : Name → Type 0) (names : Lists) (test : Name → ℕ → Bool) (told : (name : Name) (n : ℕ) → test name n ≡ true → IsName name)
    (found : (name : Name) → IsName name → (n : ℕ) × (holds_number n (numbers_of names name) ≡ true) × (test name n ≡ true)) (author : ℕ) (bound : Option ℕ) (before : AreBefore IsName author bound) where
  by_author : (n : Name) → n.author ≡ author → n ≡ name_by author n.counter
  by_author n is = λ j. record { author = is j; counter = n.counter }

  at_most : (counter : ℕ) → IsLastBefore names author bound counter → (n : Name) → IsName n → n.author ≡ author → n.counter ≤ counter
  at_most counter last n is by =
      let number = found n is in
      last.no_greater n.counter (before n is by)
      (not_empty (numbers_of names (name_by author n.counter)) number.0 (ap (λ m. holds_number number.0 (numbers_of names m)) (sym (by_author n by)) ∙ number.1))

  pub greatest_found : (counter : ℕ) → IsLastBefore names author bound counter → list_any (test (name_by author counter)) (numbers_of names (name_by author counter)) ≡ true → IsGreatest IsName author counter
  greatest_found counter last some =
      let hit = any_found (test (name_by author counter)) (numbers_of names (name_by author counter)) some in
      record { no_greater = at_most counter last; reached = inr (told (name_by author counter) hit.0 hit.1) }

  pub before_more : (counter : ℕ) → IsLastBefore names author bound counter → list_any (test (name_by author counter)) (numbers_of names (name_by author counter)) ≡ false → AreBefore IsName author (Some counter)
  before_more counter last none n is by = by_order (cases_lt n.counter counter) where
    by_order : (n.counter < counter) ⊎ (counter ≤ n.counter) → n.counter < counter
    by_order (inl lt) = lt
    by_order (inr le) =
        let same : n.counter ≡ counter = omega (arith, le, at_most counter last n is by) in
        let name_is : n ≡ name_by author counter = by_author n by ∙ ap (name_by author) same in
        let number = found n is in
        let held = any_held (test n) (numbers_of names n) number.0 number.1 number.2 in
        absurd (true≢false (sym held ∙ ap (λ m. list_any (test m) (numbers_of names m)) name_is ∙ none))

  pub none_greatest : HasNoneBefore names author bound → IsGreatest IsName author 0
  none_greatest none = record { no_greater = λ n is by. absurd (no_name n is by); reached = inl refl } where
    no_name : (n : Name) → IsName n → n.author ≡ author → ⊥
    no_name n is by =
        let number = found n is in
        not_empty (numbers_of names n) number.0 number.1 (ap (numbers_of names) (by_author n by) ∙ none n.counter (before n is by))

-- ---- of edges and vertices

pub greatest_of_both : (entries : Entries) (author a b : ℕ) → IsGreatest (IsNameOfEdge entries) author a → IsGreatest (IsNameOfEnd entries) author b → IsGreatest (IsNameOf (state_in entries)) author (max a b)
greatest_of_both entries author a b of_edges of_ends = record { no_greater = no_greater; reached = reached (cases_lt a b) } where
  no_greater : (n : Name) → IsNameOf (state_in entries) n → n.author ≡ author → n.counter ≤ max a b
  no_greater n (inl edge) by = omega (arith, of_edges.no_greater n edge by)
  no_greater n (inr vertex) by = cases vertex.1 where
    cases : IsVertexOf (state_in entries) vertex.0 → n.counter ≤ max a b
    cases (inl is) = let none : n.counter ≡ 0 = ap (λ (m : Name). m.counter) (sym vertex.2) ∙ ap (λ (v : Vertex). v.name.counter) is in omega (arith, none)
    cases (inr end) = omega (arith, of_ends.no_greater n (vertex.0, end, vertex.2) by)

  as_edge : (m : ℕ) → (m ≡ 0) ⊎ IsNameOfEdge entries (name_by author m) → (m ≡ 0) ⊎ IsNameOf (state_in entries) (name_by author m)
  as_edge m (inl none) = inl none
  as_edge m (inr some) = inr (inl some)

  as_end : (m : ℕ) → (m ≡ 0) ⊎ IsNameOfEnd entries (name_by author m) → (m ≡ 0) ⊎ IsNameOf (state_in entries) (name_by author m)
  as_end m (inl none) = inl none
  as_end m (inr some) = inr (inr (some.0, inr some.1, some.2))

  reached : (a < b) ⊎ (b ≤ a) → (max a b ≡ 0) ⊎ IsNameOf (state_in entries) (name_by author (max a b))
  reached (inl lt) =
      let is : b ≡ max a b = omega (arith, lt) in
      subst (λ m. (m ≡ 0) ⊎ IsNameOf (state_in entries) (name_by author m)) is (as_end b of_ends.reached)
  reached (inr le) =
      let is : a ≡ max a b = omega (arith, le) in
      subst (λ m. (m ≡ 0) ⊎ IsNameOf (state_in entries) (name_by author m)) is (as_edge a of_edges.reached)

module _ (edges : Numbered) (once : IsDistinct is_same_edge (edges_of edges.entries)) where
  pub edge_named : (name : Name) (n : ℕ) → is_named edges name n ≡ true → IsNameOfEdge edges.entries name
  edge_named name n is = let told = told_edge edges once name n is in (edge_at edges n, told.1, told.0)

  pub named_edge : (names : Lists) → HasEdgeNames edges names → (name : Name) → IsNameOfEdge edges.entries name → (n : ℕ) × (holds_number n (numbers_of names name) ≡ true) × (is_named edges name n ≡ true)
  named_edge names has name of_edge = let found = edge_told edges once names has name of_edge.0 of_edge.2 of_edge.1 in (found.0, found.2, found.3)

  module _ (once_vertices : IsDistinct is_same_vertex edges.vertices) (uses : List ℕ) (are : AreUses edges uses) (names : Lists) (has : HasVertexNames edges (length uses) names) where
    pub end_named : (name : Name) (n : ℕ) → is_vertex_named edges uses name n ≡ true → IsNameOfEnd edges.entries name
    end_named name n is = let told = told_end edges once once_vertices uses are names has name n is in (vertex_at edges n, told.1, told.0)

    pub named_end : (name : Name) → IsNameOfEnd edges.entries name → (n : ℕ) × (holds_number n (numbers_of names name) ≡ true) × (is_vertex_named edges uses name n ≡ true)
    named_end name of_end = let found = end_told edges once once_vertices uses are names has name of_end.0 of_end.2 of_end.1 in (found.0, found.2, found.3)
