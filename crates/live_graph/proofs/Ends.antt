-- The vertices of a graph by the ends of its entries.
use Rattle.std.proofs.Common.{◌≡◌, ℕ, zero, suc, ◌+◌, ◌<◌, Bool, true, false, cond, List, [], ◌∷◌, ◌++◌, Some, length, get_or, take, unwrap_or, refl, sym, ap, subst, ◌∙◌, inl, inr, ◌⊎◌, arith}
use Rattle.std.specs.Prelude.{◌≢◌, ◌&&◌, ◌||◌}
use Rattle.std.specs.List.{IsDistinct, list_any}
use Rattle.std.proofs.lemmas.List.{take_all}
use Rattle.std.proofs.lemmas.List.Folds.{list_any_more}
use Rattle.edge_lattice.specs.declared.state.State.{State}
use Rattle.edge_lattice.specs.declared.state.State.TheVariants.{Absent}
use Rattle.grove_edits.specs.declared.vertex.Vertex.{Vertex}
use Rattle.grove_edits.specs.declared.edge.Edge.{Edge}
use Rattle.grove_edits.specs.Vertex.{is_same_vertex, stands_in, root}
use Rattle.grove_edits.specs.Graph.{is_same_edge}
use Rattle.grove_edits.proofs.Orders.{one_edge, same_edge_laws}
use Rattle.grove_edits.proofs.Vertices.{same_vertex_exact, same_vertex_itself}
use Rattle.graph_words.specs.Whole.{AreVertices, IsVertexOf, IsInVertexOrder}
use Rattle.edge_numbers.specs.Numbered.{edges_of, states_of, no_edge}
use Rattle.graph_words.specs.States.{Entries, state_in, entry_at, is_present}
use Rattle.live_graph.specs.Ends.{has_end, IsEndIn}
use Rattle.live_graph.proofs.Lives.{absent_apart}
use Rattle.grove_sorts.proofs.Truths.{or_false}
use Rattle.graph_words.proofs.Truths.{present_from_test, test_from_present}

-- the entry with a number is its edge and its state
pub entry_with_number : (es : Entries) (n : ℕ) → n < length es → get_or es n (no_edge, Absent) ≡ (get_or (edges_of es) n no_edge, get_or (states_of es) n Absent)
entry_with_number [] n within = absurd (omega (arith, within))
entry_with_number (x ∷ xs) zero within = refl
entry_with_number (x ∷ xs) (suc n) within = entry_with_number xs n (omega (arith, within))

or_right : (b : Bool) {c : Bool} → c ≡ true → (b || c) ≡ true
or_right true h = refl
or_right false h = h

pub or_assoc : (a b c : Bool) → ((a || b) || c) ≡ (a || (b || c))
or_assoc true b c = refl
or_assoc false b c = refl

stands_in-push : (v x : Vertex) (xs : List Vertex) → stands_in v (xs ++ x ∷ []) ≡ (stands_in v xs || is_same_vertex x v)
stands_in-push v x [] = or_false (is_same_vertex x v)
stands_in-push v x (y ∷ ys) = ap (λ b. is_same_vertex y v || b) (stands_in-push v x ys) ∙ sym (or_assoc (is_same_vertex y v) (stands_in v ys) (is_same_vertex x v))

-- ---- the loop

-- the root and the ends of the entries so far
abbrev pub HasEndsSoFar : Entries → ℕ → List Vertex → Type 0
HasEndsSoFar all n vertices = (v : Vertex) → stands_in v vertices ≡ (is_same_vertex root v || list_any (has_end v) (take n all))

module _ (all : Entries) (n : ℕ) (within : n < length all) (state : State) (is_state : state ≡ get_or (states_of all) n Absent) where
  abbrev edge : Edge
  edge = get_or (edges_of all) n no_edge

  any_more : (v : Vertex) → list_any (has_end v) (take (n + 1) all) ≡ (list_any (has_end v) (take n all) || (is_present state && (is_same_vertex edge.source v || is_same_vertex edge.target v)))
  any_more v =
      list_any_more (has_end v) all n (no_edge, Absent) within
      ∙ ap (λ x. list_any (has_end v) (take n all) || has_end v x) (entry_with_number all n within)
      ∙ ap (λ s. list_any (has_end v) (take n all) || (is_present s && (is_same_vertex edge.source v || is_same_vertex edge.target v))) (sym is_state)

  pub ends_more : (vertices more : List Vertex) → is_present state ≡ true → more ≡ (vertices ++ edge.source ∷ []) ++ edge.target ∷ [] → HasEndsSoFar all n vertices → HasEndsSoFar all (n + 1) more
  ends_more vertices more test_from_present is so_far v =
      let r = is_same_vertex root v in
      let l = list_any (has_end v) (take n all) in
      let s = is_same_vertex edge.source v in
      let t = is_same_vertex edge.target v in
      ap (stands_in v) is ∙ stands_in-push v edge.target (vertices ++ edge.source ∷ []) ∙ ap (λ b. b || t) (stands_in-push v edge.source vertices)
      ∙ ap (λ b. (b || s) || t) (so_far v) ∙ or_assoc (r || l) s t ∙ or_assoc r l (s || t)
      ∙ ap (λ b. r || (l || (b && (s || t)))) (sym test_from_present) ∙ ap (λ b. r || b) (sym (any_more v))

  pub ends_skipped : (vertices : List Vertex) → is_present state ≡ false → HasEndsSoFar all n vertices → HasEndsSoFar all (n + 1) vertices
  ends_skipped vertices absent so_far v =
      let l = list_any (has_end v) (take n all) in
      let ends = is_same_vertex edge.source v || is_same_vertex edge.target v in
      so_far v ∙ ap (λ b. is_same_vertex root v || b) (sym (or_false l) ∙ ap (λ b. l || (b && ends)) (sym absent) ∙ sym (any_more v))

pub all_ends : (all : Entries) (n : ℕ) (vertices : List Vertex) → length all ≡ n → HasEndsSoFar all n vertices
    → (v : Vertex) → stands_in v vertices ≡ (is_same_vertex root v || list_any (has_end v) all)
all_ends all n vertices count so_far v = so_far v ∙ ap (λ (es : Entries). is_same_vertex root v || list_any (has_end v) es) (take_all n all (omega (arith, count)))

-- ---- the graph

pub an_end : (e : Edge) (v : Vertex) → (e.source ≡ v) ⊎ (e.target ≡ v) → (is_same_vertex e.source v || is_same_vertex e.target v) ≡ true
an_end e v (inl from) = ap (λ b. b || is_same_vertex e.target v) (ap (λ w. is_same_vertex w v) from ∙ same_vertex_itself v)
an_end e v (inr to) = or_right (is_same_vertex e.source v) (ap (λ w. is_same_vertex w v) to ∙ same_vertex_itself v)

of_end : (e : Edge) (v : Vertex) → (is_same_vertex e.source v || is_same_vertex e.target v) ≡ true → (e.source ≡ v) ⊎ (e.target ≡ v)
of_end e v is = by_test (is_same_vertex e.source v) refl is where
  by_test : (b : Bool) → is_same_vertex e.source v ≡ b → (b || is_same_vertex e.target v) ≡ true → (e.source ≡ v) ⊎ (e.target ≡ v)
  by_test true from _ = inl (same_vertex_exact e.source v from)
  by_test false _ to = inr (same_vertex_exact e.target v to)

-- each end of an edge that is not Absent is that of an entry
pub end_held : (entries : Entries) (e : Edge) (v : Vertex) → state_in entries e ≢ Absent → (e.source ≡ v) ⊎ (e.target ≡ v) → list_any (has_end v) entries ≡ true
end_held [] e v some end = absurd (some refl)
end_held (x ∷ xs) e v some end = by_test (is_same_edge e x.0) refl some (λ later. end_held xs e v later end) where
  by_test : (b : Bool) → is_same_edge e x.0 ≡ b → unwrap_or (cond b (Some x.1) (entry_at xs e)) Absent ≢ Absent → (state_in xs e ≢ Absent → list_any (has_end v) xs ≡ true)
      → (has_end v x || list_any (has_end v) xs) ≡ true
  by_test true same some _ =
      let here : has_end v x ≡ true =
      ap (λ b. b && (is_same_vertex x.0.source v || is_same_vertex x.0.target v)) (test_from_present x.1 some) ∙ ap (λ (f : Edge). is_same_vertex f.source v || is_same_vertex f.target v) (sym (one_edge e x.0 same)) ∙ an_end e v end in
      ap (λ b. b || list_any (has_end v) xs) here
  by_test false _ some rest = or_right (has_end v x) (rest some)

pub and_left : (a b : Bool) → (a && b) ≡ true → a ≡ true
and_left true b h = refl
and_left false b h = absurd cc

pub and_right : (a b : Bool) → (a && b) ≡ true → b ≡ true
and_right true b h = h
and_right false b h = absurd cc

pub held_end : (entries : Entries) (v : Vertex) → IsDistinct is_same_edge (edges_of entries) → list_any (has_end v) entries ≡ true → IsEndIn entries v
unfolding IsDistinct
held_end [] v once held = absurd cc
held_end (x ∷ xs) v once held = by_test (has_end v x) refl held (λ later. held_end xs v once.1 later) where
  state_of_first : state_in (x ∷ xs) x.0 ≡ x.1
  state_of_first = ap (λ b. unwrap_or (cond b (Some x.1) (entry_at xs x.0)) Absent) (same_edge_laws.refl x.0)

  by_test : (b : Bool) → has_end v x ≡ b → (b || list_any (has_end v) xs) ≡ true → (list_any (has_end v) xs ≡ true → IsEndIn xs v) → IsEndIn (x ∷ xs) v
  by_test true here _ _ =
      let ends = is_same_vertex x.0.source v || is_same_vertex x.0.target v in
      let some : x.1 ≢ Absent = present_from_test x.1 (and_left (is_present x.1) ends here) in
      (x.0, subst (λ s. s ≢ Absent) (sym state_of_first) some, of_end x.0 v (and_right (is_present x.1) ends here))
  by_test false _ later rest = let found = rest later in (found.0, by_edge found.0 (is_same_edge found.0 x.0) refl found.1, found.2) where
    by_edge : (e : Edge) (b : Bool) → is_same_edge e x.0 ≡ b → state_in xs e ≢ Absent → state_in (x ∷ xs) e ≢ Absent
    by_edge e true same some = absurd (some (ap (state_in xs) (one_edge e x.0 same) ∙ absent_apart x.0 xs once.0))
    by_edge e false other some = subst (λ b. unwrap_or (cond b (Some x.1) (entry_at xs e)) Absent ≢ Absent) (sym other) some

pub vertices_whole : (entries : Entries) (ends vertices : List Vertex) → IsDistinct is_same_edge (edges_of entries)
    → ((v : Vertex) → stands_in v ends ≡ (is_same_vertex root v || list_any (has_end v) entries)) → IsInVertexOrder vertices → ((v : Vertex) → stands_in v vertices ≡ stands_in v ends)
    → AreVertices (state_in entries) vertices
vertices_whole entries ends vertices once has ordered same = record {
  in_order = ordered;
  each = λ v of_graph. same v ∙ has v ∙ stands v of_graph;
  no_other = λ v stands. of_graph v (is_same_vertex root v) refl (sym (same v ∙ has v) ∙ stands);
}
  where
    stands : (v : Vertex) → IsVertexOf (state_in entries) v → (is_same_vertex root v || list_any (has_end v) entries) ≡ true
    stands v (inl is) = ap (λ b. b || list_any (has_end v) entries) (ap (λ w. is_same_vertex w v) (sym is) ∙ same_vertex_itself v)
    stands v (inr some) = or_right (is_same_vertex root v) (end_held entries some.0 v some.1 some.2)

    of_graph : (v : Vertex) (b : Bool) → is_same_vertex root v ≡ b → (is_same_vertex root v || list_any (has_end v) entries) ≡ true → IsVertexOf (state_in entries) v
    of_graph v true is _ = inl (sym (same_vertex_exact root v is))
    of_graph v false other held = inr (held_end entries v once (sym (ap (λ b. b || list_any (has_end v) entries) other) ∙ held))
