-- The lists of a canonical list are those of its graph.
use Rattle.std.proofs.Common.{◌≡◌, Bool, true, false, cond, List, [], ◌∷◌, map, refl, sym, ap, subst, ◌∙◌}
use Rattle.std.specs.Prelude.{◌||◌, filter}
use Rattle.std.specs.List.{AllByRecursion}
use Rattle.std.specs.BTreeSet.{insert_key}
use Rattle.std.specs.declared.cmp.Ordering.{Ordering}
use Rattle.std.specs.declared.cmp.Ordering.TheVariants.{Less, Equal, Greater}
use Rattle.std.specs.Ordering.{match_ordering}
use Rattle.edge_lattice.specs.declared.state.State.{State}
use Rattle.edge_lattice.specs.declared.state.State.TheVariants.{Absent, Live, Deleted}
use Rattle.edge_lattice.specs.State.{state_join}
use Rattle.edge_lattice.proofs.States.{state_join_comm, Absent-state_join}
use Rattle.grove_edits.specs.declared.vertex.Vertex.{Vertex}
use Rattle.grove_edits.specs.declared.edge.Edge.{Edge}
use Rattle.grove_edits.specs.declared.edit.Edit.{Edit}
use Rattle.grove_edits.specs.declared.edit.EditKind.{EditKind}
use Rattle.grove_edits.specs.declared.edit.EditKind.TheVariants.{Insert, Delete}
use Rattle.grove_edits.specs.Vertex.{vertex_cmp}
use Rattle.grove_edits.specs.Edge.{edge_cmp}
use Rattle.grove_edits.specs.Edit.{edit_edge, edit_kind}
use Rattle.grove_edits.specs.Graph.{graph, state_of, is_same_edge, Ascends}
use Rattle.grove_edits.proofs.Orders.{one_edge}
use Rattle.grove_edits.proofs.Unique.{absent_before}
use Rattle.graph_words.specs.Live.{holds_edge}
use Rattle.graph_words.specs.Whole.{AreLive, AreVertices}
use Rattle.grove_terms.proofs.InOrder.{put, put_by}
use Rattle.grove_terms.proofs.OneGrove.{ends_of, vertices_from}
use Rattle.user_actions.specs.Lists.{AreListsOf, ArePresent}
use Rattle.graph_words.specs.States.{is_live}
use Rattle.user_actions.proofs.Openings.{edges_in_order, canonical_present}
use Rattle.graph_words.proofs.Truths.{live_from_test}
use Rattle.replica_core.specs.Lists.{is_insert, is_insertion, vertices_of, lists_of}
use Rattle.replica_core.proofs.WithEdits.{canonical_itself}

-- ---- vertices

put_is : (v : Vertex) (vs : List Vertex) → insert_key vertex_cmp vs v ≡ put vertex_cmp v vs
put_is v [] = refl
put_is v (x ∷ xs) = by_order (vertex_cmp v x) (put_is v xs) where
  by_order : (o : Ordering) → insert_key vertex_cmp xs v ≡ put vertex_cmp v xs → match_ordering o (v ∷ x ∷ xs) (x ∷ xs) (x ∷ insert_key vertex_cmp xs v) ≡ put_by o v x xs (put vertex_cmp v xs)
  by_order Less rest = refl
  by_order Equal rest = refl
  by_order Greater rest = ap (λ (vs : List Vertex). x ∷ vs) rest

ends_are : (edits : List Edit) → vertices_of edits ≡ ends_of (map edit_edge edits)
ends_are [] = refl
ends_are (edit ∷ edits) =
    put_is (edit_edge edit).source (insert_key vertex_cmp (vertices_of edits) (edit_edge edit).target)
    ∙ ap (put vertex_cmp (edit_edge edit).source) (put_is (edit_edge edit).target (vertices_of edits) ∙ ap (put vertex_cmp (edit_edge edit).target) (ends_are edits))

-- ---- live edges

all_chosen : (P : Edit → Type 0) (xs : List Edit) → AllByRecursion P xs → AllByRecursion P (filter is_insertion xs)
all_chosen P [] all = tt
all_chosen P (x ∷ xs) all = by_kind (is_insertion x) (all_chosen P xs all.1) where
  by_kind : (b : Bool) → AllByRecursion P (filter is_insertion xs) → AllByRecursion P (cond b (x ∷ filter is_insertion xs) (filter is_insertion xs))
  by_kind true rest = (all.0, rest)
  by_kind false rest = rest

ascends_chosen : (xs : List Edit) → Ascends xs → Ascends (filter is_insertion xs)
ascends_chosen [] up = tt
ascends_chosen (x ∷ xs) up = by_kind (is_insertion x) (ascends_chosen xs up.1) where
  by_kind : (b : Bool) → Ascends (filter is_insertion xs) → Ascends (cond b (x ∷ filter is_insertion xs) (filter is_insertion xs))
  by_kind true rest = (all_chosen (λ later. edge_cmp (edit_edge x) (edit_edge later) ≡ Less) xs up.0, rest)
  by_kind false rest = rest

absent_joined : (s t : State) → t ≡ Absent → state_join s t ≡ s
absent_joined s t is = ap (state_join s) is ∙ state_join_comm s Absent ∙ Absent-state_join s

-- an edge is held by the insertions exactly where it is live
live_held : (edits : List Edit) → Ascends edits → (e : Edge) → holds_edge e (map edit_edge (filter is_insertion edits)) ≡ is_live (graph edits e)
live_held [] up e = refl
live_held (x ∷ xs) up e = by_test (is_same_edge (edit_edge x) e) refl (live_held xs up.1 e) where
  later : List Edge
  later = map edit_edge (filter is_insertion xs)

  here : is_same_edge (edit_edge x) e ≡ true → (k : EditKind) → holds_edge e later ≡ is_live (graph xs e)
      → holds_edge e (map edit_edge (cond (is_insert k) (x ∷ filter is_insertion xs) (filter is_insertion xs))) ≡ is_live (state_join (state_of k) (graph xs e))
  here same Insert rest =
      ap (λ b. b || holds_edge e later) same
      ∙ sym (ap is_live (absent_joined Live (graph xs e) (ap (graph xs) (sym (one_edge (edit_edge x) e same)) ∙ absent_before (edit_edge x) xs up.0)))
  here same Delete rest =
      let none : graph xs e ≡ Absent = ap (graph xs) (sym (one_edge (edit_edge x) e same)) ∙ absent_before (edit_edge x) xs up.0 in
      rest ∙ ap is_live none ∙ sym (ap is_live (absent_joined Deleted (graph xs e) none))

  there : is_same_edge (edit_edge x) e ≡ false → (b : Bool) → holds_edge e later ≡ is_live (graph xs e)
      → holds_edge e (map edit_edge (cond b (x ∷ filter is_insertion xs) (filter is_insertion xs))) ≡ is_live (state_join Absent (graph xs e))
  there other true rest = ap (λ b. b || holds_edge e later) other ∙ rest ∙ sym (ap is_live (Absent-state_join (graph xs e)))
  there other false rest = rest ∙ sym (ap is_live (Absent-state_join (graph xs e)))

  by_test : (b : Bool) → is_same_edge (edit_edge x) e ≡ b → holds_edge e later ≡ is_live (graph xs e)
      → holds_edge e (map edit_edge (filter is_insertion (x ∷ xs))) ≡ is_live (state_join (cond b (state_of (edit_kind x)) Absent) (graph xs e))
  by_test true same rest = here same (edit_kind x) rest
  by_test false other rest = there other (is_insertion x) rest

live_are : (edits : List Edit) → Ascends edits → AreLive (graph edits) (map edit_edge (filter is_insertion edits))
live_are edits up = record {
  in_order = edges_in_order (filter is_insertion edits) (ascends_chosen edits up);
  each = λ e is. live_held edits up e ∙ ap is_live is;
  no_other = λ e held. live_from_test (graph edits e) (sym (live_held edits up e) ∙ held);
}

pub lists_are : (edits : List Edit) → Ascends edits → AreListsOf (graph edits) (lists_of edits)
lists_are edits up =
    let present : ArePresent (graph edits) (map edit_edge edits) = canonical_present (graph edits) edits (canonical_itself edits up) in
    record {
      vertices = subst (AreVertices (graph edits)) (sym (ends_are edits)) (vertices_from (graph edits) (map edit_edge edits) present.each present.no_other);
      present = present;
      live = live_are edits up;
    }
