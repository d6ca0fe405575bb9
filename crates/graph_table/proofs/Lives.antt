-- The insertions of an ascending list are the live edges of its graph.
use Rattle.std.proofs.Common.{◌≡◌, Bool, true, false, cond, List, [], ◌∷◌, ◌||◌, refl, sym, ap, subst, ◌∙◌}
use Rattle.std.specs.List.{AllByRecursion}
use Rattle.std.specs.declared.cmp.Ordering.TheVariants.{Less}
use Rattle.std.specs.Ordering.{is_eq}
use Rattle.grove_edits.proofs.Unique.{greater_from}
use Rattle.edge_lattice.specs.declared.state.State.TheVariants.{Absent, Live, Deleted}
use Rattle.edge_lattice.specs.State.{state_join}
use Rattle.edge_lattice.proofs.States.{Absent-state_join}
use Rattle.grove_edits.specs.declared.edge.Edge.{Edge}
use Rattle.grove_edits.specs.declared.edit.Edit.{Edit}
use Rattle.grove_edits.specs.declared.edit.EditKind.{EditKind}
use Rattle.grove_edits.specs.declared.edit.EditKind.TheVariants.{Insert, Delete}
use Rattle.grove_edits.specs.Edge.{IsWellFormed, edge_cmp}
use Rattle.grove_edits.specs.Edit.{edit_edge, edit_kind}
use Rattle.grove_edits.specs.Graph.{graph, state_of, is_same_edge, Ascends}
use Rattle.grove_edits.proofs.Orders.{edge_cmp_total, one_edge}
use Rattle.graph_words.specs.Live.{IsInEdgeOrder, holds_edge}
use Rattle.graph_words.specs.Whole.{AreLive}
use Rattle.graph_table.specs.Table.{Table, inserted, live, is_insertion}
use Rattle.graph_words.proofs.Truths.{live_from_test}
use Rattle.graph_words.specs.States.{is_live}

-- what holds of the edge of each edit holds of each inserted edge
pub inserted_all : (P : Edge → Type 0) (edits : List Edit) → AllByRecursion (λ edit. P (edit_edge edit)) edits → AllByRecursion P (inserted edits)
inserted_all P [] all = tt
inserted_all P (x ∷ xs) all = by_kind (is_insertion (edit_kind x)) (inserted_all P xs all.1) where
  by_kind : (b : Bool) → AllByRecursion P (inserted xs) → AllByRecursion P (cond b (edit_edge x ∷ inserted xs) (inserted xs))
  by_kind true rest = (all.0, rest)
  by_kind false rest = rest

-- the edges of edits are well formed
all_well_formed : (edits : List Edit) → AllByRecursion (λ edit. IsWellFormed (edit_edge edit)) edits
all_well_formed [] = tt
all_well_formed (x ∷ xs) = (x.well_formed, all_well_formed xs)

pub inserted_well_formed : (edits : List Edit) → AllByRecursion IsWellFormed (inserted edits)
inserted_well_formed edits = inserted_all IsWellFormed edits (all_well_formed edits)

pub in_order : (edits : List Edit) → Ascends edits → IsInEdgeOrder (inserted edits)
in_order [] up = tt
in_order (x ∷ xs) up = by_kind (is_insertion (edit_kind x)) (inserted_all (λ later. edge_cmp (edit_edge x) later ≡ Less) xs up.0) (in_order xs up.1) where
  by_kind : (b : Bool) → AllByRecursion (λ later. edge_cmp (edit_edge x) later ≡ Less) (inserted xs) → IsInEdgeOrder (inserted xs) → IsInEdgeOrder (cond b (edit_edge x ∷ inserted xs) (inserted xs))
  by_kind true later rest = (later, rest)
  by_kind false later rest = rest

-- an edge before those of all edits is Absent
absent_below : (e : Edge) (edits : List Edit) → AllByRecursion (λ later. edge_cmp e (edit_edge later) ≡ Less) edits → graph edits e ≡ Absent
absent_below e [] below = refl
absent_below e (x ∷ xs) below =
    let other : is_same_edge (edit_edge x) e ≡ false = ap is_eq (edge_cmp_total.antisymm (edit_edge x) e) ∙ greater_from (edge_cmp e (edit_edge x)) below.0 in
    rw other (Absent-state_join (graph xs e) ∙ absent_below e xs below.1)

-- an edge is among the inserted ones just where it is Live
held_where_live : (edits : List Edit) → Ascends edits → (e : Edge) → holds_edge e (inserted edits) ≡ is_live (graph edits e)
held_where_live [] up e = refl
held_where_live (x ∷ xs) up e = by_edge (is_same_edge (edit_edge x) e) (edit_kind x) refl (held_where_live xs up.1 e) where
  absent : is_same_edge (edit_edge x) e ≡ true → graph xs e ≡ Absent
  absent same = ap (graph xs) (sym (one_edge (edit_edge x) e same)) ∙ absent_below (edit_edge x) xs up.0

  by_edge : (b : Bool) (k : EditKind) → is_same_edge (edit_edge x) e ≡ b → holds_edge e (inserted xs) ≡ is_live (graph xs e)
      → holds_edge e (cond (is_insertion k) (edit_edge x ∷ inserted xs) (inserted xs)) ≡ is_live (state_join (cond b (state_of k) Absent) (graph xs e))
  by_edge true Insert same rest = ap (λ b. b || holds_edge e (inserted xs)) same ∙ sym (ap (λ s. is_live (state_join Live s)) (absent same))
  by_edge true Delete same rest = rest ∙ ap is_live (absent same) ∙ sym (ap (λ s. is_live (state_join Deleted s)) (absent same))
  by_edge false Insert other rest = ap (λ b. b || holds_edge e (inserted xs)) other ∙ rest ∙ sym (ap is_live (Absent-state_join (graph xs e)))
  by_edge false Delete other rest = rest ∙ sym (ap is_live (Absent-state_join (graph xs e)))

pub are_live : (edits : List Edit) → Ascends edits → AreLive (graph edits) (inserted edits)
are_live edits up = record {
  in_order = in_order edits up;
  each = λ e is. held_where_live edits up e ∙ ap is_live is;
  no_other = λ e held. live_from_test (graph edits e) (sym (held_where_live edits up e) ∙ held);
}

-- what a table holds is what its view shows
pub live_in_view : (held table : Table) → held ≡ table → Ascends held.edits → AreLive (graph table.edits) (live table)
live_in_view held table view up = subst (λ (t : Table). AreLive (graph t.edits) (live t)) view (are_live held.edits up)
