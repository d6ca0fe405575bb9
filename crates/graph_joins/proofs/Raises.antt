-- Edits raised one after the other, and edges that are not well formed.
use Rattle.std.proofs.Common.{◌≡◌, ◌≢◌, Bool, true, false, cond, List, [], ◌∷◌, ◌++◌, Option, Some, None, is_some, is_none, unwrap_or, refl, sym, ap, ◌∙◌}
use Rattle.edge_lattice.specs.declared.state.State.{State}
use Rattle.edge_lattice.specs.declared.state.State.TheVariants.{Absent}
use Rattle.edge_lattice.specs.State.{state_join}
use Rattle.edge_lattice.proofs.States.{state_join_assoc, state_join_comm, Absent-state_join}
use Rattle.grove_edits.specs.declared.edge.Edge.{Edge}
use Rattle.grove_edits.specs.declared.edit.Edit.{Edit}
use Rattle.grove_edits.specs.Edge.{edge_fault}
use Rattle.grove_edits.specs.Graph.{graph, graph_join, IsSame, IsCanonical}
use Rattle.grove_edits.proofs.Graphs.{graph-append, unnamed}
use Rattle.graph_joins.specs.Merged.{IsRaised, AreRaised}
use Rattle.graph_words.specs.States.{Entries, entry_at, state_in, HasRoom, well_formed}

join_nothing : (s : State) → state_join s Absent ≡ s
join_nothing s = state_join_comm s Absent ∙ Absent-state_join s

pub has_room_from_state : (es : Entries) (e : Edge) → state_in es e ≢ Absent → HasRoom es e
has_room_from_state es e present = by_entry (entry_at es e) present where
  by_entry : (o : Option State) → unwrap_or o Absent ≢ Absent → is_some o ≡ true
  by_entry None h = absurd (h refl)
  by_entry (Some s) h = refl

pub raised_after : (edits : List Edit) (edit : Edit) (before after : Entries) → IsSame (state_in before) (graph edits) → IsRaised edit before after → IsSame (state_in after) (graph (edits ++ edit ∷ []))
raised_after edits edit before after so_far is e =
    is e ∙ ap (λ s. state_join s (graph (edit ∷ []) e)) (so_far e) ∙ sym (graph-append edits (edit ∷ []) e)

pub raised_all : (edits : List Edit) (before after : Entries) → AreRaised edits before after → IsSame (state_in after) (graph_join (state_in before) (graph edits))
raised_all [] before after is e = is e ∙ sym (join_nothing (state_in before e))
raised_all (edit ∷ edits) before after steps e =
    raised_all edits steps.0 after steps.2 e ∙ ap (λ s. state_join s (graph edits e)) (steps.1 e)
    ∙ state_join_assoc (state_in before e) (graph (edit ∷ []) e) (graph edits e)
    ∙ ap (state_join (state_in before e)) (sym (graph-append (edit ∷ []) edits e))

pub raised_from_empty : (edits : List Edit) (after : Entries) → AreRaised edits [] after → IsSame (state_in after) (graph edits)
raised_from_empty edits after steps e = raised_all edits [] after steps e ∙ Absent-state_join (graph edits e)

pub graph_is_well_formed : (edits : List Edit) → IsSame (well_formed (graph edits)) (graph edits)
graph_is_well_formed edits e = by_test (is_none (edge_fault e)) refl where
  by_test : (w : Bool) → is_none (edge_fault e) ≡ w → cond w (graph edits e) Absent ≡ graph edits e
  by_test true well = refl
  by_test false ill = sym (unnamed edits e ill)

pub canonical_of_edits : (edits list : List Edit) (es : Entries) → IsSame (state_in es) (graph edits) → IsCanonical (well_formed (state_in es)) list → IsCanonical (graph edits) list
canonical_of_edits edits list es is canonical = record {
  in_order = canonical.in_order;
  same = λ e. canonical.same e ∙ ap (λ s. cond (is_none (edge_fault e)) s Absent) (is e) ∙ graph_is_well_formed edits e;
}
