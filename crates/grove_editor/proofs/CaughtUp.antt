-- Who caught up has the join.
use Rattle.std.proofs.Common.{◌≡◌, sym, ap, subst, ◌∙◌}
use Rattle.edge_lattice.specs.State.{state_join}
use Rattle.edge_lattice.proofs.States.{state_join_assoc, state_join_comm, state_join_idem}
use Rattle.grove_edits.specs.declared.edge.Edge.{Edge}
use Rattle.grove_edits.specs.declared.edit.Edit.{Edit}
use Rattle.grove_edits.specs.Graph.{Graph, graph, graph_join, IsSame}
use Rattle.edit_text.specs.Whole.{IsTextOf}
use Rattle.edit_text.proofs.WholeTexts.{one_list}
use Rattle.edit_ranges.specs.Lacking.{AreNamesOnce, lacking}
use Rattle.edit_ranges.proofs.Joined.{joined_by_first, once_along}
use Rattle.edit_ranges.proofs.SummaryTexts.{one_text}
use Rattle.replica_core.specs.Canonical.{with_edits}
use Rattle.replica_core.proofs.WithEdits.{graph-with_edits}
use Rattle.grove_editor.specs.CatchingUp.{HasCaughtUp}
use Rattle.grove_editor.specs.State.{State}
use Rattle.grove_editor.proofs.EditTexts.{text_is_read}

-- what was taken is what the other answered
taken_as_answered : (a b after : State) (h : HasCaughtUp b.edits a after) → h.taken ≡ lacking h.is_told.ranges b.edits
taken_as_answered a b after h =
    let sent = lacking h.is_answered.ranges b.edits in
    let read = text_is_read sent in
    let is_read : IsTextOf h.answer read.0 sent = subst (λ t. IsTextOf t read.0 sent) (sym h.is_answered.spelled) read.1 in
    let same_ranges : h.is_answered.ranges ≡ h.is_told.ranges =
    one_text h.is_answered.ranges h.is_told.ranges h.is_answered.in_order h.is_told.is_summary.in_order (sym h.is_answered.read ∙ h.is_told.spelled) in
    (one_list h.answer h.version read.0 h.taken sent h.is_read is_read).1 ∙ ap (λ ranges. lacking ranges b.edits) same_ranges

pub caught_up : (a b after : State) → AreNamesOnce (graph_join (graph a.edits) (graph b.edits)) → HasCaughtUp b.edits a after
    → IsSame (graph after.edits) (graph_join (graph a.edits) (graph b.edits))
caught_up a b after once h e =
    ap (λ (s : State). graph s.edits e) h.has_taken.taken
    ∙ graph-with_edits h.taken a.edits e
    ∙ ap (λ edits. state_join (graph a.edits e) (graph edits e)) (taken_as_answered a b after h)
    ∙ joined_by_first a.edits b.edits h.is_told.ranges h.is_told.is_summary once e

join_turned : (g h : Graph) → IsSame (graph_join g h) (graph_join h g)
join_turned g h e = state_join_comm (g e) (h e)

-- the join of a graph with a join that it is in
join_within : (g h j : Graph) → IsSame j (graph_join g h) → IsSame (graph_join h j) (graph_join g h)
join_within g h j same e =
    ap (state_join (h e)) (same e ∙ state_join_comm (g e) (h e)) ∙ sym (state_join_assoc (h e) (h e) (g e))
    ∙ ap (λ s. state_join s (g e)) (state_join_idem (h e)) ∙ state_join_comm (h e) (g e)

same_back : (g h : Graph) → IsSame g h → IsSame h g
same_back g h same e = sym (same e)

pub both_caught_up : (a b after_a after_b : State) → AreNamesOnce (graph_join (graph a.edits) (graph b.edits)) → HasCaughtUp b.edits a after_a → HasCaughtUp a.edits b after_b
    → IsSame (graph after_a.edits) (graph after_b.edits)
both_caught_up a b after_a after_b once one other e =
    let g = graph a.edits in
    let h = graph b.edits in
    caught_up a b after_a once one e
    ∙ join_turned g h e
    ∙ sym (caught_up b a after_b (once_along (graph_join g h) (graph_join h g) (join_turned g h) once) other e)

pub in_turn : (a b after_a after_b : State) → AreNamesOnce (graph_join (graph a.edits) (graph b.edits)) → HasCaughtUp b.edits a after_a → HasCaughtUp after_a.edits b after_b
    → IsSame (graph after_a.edits) (graph after_b.edits)
in_turn a b after_a after_b once one other e =
    let g = graph a.edits in
    let h = graph b.edits in
    let j = graph after_a.edits in
    let same = join_within g h j (caught_up a b after_a once one) in
    caught_up a b after_a once one e
    ∙ sym (same e)
    ∙ sym (caught_up b after_a after_b (once_along (graph_join g h) (graph_join h j) (same_back (graph_join h j) (graph_join g h) same) once) other e)
