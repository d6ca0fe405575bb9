use Rattle.std.proofs.Common.{sym, subst, ◌∙◌}
use Rattle.graph_words.specs.States.{state_in}
use Rattle.live_graph.specs.Live.{live}
use Rattle.grove_undo.specs.Change.{AreEdges, IsRemoved, IsAdded}
use Rattle.grove_undo.proofs.Changed.{change_listed, left_are}
use Rattle.grove_undo.proofs.change.change_by.Goals as goal

pub returns : goal.returns
returns c =
    let g = state_in c.args.before.now in
    let edits = c.args.edits.now in
    let removed = c.deref.result.now in
    let added = c.deref-2.result.now in
    let left = c.in_ok-left.left.items in
    let removed_are = subst (AreEdges (IsRemoved g edits)) (sym c.deref.ensures.value) c.in_ok-removed.ensures in
    let added_are = subst (AreEdges (IsAdded g edits)) (sym c.deref-2.ensures.value) c.in_ok-added.ensures in
    change_listed g edits removed added left c.deref-3.result.now c.deref-4.result.now c.deref-5.result.now c.listed.result removed_are added_are c.in_ok-left.ensures.in_order
    (left_are g (state_in c.args.asked.now) edits removed added (live c.args.before.now) left c.requires c.known.ensures added_are c.in_ok-left.ensures.left)
    (c.deref-3.ensures.value ∙ sym c.deref.ensures.value) (c.deref-4.ensures.value ∙ sym c.deref-2.ensures.value) c.deref-5.ensures.value c.listed.ensures
