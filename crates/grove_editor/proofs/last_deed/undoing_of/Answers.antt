use Rattle.std.proofs.Common.{List, subst}
use Rattle.grove_edits.specs.declared.edit.Edit.{Edit}
use Rattle.grove_edits.specs.Graph.{graph}
use Rattle.grove_undo.specs.Change.{IsChangeOf}
use Rattle.grove_editor.proofs.Undone.{undone_in, not_undone_in}
use Rattle.grove_editor.proofs.last_deed.undoing_of.Goals as goal

pub returns-in-Err-clause-refused : goal.returns-in-Err-clause-refused
returns-in-Err-clause-refused c =
    not_undone_in (graph c.args.replica.now.edits) c.graph-graph.result.now c.args.author c.args.change.now c.in-Err.fault c.graph-graph.ensures.states c.graph-graph.ensures.live c.in-Err.ensures.refused

pub returns-in_ok-back-in-Ok-clause-undone : goal.returns-in_ok-back-in-Ok-clause-undone
returns-in_ok-back-in-Ok-clause-undone c =
    undone_in (graph c.args.replica.now.edits) c.graph-graph.result.now c.args.author c.args.change.now c.in-Ok.edits c.in_ok-back-in-Ok.back c.graph-graph.ensures.states c.graph-graph.ensures.live c.in-Ok.ensures.undone
    (subst (λ (es : List Edit). IsChangeOf (graph c.args.replica.now.edits) es c.in_ok-back-in-Ok.back) c.as_slice.ensures (c.in_ok-back-in-Ok.ensures.of_same (graph c.args.replica.now.edits) c.graph-graph.ensures.states))
