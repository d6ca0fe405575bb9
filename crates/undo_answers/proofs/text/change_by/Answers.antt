use Rattle.std.proofs.Common.{List, take, subst}
use Rattle.std.specs.Prelude.{IfOk}
use Rattle.grove_edits.specs.declared.edit.Edit.{Edit}
use Rattle.grove_edits.specs.Graph.{graph}
use Rattle.grove_undo.specs.Change.{IsChangeOf}
use Rattle.undo_answers.proofs.text.change_by.Goals as goal

pub returns : goal.returns
returns c =
    subst (λ (es : List Edit). IfOk c.change_of.result (IsChangeOf (graph (take c.args.acted.now.before c.args.taken.now)) es)) c.as_slice.ensures c.change_of.ensures.change
