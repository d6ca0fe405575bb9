use Rattle.std.proofs.Common.{List, sym, ap, subst, ◌∙◌}
use Rattle.std.specs.Prelude.{not}
use Rattle.grove_edits.specs.declared.edit.Edit.{Edit}
use Rattle.grove_edits.specs.Graph.{graph}
use Rattle.mark_incremental.specs.Standing.{StandFor}
use Rattle.grove_editor.specs.State.{State}
use Rattle.grove_editor.proofs.RecordLines.{no_vertex, none_found}
use Rattle.grove_editor.proofs.editor.Editor.append_judged.Goals as goal

pub returns-then-is_none-clause-fault : goal.returns-then-is_none-clause-fault
returns-then-is_none-clause-fault c =
    let marks = c.marks-marks.result.now in
    let stand = subst (λ (edits : List Edit). StandFor (graph edits) marks) (ap (λ (s : State). s.edits) c.self.view_is) c.marks-marks.ensures in
    let none = sym c.kept.ensures ∙ none_found c.kept.result (c.is_none.ensures ∙ ap not c.if-is_none.true) in
    (c.in-Some.vertex, c.in-Some.ensures.found, no_vertex (graph c.args.self.now.edits) marks c.in-Some.vertex stand none)
