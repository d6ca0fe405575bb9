use Rattle.std.proofs.Common.{List, ◌++◌, ◌∷◌, ◌∙◌, map, take, sym, ap, ℕ}
use Rattle.grove_edits.specs.declared.edit.Edit.{Edit}
use Rattle.edit_text.specs.Text.{line_of}
use Rattle.edit_journal.specs.LogFile.{framed, opened}
use Rattle.edit_journal.proofs.Logs.{opened_more, next_edit}
use Rattle.edit_journal.proofs.writing.write_piece.Goals as goal

pub loop-edit-preserved : goal.loop-edit-preserved
loop-edit-preserved c =
    let edit = c.edit-item.result in
    let before = take c.loop-edit.edit-index c.args.edits.now in
    c.in_ok-append_record.ensures
    ∙ ap (λ (l : List ℕ). l ++ 1 ∷ framed (line_of edit)) c.loop-edit.invariant
    ∙ sym (opened_more before edit)
    ∙ ap (λ (es : List Edit). opened (map line_of es)) (sym (next_edit c.args.edits.now c.loop-edit.edit-index edit c.loop-edit-test.true c.edit-item.is))
