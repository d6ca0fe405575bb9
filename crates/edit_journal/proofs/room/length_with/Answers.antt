use Rattle.std.proofs.Common.{List, ◌+◌, map, length, take, drop, ap, arith}
use Rattle.grove_edits.specs.declared.edit.Edit.{Edit}
use Rattle.edit_text.specs.Text.{line_of}
use Rattle.edit_journal.specs.LogFile.{opened}
use Rattle.edit_journal.proofs.Logs.{length-opened_more, next_edit, around_edit}
use Rattle.edit_journal.proofs.room.length_with.Goals as goal

pub returns-then-length-gt-LONGEST-clause-excess : goal.returns-then-length-gt-LONGEST-clause-excess
returns-then-length-gt-LONGEST-clause-excess c = λ file is.
    let edits = c.args.edits.now in
    let edit = c.edit-item.result in
    let before = take c.loop-edit.edit-index edits in
    record {
      before = before;
      excess = edit;
      after = drop (c.loop-edit.edit-index + 1) edits;
      parts = around_edit edits c.loop-edit.edit-index edit c.loop-edit-test.true c.edit-item.is;
      fits = omega (arith, is, c.loop-edit.invariant.so_far, c.loop-edit.invariant.short);
      too_long = omega arith;
      length_is = omega (arith, is, c.loop-edit.invariant.so_far, c.line_length.ensures.length, length-opened_more before edit);
    }

pub loop-edit-preserved : goal.loop-edit-preserved
loop-edit-preserved c =
    let edit = c.edit-item.result in
    let before = take c.loop-edit.edit-index c.args.edits.now in
    let with_edit = ap (λ (es : List Edit). length (opened (map line_of es))) (next_edit c.args.edits.now c.loop-edit.edit-index edit c.loop-edit-test.true c.edit-item.is) in
    record {
      so_far = omega (arith, with_edit, c.loop-edit.invariant.so_far, c.line_length.ensures.length, length-opened_more before edit);
      short = omega arith;
    }
