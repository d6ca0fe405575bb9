use Rattle.std.proofs.Common.{List, subst}
use Rattle.std.specs.Prelude.{IfOk}
use Rattle.session_script.specs.declared.item.Item.{Item}
use Rattle.undo_answers.specs.Course.{after_items, at_start}
use Rattle.undo_answers.specs.UndoText.{IsTextOf}
use Rattle.undo_answers.proofs.Courses.{within_last}
use Rattle.undo_answers.proofs.text.undo_text.Goals as goal

pub text_in-requires-clause-within : goal.text_in-requires-clause-within
text_in-requires-clause-within c = within_last c.in_ok-course.course.taken c.in_ok-course.course.last _ c.in_ok-course.ensures.last

pub returns : goal.returns
returns c =
    subst (λ (items : List Item). IfOk c.text_in.result (λ text. IsTextOf (after_items c.args.author items at_start) c.args.author text.items)) c.as_slice.ensures
    (c.text_in.ensures (after_items c.args.author c.as_slice.result.now at_start) c.in_ok-course.ensures)
