use Rattle.std.proofs.Common.{◌≡◌, ℕ, Bool, true, false, List, ◌++◌, length, refl, sym, ap, ◌∙◌}
use Rattle.std.specs.Prelude.{◌&&◌, not, ◌==◌, Option, Some}
use Rattle.grove_edits.specs.declared.edit.Edit.{Edit}
use Rattle.grove_edits.specs.declared.answer.Answer.{Answer}
use Rattle.replica_core.specs.Content.{with_taken}
use Rattle.undo_answers.specs.declared.course.Acted.{Acted}
use Rattle.undo_answers.specs.Course.{is_refused}
use Rattle.undo_answers.proofs.Courses.{stands_acted, stands_passed}
use Rattle.undo_answers.proofs.course.Course.act.Goals as goal

pub returns-then-not-is_last : goal.returns-then-not-is_last
returns-then-not-is_last c = λ before stands.
    let old = c.args.self.now in
    let edits = c.in_ok-edits.edits in
    stands_passed _ _ c.args.author c.args.by c.args.action edits before stands c.in_ok-edits.ensures.edits
    (c.in_ok-edits.ensures.taken ∙ ap (λ (es : List Edit). with_taken es old.replica) (sym c.in_ok-edits.ensures.edits))
    (c.in_ok-extend_from_slice.ensures.appended ∙ ap (λ (es : List Edit). old.taken ++ es) c.as_slice.ensures)
    (ap (λ (a : Answer). (c.args.by == c.args.author) && not (is_refused a)) (sym c.in_ok-edits.ensures.answer) ∙ sym c.is_last.ensures ∙ c.if-not-is_last.true)
    refl

pub returns : goal.returns
returns c = λ before stands.
    let old = c.args.self.now in
    let edits = c.in_ok-edits.edits in
    let last : Some (record { before = c.len-before.result; edits = edits }) ≡ Some (record { before = length old.taken; edits = edits }) = ap (λ (n : ℕ). Some (record { before = n; edits = edits })) c.len-before.ensures in
    stands_acted _ _ c.args.author c.args.by c.args.action edits before stands c.in_ok-edits.ensures.edits
    (c.in_ok-edits.ensures.taken ∙ ap (λ (es : List Edit). with_taken es old.replica) (sym c.in_ok-edits.ensures.edits))
    (c.in_ok-extend_from_slice.ensures.appended ∙ ap (λ (es : List Edit). old.taken ++ es) c.as_slice.ensures)
    (ap (λ (a : Answer). (c.args.by == c.args.author) && not (is_refused a)) (sym c.in_ok-edits.ensures.answer) ∙ sym c.is_last.ensures ∙ c.if-not-is_last.false)
    last
