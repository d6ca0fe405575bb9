use Rattle.std.proofs.Common.{◌++◌, [], ◌∷◌, List, refl, ap, ◌∙◌}
use Rattle.grove_edits.specs.declared.edit.Edit.{Edit}
use Rattle.replica_core.specs.Content.{with_taken}
use Rattle.undo_answers.proofs.Courses.{stands_taken}
use Rattle.undo_answers.proofs.course.Course.load.Goals as goal

pub returns : goal.returns
returns c = λ before stands.
    stands_taken _ _ (c.args.edit.now ∷ []) before stands
    (c.in_ok-take.ensures ∙ ap (λ (es : List Edit). with_taken es c.args.self.now.replica) (c.in_ok-push.ensures.appended ∙ ap (λ (es : List Edit). es ++ c.args.edit.now ∷ []) c.new-edits.ensures.empty))
    c.in_ok-push-2.ensures.appended refl
