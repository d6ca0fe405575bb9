use Rattle.std.proofs.Common.{ℕ, List, ◌++◌, refl, ap, subst, ◌∙◌, append_assoc}
use Rattle.grove_edits.specs.Graph.{graph}
use Rattle.grove_answers.specs.Texts.{IsPrintText}
use Rattle.replica_core.specs.Content.{Content, with_taken}
use Rattle.undo_answers.proofs.Answering.{answer_is}
use Rattle.undo_answers.proofs.text.append_text.Goals as goal

pub returns : goal.returns
returns c = λ of stands.
    let course = c.args.course.now in
    let undoing = c.in_ok-undoing.undoing in
    let line = c.in_ok-undoing.ensures.0 in
    let printed = c.in_ok-append_print.ensures in (
      line ++ printed.0,
      record {
        undoing = undoing;
        line = line;
        print = printed.0;
        answer = answer_is course.taken course.last of.last of.content.edits c.args.author undoing line stands.taken stands.last c.in_ok-undoing.ensures.2;
        printed = subst (λ (content : Content). IsPrintText (graph (with_taken undoing content).edits) printed.0) stands.content printed.1;
        written = refl;
      },
      printed.2 ∙ ap (λ (text : List ℕ). text ++ printed.0) c.in_ok-undoing.ensures.1 ∙ append_assoc c.args.out.now.items line printed.0,
    )
