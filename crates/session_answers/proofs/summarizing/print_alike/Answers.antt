use Rattle.std.proofs.Common.{sym, ◌∙◌}
use Rattle.session_answers.proofs.PrintTexts.{all_next, alike, not_alike}
use Rattle.session_answers.proofs.summarizing.print_alike.Goals as goal

pub returns-then-not-branch : goal.returns-then-not-branch
returns-then-not-branch c =
    not_alike c.args.first.now c.args.others.now c.loop-other.other-index c.other-item.result c.loop-other-test.true c.other-item.is
    (λ text is_text prints. sym c.if-not-branch.true ∙ (c.in_ok-prints_alike.ensures text is_text).1 prints)

pub loop-other-preserved : goal.loop-other-preserved
loop-other-preserved c = λ text is_text.
    all_next text c.args.others.now c.loop-other.other-index c.other-item.result c.loop-other-test.true c.other-item.is (c.loop-other.invariant text is_text)
    ((c.in_ok-prints_alike.ensures text is_text).0 c.if-not-branch.false)

pub returns : goal.returns
returns c = alike c.args.first.now c.args.others.now c.loop-other.other-index c.loop-other-test.false c.loop-other.invariant
