use Rattle.std.proofs.Common.{arith}
use Rattle.session_answers.proofs.Numbers.{fit_more, fit_none}
use Rattle.session_answers.proofs.counting.can_number.Goals as goal

pub loop-first-init : goal.loop-first-init
loop-first-init c = λ all. all

pub loop-first-preserved : goal.loop-first-preserved
loop-first-preserved c = λ rest.
    c.loop-first.invariant (fit_more c.args.lines c.args.calls.now c.loop-first.first-index 0 c.loop-first-test.true
    (let most = c.if-first-most.false in let few = c.ranges.lines in omega arith) rest)

pub returns : goal.returns
returns c = λ told. c.loop-first.invariant (fit_none c.args.lines c.args.calls.now c.loop-first.first-index c.loop-first-test.false)
