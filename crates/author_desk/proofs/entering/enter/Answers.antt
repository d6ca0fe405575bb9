use Rattle.author_desk.proofs.UnderWay.{enters_some}
use Rattle.grove_sorts.proofs.Truths.{after_error}
use Rattle.author_desk.proofs.entering.enter.Goals as goal

pub returns-in_err-act_all-clause-first : goal.returns-in_err-act_all-clause-first
returns-in_err-act_all-clause-first g c =
    let h = c.in_err-act_all.ensures.rest in
    after_error c.from_residual-in_err-act_all.result
    (enters_some c.args.pass.now c.act_all.new.pass c.args.lines.now c.in_ok-commands.commands.items h.0 _ c.in_ok-commands.ensures h.1 h.2)
