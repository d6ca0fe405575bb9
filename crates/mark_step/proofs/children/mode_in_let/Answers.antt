use Rattle.std.proofs.Common.{arith}
use Rattle.mark_step.specs.Node.{wanted_at}
use Rattle.mark_step.proofs.Positions.{body_wanted}
use Rattle.mark_step.proofs.children.mode_in_let.Goals as goal

pub returns-clause-wanted : goal.returns-clause-wanted
returns-clause-wanted c types =
    body_wanted types c.args.node.now c.args.index (wanted_at types c.args.node.now.mode) c.requires (omega (arith, c.if-index-lt2.false))
