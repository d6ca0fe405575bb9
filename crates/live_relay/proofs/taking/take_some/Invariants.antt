use Rattle.std.proofs.Common.{◌≡◌}
use Rattle.live_relay.specs.Passed.{IsTaking}
use Rattle.live_relay.proofs.taking.take_some.Given as goal

-- some items were taken
pub record Takes (g : goal.Over) (l : goal.Live-loop g) : Type 0 where
  pub taking : IsTaking g.M.Machine.after g.M.Machine.effect g.M.Machine.reply g.T.Item.command_of l.first.value l.relay l.taking.receiver l.taking.taken l.taking.all l.taking.solo l.taking.done
  pub all : l.taking.all ≡ l.fn.taking.all

abbrev pub invariant-loop : goal.invariant-loop
invariant-loop g l = Takes g l
