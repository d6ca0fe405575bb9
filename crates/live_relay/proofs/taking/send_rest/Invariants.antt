use Rattle.std.proofs.Common.{◌≡◌, ◌++◌, take}
use Rattle.live_relay.specs.Passed.{IsTaking}
use Rattle.live_relay.proofs.taking.send_rest.Given as goal

-- the rest so far was sent
pub record Takes (g : goal.Over) (l : goal.Live-loop-item g) : Type 0 where
  pub taking : IsTaking g.M.Machine.after g.M.Machine.effect g.M.Machine.reply g.T.Item.command_of l.first.value l.relay l.taking.receiver l.taking.taken l.taking.all l.taking.solo l.taking.done
  pub all : l.taking.all ≡ l.fn.taking.all
  pub sender : l.sender ≡ record l.fn.sender { sent = l.fn.sender.sent ++ take l.item-index l.rest }

abbrev pub invariant-loop-item : goal.invariant-loop-item
invariant-loop-item g l = Takes g l
