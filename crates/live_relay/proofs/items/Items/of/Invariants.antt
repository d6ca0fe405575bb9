use Rattle.std.proofs.Common.{◌≡◌, take}
use Rattle.live_relay.proofs.items.Items.of.Given as goal

-- the items so far
abbrev pub invariant-loop-item : goal.invariant-loop-item
invariant-loop-item g l = l.all ≡ take l.item-index l.items
