use Rattle.std.proofs.Common.{◌≡◌, ◌<◌, ◌^◌}
use Rattle.session_gen.specs.Generated.{spread}
use Rattle.session_gen.specs.Items.{AreLoads}
use Rattle.session_gen.proofs.loads.load_items.Given as goal

abbrev pub invariant-loop-number : goal.invariant-loop-number
invariant-loop-number l = record {
  loads : AreLoads l.number l.items;
  state : l.state ≡ spread l.number;
  small : l.state < 2 ^ 31;
}
