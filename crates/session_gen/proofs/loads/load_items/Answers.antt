use Rattle.std.proofs.Common.{◌+◌, sym, subst}
use Rattle.session_gen.specs.Items.{AreLoads}
use Rattle.session_gen.proofs.MoreLoads.{next_loads, next_spread, spread_small}
use Rattle.session_gen.proofs.loads.load_items.Goals as goal

pub loop-number-preserved : goal.loop-number-preserved
loop-number-preserved c = record {
  loads = subst (AreLoads (c.loop-number.number + 1)) (sym c.in_ok-push.ensures.appended)
      (next_loads c.loop-number.number c.loop-number.items c.load_item.result c.loop-number.invariant.loads c.load_item.ensures.lines c.load_item.ensures.good);
  state = next_spread c.loop-number.number c.loop-number.state c.loop-number.invariant.state;
  small = spread_small c.loop-number.state;
}
