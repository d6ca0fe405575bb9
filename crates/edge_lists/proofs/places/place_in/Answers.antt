use Rattle.std.proofs.Common.{◌≡◌, ◌+◌, ◌-◌, ◌/◌, true, false, get_or, sym, ap, subst, ◌∙◌, arith}
use Rattle.std.specs.Ordering.{is_lt}
use Rattle.edge_numbers.specs.Numbered.{edge_at, IsEdgeNumber}
use Rattle.edge_lists.specs.Places.{is_before}
use Rattle.edge_lists.proofs.Prefixes.{prefix_len-le, prefix_len-passed, prefix_len-failed}
use Rattle.edge_lists.proofs.Numbers.{known_at}
use Rattle.edge_lists.proofs.ByNumber.{falls-order}
use Rattle.edge_lists.proofs.places.place_in.Goals as goal

pub loop-low-init : goal.loop-low-init
loop-low-init g c =
    let bound = prefix_len-le (is_before g.O.ListOrder.order c.args.edges.now c.args.edge) c.args.list.now in
    record { from = omega arith; to = omega (arith, bound, c.len-high.ensures); inside = omega (arith, c.len-high.ensures) }

pub compare-requires-clause-first : goal.compare-requires-clause-first
compare-requires-clause-first g c =
    subst (IsEdgeNumber c.args.edges.now) (sym c.number.ensures)
    (known_at c.args.edges.now c.args.list.now (c.loop-low.low + (c.loop-low.high - c.loop-low.low) / 2) 0 c.requires.known (omega (arith, c.loop-low-test.true, c.loop-low.invariant.inside)))

pub loop-low-preserved-then-is_lt : goal.loop-low-preserved-then-is_lt
loop-low-preserved-then-is_lt g c =
    let middle = c.loop-low.low + (c.loop-low.high - c.loop-low.low) / 2 in
    let passes : is_before g.O.ListOrder.order c.args.edges.now c.args.edge (get_or c.args.list.now middle 0) ≡ true = ap (is_before g.O.ListOrder.order c.args.edges.now c.args.edge) (sym c.number.ensures) ∙ sym (ap is_lt c.compare.ensures) ∙ sym c.is_lt.ensures ∙ c.if-is_lt.true in
    let above = prefix_len-passed (is_before g.O.ListOrder.order c.args.edges.now c.args.edge) c.args.list.now
    (falls-order g.O.ListOrder.order g.met.O.ListOrder.total (edge_at c.args.edges.now) c.args.edge c.args.list.now c.requires.in_order) middle 0 (omega (arith, c.loop-low-test.true, c.loop-low.invariant.inside)) passes in
    record { from = omega (arith, above); to = c.loop-low.invariant.to; inside = c.loop-low.invariant.inside }

pub loop-low-preserved : goal.loop-low-preserved
loop-low-preserved g c =
    let middle = c.loop-low.low + (c.loop-low.high - c.loop-low.low) / 2 in
    let fails : is_before g.O.ListOrder.order c.args.edges.now c.args.edge (get_or c.args.list.now middle 0) ≡ false = ap (is_before g.O.ListOrder.order c.args.edges.now c.args.edge) (sym c.number.ensures) ∙ sym (ap is_lt c.compare.ensures) ∙ sym c.is_lt.ensures ∙ c.if-is_lt.false in
    let below = prefix_len-failed (is_before g.O.ListOrder.order c.args.edges.now c.args.edge) c.args.list.now middle 0 (omega (arith, c.loop-low-test.true, c.loop-low.invariant.inside)) fails in
    record { from = c.loop-low.invariant.from; to = below; inside = omega (arith, c.loop-low-test.true, c.loop-low.invariant.inside) }
