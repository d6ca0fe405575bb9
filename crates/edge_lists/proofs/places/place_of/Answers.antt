use Rattle.std.proofs.Common.{◌≡◌, ◌+◌, ◌-◌, ◌/◌, true, false, get_or, sym, ap, subst, ◌∙◌, arith}
use Rattle.grove_sorts.specs.Position.{position_cmp}
use Rattle.edge_numbers.specs.Numbered.{edge_at, IsEdgeNumber}
use Rattle.edge_lists.specs.Places.{is_from_before, is_up_to}
use Rattle.edge_lists.proofs.Prefixes.{prefix_len-le, prefix_len-passed, prefix_len-failed}
use Rattle.edge_lists.proofs.Numbers.{known_at}
use Rattle.edge_lists.proofs.Positions.{falls-position}
use Rattle.edge_lists.proofs.places.place_of.Goals as goal

pub loop-low-init : goal.loop-low-init
loop-low-init c =
    let bound = prefix_len-le (is_from_before c.args.itself c.args.position c.args.edges.now) c.args.list.now in
    record { from = omega arith; to = omega (arith, bound, c.len-high.ensures); inside = omega (arith, c.len-high.ensures) }

pub position-requires : goal.position-requires
position-requires c =
    subst (IsEdgeNumber c.args.edges.now) (sym c.number.ensures)
    (known_at c.args.edges.now c.args.list.now (c.loop-low.low + (c.loop-low.high - c.loop-low.low) / 2) 0 c.requires.known (omega (arith, c.loop-low-test.true, c.loop-low.invariant.inside)))

pub loop-low-preserved-then-is_before : goal.loop-low-preserved-then-is_before
loop-low-preserved-then-is_before c =
    let middle = c.loop-low.low + (c.loop-low.high - c.loop-low.low) / 2 in
    let passes : is_from_before c.args.itself c.args.position c.args.edges.now (get_or c.args.list.now middle 0) ≡ true =
    ap (is_from_before c.args.itself c.args.position c.args.edges.now) (sym c.number.ensures) ∙ sym (ap (λ p. is_up_to c.args.itself (position_cmp p c.args.position)) c.position.ensures) ∙ sym c.is_before.ensures ∙ c.if-is_before.true in
    let above = prefix_len-passed (is_from_before c.args.itself c.args.position c.args.edges.now) c.args.list.now
    (falls-position (edge_at c.args.edges.now) c.args.position c.args.itself c.args.list.now c.requires.in_order) middle 0 (omega (arith, c.loop-low-test.true, c.loop-low.invariant.inside)) passes in
    record { from = omega (arith, above); to = c.loop-low.invariant.to; inside = c.loop-low.invariant.inside }

pub loop-low-preserved : goal.loop-low-preserved
loop-low-preserved c =
    let middle = c.loop-low.low + (c.loop-low.high - c.loop-low.low) / 2 in
    let fails : is_from_before c.args.itself c.args.position c.args.edges.now (get_or c.args.list.now middle 0) ≡ false =
    ap (is_from_before c.args.itself c.args.position c.args.edges.now) (sym c.number.ensures) ∙ sym (ap (λ p. is_up_to c.args.itself (position_cmp p c.args.position)) c.position.ensures) ∙ sym c.is_before.ensures ∙ c.if-is_before.false in
    let below = prefix_len-failed (is_from_before c.args.itself c.args.position c.args.edges.now) c.args.list.now middle 0 (omega (arith, c.loop-low-test.true, c.loop-low.invariant.inside)) fails in
    record { from = c.loop-low.invariant.from; to = below; inside = omega (arith, c.loop-low-test.true, c.loop-low.invariant.inside) }
