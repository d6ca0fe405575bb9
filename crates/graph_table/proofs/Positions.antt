-- The code's test of positions is that of their order.
use Rattle.std.proofs.Common.{◌≡◌, is_eq, ap, ◌∙◌}
use Rattle.grove_sorts.specs.declared.position.Position.{Position}
use Rattle.grove_sorts.specs.contracts.position.PositionPartialEq.TheImpl as position_eq
use Rattle.grove_sorts.specs.contracts.position.PositionOrd.TheImpl.Laws.{matches_eq-law}
use Rattle.grove_sorts.proofs.Orders.{cmp_is_position_cmp}
use Rattle.grove_sorts.specs.Position.{is_same_position}

pub eq_is_same_position : (p q : Position) → position_eq.eq-value.it p q ≡ is_same_position p q
eq_is_same_position p q = matches_eq-law p q ∙ ap is_eq (cmp_is_position_cmp p q)
