-- The code's test of positions is that of their order.
use Rattle.std.proofs.Common.{◌≡◌, true, false, is_eq, sym, ap, ◌∙◌}
use Rattle.grove_sorts.specs.declared.position.Position.{Position}
use Rattle.grove_sorts.specs.contracts.position.PositionPartialEq.TheImpl as position_eq
use Rattle.grove_sorts.specs.contracts.position.PositionOrd.TheImpl.Laws.{matches_eq-law}
use Rattle.grove_sorts.specs.Position.{is_same_position}
use Rattle.grove_sorts.proofs.Orders.{cmp_is_position_cmp, one_position, same_position_laws}

eq_is_same_position : (p q : Position) → position_eq.eq-value.it p q ≡ is_same_position p q
eq_is_same_position p q = matches_eq-law p q ∙ ap is_eq (cmp_is_position_cmp p q)

-- positions that it finds the same are one
pub same_positions : (p q : Position) → position_eq.eq-value.it p q ≡ true → p ≡ q
same_positions p q same = one_position p q (sym (eq_is_same_position p q) ∙ same)

-- and one that it finds others differ
pub other_positions : (p q : Position) → position_eq.eq-value.it p q ≡ false → p ≡ q → ⊥
other_positions p q other one =
    let clash : true ≡ false = sym (same_position_laws.refl p) ∙ ap (is_same_position p) one ∙ sym (eq_is_same_position p q) ∙ other in cc
