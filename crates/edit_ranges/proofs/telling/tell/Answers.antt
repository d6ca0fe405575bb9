use Rattle.std.proofs.Common.{◌≡◌, ℕ, ◌≤◌, false, sym, ◌∙◌, arith}
use Rattle.std.specs.Prelude.{nat_lt}
use Rattle.std.proofs.lemmas.Bool.Decides.{nat_tests}
use Rattle.edit_ranges.proofs.Searching.{told_at, told_past}
use Rattle.edit_ranges.proofs.telling.tell.Goals as goal

not_less : (m n : ℕ) → n ≤ m → nat_lt m n ≡ false
not_less m n le = grind (arith, nat_tests)

pub returns-then-place-ranges : goal.returns-then-place-ranges
returns-then-place-ranges c =
    c.tells.ensures ∙ sym (told_at c.args.told c.args.name c.args.ranges.now c.count_before-place.result _ c.requires c.if-place-ranges.true c.count_before-place.ensures.parted)

pub returns-else-place-ranges : goal.returns-else-place-ranges
returns-else-place-ranges c =
    not_less c.count_before-place.result _ c.if-place-ranges.false
    ∙ sym (told_past c.args.told c.args.name c.args.ranges.now c.count_before-place.result c.requires c.if-place-ranges.false c.count_before-place.ensures.parted)
