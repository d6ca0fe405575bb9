-- The order of names.
use Rattle.std.proofs.Common.{◌≡◌, ℕ, ap}
use Rattle.std.specs.Cmp.{IsTotalOrder}
use Rattle.std.specs.Ordering.{nat_cmp}
use Rattle.std.specs.declared.cmp.Ordering.TheVariants.{Equal}
use Rattle.std.proofs.lemmas.Cmp.{nat_cmp_total, on_total, then_total}
use Rattle.std.proofs.lemmas.Map.Lookups.{exact_pairs, exact_unsigned}
use Rattle.grove_names.specs.declared.name.Name.{Name}
use Rattle.grove_names.specs.Name.{name_cmp}

-- the order is total
pub name_cmp_total : IsTotalOrder name_cmp
name_cmp_total = then_total (on_total (λ name. name.author) nat_cmp_total) (on_total (λ name. name.counter) nat_cmp_total)

-- names that compare equal are one
pub name_cmp_exact : (a b : Name) → name_cmp a b ≡ Equal → a ≡ b
name_cmp_exact a b h =
    ap (λ (p : ℕ × ℕ). record { author = p.0; counter = p.1 })
    (exact_pairs nat_cmp nat_cmp exact_unsigned exact_unsigned (a.author, a.counter) (b.author, b.counter) h)
