-- Tests of truth values, names and sorts.
use Rattle.std.proofs.Common.{◌≡◌, Bool, true, false, refl, ap}
use Rattle.std.specs.Prelude.{not}
use Rattle.std.specs.Ordering.{is_eq}
use Rattle.std.proofs.lemmas.Cmp.{tied_itself}
use Rattle.grove_names.specs.declared.name.Name.{Name}
use Rattle.grove_names.specs.Name.{name_cmp}
use Rattle.grove_names.proofs.Orders.{name_cmp_total, name_cmp_exact}
use Rattle.grove_sorts.proofs.Orders.{equal_from_test}
use Rattle.user_actions.specs.Names.{is_same_name}

pub not_false : (a : Bool) → not a ≡ false → a ≡ true
not_false true h = refl
not_false false h = absurd cc

pub same_name_exact : (a b : Name) → is_same_name a b ≡ true → a ≡ b
same_name_exact a b h = name_cmp_exact a b (equal_from_test (name_cmp a b) h)

pub same_name_itself : (a : Name) → is_same_name a a ≡ true
same_name_itself a = ap is_eq (tied_itself name_cmp_total a)
