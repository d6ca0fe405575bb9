-- The comparison of keys is equality, and so is that of constructors.
use Rattle.std.proofs.Common.{◌≡◌, Bool, true, rules, is_eq, sym, ap, ◌∙◌}
use Rattle.std.proofs.lemmas.Cmp.{tied_itself}
use Rattle.grove_sorts.specs.declared.ctor.Ctor.{Ctor}
use Rattle.grove_sorts.specs.Ctor.{ctor_cmp}
use Rattle.grove_sorts.specs.contracts.ctor.CtorPartialEq.TheImpl as ctor_eq_impl
use Rattle.grove_sorts.specs.contracts.ctor.CtorOrd.TheImpl.Laws as ctor_laws
use Rattle.grove_sorts.proofs.Orders.{ctor_cmp_exact, ctor_cmp_total, cmp_is_ctor_cmp, equal_from_test}
use Rattle.grove_sorts.proofs.Truths.{both_true}
use Rattle.edit_table.specs.declared.vertex_key.CtorKey.{CtorKey}
use Rattle.edit_table.specs.declared.vertex_key.CtorKey.TheVariants as keys
use Rattle.edit_table.specs.declared.vertex_key.VertexKey.{VertexKey}
use Rattle.edit_table.specs.contracts.vertex_key.CtorKeyPartialEq.TheImpl as ctor_key_impl
use Rattle.edit_table.specs.contracts.vertex_key.VertexKeyPartialEq.TheImpl as key_eq_impl

abbrev pub ctor_eq : Ctor → Ctor → Bool
ctor_eq = ctor_eq_impl.eq-value.it

pub ctor_tie : (a b : Ctor) → ctor_eq a b ≡ is_eq (ctor_cmp a b)
ctor_tie a b = ctor_laws.matches_eq-law a b ∙ ap is_eq (cmp_is_ctor_cmp a b)

pub ctor_itself : (a : Ctor) → ctor_eq a a ≡ true
ctor_itself a = ctor_tie a a ∙ ap is_eq (tied_itself ctor_cmp_total a)

pub ctor_exact : (a b : Ctor) → ctor_eq a b ≡ true → a ≡ b
ctor_exact a b same = ctor_cmp_exact a b (equal_from_test (ctor_cmp a b) (sym (ctor_tie a b) ∙ same))

abbrev pub key_eq : VertexKey → VertexKey → Bool
key_eq = key_eq_impl.eq-value.it

ctor_key_itself : (a : CtorKey) → ctor_key_impl.eq-value.it a a ≡ true
ctor_key_itself (keys.At n) = search rules
ctor_key_itself (keys.Short n) = search rules

ctor_key_exact : (a b : CtorKey) → ctor_key_impl.eq-value.it a b ≡ true → a ≡ b
ctor_key_exact (keys.At m) (keys.At n) same =
    let one : m ≡ n = search rules in
    ap keys.At one
ctor_key_exact (keys.Short m) (keys.Short n) same =
    let one : m ≡ n = search rules in
    ap keys.Short one
ctor_key_exact _ _ same = absurd cc

pub key_itself : (a : VertexKey) → key_eq a a ≡ true
key_itself a =
    let ctor = ctor_key_itself a.ctor in
    search rules

pub key_exact : (a b : VertexKey) → key_eq a b ≡ true → a ≡ b
key_exact a b same =
    let author : a.name.author ≡ b.name.author = search rules in
    let counter : a.name.counter ≡ b.name.counter = search rules in
    let parts = both_true _ (ctor_key_impl.eq-value.it a.ctor b.ctor) same in
    let ctor = ctor_key_exact a.ctor b.ctor parts.1 in
    λ j. record { name = record { author = author j; counter = counter j }; ctor = ctor j }
