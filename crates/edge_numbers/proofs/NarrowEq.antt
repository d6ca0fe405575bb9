-- The comparison of narrow edges is equality.
use Rattle.std.proofs.Common.{◌≡◌, Bool, true, refl, sym, ap, ◌∙◌}
use Rattle.std.specs.declared.cmp.Ordering.{Ordering}
use Rattle.std.specs.declared.cmp.Ordering.TheVariants.{Less, Equal, Greater}
use Rattle.std.specs.Ordering.{ordering_then, nat_cmp, is_eq}
use Rattle.std.specs.Cmp.{IsTotalOrder}
use Rattle.std.proofs.lemmas.Cmp.{on_total, then_total, nat_cmp_total, tied_itself}
use Rattle.std.proofs.lemmas.Map.Lookups.{exact_unsigned}
use Rattle.grove_names.specs.Name.{name_cmp}
use Rattle.grove_names.proofs.Orders.{name_cmp_total, name_cmp_exact}
use Rattle.grove_sorts.specs.Position.{position_cmp}
use Rattle.grove_sorts.proofs.Orders.{cmp_is_position_cmp, position_cmp_total, position_cmp_exact, equal_from_test}
use Rattle.edge_numbers.specs.declared.narrow_edge.NarrowEdge.{NarrowEdge}
use Rattle.edge_numbers.specs.contracts.narrow_edge.NarrowEdgePartialEq.TheImpl as narrow_eq
use Rattle.edge_numbers.specs.contracts.narrow_edge.NarrowEdgeOrd.TheImpl.Laws.{matches_eq-law}

abbrev pub eq : NarrowEdge → NarrowEdge → Bool
eq = narrow_eq.eq-value.it

abbrev narrow_cmp : NarrowEdge → NarrowEdge → Ordering
narrow_cmp a b =
    ordering_then (name_cmp a.name b.name) (ordering_then (nat_cmp a.source b.source) (ordering_then (nat_cmp a.target b.target) (position_cmp a.position b.position)))

narrow_cmp_total : IsTotalOrder narrow_cmp
narrow_cmp_total =
    then_total (on_total (λ a. a.name) name_cmp_total)
    (then_total (on_total (λ a. a.source) nat_cmp_total) (then_total (on_total (λ a. a.target) nat_cmp_total) (on_total (λ a. a.position) position_cmp_total)))

eq_is_tie : (a b : NarrowEdge) → eq a b ≡ is_eq (narrow_cmp a b)
eq_is_tie a b =
    matches_eq-law a b
    ∙ ap (λ o. is_eq (ordering_then (name_cmp a.name b.name) (ordering_then (nat_cmp a.source b.source) (ordering_then (nat_cmp a.target b.target) o)))) (cmp_is_position_cmp a.position b.position)

pub itself : (a : NarrowEdge) → eq a a ≡ true
itself a = eq_is_tie a a ∙ ap is_eq (tied_itself narrow_cmp_total a)

both_equal : (o p : Ordering) → ordering_then o p ≡ Equal → (o ≡ Equal) × (p ≡ Equal)
both_equal Less p h = absurd cc
both_equal Equal p h = (refl, h)
both_equal Greater p h = absurd cc

pub exact : (a b : NarrowEdge) → eq a b ≡ true → a ≡ b
exact a b same =
    let one = both_equal (name_cmp a.name b.name) _ (equal_from_test (narrow_cmp a b) (sym (eq_is_tie a b) ∙ same)) in
    let two = both_equal (nat_cmp a.source b.source) _ one.1 in
    let three = both_equal (nat_cmp a.target b.target) (position_cmp a.position b.position) two.1 in
    let name = name_cmp_exact a.name b.name one.0 in
    let source = exact_unsigned a.source b.source two.0 in
    let target = exact_unsigned a.target b.target three.0 in
    let position = position_cmp_exact a.position b.position three.1 in
    λ j. record { name = name j; source = source j; target = target j; position = position j }
