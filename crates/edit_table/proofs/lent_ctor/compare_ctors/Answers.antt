use Rattle.std.proofs.Common.{sym, ◌∙◌}
use Rattle.grove_sorts.specs.Ctor.{ctor_cmp}
use Rattle.grove_sorts.proofs.Orders.{cmp_is_ctor_cmp}
use Rattle.edit_table.specs.Lent.{lent_ctor}
use Rattle.edit_table.proofs.lent_ctor.compare_ctors.Goals as goal

pub returns-in-At-At : goal.returns-in-At-At
returns-in-At-At c =
    c.cmp.ensures ∙ cmp_is_ctor_cmp c.in-At-At.a.now c.in-At-At.b.now ∙ sym (λ j. ctor_cmp (lent_ctor (c.in-At-At.is-0 j)) (lent_ctor (c.in-At-At.is-1 j)))
