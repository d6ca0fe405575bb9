use Rattle.std.proofs.Common.{◌≡◌, IfSome, IfNone, Contains, subst, sym, ap, ◌∙◌}
use Rattle.grove_sorts.specs.Ctor.{positions, sort_in, sort_at}
use Rattle.grove_sorts.specs.declared.sort.Sort.{Sort}
use Rattle.grove_sorts.proofs.Rows.{sort_at_found, sort_at_none}
use Rattle.grove_sorts.proofs.table.position_sort.Goals as goal

answered : (c : goal.After-sort_in) → c.sort_in.result ≡ sort_at c.args.ctor.now c.args.position
answered c = c.sort_in.ensures ∙ ap (λ entries. sort_in entries c.args.position) c.positions.ensures

pub returns-clause-found : goal.returns-clause-found
returns-clause-found c =
    subst (λ answer. IfSome answer (λ sort. Contains (positions c.args.ctor.now) (c.args.position, sort))) (sym (answered c)) (sort_at_found c.args.ctor.now c.args.position)

pub returns-clause-none : goal.returns-clause-none
returns-clause-none c =
    subst (λ answer. IfNone answer ((sort : Sort) → ¬ Contains (positions c.args.ctor.now) (c.args.position, sort))) (sym (answered c)) (sort_at_none c.args.ctor.now c.args.position)
