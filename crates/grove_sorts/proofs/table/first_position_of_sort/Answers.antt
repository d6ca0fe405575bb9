use Rattle.std.proofs.Common.{◌≡◌, ◌≢◌, ◌≤◌, Some, IfSome, IfNone, subst, sym, ap, ◌∙◌}
use Rattle.grove_sorts.specs.Ctor.{sort_at, first_in, first_position}
use Rattle.grove_sorts.specs.Position.{position_number}
use Rattle.grove_sorts.specs.declared.position.Position.{Position}
use Rattle.grove_sorts.proofs.Rows.{first_position_found, first_position_first, first_position_none}
use Rattle.grove_sorts.proofs.table.first_position_of_sort.Goals as goal

answered : (c : goal.After-first_in) → c.first_in.result ≡ first_position c.args.ctor.now c.args.sort
answered c = c.first_in.ensures ∙ ap (λ entries. first_in entries c.args.sort) c.positions.ensures

pub returns-clause-found : goal.returns-clause-found
returns-clause-found c =
    subst (λ answer. IfSome answer (λ position. sort_at c.args.ctor.now position ≡ Some c.args.sort)) (sym (answered c)) (first_position_found c.args.ctor.now c.args.sort)

pub returns-clause-first : goal.returns-clause-first
returns-clause-first c =
    subst (λ answer. IfSome answer (λ position. (other : Position) → sort_at c.args.ctor.now other ≡ Some c.args.sort → position_number position ≤ position_number other)) (sym (answered c)) (first_position_first c.args.ctor.now c.args.sort)

pub returns-clause-none : goal.returns-clause-none
returns-clause-none c =
    subst (λ answer. IfNone answer ((position : Position) → sort_at c.args.ctor.now position ≢ Some c.args.sort)) (sym (answered c)) (first_position_none c.args.ctor.now c.args.sort)
