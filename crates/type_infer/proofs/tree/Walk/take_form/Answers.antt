use Rattle.std.proofs.Common.{ℕ, ◌<◌, Option, IfSome, sym, subst}
use Rattle.std.proofs.lemmas.Result.{on_ok_weaker}
use Rattle.grove_sorts.specs.Ctor.{positions}
use Rattle.type_infer.specs.Rows.{place_list}
use Rattle.type_infer.specs.Walking.{at_position}
use Rattle.type_infer.proofs.Agreeing.{row_stands}
use Rattle.type_infer.proofs.Within.{binder_within, form_within, pushed_within}
use Rattle.type_infer.proofs.tree.Walk.take_form.Goals as goal

pub push_row-requires-clause-bound : goal.push_row-requires-clause-bound
push_row-requires-clause-bound c =
    subst (λ (found : Option ℕ). IfSome found (λ b. b < c.args.self.now.list.variables)) (sym c.binder_of.ensures)
    (binder_within c.args.self.now.list.variables c.args.self.now.scope c.args.ctor.now c.requires.within.names)

pub returns-clause-within : goal.returns-clause-within
returns-clause-within c =
    let variables = c.args.self.now.list.variables in
    let at = c.args.at in
    on_ok_weaker c.push_form.result
    (λ pushed. record {
      list = c.in_ok-push_row.ensures.variables;
      places = pushed_within variables c.args.self.now.places.items c.push_form.new.places.items _
          (pushed (at_position (positions c.args.ctor.now) (place_list at)) (row_stands c.args.ctor.now at.first at.second at.third at.fourth at.fifth))
          (form_within variables c.args.ctor.now at c.args.x c.requires.line c.requires.places) c.requires.within.places;
      names = c.requires.within.names;
    }) c.push_form.ensures
