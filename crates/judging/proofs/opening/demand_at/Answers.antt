use Rattle.std.proofs.Common.{◌≡◌, true, Option, None, Some, refl, ap, sym, ◌∙◌}
use Rattle.std.specs.Prelude.{unwrap_or}
use Rattle.std.specs.Option.{option_eq}
use Rattle.grove_sorts.specs.declared.sort.Sort.{Sort}
use Rattle.grove_sorts.specs.declared.sort.Sort.TheVariants.{Top, Exp, Pat, Typ as TypeSort}
use Rattle.grove_sorts.specs.contracts.sort.SortPartialEq.TheImpl as sort_eq
use Rattle.mark_step.specs.Step.{demand}
use Rattle.mark_step.specs.Node.{types_before}
use Rattle.judging.specs.Machine.{expression_of, demanded_by}
use Rattle.judging.specs.Frames.{opened_at}
use Rattle.judging.proofs.Views.{expression_is, before_is, node_is}
use Rattle.judging.proofs.opening.demand_at.Goals as goal

-- the test finds the sort of expressions
exp_found : (o : Option Sort) → true ≡ option_eq sort_eq.eq-value.it o (Some Exp) → o ≡ Some Exp
exp_found None e = absurd cc
exp_found (Some Exp) e = refl
exp_found (Some Top) e = absurd cc
exp_found (Some Pat) e = absurd cc
exp_found (Some TypeSort) e = absurd cc

pub child_demand-requires-clause-numbers : goal.child_demand-requires-clause-numbers
child_demand-requires-clause-numbers c = node_is c.args.types.now c.args.ctxs.now c.args.vertex.now c.view-view.result c.requires.vertex c.view-view.ensures

pub returns-then-eq-2-clause-demand : goal.returns-then-eq-2-clause-demand
returns-then-eq-2-clause-demand c =
    let types = c.args.types.now in
    let ctxs = c.args.ctxs.now in
    let vertex = c.args.vertex.now in
    let view = c.view-view.result in
    let open_here = c.requires.vertex in
    let v = opened_at types ctxs vertex in
    c.in_ok-child_demand.ensures.demand
    ∙ ap (λ e. demand e (types_before types view vertex.next)) (expression_is types ctxs vertex view open_here c.view-view.ensures)
    ∙ ap (demand (expression_of v)) (before_is types ctxs vertex view open_here c.view-view.ensures)
    ∙ sym (ap (λ s. demanded_by v (unwrap_or s Top)) (sym c.sort_at_place.ensures ∙ exp_found c.sort_at_place.result c.if-eq-2.ensures))
