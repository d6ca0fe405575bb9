use Rattle.std.proofs.Common.{ap, ◌∙◌, arith}
use Rattle.std.specs.Option.{option_map}
use Rattle.mark_step.specs.Scope.{bind, scope_at}
use Rattle.mark_step.proofs.Positions.{if_ok_then, left_scope, right_scope}
use Rattle.mark_step.proofs.children.context_in_case.Goals as goal

pub returns-then-index-lt3-clause-scope : goal.returns-then-index-lt3-clause-scope
returns-then-index-lt3-clause-scope c =
    let scope = scope_at c.args.types.now c.args.ctxs.now c.args.node.now.ctx in
    if_ok_then c.bind.result _ _ _ c.bind.ensures.scope
    (ap (λ t. bind (option_map (λ n. n.now) c.args.node.now.binder.name) t scope) c.sum_or_unknown.ensures.left
    ∙ left_scope c.args.types.now c.args.node.now c.args.index scope c.child_type.result c.requires.ctor (omega (arith, c.if-index-eq0.false)) (omega (arith, c.if-index-lt3.true)) c.child_type.ensures)

pub returns-clause-scope : goal.returns-clause-scope
returns-clause-scope c =
    let scope = scope_at c.args.types.now c.args.ctxs.now c.args.node.now.ctx in
    if_ok_then c.bind-2.result _ _ _ c.bind-2.ensures.scope
    (ap (λ t. bind (option_map (λ n. n.now) c.args.node.now.second.name) t scope) c.sum_or_unknown.ensures.right
    ∙ right_scope c.args.types.now c.args.node.now c.args.index scope c.child_type.result c.requires.ctor (omega (arith, c.if-index-lt3.false)) c.child_type.ensures)
