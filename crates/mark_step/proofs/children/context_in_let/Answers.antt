use Rattle.std.proofs.Common.{arith}
use Rattle.mark_step.specs.Scope.{scope_at}
use Rattle.mark_step.proofs.Positions.{if_ok_then, body_scope}
use Rattle.mark_step.proofs.children.context_in_let.Goals as goal

pub returns-clause-scope : goal.returns-clause-scope
returns-clause-scope c =
    let scope = scope_at c.args.types.now c.args.ctxs.now c.args.node.now.ctx in
    if_ok_then c.bind.result _ _ _ c.bind.ensures.scope
    (body_scope c.args.types.now c.args.node.now c.args.index scope c.child_type.result c.requires.ctor (omega (arith, c.if-index-lt2.false)) c.child_type.ensures)
