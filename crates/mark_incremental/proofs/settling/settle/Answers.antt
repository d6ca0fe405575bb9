-- The record has what marking adds to the vertex, and the scope that is demanded of an expression.
use Rattle.judging.proofs.Kept.{contexts-itself, scope_kept}
use Rattle.mark_incremental.proofs.Begins.{settled_is}
use Rattle.mark_incremental.proofs.settling.settle.Goals as goal

pub returns-clause-settled : goal.returns-clause-settled
returns-clause-settled c = record {
  kept = record { ctx = c.kept_context.result; mode = c.in_ok-closed.closed.mode; typ = c.in_ok-closed.closed.typ; mark = c.in_ok-closed.closed.mark };
  behind = c.in_ok-push.ensures.items;
  is =
      settled_is c.args.types.now c.close.new.types c.args.ctxs.now c.in_ok-closed.ensures.kept c.args.frame.now.state c.requires.state c.in_ok-closed.closed c.kept_context.result
      (c.kept_context.ensures.scope c.close.new.types) c.in_ok-closed.ensures.added;
  numbers = record {
    ctx =
        c.kept_context.ensures.number c.close.new.types
        (scope_kept c.args.types.now c.close.new.types c.args.ctxs.now c.args.ctxs.now c.in_ok-closed.ensures.kept (contexts-itself c.args.ctxs.now) c.args.frame.now.state.demand.ctx c.requires.state.demand.ctx);
    mode = c.in_ok-closed.ensures.numbers.mode;
    typ = c.in_ok-closed.ensures.numbers.typ;
  };
}
