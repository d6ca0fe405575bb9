use Rattle.mark_step.specs.Node.{demanded_at}
use Rattle.plain_typing.proofs.Steps.{stands_fresh}
use Rattle.plain_typing.proofs.walking.begin_vertex.Goals as goal

pub returns-clause-state : goal.returns-clause-state
returns-clause-state c =
    stands_fresh c.args.types.now c.go_on.new.types c.args.ctxs.now c.fresh-begun.result c.args.ctor.now (demanded_at c.args.types.now c.args.ctxs.now c.args.demand) c.args.walk.now c.go_on.new.walk c.go_on.result
    (c.fresh-begun.ensures.opened c.args.ctxs.now) c.fresh-begun.ensures.left c.go_on.ensures.state
