use Rattle.std.proofs.Common.{◌≡◌, List, Some, ap, ◌∙◌}
use Rattle.type_core.specs.Typ.{Typ}
use Rattle.mark_step.specs.declared.node.Mode.{Mode}
use Rattle.mark_step.specs.declared.node.Settled.{Settled}
use Rattle.mark_step.specs.Step.{settled}
use Rattle.mark_step.specs.Node.{wanted_at, marked_at, types_done}
use Rattle.judging.specs.declared.frame.Closed.{Closed}
use Rattle.judging.specs.Machine.{expression_added, expression_of}
use Rattle.judging.specs.Frames.{opened_at, added_at}
use Rattle.judging.proofs.Kept.{wanted_kept}
use Rattle.judging.proofs.Views.{expression_is, done_is, node_is}
use Rattle.judging.proofs.closing.close_expression.Goals as goal

added_at-expression : (types : List Typ) (closed : Closed) (mode : Mode) (s : Settled)
    → closed.mode ≡ Some mode → closed.typ ≡ Some s.typ → closed.mark ≡ s.mark → added_at types closed ≡ expression_added (wanted_at types mode) (marked_at types s)
added_at-expression types closed mode s m t k = cc

pub settle-requires-clause-numbers : goal.settle-requires-clause-numbers
settle-requires-clause-numbers c = node_is c.args.types.now c.args.ctxs.now c.args.vertex.now c.view-view.result c.requires.vertex c.view-view.ensures

pub returns-clause-added : goal.returns-clause-added
returns-clause-added c =
    let old = c.args.types.now in
    let ctxs = c.args.ctxs.now in
    let vertex = c.args.vertex.now in
    let view = c.view-view.result in
    let open_here = c.requires.vertex in
    let whole = expression_of (opened_at old ctxs vertex) in
    let made = c.expression.ensures in
    added_at-expression c.settle.new.types c.expression.result vertex.demand.mode c.in_ok-settled.settled made.mode made.typ made.mark
    ∙ ap (λ w. expression_added w (marked_at c.settle.new.types c.in_ok-settled.settled))
    (wanted_kept old c.settle.new.types c.in_ok-settled.ensures.types vertex.demand.mode open_here.demand.mode)
    ∙ ap (expression_added (wanted_at old vertex.demand.mode))
    (c.in_ok-settled.ensures.settled ∙ ap (λ e. settled e (types_done old view)) (expression_is old ctxs vertex view open_here c.view-view.ensures)
    ∙ ap (settled whole) (done_is old ctxs vertex view open_here c.view-view.ensures c.requires.whole))
