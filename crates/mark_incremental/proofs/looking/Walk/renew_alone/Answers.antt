-- Nothing is made for a vertex in the tree of another, for one that is left as it is, or where the other walk begins.
use Rattle.std.proofs.Common.{sym, ap, ◌∙◌, arith, refl}
use Rattle.grove_edits.proofs.Vertices.{same_vertex_exact}
use Rattle.live_graph.specs.Live.{live}
use Rattle.mark_incremental.specs.Looking.{on}
use Rattle.mark_incremental.specs.Walking.{meant, ReadsAs}
use Rattle.mark_incremental.specs.ShortWalks.{IsAlone, inner, begins, left}
use Rattle.mark_incremental.proofs.Growth.{reads_as-kept}
use Rattle.mark_incremental.proofs.Found.{is_inner-class, not_inner-class}
use Rattle.mark_incremental.proofs.ShortWalks.{nothing_paid, alone_paid, alone_made, other_vertex}
use Rattle.mark_incremental.proofs.looking.Walk.renew_alone.Goals as goal

pub returns-then-is_same_vertex-clause-alone : goal.returns-then-is_same_vertex-clause-alone
returns-then-is_same_vertex-clause-alone g c = λ records reads leaves.
    begins (same_vertex_exact c.args.target.now c.args.start.now (sym c.is_same_vertex.ensures ∙ c.if-is_same_vertex.true)) (ap (meant c.args.types.now c.args.ctxs.now) c.new-made.ensures.items)

pub returns-then-is_same_vertex-clause-paid : goal.returns-then-is_same_vertex-clause-paid
returns-then-is_same_vertex-clause-paid g c = λ records reads leaves.
    nothing_paid (live c.args.self.now.graph.now) (on c.args.self.now.whole c.args.self.now.passed.now) records c.args.target.now c.args.start.now
    (begins (same_vertex_exact c.args.target.now c.args.start.now (sym c.is_same_vertex.ensures ∙ c.if-is_same_vertex.true)) refl) c.args.steps.now c.args.steps.now (omega arith)

pub returns-then-is_inner-clause-alone : goal.returns-then-is_inner-clause-alone
returns-then-is_inner-clause-alone g c = λ records reads leaves.
    inner (is_inner-class (live c.args.self.now.graph.now) c.args.target.now (sym c.is_inner.ensures.inner ∙ c.if-is_inner.true)) (ap (meant c.args.types.now c.args.ctxs.now) c.new-made.ensures.items)

pub returns-then-is_inner-clause-paid : goal.returns-then-is_inner-clause-paid
returns-then-is_inner-clause-paid g c = λ records reads leaves.
    nothing_paid (live c.args.self.now.graph.now) (on c.args.self.now.whole c.args.self.now.passed.now) records c.args.target.now c.args.start.now
    (inner (is_inner-class (live c.args.self.now.graph.now) c.args.target.now (sym c.is_inner.ensures.inner ∙ c.if-is_inner.true)) refl) c.args.steps.now c.is_inner.new.steps c.is_inner.ensures.ticks

pub returns-then-is_left-clause-alone : goal.returns-then-is_left-clause-alone
returns-then-is_left-clause-alone g c = λ records reads leaves.
    left (c.is_left.ensures.left c.if-is_left.true records reads) (ap (meant c.args.types.now c.args.ctxs.now) c.new-made.ensures.items)

pub returns-then-is_left-clause-paid : goal.returns-then-is_left-clause-paid
returns-then-is_left-clause-paid g c = λ records reads leaves.
    nothing_paid (live c.args.self.now.graph.now) (on c.args.self.now.whole c.args.self.now.passed.now) records c.args.target.now c.args.start.now (left (c.is_left.ensures.left c.if-is_left.true records reads) refl) c.args.steps.now
    c.is_inner.new.steps c.is_inner.ensures.ticks

pub returns-in_err-renew_tree-clause-paid : goal.returns-in_err-renew_tree-clause-paid
returns-in_err-renew_tree-clause-paid g c = λ records reads leaves.
    let is : IsAlone (live c.args.self.now.graph.now) (on c.args.self.now.whole c.args.self.now.passed.now) records c.args.target.now c.args.start.now = record {
      outer = not_inner-class (live c.args.self.now.graph.now) c.args.target.now (sym c.is_inner.ensures.inner ∙ c.if-is_inner.false);
      other = other_vertex c.args.target.now c.args.start.now (sym c.is_same_vertex.ensures ∙ c.if-is_same_vertex.false);
      not_left = c.is_left.ensures.judged c.if-is_left.false records reads;
    } in
    alone_paid (live c.args.self.now.graph.now) (on c.args.self.now.whole c.args.self.now.passed.now) records c.args.target.now c.args.start.now is c.args.steps.now c.is_inner.new.steps c.renew_tree.new.steps c.is_inner.ensures.ticks
    (c.renew_tree.ensures.paid records reads (leaves is))

pub returns-clause-alone : goal.returns-clause-alone
returns-clause-alone g c = λ records reads leaves.
    let was : ReadsAs c.args.types.now c.args.ctxs.now c.args.self.now.records.now records =
    reads_as-kept c.args.types.now c.renew_tree.new.types c.args.ctxs.now c.renew_tree.new.ctxs c.in_ok-renew_tree.ensures.types c.in_ok-renew_tree.ensures.contexts c.args.self.now.records.now records c.requires.records reads in
    let is : IsAlone (live c.args.self.now.graph.now) (on c.args.self.now.whole c.args.self.now.passed.now) records c.args.target.now c.args.start.now = record {
      outer = not_inner-class (live c.args.self.now.graph.now) c.args.target.now (sym c.is_inner.ensures.inner ∙ c.if-is_inner.false);
      other = other_vertex c.args.target.now c.args.start.now (sym c.is_same_vertex.ensures ∙ c.if-is_same_vertex.false);
      not_left = c.is_left.ensures.judged c.if-is_left.false records was;
    } in
    alone_made (live c.args.self.now.graph.now) (on c.args.self.now.whole c.args.self.now.passed.now) records c.args.target.now c.args.start.now is (meant c.renew_tree.new.types c.renew_tree.new.ctxs c.new-made.result.items)
    (meant c.renew_tree.new.types c.renew_tree.new.ctxs c.renew_tree.new.made.items)
    (ap (meant c.renew_tree.new.types c.renew_tree.new.ctxs) c.new-made.ensures.items) (c.in_ok-renew_tree.ensures.tree records reads (leaves is))

pub returns-clause-paid : goal.returns-clause-paid
returns-clause-paid g c = λ records reads leaves.
    let is : IsAlone (live c.args.self.now.graph.now) (on c.args.self.now.whole c.args.self.now.passed.now) records c.args.target.now c.args.start.now = record {
      outer = not_inner-class (live c.args.self.now.graph.now) c.args.target.now (sym c.is_inner.ensures.inner ∙ c.if-is_inner.false);
      other = other_vertex c.args.target.now c.args.start.now (sym c.is_same_vertex.ensures ∙ c.if-is_same_vertex.false);
      not_left = c.is_left.ensures.judged c.if-is_left.false records reads;
    } in
    alone_paid (live c.args.self.now.graph.now) (on c.args.self.now.whole c.args.self.now.passed.now) records c.args.target.now c.args.start.now is c.args.steps.now c.is_inner.new.steps c.renew_tree.new.steps c.is_inner.ensures.ticks
    (c.renew_tree.ensures.paid records reads (leaves is))
