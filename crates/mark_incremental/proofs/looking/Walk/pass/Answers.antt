-- A conflict gives nothing, and an only child what it is found to give.
use Rattle.std.proofs.Common.{List, Some, ap, subst}
use Rattle.std.specs.Prelude.{slice_get}
use Rattle.grove_edits.specs.declared.vertex.Vertex.{Vertex}
use Rattle.grove_edits.specs.declared.edge.Edge.{Edge}
use Rattle.live_graph.specs.Live.{live}
use Rattle.mark_incremental.specs.Looking.{on, IsFound}
use Rattle.mark_incremental.proofs.Opened.{passed_empty, passed_conflict, passed_only}
use Rattle.mark_incremental.proofs.Ticks.{some_left}
use Rattle.mark_incremental.proofs.looking.Walk.pass.Goals as goal

pub returns-in_default-clause-passed : goal.returns-in_default-clause-passed
returns-in_default-clause-passed g c = λ l opened records reads leaves.
    passed_empty (live c.args.self.now.graph.now) c.args.types.now c.args.ctxs.now l c.args.frame (opened records reads leaves) c.in_default.ensures.none

pub returns-then-frame-clause-passed : goal.returns-then-frame-clause-passed
returns-then-frame-clause-passed g c = λ l opened records reads leaves.
    passed_conflict (live c.args.self.now.graph.now) c.args.types.now c.args.ctxs.now l c.args.frame (opened records reads leaves) c.if-frame.true

pub returns-clause-passed : goal.returns-clause-passed
returns-clause-passed g c = λ l opened records reads leaves.
    passed_only (live c.args.self.now.graph.now) c.args.types.now c.args.ctxs.now l c.args.frame (opened records reads leaves) c.args.self.now.well_formed c.args.self.now.records.now
    (on c.args.self.now.whole c.args.self.now.passed.now) records reads leaves c.in-Some.edge c.in-Some.field-0-1 c.in-Some.ensures.both c.in_ok-given.given
    (subst (λ (v : Vertex). IsFound (live c.args.self.now.graph.now) c.args.types.now c.args.ctxs.now c.args.self.now.records.now (on c.args.self.now.whole c.args.self.now.passed.now) c.args.frame.demand v (Some c.in_ok-given.given)) c.target.ensures c.in_ok-given.ensures.found)
    c.accept.new.frame (c.accept.ensures.accepted (some_left c.args.frame.left c.in-Some.edge (ap (λ (es : List Edge). slice_get es 0) c.in-Some.ensures.both))) c.if-frame.false
