use Rattle.std.proofs.Common.{◌≡◌, refl, sym}
use Rattle.grove_terms.specs.declared.node.What.TheVariants as whats
use Rattle.edit_table.specs.Lent.{lent_vertex}
use Rattle.grove_terms.specs.Lent.{node_of}
use Rattle.mark_step.specs.declared.node.Demand.{Demand}
use Rattle.mark_step.specs.declared.node.Mode.TheVariants.{Syn}
use Rattle.mark_step.specs.Node.{demanded_at}
use Rattle.judging.proofs.Kept.{types-itself}
use Rattle.judging.proofs.Frames.{framed}
use Rattle.plain_typing.proofs.Steps.{stands_begun_with, stands_conflict, leaf_of, stands_leaf}
use Rattle.plain_typing.proofs.walking.begin.Goals as goal

pub returns-in-Vertex-clause-state : goal.returns-in-Vertex-clause-state
returns-in-Vertex-clause-state c =
    let is : (node_of c.args.node.now).what ≡ whats.Vertex (lent_vertex c.in-Vertex.vertex) = sym c.in-Vertex.ensures in
    stands_begun_with c.args.types.now c.begin_lent.new.types c.args.ctxs.now (lent_vertex c.in-Vertex.vertex) (node_of c.args.node.now) (node_of c.args.node.now).what
    (demanded_at c.args.types.now c.args.ctxs.now c.args.demand) c.args.walk.now c.begin_lent.new.walk c.begin_lent.result is c.begin_lent.ensures.state

pub returns-in_ok-push-in-Conflict-clause-state : goal.returns-in_ok-push-in-Conflict-clause-state
returns-in_ok-push-in-Conflict-clause-state c = λ s stands.
    let is : (node_of c.args.node.now).what ≡ whats.Conflict c.in-Conflict.field-0 c.in-Conflict.count = sym c.in-Conflict.ensures in
    let each : Demand = record { ctx = c.args.demand.ctx; mode = Syn } in
    stands_conflict c.args.types.now c.args.ctxs.now each c.in-Conflict.count c.in-Conflict.field-0 (node_of c.args.node.now) (node_of c.args.node.now).what (demanded_at c.args.types.now c.args.ctxs.now c.args.demand) c.args.walk.now
    (record { frames = c.push.new.self; has_mark = c.args.walk.now.has_mark }) is refl c.in_ok-push-in-Conflict.ensures.items refl s stands

pub returns-in_ok-push-in-Conflict-clause-frames : goal.returns-in_ok-push-in-Conflict-clause-frames
returns-in_ok-push-in-Conflict-clause-frames c =
    let each : Demand = record { ctx = c.args.demand.ctx; mode = Syn } in
    framed c.args.types.now c.args.ctxs.now c.args.walk.now.frames.items c.push.new.self.items _ c.requires.frames (record { ctx = c.requires.demand.ctx; mode = tt })
    c.in_ok-push-in-Conflict.ensures.items

pub returns-in-Hole : goal.returns-in-Hole
returns-in-Hole c = record {
  state = λ s stands.
      stands_leaf c.args.types.now c.args.ctxs.now c.nothing.result c.args.walk.now (node_of c.args.node.now) (node_of c.args.node.now).what (demanded_at c.args.types.now c.args.ctxs.now c.args.demand)
      c.nothing.ensures.given (leaf_of c.what.result _ c.what.ensures c.in-Hole.is) s stands;
  given = c.nothing.ensures.number;
  frames = c.requires.frames;
  kept = types-itself c.args.types.now;
}
