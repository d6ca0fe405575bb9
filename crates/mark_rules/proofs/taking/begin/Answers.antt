use Rattle.std.proofs.Common.{◌≡◌, ◌++◌, ◌∷◌, [], refl, sym, ap, ◌∙◌, arith}
use Rattle.std.proofs.lemmas.Grind.{common_steps}
use Rattle.grove_terms.specs.declared.node.What.TheVariants as whats
use Rattle.edit_table.specs.Lent.{lent_vertex}
use Rattle.grove_terms.specs.Lent.{node_of}
use Rattle.mark_step.specs.declared.node.Demand.{Demand}
use Rattle.mark_step.specs.declared.node.Mode.TheVariants.{Syn}
use Rattle.mark_step.specs.Node.{demanded_at}
use Rattle.judging.specs.declared.frame.Frame.TheVariants.{Several}
use Rattle.judging.specs.Frames.{frames_at}
use Rattle.judging.proofs.Frames.{placed}
use Rattle.marking.specs.Added.{marked_nodes}
use Rattle.marking.specs.Reading.{meant_nodes}
use Rattle.mark_rules.specs.Walking.{given_on}
use Rattle.mark_rules.proofs.Walks.{if_ok_next, one_more_added, begins_vertex, begins_conflict}
use Rattle.mark_rules.proofs.taking.begin.Goals as goal

pub open_lent-requires-clause-walk : goal.open_lent-requires-clause-walk
open_lent-requires-clause-walk c = record {
  frames = c.requires.walk.frames;
  added = one_more_added c.args.types.now c.args.walk.now.added.items c.list.new.added.items c.unsettled.result c.requires.walk.added (c.unsettled.ensures.numbers c.args.types.now) c.in_ok-list-in-Vertex.ensures;
}

pub returns-in_ok-list-in-Vertex-clause-state : goal.returns-in_ok-list-in-Vertex-clause-state
returns-in_ok-list-in-Vertex-clause-state c =
    let is : (node_of c.args.node.now).what ≡ whats.Vertex (lent_vertex c.in-Vertex.vertex) = sym c.in-Vertex.ensures in
    if_ok_next c.open_lent.result (λ nodes g. given_on c.open_lent.new.types c.args.ctxs.now nodes g c.open_lent.new.walk) _ _ c.open_lent.ensures.state
    (λ nodes next.
    begins_vertex c.args.types.now c.len-place.result (lent_vertex c.in-Vertex.vertex) c.args.node.now (node_of c.args.node.now).what (demanded_at c.args.types.now c.args.ctxs.now c.args.demand)
    (frames_at c.args.types.now c.args.ctxs.now c.args.walk.now.frames.items) nodes c.args.walk.now.added.items c.list.new.added.items c.unsettled.result
    next (grind (arith, common_steps)) is (c.unsettled.ensures.node c.args.types.now c.args.node.now) c.in_ok-list-in-Vertex.ensures)

pub returns-in_ok-reserve-in-Conflict-clause-state : goal.returns-in_ok-reserve-in-Conflict-clause-state
returns-in_ok-reserve-in-Conflict-clause-state c = λ nodes next.
    let is : (node_of c.args.node.now).what ≡ whats.Conflict c.in-Conflict.sort c.in-Conflict.count = sym c.in-Conflict.ensures in
    let each : Demand = record { ctx = c.args.demand.ctx; mode = Syn } in
    begins_conflict c.args.types.now c.args.ctxs.now c.len-place.result each c.in-Conflict.count c.in-Conflict.sort (node_of c.args.node.now) (node_of c.args.node.now).what (demanded_at c.args.types.now c.args.ctxs.now c.args.demand)
    c.args.walk.now.frames.items c.push_reserved.new.self.items (meant_nodes c.args.types.now (marked_nodes nodes c.args.walk.now.added.items)) (meant_nodes c.args.types.now (marked_nodes nodes c.list_plain-in-Conflict.new.added.items))
    is refl (c.push_reserved.ensures.items ∙ ap (λ fs. fs ++ (c.len-place.result, Several each c.in-Conflict.count) ∷ []) c.in_ok-reserve-in-Conflict.ensures.items) (c.in_ok-list_plain-in-Conflict.ensures.listed nodes c.args.node.now next)

pub returns-in_ok-reserve-in-Conflict-clause-walk : goal.returns-in_ok-reserve-in-Conflict-clause-walk
returns-in_ok-reserve-in-Conflict-clause-walk c =
    let each : Demand = record { ctx = c.args.demand.ctx; mode = Syn } in
    record {
      frames = placed c.args.types.now c.args.ctxs.now c.args.walk.now.frames.items c.push_reserved.new.self.items c.len-place.result (Several each c.in-Conflict.count) c.requires.walk.frames
          (record { ctx = c.requires.demand.ctx; mode = tt }) (c.push_reserved.ensures.items ∙ ap (λ fs. fs ++ (c.len-place.result, Several each c.in-Conflict.count) ∷ []) c.in_ok-reserve-in-Conflict.ensures.items);
      added = c.in_ok-list_plain-in-Conflict.ensures.numbers;
    }
