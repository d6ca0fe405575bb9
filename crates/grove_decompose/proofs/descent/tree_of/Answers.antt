use Rattle.std.proofs.Common.{rules, refl}
use Rattle.edit_table.specs.Lent.{lent_vertex}
use Rattle.grove_decompose.proofs.Listing.{started, last_taken, went_on, less_to_list, none_left}
use Rattle.grove_decompose.proofs.descent.tree_of.Goals as goal

pub loop-task-init : goal.loop-task-init
loop-task-init g c = record {
  listing = started (g.G.TreeSource.vertex_at c.args.graph.now) (g.G.TreeSource.edge_at c.args.graph.now) (g.G.TreeSource.IsSpot c.args.graph.now) (g.G.TreeSource.IsLink c.args.graph.now)
      (g.G.TreeSource.live c.args.graph.now) (lent_vertex c.args.root) c.args.spot.now _ _ c.requires.spot c.requires.root c.requires.outer (search rules) (search rules);
  noted = c.requires.noted;
}

pub take-requires : goal.take-requires
take-requires g c =
    let taken = last_taken (g.G.TreeSource.vertex_at c.args.graph.now) (g.G.TreeSource.edge_at c.args.graph.now) (g.G.TreeSource.IsSpot c.args.graph.now) (g.G.TreeSource.IsLink c.args.graph.now)
    (g.G.TreeSource.live c.args.graph.now) (lent_vertex c.args.root) c.loop-task.tree c.loop-task.room.tasks.items c.pop.new.self.items c.in-Some.task c.loop-task.invariant.listing c.in-Some.ensures.items in
    λ k. ((refl, tt), (c.requires.outer, (taken.sound, (taken.found, taken.rest_found))))

pub loop-task-smaller : goal.loop-task-smaller
loop-task-smaller g c =
    less_to_list (g.G.TreeSource.vertex_at c.args.graph.now) (g.G.TreeSource.edge_at c.args.graph.now) (g.G.TreeSource.IsSpot c.args.graph.now) (g.G.TreeSource.IsLink c.args.graph.now)
    (g.G.TreeSource.live c.args.graph.now) (lent_vertex c.args.root) c.loop-task.tree c.loop-task.room.tasks.items c.pop.new.self.items c.take.new.tasks.items c.in-Some.task c.loop-task.invariant.listing c.in-Some.ensures.items c.in_ok-met.ensures.tasks

pub loop-task-preserved : goal.loop-task-preserved
loop-task-preserved g c = record {
  listing = went_on (g.G.TreeSource.vertex_at c.args.graph.now) (g.G.TreeSource.edge_at c.args.graph.now) (g.G.TreeSource.IsSpot c.args.graph.now) (g.G.TreeSource.IsLink c.args.graph.now)
      (g.G.TreeSource.live c.args.graph.now) (lent_vertex c.args.root) c.loop-task.tree c.take.new.tree c.loop-task.room.tasks.items c.pop.new.self.items c.take.new.tasks.items c.in-Some.task c.loop-task.invariant.listing c.in-Some.ensures.items
      c.in_ok-met.ensures.nodes c.in_ok-met.ensures.tasks c.in_ok-met.ensures.found;
  noted = c.loop-task.invariant.noted;
}

pub loop-task-smaller-in-Some-met : goal.loop-task-smaller-in-Some-met
loop-task-smaller-in-Some-met g c =
    less_to_list (g.G.TreeSource.vertex_at c.args.graph.now) (g.G.TreeSource.edge_at c.args.graph.now) (g.G.TreeSource.IsSpot c.args.graph.now) (g.G.TreeSource.IsLink c.args.graph.now)
    (g.G.TreeSource.live c.args.graph.now) (lent_vertex c.args.root) c.loop-task.tree c.loop-task.room.tasks.items c.pop.new.self.items c.take.new.tasks.items c.in-Some.task c.loop-task.invariant.listing c.in-Some.ensures.items c.in_ok-met.ensures.tasks

pub loop-task-preserved-in-Some-met : goal.loop-task-preserved-in-Some-met
loop-task-preserved-in-Some-met g c = record {
  listing = went_on (g.G.TreeSource.vertex_at c.args.graph.now) (g.G.TreeSource.edge_at c.args.graph.now) (g.G.TreeSource.IsSpot c.args.graph.now) (g.G.TreeSource.IsLink c.args.graph.now)
      (g.G.TreeSource.live c.args.graph.now) (lent_vertex c.args.root) c.loop-task.tree c.take.new.tree c.loop-task.room.tasks.items c.pop.new.self.items c.take.new.tasks.items c.in-Some.task c.loop-task.invariant.listing c.in-Some.ensures.items
      c.in_ok-met.ensures.nodes c.in_ok-met.ensures.tasks c.in_ok-met.ensures.found;
  noted = c.note.ensures;
}

pub returns : goal.returns
returns g c = record {
  tree = none_left (g.G.TreeSource.vertex_at c.args.graph.now) (g.G.TreeSource.edge_at c.args.graph.now) (g.G.TreeSource.IsSpot c.args.graph.now) (g.G.TreeSource.IsLink c.args.graph.now)
      (g.G.TreeSource.live c.args.graph.now) (lent_vertex c.args.root) c.loop-task.tree c.loop-task.room.tasks.items c.requires.outer c.loop-task.invariant.listing (search rules);
  noted = c.loop-task.invariant.noted;
}
