use Rattle.std.proofs.Common.{Vec, Global, ap, sym, subst, ◌∙◌, arith}
use Rattle.grove_edits.specs.declared.vertex.Vertex.{Vertex}
use Rattle.live_graph.proofs.Ends.{HasEndsSoFar, ends_more, ends_skipped}
use Rattle.live_graph.proofs.whole.ends_of.Goals as goal
use Rattle.live_graph.proofs.whole.ends_of.Goals.{then-is_present+in_ok-push_ends, else-is_present}

pub loop-number-preserved : goal.loop-number-preserved
loop-number-preserved c = elim c.if-is_present.branch [
  | then-is_present+in_ok-push_ends w ↦
      ends_more c.args.edges.now.entries c.loop-number.number (omega (arith, c.loop-number-test.true, c.edge_count-number-end.ensures.count)) c.state_at.result c.state_at.ensures
      c.loop-number.vertices.items c.if-is_present.vertices.items (sym c.is_present.ensures ∙ w.if-is_present.true) (ap (λ (vs : Vec Vertex Global). vs.items) w.vertices-is ∙ w.in_ok-push_ends.ensures) c.loop-number.invariant
  | else-is_present w ↦
      ends_skipped c.args.edges.now.entries c.loop-number.number (omega (arith, c.loop-number-test.true, c.edge_count-number-end.ensures.count)) c.state_at.result c.state_at.ensures
      c.if-is_present.vertices.items (sym c.is_present.ensures ∙ w.if-is_present.false) (subst (λ (vs : Vec Vertex Global). HasEndsSoFar c.args.edges.now.entries c.loop-number.number vs.items) (sym w.vertices-is) c.loop-number.invariant)
]
