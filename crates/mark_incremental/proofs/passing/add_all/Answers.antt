-- One more vertex is in the set.
use Rattle.std.proofs.Common.{take, ap, ◌∙◌}
use Rattle.std.specs.Prelude.{◌||◌}
use Rattle.grove_edits.specs.declared.vertex.Vertex.{Vertex}
use Rattle.grove_edits.specs.Vertex.{is_same_vertex, stands_in}
use Rattle.mark_store.specs.Places.{holds}
use Rattle.mark_incremental.proofs.Lists.{stands_more}
use Rattle.mark_incremental.proofs.passing.add_all.Goals as goal

pub loop-vertex-preserved : goal.loop-vertex-preserved
loop-vertex-preserved c = record {
  added = λ v.
      c.in_ok-add.ensures.added v ∙ ap (λ b. is_same_vertex c.vertex-item.result v || b) (c.loop-vertex.invariant.added v)
      ∙ ap (λ (x : Vertex). is_same_vertex x v || (stands_in v (take c.loop-vertex.vertex-index c.args.vertices.now) || holds c.args.passed.now.set v)) c.vertex-item.is
      ∙ stands_more v c.args.vertices.now c.loop-vertex.vertex-index c.vertex-item.result (holds c.args.passed.now.set v) c.loop-vertex-test.true;
  these = c.in_ok-add.ensures.these;
}
