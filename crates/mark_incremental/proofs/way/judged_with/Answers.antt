-- Both ends are in the set, and one more vertex each time.
use Rattle.std.proofs.Common.{◌≤◌, List, length, take, ap, ◌∙◌, arith}
use Rattle.std.specs.Prelude.{◌||◌}
use Rattle.grove_edits.specs.declared.vertex.Vertex.{Vertex}
use Rattle.grove_edits.specs.Vertex.{is_same_vertex, stands_in}
use Rattle.mark_incremental.proofs.Lists.{stands_more}
use Rattle.mark_incremental.proofs.Trees.{all_taken}
use Rattle.grove_sorts.proofs.Truths.{or_false}
use Rattle.mark_incremental.proofs.way.judged_with.Goals as goal

pub loop-vertex-init : goal.loop-vertex-init
loop-vertex-init c = λ v.
    c.in_ok-enter-2.ensures v
    ∙ ap (λ b. is_same_vertex c.args.further.now v || b)
    (c.in_ok-enter.ensures v ∙ ap (λ b. is_same_vertex c.args.start.now v || b) (c.with_seed-set.ensures.empty v)
    ∙ or_false (is_same_vertex c.args.start.now v))

pub loop-vertex-preserved : goal.loop-vertex-preserved
loop-vertex-preserved c = λ v.
    c.in_ok-enter-3.ensures v ∙ ap (λ b. is_same_vertex c.vertex-item.result v || b) (c.loop-vertex.invariant v)
    ∙ ap (λ (x : Vertex). is_same_vertex x v || (stands_in v (take c.loop-vertex.vertex-index c.args.way.now) || (is_same_vertex c.args.further.now v || is_same_vertex c.args.start.now v))) c.vertex-item.is
    ∙ stands_more v c.args.way.now c.loop-vertex.vertex-index c.vertex-item.result (is_same_vertex c.args.further.now v || is_same_vertex c.args.start.now v) c.loop-vertex-test.true

pub returns : goal.returns
returns c = λ v.
    let past : length c.args.way.now ≤ c.loop-vertex.vertex-index = omega arith in
    c.loop-vertex.invariant v ∙ ap (λ (vs : List Vertex). stands_in v vs || (is_same_vertex c.args.further.now v || is_same_vertex c.args.start.now v)) (all_taken c.args.way.now c.loop-vertex.vertex-index past)
