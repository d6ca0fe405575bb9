use Rattle.std.proofs.Common.{subst, sym, ◌∙◌}
use Rattle.graph_words.proofs.Around.{IsAround, around_first, around_next, root_from_around, above_from_around, around_ends}
use Rattle.unicycle_roots.proofs.cycle.root_of_cycle.Goals as goal

pub loop-above-init : goal.loop-above-init
loop-above-init g c = around_first (g.P.ParentOf.live c.args.parents.now) c.args.entry.now c.args.steps.now

pub returns-then-is_same_vertex-clause-root : goal.returns-then-is_same_vertex-clause-root
returns-then-is_same_vertex-clause-root g c =
    root_from_around (g.P.ParentOf.live c.args.parents.now) c.args.entry.now c.loop-above.at c.loop-above.least c.in-Some.above c.args.steps.now c.loop-above.steps
    c.requires c.loop-above.invariant (sym c.in-Some.ensures.above) (sym c.is_same_vertex.ensures ∙ c.if-is_same_vertex.true)

pub returns-then-is_same_vertex-clause-above : goal.returns-then-is_same_vertex-clause-above
returns-then-is_same_vertex-clause-above g c =
    above_from_around (g.P.ParentOf.live c.args.parents.now) c.args.entry.now c.loop-above.at c.loop-above.least c.args.steps.now c.loop-above.steps c.loop-above.invariant

pub loop-above-preserved : goal.loop-above-preserved
loop-above-preserved g c =
    let live = g.P.ParentOf.live c.args.parents.now in
    let v = c.args.entry.now in
    let then = c.vertex_above.new.steps in
    let start = c.args.steps.now in
    let next = around_next live v c.loop-above.at c.loop-above.least c.in-Some.above start c.loop-above.steps then
    c.requires c.loop-above.invariant (sym c.in-Some.ensures.above) (sym c.is_same_vertex.ensures ∙ c.if-is_same_vertex.false)
    c.in-Some.ensures.ticks_where_above in
    subst (λ least. IsAround live v c.in-Some.above least start then) (sym c.lesser-least.ensures) next

pub returns-clause-root : goal.returns-clause-root
returns-clause-root g c =
    absurd (around_ends (g.P.ParentOf.live c.args.parents.now) c.args.entry.now c.loop-above.at c.loop-above.least c.args.steps.now c.loop-above.steps
    c.requires c.loop-above.invariant (sym c.in_default.ensures.above))

pub returns-clause-above : goal.returns-clause-above
returns-clause-above g c =
    above_from_around (g.P.ParentOf.live c.args.parents.now) c.args.entry.now c.loop-above.at c.loop-above.least c.args.steps.now c.loop-above.steps c.loop-above.invariant

pub returns-clause-ticks : goal.returns-clause-ticks
returns-clause-ticks g c =
    absurd (around_ends (g.P.ParentOf.live c.args.parents.now) c.args.entry.now c.loop-above.at c.loop-above.least c.args.steps.now c.loop-above.steps
    c.requires c.loop-above.invariant (sym c.in_default.ensures.above))
