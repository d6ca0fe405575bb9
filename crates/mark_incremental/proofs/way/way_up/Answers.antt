-- The way leads up to where it has come.
use Rattle.std.proofs.Common.{List, [], ◌∷◌, ◌++◌, refl, subst, append-nil, length-append, arith}
use Rattle.live_graph.specs.Live.{live}
use Rattle.grove_edits.specs.declared.vertex.Vertex.{Vertex}
use Rattle.kept_records.specs.Short.{LeadsUp}
use Rattle.mark_incremental.proofs.way.way_up.Goals as goal

pub returns-in_default-clause-leads : goal.returns-in_default-clause-leads
returns-in_default-clause-leads g c = subst (λ (vs : List Vertex). LeadsUp (live c.args.graph.now) c.args.start.now vs c.loop.top) (append-nil c.loop.vertices.items) (c.loop.invariant.leads [] c.loop.top refl)

pub returns-clause-leads : goal.returns-clause-leads
returns-clause-leads g c = subst (λ (vs : List Vertex). LeadsUp (live c.args.graph.now) c.args.start.now vs c.loop.top) (append-nil c.loop.vertices.items) (c.loop.invariant.leads [] c.loop.top refl)

pub returns-in_default-clause-ticks : goal.returns-in_default-clause-ticks
returns-in_default-clause-ticks g c = λ longest most.
    let few = most c.loop.vertices.items c.loop.top (subst (λ (vs : List Vertex). LeadsUp (live c.args.graph.now) c.args.start.now vs c.loop.top) (append-nil c.loop.vertices.items) (c.loop.invariant.leads [] c.loop.top refl)) in
    let so_far = c.loop.invariant.ticks in
    let more = c.above_inner.ensures.ticks in
    omega (arith, few, so_far, more)

pub returns-clause-ticks : goal.returns-clause-ticks
returns-clause-ticks g c = λ longest most.
    let few = most c.loop.vertices.items c.loop.top (subst (λ (vs : List Vertex). LeadsUp (live c.args.graph.now) c.args.start.now vs c.loop.top) (append-nil c.loop.vertices.items) (c.loop.invariant.leads [] c.loop.top refl)) in
    let so_far = c.loop.invariant.ticks in
    omega (arith, few, so_far)

pub returns-in_err-push-clause-ticks : goal.returns-in_err-push-clause-ticks
returns-in_err-push-clause-ticks g c = λ longest most.
    let few = most (c.loop.vertices.items ++ c.in-Some.next ∷ []) c.in-Some.next (c.loop.invariant.leads (c.in-Some.next ∷ []) c.in-Some.next (c.in-Some.ensures.above.0, c.in-Some.ensures.above.1, refl)) in
    let len = length-append c.loop.vertices.items (c.in-Some.next ∷ []) in
    let so_far = c.loop.invariant.ticks in
    let more = c.above_inner.ensures.ticks in
    omega (arith, few, len, so_far, more)
