-- The walk ends where no vertex is above, or at one that was passed.
use Rattle.std.proofs.Common.{◌≡◌, ◌+◌, List, [], ◌∷◌, ◌++◌, length, Some, None, sym, ap, subst, ◌∙◌, length-append, arith}
use Rattle.grove_edits.specs.declared.vertex.Vertex.{Vertex}
use Rattle.mark_incremental.specs.Passing.{IsUpTo}
use Rattle.mark_incremental.proofs.WalksUp.{begun, next, ticked, ends_at_none, ends_at_passed, comes_back}
use Rattle.mark_incremental.proofs.walks_up.walk_up.Goals as goal

pub returns-in_default-clause-vertices : goal.returns-in_default-clause-vertices
returns-in_default-clause-vertices g c =
    ends_at_none (g.P.ParentOf.live c.args.parents.now) c.args.start.now c.loop.at c.loop.passed c.loop.vertices.items c.loop.invariant.up (sym c.in_default.ensures.above)

pub returns-in_default-clause-comes_back : goal.returns-in_default-clause-comes_back
returns-in_default-clause-comes_back g c =
    let live = g.P.ParentOf.live c.args.parents.now in
    sym
    (comes_back live c.args.start.now c.loop.at c.loop.passed c.loop.vertices.items None c.loop.invariant.up
    (ends_at_none live c.args.start.now c.loop.at c.loop.passed c.loop.vertices.items c.loop.invariant.up (sym c.in_default.ensures.above)) (sym c.in_default.ensures.above))

pub returns-then-holds-clause-vertices : goal.returns-then-holds-clause-vertices
returns-then-holds-clause-vertices g c =
    ends_at_passed (g.P.ParentOf.live c.args.parents.now) c.args.start.now c.loop.at c.in-Some.next c.loop.passed c.loop.vertices.items c.loop.invariant.up (sym c.in-Some.ensures.above)
    (sym c.holds.ensures ∙ c.if-holds.true)

pub returns-then-holds-clause-comes_back : goal.returns-then-holds-clause-comes_back
returns-then-holds-clause-comes_back g c =
    let live = g.P.ParentOf.live c.args.parents.now in
    c.is_same_vertex.ensures
    ∙ sym
    (comes_back live c.args.start.now c.loop.at c.loop.passed c.loop.vertices.items (Some c.in-Some.next) c.loop.invariant.up
    (ends_at_passed live c.args.start.now c.loop.at c.in-Some.next c.loop.passed c.loop.vertices.items c.loop.invariant.up (sym c.in-Some.ensures.above) (sym c.holds.ensures ∙ c.if-holds.true))
    (sym c.in-Some.ensures.above))

pub loop-preserved : goal.loop-preserved
loop-preserved g c =
    let live = g.P.ParentOf.live c.args.parents.now in
    let pushed : length c.push-in-loop.new.self.items ≡ length c.loop.vertices.items + 1 = ap length c.in_ok-push-2.ensures.items ∙ length-append c.loop.vertices.items (c.in-Some.next ∷ []) in
    let before = c.loop.invariant.ticks in
    let more = c.in-Some.ensures.ticks in
    record {
      up =
          subst (IsUpTo live c.args.start.now c.in-Some.next c.enter-in-loop.new.self) (sym c.in_ok-push-2.ensures.items)
          (next live c.args.start.now c.loop.at c.in-Some.next c.loop.passed c.enter-in-loop.new.self c.loop.vertices.items c.loop.invariant.up (sym c.in-Some.ensures.above)
          (sym c.holds.ensures ∙ c.if-holds.false) c.in_ok-enter-2.ensures);
      ticks = omega (arith, pushed, before, more);
    }

pub loop-init : goal.loop-init
loop-init g c =
    let live = g.P.ParentOf.live c.args.parents.now in
    let only : c.push.new.self.items ≡ c.args.start.now ∷ [] = c.in_ok-push.ensures.items ∙ ap (λ (vs : List Vertex). vs ++ c.args.start.now ∷ []) c.new-vertices.ensures.items in
    let one : length c.push.new.self.items ≡ 1 = ap length only in
    record {
      up =
          subst (IsUpTo live c.args.start.now c.args.start.now c.enter.new.self) (sym only)
          (begun live c.args.start.now c.with_seed-passed.result c.enter.new.self c.with_seed-passed.ensures.empty c.in_ok-enter.ensures);
      ticks = omega (arith, one);
    }

pub returns-in_default-clause-ticks : goal.returns-in_default-clause-ticks
returns-in_default-clause-ticks g c =
    let most = ticked (g.P.ParentOf.live c.args.parents.now) c.args.start.now c.loop.at c.loop.passed c.loop.vertices.items c.loop.invariant.up in
    let before = c.loop.invariant.ticks in
    let more = c.in_default.ensures.ticks in
    omega (arith, most, before, more)

pub returns-then-holds-clause-ticks : goal.returns-then-holds-clause-ticks
returns-then-holds-clause-ticks g c =
    let most = ticked (g.P.ParentOf.live c.args.parents.now) c.args.start.now c.loop.at c.loop.passed c.loop.vertices.items c.loop.invariant.up in
    let before = c.loop.invariant.ticks in
    let more = c.in-Some.ensures.ticks in
    omega (arith, most, before, more)

pub returns-in_err-push-2-clause-ticks : goal.returns-in_err-push-2-clause-ticks
returns-in_err-push-2-clause-ticks g c =
    let most = ticked (g.P.ParentOf.live c.args.parents.now) c.args.start.now c.loop.at c.loop.passed c.loop.vertices.items c.loop.invariant.up in
    let before = c.loop.invariant.ticks in
    let more = c.in-Some.ensures.ticks in
    omega (arith, most, before, more)

pub returns-in_err-enter-2-clause-ticks : goal.returns-in_err-enter-2-clause-ticks
returns-in_err-enter-2-clause-ticks g c =
    let most = ticked (g.P.ParentOf.live c.args.parents.now) c.args.start.now c.loop.at c.loop.passed c.loop.vertices.items c.loop.invariant.up in
    let before = c.loop.invariant.ticks in
    let more = c.in-Some.ensures.ticks in
    omega (arith, most, before, more)

pub returns-clause-ticks : goal.returns-clause-ticks
returns-clause-ticks g c =
    let most = ticked (g.P.ParentOf.live c.args.parents.now) c.args.start.now c.loop.at c.loop.passed c.loop.vertices.items c.loop.invariant.up in
    let before = c.loop.invariant.ticks in
    omega (arith, most, before)
