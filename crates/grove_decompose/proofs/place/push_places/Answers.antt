use Rattle.std.proofs.Common.{◌≡◌, ◌-◌, suc, take, sym, ap, ◌∙◌, arith}
use Rattle.grove_sorts.specs.Ctor.{positions}
use Rattle.grove_decompose.specs.Tasks.{place_tasks}
use Rattle.grove_decompose.proofs.Pushing.{place_tasks-take, pushed}
use Rattle.grove_decompose.proofs.place.push_places.Goals as goal

pub loop-index-preserved-in-Continue-1 : goal.loop-index-preserved-in-Continue-1
loop-index-preserved-in-Continue-1 g c =
    let within = c.loop-index.invariant.within in
    let before : suc (c.loop-index.index - 1) ≡ c.loop-index.index = omega arith in
    let next = place_tasks-take c.args.spot.now c.args.depth (positions c.args.ctor.now) (c.loop-index.index - 1) (c.in-Some.position, c.in-Some.sort) c.in-Some.ensures in
    record {
      within = omega arith;
      tasks = pushed c.loop-index.tasks.items c.push.new.self.items (place_tasks c.args.spot.now c.args.depth (take (c.loop-index.index - 1) (positions c.args.ctor.now))) _ _ _ c.in_ok-push.ensures.items
          (ap (λ i. place_tasks c.args.spot.now c.args.depth (take i (positions c.args.ctor.now))) (sym before) ∙ next) c.loop-index.invariant.tasks;
    }
