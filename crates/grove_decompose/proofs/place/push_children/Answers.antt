use Rattle.std.proofs.Common.{◌≡◌, ◌-◌, suc, take, sym, ap, ◌∙◌, arith}
use Rattle.grove_decompose.specs.Tasks.{child_tasks}
use Rattle.grove_decompose.proofs.Pushing.{child_tasks-take, pushed}
use Rattle.grove_decompose.proofs.place.push_children.Goals as goal

pub loop-index-preserved : goal.loop-index-preserved
loop-index-preserved g c =
    let within = c.loop-index.invariant.within in
    let before : suc (c.loop-index.index - 1) ≡ c.loop-index.index = omega arith in
    let next = child_tasks-take c.args.depth c.args.links.now (c.loop-index.index - 1) c.index-links-index.result (omega arith) c.index-links-index.is in
    record {
      within = omega arith;
      tasks = pushed c.loop-index.tasks.items c.push.new.self.items (child_tasks c.args.depth (take (c.loop-index.index - 1) c.args.links.now)) _ _ _ c.in_ok-push.ensures.items
          (ap (λ i. child_tasks c.args.depth (take i c.args.links.now)) (sym before) ∙ next) c.loop-index.invariant.tasks;
    }
