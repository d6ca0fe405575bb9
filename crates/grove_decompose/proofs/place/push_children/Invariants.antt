use Rattle.std.proofs.Common.{◌≡◌, ◌++◌, ◌≤◌, length, take}
use Rattle.grove_decompose.specs.Tasks.{child_tasks}
use Rattle.grove_decompose.proofs.place.push_children.Given as goal

abbrev pub invariant-loop-index : goal.invariant-loop-index
invariant-loop-index g l = record {
  within : l.index ≤ length l.links;
  tasks : l.tasks.items ++ child_tasks l.depth (take l.index l.links) ≡ l.initial.tasks.items ++ child_tasks l.depth l.links;
}

abbrev pub decreases-loop-index : goal.decreases-loop-index
decreases-loop-index g l = l.index
