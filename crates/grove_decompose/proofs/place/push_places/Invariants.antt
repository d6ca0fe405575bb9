use Rattle.std.proofs.Common.{◌≡◌, ◌++◌, ◌≤◌, length, take}
use Rattle.grove_sorts.specs.Ctor.{positions}
use Rattle.grove_decompose.specs.Tasks.{place_tasks}
use Rattle.grove_decompose.proofs.place.push_places.Given as goal

abbrev pub invariant-loop-index : goal.invariant-loop-index
invariant-loop-index g l = record {
  within : l.index ≤ length (positions l.ctor);
  tasks : l.tasks.items ++ place_tasks l.spot l.depth (take l.index (positions l.ctor)) ≡ l.initial.tasks.items ++ place_tasks l.spot l.depth (positions l.ctor);
}

abbrev pub decreases-loop-index : goal.decreases-loop-index
decreases-loop-index g l = l.index
