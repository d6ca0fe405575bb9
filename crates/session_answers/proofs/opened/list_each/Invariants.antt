use Rattle.std.proofs.Common.{◌≡◌, ◌++◌, drop, length}
use Rattle.std.specs.List.{AllByRecursion}
use Rattle.grove_edits.specs.Graph.{Ascends}
use Rattle.session_answers.specs.Opened.{all_listed}
use Rattle.session_answers.proofs.opened.list_each.Given as goal

-- with what the replicas that are left have, all is listed
abbrev pub invariant-loop-replica : goal.invariant-loop-replica
invariant-loop-replica l =
    (l.lists.items ++ all_listed l.authors l.lines (length l.lists.items) (drop l.replica-index l.replicas) ≡ all_listed l.authors l.lines 0 l.replicas) × AllByRecursion Ascends l.lists.items
