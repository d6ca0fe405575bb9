use Rattle.std.proofs.Common.{◌≡◌, List, length, IfSome}
use Rattle.type_core.specs.TypeTable.{KeepsTypes}
use Rattle.grove_terms.specs.declared.node.LentNode.{LentNode}
use Rattle.judging.specs.Frames.{IsGivenOf}
use Rattle.judging.proofs.Frames.{pending}
use Rattle.mark_rules.specs.Walking.{given_on, IsWalkOf}
use Rattle.mark_rules.proofs.taking.hand_on.Given as goal

abbrev pub invariant-loop-pending : goal.invariant-loop-pending
invariant-loop-pending l = record {
  walk : IsWalkOf l.types l.ctxs l.walk;
  given : IfSome l.pending (IsGivenOf l.types);
  state : (nodes : List LentNode) → given_on l.types l.ctxs nodes l.pending l.walk ≡ given_on l.fn.types l.fn.ctxs nodes l.fn.given l.fn.walk;
  count : length l.walk.added.items ≡ length l.fn.walk.added.items;
  kept : KeepsTypes l.fn.types l.types;
}

abbrev pub decreases-loop-pending : goal.decreases-loop-pending
decreases-loop-pending l = pending l.pending l.walk.frames.items
