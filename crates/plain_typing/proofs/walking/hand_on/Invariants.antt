use Rattle.std.proofs.Common.{IfSome}
use Rattle.type_core.specs.TypeTable.{KeepsTypes}
use Rattle.judging.specs.Machine.{State}
use Rattle.judging.specs.Frames.{IsGivenOf, AreFramesOf}
use Rattle.judging.proofs.Frames.{pending}
use Rattle.plain_typing.specs.Walking.{StandsFor}
use Rattle.plain_typing.proofs.walking.hand_on.Given as goal

abbrev pub invariant-loop-pending : goal.invariant-loop-pending
invariant-loop-pending l = record {
  frames : AreFramesOf l.types l.ctxs l.walk.frames.items;
  given : IfSome l.pending (IsGivenOf l.types);
  state : (s : State) → StandsFor l.fn.types l.fn.ctxs l.fn.given l.fn.walk s → StandsFor l.types l.ctxs l.pending l.walk s;
  kept : KeepsTypes l.fn.types l.types;
}

abbrev pub decreases-loop-pending : goal.decreases-loop-pending
decreases-loop-pending l = pending l.pending l.walk.frames.items
