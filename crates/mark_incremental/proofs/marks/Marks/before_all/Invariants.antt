-- The receipts behind the first ones, so many of which are left, are held.
use Rattle.std.proofs.Common.{◌≤◌, length, take}
use Rattle.std.specs.Prelude.{reverse}
use Rattle.graph_words.specs.States.{Entries}
use Rattle.mark_incremental.specs.Receipts.{Held, held, HaveLed}
use Rattle.mark_incremental.specs.Before.{HoldsListed}
use Rattle.mark_incremental.proofs.HeldBefore.{IsHeldSoFar}
use Rattle.mark_incremental.proofs.marks.Marks.before_all.Given as goal

abbrev pub invariant-loop-left : goal.invariant-loop-left
invariant-loop-left l = record {
  within : l.left ≤ length l.receipts;
  listed : HoldsListed l.before;
  so_far : (was : Held) (entries : Entries) → HaveLed (reverse l.receipts) was (held entries l.self) → IsHeldSoFar (take l.left l.receipts) was l.self l.before;
}

abbrev pub decreases-loop-left : goal.decreases-loop-left
decreases-loop-left l = l.left
