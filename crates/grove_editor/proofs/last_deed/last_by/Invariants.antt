use Rattle.std.proofs.Common.{◌≡◌, ℕ, ◌≤◌, length}
use Rattle.std.specs.Prelude.{◌≢◌, Some, slice_get}
use Rattle.grove_editor.specs.declared.deed.Deed.{Deed}
use Rattle.grove_editor.proofs.last_deed.last_by.Given as goal

abbrev pub invariant-loop-left : goal.invariant-loop-left
invariant-loop-left l = record {
  within : l.left ≤ length l.deeds;
  none_later : (k : ℕ) (deed : Deed) → l.left ≤ k → slice_get l.deeds k ≡ Some deed → deed.author ≢ l.author;
}

abbrev pub decreases-loop-left : goal.decreases-loop-left
decreases-loop-left l = l.left
