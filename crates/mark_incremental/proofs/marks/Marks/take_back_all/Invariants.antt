-- The edits that are left lead to what is there now.
use Rattle.std.proofs.Common.{vec_len}
use Rattle.std.specs.Prelude.{reverse}
use Rattle.mark_incremental.specs.Receipts.{Held, held, HaveLed}
use Rattle.mark_incremental.proofs.marks.Marks.take_back_all.Given as goal

abbrev pub invariant-loop-last : goal.invariant-loop-last
invariant-loop-last l = record {
  led : (before : Held) → HaveLed (reverse l.initial.left.items) before (held l.initial.graph l.initial.self)
      → HaveLed (reverse l.left.items) before (held l.graph l.self);
}

abbrev pub decreases-loop-last : goal.decreases-loop-last
decreases-loop-last l = vec_len l.left
