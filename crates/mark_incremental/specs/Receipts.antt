-- Inner model, which no public contract cites: edits that were applied one after the other, and can be taken back in the opposite order.
use Rattle.std.specs.Prelude.{List, [], ◌∷◌}
use Rattle.grove_edits.specs.declared.edit.Edit.{Edit}
use Rattle.grove_edits.specs.Graph.{IsSame}
use Rattle.graph_words.specs.States.{Entries, state_in, KeepsRoom}
use Rattle.live_graph.specs.NumberOf.{KeepsNumbersOf}
use Rattle.mark_incremental.specs.declared.applying.Applied.{Applied}
use Rattle.mark_incremental.specs.declared.applying_all.Receipt.{Receipt}
use Rattle.mark_incremental.specs.Standing.{KeptMarks}
use Rattle.mark_incremental.specs.Applying.{HaveGrown, KeepMarksRoom, WasApplied, CanTakeBack}

-- a graph and its marks
pub record Held : Type 0 where
  pub entries : Entries
  pub marks : KeptMarks

abbrev pub held : Entries → KeptMarks → Held
held entries marks = record { entries = entries; marks = marks }

-- all is as before, but that the tables may have grown, and that there may be more room
pub record IsAsBefore (before after : Held) : Type 0 where
  pub graph : IsSame (state_in after.entries) (state_in before.entries)
  pub marks : HaveGrown before.marks after.marks
  pub room : KeepsRoom before.entries after.entries
  pub numbers : KeepsNumbersOf before.entries after.entries
  pub marks_room : KeepMarksRoom before.marks after.marks

-- applying the edit, of which this is the receipt, led from the one to the other, where it can be taken back
pub record HasLed (edit : Edit) (applied : Applied) (before after : Held) : Type 0 where
  pub was : WasApplied edit applied before.entries before.marks after.entries after.marks
  pub can : CanTakeBack edit applied after.entries after.marks
  pub room : KeepsRoom before.entries after.entries
  pub numbers : KeepsNumbersOf before.entries after.entries
  pub marks_room : KeepMarksRoom before.marks after.marks

-- edits, the last of which stands first, led from the one to the other
abbrev pub HaveLed : List Receipt → Held → Held → Type 0
HaveLed [] before after = IsAsBefore before after
HaveLed (r ∷ rs) before after = (between : Held) × HaveLed rs before between × HasLed r.edit.now r.applied between after
