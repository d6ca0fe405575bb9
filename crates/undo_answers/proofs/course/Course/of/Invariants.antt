use Rattle.std.proofs.Common.{take}
use Rattle.undo_answers.specs.Course.{after_items, at_start}
use Rattle.undo_answers.specs.Kept.{StandsFor}
use Rattle.undo_answers.proofs.course.Course.of.Given as goal

abbrev pub invariant-loop-item : goal.invariant-loop-item
invariant-loop-item l = StandsFor l.course (after_items l.author (take l.item-index l.items) at_start)
