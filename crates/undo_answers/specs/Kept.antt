-- Inner model, which no public contract cites: how a course is kept.
use Rattle.std.specs.Prelude.{◌≡◌, ◌≤◌, ℕ, List, [], length, take, Option, Some, None}
use Rattle.grove_edits.specs.declared.edit.Edit.{Edit}
use Rattle.grove_edits.specs.Graph.{graph}
use Rattle.replica_core.specs.Canonical.{with_edits}
use Rattle.undo_answers.specs.declared.course.Acted.{Acted}
use Rattle.undo_answers.specs.declared.course.Course.{Course as Kept}
use Rattle.undo_answers.specs.Course.{Course, Done}
use Rattle.undo_answers.specs.UndoText.{IsAnswerTo, nothing_line}

-- so many edits were taken before
abbrev pub IsWithin : List Edit → Option Acted → Type 0
IsWithin taken None = Unit {0}
IsWithin taken (Some acted) = acted.before ≤ length taken

abbrev pub IsLast : List Edit → Option Acted → Option Done → Type 0
IsLast taken None None = Unit {0}
IsLast taken None (Some done) = ⊥
IsLast taken (Some acted) None = ⊥
IsLast taken (Some acted) (Some done) = (acted.before ≤ length taken) × (done.before ≡ with_edits (take acted.before taken) []) × (done.edits ≡ acted.edits)

-- what is kept of a course
pub record StandsFor (kept : Kept) (course : Course) : Type 0 where
  pub content : kept.replica ≡ course.content
  pub taken : course.content.edits ≡ with_edits kept.taken []
  pub last : IsLast kept.taken kept.last course.last

-- the answer in the words of what is kept
abbrev pub AnswersLast : List Edit → Option Acted → ℕ → List Edit → List ℕ → Type 0
AnswersLast taken None author undoing line = (undoing ≡ []) × (line ≡ nothing_line)
AnswersLast taken (Some acted) author undoing line = IsAnswerTo (graph (take acted.before taken)) acted.edits (graph taken) author undoing line
