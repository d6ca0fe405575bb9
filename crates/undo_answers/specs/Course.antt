-- The course of a session at one replica: its loads and its authors' lines, one after the other in the order of the text.
use Rattle.std.specs.Prelude.{ℕ, Bool, true, false, ◌&&◌, not, ◌==◌, if◌then◌else◌, List, [], ◌∷◌, Option, Some, None}
use Rattle.grove_edits.specs.declared.edit.Edit.{Edit}
use Rattle.grove_edits.specs.declared.action.Action.{Action}
use Rattle.grove_edits.specs.declared.actor.Actor.TheVariants.{Author}
use Rattle.grove_edits.specs.declared.answer.Answer.{Answer}
use Rattle.grove_edits.specs.declared.answer.Answer.TheVariants.{Refused}
use Rattle.grove_edits.specs.declared.command.Command.TheVariants.{Act}
use Rattle.session_script.specs.declared.line.Line.{Line}
use Rattle.session_script.specs.declared.line.Line.TheVariants as line
use Rattle.session_script.specs.declared.item.Item.{Item}
use Rattle.session_script.specs.declared.item.Item.TheVariants as item
use Rattle.session_script.specs.declared.session.Session.{Session}
use Rattle.replica_core.specs.Content.{Content, no_edits, with_taken, with_block}
use Rattle.replica_core.specs.Step.{after, effect, reply}

-- an action that was done: the canonical list of the graph before it, and its own edits
pub record Done : Type 0 where
  pub before : List Edit
  pub edits : List Edit

-- what the replica has, and an author's last action that was not refused
pub record Course : Type 0 where
  pub content : Content
  pub last : Option Done

abbrev pub at_start : Course
at_start = record { content = no_edits; last = None }

abbrev pub is_refused : Answer → Bool
is_refused (Refused fault) = true
is_refused _ = false

-- an action by one author, where the last one of another author is asked for
abbrev pub after_action : ℕ → ℕ → Action → Course → Course
after_action author by action course =
    let edits = effect course.content (Author by) (Act action) in
    let answer = reply course.content (Author by) (Act action) in
    record {
      content = after course.content (Author by) (Act action);
      last = if (by == author) && not (is_refused answer) then Some (record { before = course.content.edits; edits = edits }) else course.last;
    }

abbrev pub after_line : ℕ → Line → Course → Course
after_line author (line.Author by action) course = after_action author by action course
after_line author (line.Send send) course = course

abbrev pub after_lines : ℕ → List Line → Course → Course
after_lines author [] course = course
after_lines author (l ∷ ls) course = after_lines author ls (after_line author l course)

abbrev pub loaded : Edit → Course → Course
loaded edit course = record course { content = with_taken (edit ∷ []) course.content }

abbrev pub opened : Course → Course
opened course = record course { content = with_block course.content }

abbrev pub after_item : ℕ → Item → Course → Course
after_item author (item.Load replica edit) course = loaded edit course
after_item author (item.Block block) course = after_lines author block.lines (opened course)
after_item author item.Show course = course

abbrev pub after_items : ℕ → List Item → Course → Course
after_items author [] course = course
after_items author (x ∷ xs) course = after_items author xs (after_item author x course)

abbrev pub course_of : ℕ → Session → Course
course_of author session = after_items author session.items at_start
