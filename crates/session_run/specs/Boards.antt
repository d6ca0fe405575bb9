-- What a block needs of the boards of its replicas, which slots it raises, and which calls stand next to each other in its journals.
use Rattle.std.specs.Prelude.{◌≡◌, ℕ, ◌==◌, ◌&&◌, Bool, false, if◌then◌else◌, List, [], map, slice_get, Some}
use Rattle.std.specs.List.{count_by, flat_map, list_any}
use Rattle.grove_edits.specs.declared.edit.Edit.{Edit}
use Rattle.grove_edits.specs.declared.actor.Actor.TheVariants as actor
use Rattle.grove_edits.specs.declared.command.Command.{Command}
use Rattle.grove_edits.specs.declared.command.Command.TheVariants.{Act}
use Rattle.shared_replica.specs.declared.journal.Entry.{Entry}
use Rattle.shared_replica.specs.Passes.{Call}
use Rattle.session_script.specs.declared.author.Declared.{Declared}
use Rattle.session_script.specs.declared.line.Line.{Line}
use Rattle.session_script.specs.declared.line.Line.TheVariants as line
use Rattle.author_desk.specs.declared.cuts.Cuts.{Cuts}
use Rattle.author_desk.specs.Cuts.{opening_edits, CanRaise, HasPartsFor}
use Rattle.author_desk.specs.Lines.{slots_cut}
use Rattle.author_desk.specs.Together.{AreRunsOf}
use Rattle.author_desk.specs.Turns.{turns_of, commands_of}
use Rattle.session_run.specs.Calls.{Stage, actions_of, ActsHere}

abbrev pub is_line_of : ℕ → Line → Bool
is_line_of author (line.Author n action) = n == author
is_line_of author (line.Send send) = false

-- the author acts on the replica, and has a line
abbrev pub is_at_work : List Line → ℕ → Declared → Bool
is_at_work lines replica declared = (declared.replica == replica) && list_any (is_line_of declared.author) lines

-- how many authors of a replica have lines
abbrev pub authors_at_work : List Declared → List Line → ℕ → ℕ
authors_at_work authors lines replica = count_by (is_at_work lines replica) authors

-- what a block needs of the cuts of a replica: the board has a slot for each of the edges that they are made on, and its seat a part for each
-- author at work beside its own
pub record CanCutAt (stage : Stage) (cuts : Cuts) : Type 0 where
  pub can_raise : CanRaise cuts
  pub parts : HasPartsFor (authors_at_work stage.authors stage.lines stage.replica) cuts

-- the slots of the opening edges that an author's lines cut, if the author acts on the replica
abbrev pub slots_by : Stage → List Edit → Declared → List ℕ
slots_by stage opening declared = if declared.replica == stage.replica then slots_cut opening (actions_of declared.author stage.lines) else []

-- those of all authors, in the order of their declarations
abbrev pub slots_at : Stage → List Edit → List ℕ
slots_at stage opening = flat_map (slots_by stage opening) stage.authors

module _ {M E R : Type 0} where
  -- The entries of each author at the replica are its turns, in order: the cuts of opening edges before a line, and this line, next to
  -- each other. Between two turns, also of the same lines, there are entries of others alone
  abbrev pub TurnsStand : Stage → List Edit → List (Entry M Command E R) → Type 0
  TurnsStand stage opening journal =
      (author : ℕ) → ActsHere stage author
      → (turns : List (List (Call Command R))) × (map commands_of turns ≡ map (map Act) (turns_of opening (actions_of author stage.lines))) × AreRunsOf (actor.Author author) journal turns
