-- What `relay` makes of a text.
use Rattle.std.specs.Prelude.{◌≡◌, ℕ, ◌+◌, ◌%◌, ◌==◌, List, [], ◌∷◌, ◌++◌, length, codes, decimal, slice_get, None, Some, if◌then◌else◌}
use Rattle.grove_edits.specs.declared.answer.Answer.{Answer}
use Rattle.grove_edits.specs.declared.edit.Edit.{Edit}
use Rattle.grove_edits.specs.Graph.{graph}
use Rattle.grove_sorts.specs.declared.version.Version.{Version}
use Rattle.edit_text.specs.Whole.{IsTextOf}
use Rattle.grove_answers.specs.Texts.{IsCanonicalText}
use Rattle.shared_replica.specs.declared.journal.Entry.{Entry}
use Rattle.shared_replica.specs.Solos.{Replays}
use Rattle.edit_runs.specs.declared.piece.Piece.{Piece}
use Rattle.edit_runs.specs.Gathering.{after, effect, reply}
use Rattle.edit_runs.specs.Runs.{AreEntriesInRuns}
use Rattle.grove_tools.specs.declared.outcome.Handed.{Handed}

-- of edits that are dealt to so many senders in turn, those of one, counted from 0: the first edit here has this number, from 0
abbrev pub dealt_to : (senders sender number : ℕ) → List Edit → List Edit
dealt_to senders sender number [] = []
dealt_to senders sender number (e ∷ es) =
    if number % senders == sender then e ∷ dealt_to senders sender (number + 1) es else dealt_to senders sender (number + 1) es

-- the lists are those of so many senders, to whom the edits were dealt
pub record AreDealt (senders : ℕ) (edits : List Edit) (lists : List (List Edit)) : Type 0 where
  pub many : length lists ≡ senders
  pub each : (sender : ℕ) (list : List Edit) → slice_get lists sender ≡ Some list → list ≡ dealt_to senders sender 0 edits

-- the line that tells how many edits a sender has
abbrev pub sender_line : ℕ → List Edit → List ℕ
sender_line number edits = codes "sender " ++ (decimal number ++ (codes " edits " ++ (decimal (length edits) ++ 10 ∷ [])))

-- those of the senders from this number on
abbrev pub sender_lines : ℕ → List (List Edit) → List ℕ
sender_lines number [] = []
sender_lines number (list ∷ lists) = sender_line number list ++ sender_lines (number + 1) lists

-- A journal is handed out, of a machine that began empty and gathers what it takes: it hands on the edits of each list once and in order,
-- in runs, and has no other entries. What is written is how many edits each list has, and the canonical text of what was gathered. No disk
-- is handed out.
pub record HasFlowed (lists : List (List Edit)) (handed : Handed) (answer : List ℕ) : Type 0 where
  pub journal : List (Entry (List Edit) Piece (List Edit) Answer)
  pub is_handed : handed.relayed ≡ Some journal
  pub entries : AreEntriesInRuns lists journal
  pub gathered : List Edit
  pub replays : Replays after effect reply [] journal gathered
  pub canonical : List ℕ
  pub is_canonical : IsCanonicalText (graph gathered) canonical
  pub written : answer ≡ sender_lines 1 lists ++ canonical
  pub no_disk : handed.kept ≡ None

-- the lists are the edits that the text spells, dealt to so many senders
pub record AreDealtOf (senders : ℕ) (text : List ℕ) (lists : List (List Edit)) : Type 0 where
  pub version : Version
  pub edits : List Edit
  pub spelled : IsTextOf text version edits
  pub dealt : AreDealt senders edits lists

-- the edits that the text spells were dealt to the senders, and flowed
pub record IsRelayed (senders : ℕ) (text : List ℕ) (handed : Handed) (answer : List ℕ) : Type 0 where
  pub lists : List (List Edit)
  pub dealt : AreDealtOf senders text lists
  pub flowed : HasFlowed lists handed answer
