-- The edits that replicas have taken at a point of a session.
-- The promise of the commands rests on these definitions.
use Rattle.std.specs.Prelude.{ℕ, ◌+◌, ◌&&◌, ◌==◌, if◌then◌else◌, List, [], ◌∷◌, ◌++◌}
use Rattle.grove_edits.specs.declared.edit.Edit.{Edit}
use Rattle.grove_edits.specs.declared.answer.Answer.{Answer}
use Rattle.grove_edits.specs.declared.command.Command.{Command}
use Rattle.session_script.specs.declared.item.Item.{Item}
use Rattle.session_script.specs.declared.item.Item.TheVariants as item
use Rattle.session_report.specs.declared.block_journal.BlockJournal.{BlockJournal}
use Rattle.session_report.specs.Journal.{Entries, edits_of}

-- journals of such machines
abbrev pub Journals : Type 0 → Type 0
Journals M = List (BlockJournal M Command (List Edit) Answer)

module _ {M : Type 0} where
  -- the entries of a replica in a block, both counted from 1
  abbrev pub entries_at : Journals M → ℕ → ℕ → Entries M
  entries_at [] block replica = []
  entries_at (of ∷ journals) block replica =
      if (of.block == block) && (of.replica == replica) then of.journal ++ entries_at journals block replica else entries_at journals block replica

  -- the edits that a replica, counted from 0, takes in some items, of which the first block has this number: what is loaded and what
  -- its journals' entries did
  abbrev pub taken_from : Journals M → ℕ → ℕ → List Item → List Edit
  taken_from journals replica block [] = []
  taken_from journals replica block (item.Load number edit ∷ items) =
      if number == replica then edit ∷ taken_from journals replica block items else taken_from journals replica block items
  taken_from journals replica block (item.Block lines ∷ items) =
      edits_of (entries_at journals block (replica + 1)) ++ taken_from journals replica (block + 1) items
  taken_from journals replica block (other ∷ items) = taken_from journals replica block items

  -- the edits that it has taken once the items before a point are over
  abbrev pub taken : Journals M → ℕ → List Item → List Edit
  taken journals replica before = taken_from journals replica 1 before
