-- The report of a session and its journals. It is written alike in both versions, and has no line that tells the version.
-- The promise of the commands rests on these definitions.
use Rattle.std.specs.Prelude.{◌≡◌, ℕ, ◌+◌, List, [], ◌∷◌, ◌++◌, length, codes, decimal}
use Rattle.std.specs.List.{flat_map, zip}
use Rattle.grove_sorts.specs.declared.ident.Ident.{Ident}
use Rattle.grove_sorts.specs.Ident.{ident_bytes}
use Rattle.grove_edits.specs.declared.edit.Edit.{Edit}
use Rattle.grove_edits.specs.Graph.{graph}
use Rattle.edit_text.specs.Line.{spaced}
use Rattle.grove_answers.specs.Texts.{IsPrintText}
use Rattle.session_script.specs.declared.item.Item.{Item}
use Rattle.session_script.specs.declared.item.Item.TheVariants as item
use Rattle.session_script.specs.declared.session.Session.{Session}
use Rattle.session_report.specs.Entry.{entry_text}
use Rattle.session_report.specs.Journal.{Entries}
use Rattle.session_report.specs.Taken.{Journals, entries_at, taken}
use Rattle.session_report.specs.Legal.{next_block, next_show}

-- parts with a space between each two, and an LF
abbrev pub heading : List (List ℕ) → List ℕ
heading parts = spaced parts ++ 10 ∷ []

-- a word and a number
abbrev pub block_heading : ℕ → List ℕ
block_heading block = heading (codes "block" ∷ decimal block ∷ [])

abbrev pub show_heading : ℕ → List ℕ
show_heading show = heading (codes "show" ∷ decimal show ∷ [])

-- a word and a replica's name
abbrev pub replica_heading : Ident → List ℕ
replica_heading name = heading (codes "replica" ∷ ident_bytes name ∷ [])

-- a word, a replica's name and a number
abbrev pub journal_heading : Ident → ℕ → List ℕ
journal_heading name entries = heading (codes "journal" ∷ ident_bytes name ∷ decimal entries ∷ [])

-- the section of a replica: its name, and the print text of the graph of the edits that it has taken
pub record IsSection (name : Ident) (edits : List Edit) (text : List ℕ) : Type 0 where
  pub printed : List ℕ
  pub is_print_text : IsPrintText (graph edits) printed
  pub written : text ≡ replica_heading name ++ printed

module _ {M : Type 0} where
  -- the journal of a replica: its name, how many entries there are, and they
  abbrev pub journal_text : Ident → Entries M → List ℕ
  journal_text name entries = journal_heading name (length entries) ++ flat_map entry_text entries

  abbrev pub journal_text_of : Ident × Entries M → List ℕ
  journal_text_of of = journal_text of.0 of.1

  -- the journals of replicas, in order
  abbrev pub journals_text : List Ident → List (Entries M) → List ℕ
  journals_text names journals = flat_map journal_text_of (zip names journals)

  -- the entries in a block of the replicas from a number on, counted from 1
  abbrev pub entries_from : Journals M → ℕ → ℕ → List Ident → List (Entries M)
  entries_from journals block replica [] = []
  entries_from journals block replica (name ∷ names) = entries_at journals block replica ∷ entries_from journals block (replica + 1) names

  -- the sections of the replicas from a number on, counted from 0
  abbrev pub AreSections : Journals M → List Item → ℕ → List Ident → List ℕ → Type 0
  AreSections journals before replica [] text = text ≡ []
  AreSections journals before replica (name ∷ names) text =
      (section : List ℕ) × (rest : List ℕ) × IsSection name (taken journals replica before) section
      × AreSections journals before (replica + 1) names rest × (text ≡ section ++ rest)

  -- what is written of an item behind others, for replicas with these names: of a block its journals, of a show every replica, and
  -- of another item nothing
  abbrev pub IsItemText : List Ident → Journals M → List Item → Item → List ℕ → Type 0
  IsItemText names journals before (item.Block block) text =
      text ≡ block_heading (next_block before) ++ journals_text names (entries_from journals (next_block before) 1 names)
  IsItemText names journals before item.Show text =
      (sections : List ℕ) × AreSections journals before 0 names sections × (text ≡ show_heading (next_show before) ++ sections)
  IsItemText names journals before other text = text ≡ []

  -- what is written of items behind others, in order
  abbrev pub AreItemTexts : List Ident → Journals M → List Item → List Item → List ℕ → Type 0
  AreItemTexts names journals before [] text = text ≡ []
  AreItemTexts names journals before (next ∷ items) text =
      (mine : List ℕ) × (rest : List ℕ) × IsItemText names journals before next mine
      × AreItemTexts names journals (before ++ next ∷ []) items rest × (text ≡ mine ++ rest)

  -- the report of a session and its journals
  abbrev pub IsReport : Session → Journals M → List ℕ → Type 0
  IsReport session journals text = AreItemTexts session.replicas journals [] session.items text
