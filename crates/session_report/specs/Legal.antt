-- Which journals are legal for a session.
-- The promise of the commands rests on these definitions.
use Rattle.std.specs.Prelude.{◌≡◌, ℕ, ◌+◌, ◌<◌, List, [], ◌∷◌, ◌++◌, length, map, sum_by, slice_get, Some}
use Rattle.std.specs.List.{count_by}
use Rattle.grove_sorts.specs.declared.ident.Ident.{Ident}
use Rattle.grove_edits.specs.declared.edit.Edit.{Edit}
use Rattle.grove_edits.specs.Graph.{graph, IsCanonical}
use Rattle.grove_edits.specs.declared.answer.Answer.{Answer}
use Rattle.grove_edits.specs.declared.command.Command.{Command}
use Rattle.session_script.specs.declared.line.Line.{Line}
use Rattle.session_script.specs.declared.item.Block.{Block}
use Rattle.session_script.specs.declared.item.Item.{Item}
use Rattle.session_script.specs.declared.item.Item.TheVariants as item
use Rattle.session_script.specs.declared.session.Session.{Session}
use Rattle.session_script.specs.Session.{is_block, is_show, send_count}
use Rattle.session_run.specs.Calls.{Stage}
use Rattle.session_report.specs.declared.block_journal.BlockJournal.{BlockJournal}
use Rattle.session_report.specs.Journal.{IsLegal}
use Rattle.session_report.specs.Taken.{Journals, entries_at, taken}

-- the number of a block behind some items
abbrev pub next_block : List Item → ℕ
next_block before = count_by is_block before + 1

-- the number of the first `send` line behind them
abbrev pub next_send : List Item → ℕ
next_send before = sum_by send_count before + 1

-- the number of a show behind them
abbrev pub next_show : List Item → ℕ
next_show before = count_by is_show before + 1

-- a block of the session at one of its replicas
abbrev pub stage_at : Session → List Item → List Line → List (List Edit) → ℕ → Stage
stage_at session before lines sources replica =
    record { authors = session.authors; lines = lines; first_send = next_send before; sources = sources; replica = replica }

-- the numbers of a block with those of all replicas, from one on
abbrev pub pairs_from : ℕ → ℕ → List Ident → List (ℕ × ℕ)
pairs_from block replica [] = []
pairs_from block replica (name ∷ names) = (block, replica) ∷ pairs_from block (replica + 1) names

-- the blocks among some items, each with all replicas, by block and then by replica
abbrev pub places_from : List Ident → ℕ → List Item → List (ℕ × ℕ)
places_from replicas block [] = []
places_from replicas block (item.Block lines ∷ items) = pairs_from block 1 replicas ++ places_from replicas (block + 1) items
places_from replicas block (other ∷ items) = places_from replicas block items

module _ {M : Type 0} where
  -- the canonical lists of all replicas, in order, at a point
  pub record AreSources (session : Session) (journals : Journals M) (before : List Item) (sources : List (List Edit)) : Type 0 where
    pub all : length sources ≡ length session.replicas
    pub each : (replica : ℕ) (list : List Edit) → slice_get sources replica ≡ Some list → IsCanonical (graph (taken journals replica before)) list

  abbrev pub place_of : BlockJournal M Command (List Edit) Answer → ℕ × ℕ
  place_of of = (of.block, of.replica)

  -- the journal of a replica in a block behind some items is legal for what the replica had taken as the block opened, and for the
  -- canonical lists of that moment
  pub record IsLegalAt (session : Session) (journals : Journals M) (before : List Item) (lines : List Line) (replica : ℕ) : Type 0 where
    pub sources : List (List Edit)
    pub are_sources : AreSources session journals before sources
    pub legal : IsLegal (stage_at session before lines sources replica) (taken journals replica before) (entries_at journals (next_block before) (replica + 1))

  -- the journals are legal for some items with which the session begins: one for each block and replica, by block and then by
  -- replica, and each of them legal
  pub record AreLegalFor (session : Session) (items : List Item) (journals : Journals M) : Type 0 where
    pub places : map place_of journals ≡ places_from session.replicas 1 items
    pub each : (before after : List Item) (block : Block) (replica : ℕ) → items ≡ before ++ item.Block block ∷ after → replica < length session.replicas
        → IsLegalAt session journals before block.lines replica

  -- the journals are legal for the session
  abbrev pub AreLegal : Session → Journals M → Type 0
  AreLegal session journals = AreLegalFor session session.items journals
