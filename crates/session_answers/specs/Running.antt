-- What stands behind some items of a session, and what one item more makes of it.
use Rattle.std.specs.Prelude.{◌≡◌, ℕ, ◌+◌, List, [], ◌∷◌, ◌++◌, length, map, slice_get, slice_set, Some}
use Rattle.std.specs.List.{count_by, sum_by, zip}
use Rattle.grove_sorts.specs.declared.ident.Ident.{Ident}
use Rattle.grove_edits.specs.declared.edit.Edit.{Edit}
use Rattle.session_script.specs.declared.item.Block.{Block}
use Rattle.session_script.specs.declared.item.Item.{Item}
use Rattle.session_script.specs.declared.session.Session.{Session}
use Rattle.session_script.specs.Session.{is_block, is_send, is_show, send_count}
use Rattle.session_run.specs.Calls.{Stage}
use Rattle.session_run.specs.Run.{HasRun}
use Rattle.replica_core.specs.Canonical.{with_edits}
use Rattle.replica_core.specs.Content.{Content, with_taken, with_block}
use Rattle.replica_core.specs.Step.{effect, reply, after}
use Rattle.session_report.specs.Journal.{Entries}
use Rattle.session_report.specs.Taken.{Journals, taken}
use Rattle.session_report.specs.Legal.{AreLegalFor}
use Rattle.session_report.specs.Report.{IsSection, AreItemTexts, block_heading, show_heading, journals_text}
use Rattle.session_answers.specs.BlockJournals.{block_journals}
use Rattle.session_answers.specs.Numbers.{next_numbers, numbers_behind}
use Rattle.session_answers.specs.declared.running.Running.{Running}

-- the replicas have taken what the journals and the loads so far say
pub record HaveTaken (names : List Ident) (journals : Journals Content) (before : List Item) (replicas : List Content) : Type 0 where
  pub all : length replicas ≡ length names
  pub each : (number : ℕ) (replica : Content) → slice_get replicas number ≡ Some replica → replica.edits ≡ with_edits (taken journals number before) []

-- the items are over: their journals are legal, what is written of them is the text, so many of each kind were counted, and the next line of
-- each author has its number in the whole session
pub record IsBehind (session : Session) (before : List Item) (running : Running) : Type 0 where
  pub replicas : HaveTaken session.replicas running.journals before running.replicas.items
  pub legal : AreLegalFor session before running.journals
  pub report : AreItemTexts session.replicas running.journals [] before running.text.items
  pub blocks : running.blocks ≡ count_by is_block before
  pub sends : running.sends ≡ sum_by send_count before
  pub shows : running.shows ≡ count_by is_show before
  pub calls : running.calls.items ≡ next_numbers before session.authors

-- a replica took an edit
pub record HasLoaded (number : ℕ) (edit : Edit) (before after : Running) : Type 0 where
  pub old : Content
  pub is_old : slice_get before.replicas.items number ≡ Some old
  pub replicas : after.replicas.items ≡ slice_set before.replicas.items number (with_taken (edit ∷ []) old)
  pub journals : after.journals ≡ before.journals
  pub text : after.text.items ≡ before.text.items
  pub blocks : after.blocks ≡ before.blocks
  pub sends : after.sends ≡ before.sends
  pub shows : after.shows ≡ before.shows
  pub calls : after.calls ≡ before.calls

-- a block at one replica, with these canonical lists to send from
abbrev pub stage_of : Session → Block → ℕ → List (List Edit) → ℕ → Stage
stage_of session block first_send sources replica =
    record { authors = session.authors; lines = block.lines; first_send = first_send; sources = sources; replica = replica }

-- the canonical lists of replicas
abbrev pub sources_of : List Content → List (List Edit)
sources_of replicas = map (λ replica. replica.edits) replicas

-- the replicas ran a block, which gave them these journals
pub record HaveRun (session : Session) (block : Block) (first_send : ℕ) (firsts : List Content) (journals : List (Entries Content)) (lasts : List Content) : Type 0 where
  pub as_many : length lasts ≡ length firsts
  pub as_many_journals : length journals ≡ length firsts
  pub each : (number : ℕ) (first last : Content) (journal : Entries Content) → slice_get firsts number ≡ Some first → slice_get lasts number ≡ Some last → slice_get journals number ≡ Some journal
      → HasRun after effect reply (stage_of session block first_send (sources_of firsts) number) first journal last

-- the block was run by the replicas, which opened it
pub record HasRunBlock (session : Session) (block : Block) (before after : Running) : Type 0 where
  pub journals : List (Entries Content)
  pub have_run : HaveRun session block (before.sends + 1) (map with_block before.replicas.items) journals after.replicas.items
  pub kept : after.journals ≡ before.journals ++ block_journals (before.blocks + 1) 1 journals
  pub text : after.text.items ≡ before.text.items ++ (block_heading (before.blocks + 1) ++ journals_text session.replicas journals)
  pub blocks : after.blocks ≡ before.blocks + 1
  pub sends : after.sends ≡ before.sends + count_by is_send block.lines
  pub shows : after.shows ≡ before.shows
  pub calls : after.calls.items ≡ numbers_behind block.lines session.authors before.calls.items

-- the sections of replicas with their names, in order
abbrev pub AreShown : List (Ident × Content) → List ℕ → Type 0
AreShown [] text = text ≡ []
AreShown (of ∷ more) text = (section : List ℕ) × (rest : List ℕ) × IsSection of.0 of.1.edits section × AreShown more rest × (text ≡ section ++ rest)

-- every replica was shown
pub record HasShown (session : Session) (before after : Running) : Type 0 where
  pub sections : List ℕ
  pub are_sections : AreShown (zip session.replicas before.replicas.items) sections
  pub text : after.text.items ≡ before.text.items ++ (show_heading (before.shows + 1) ++ sections)
  pub replicas : after.replicas.items ≡ before.replicas.items
  pub journals : after.journals ≡ before.journals
  pub blocks : after.blocks ≡ before.blocks
  pub sends : after.sends ≡ before.sends
  pub shows : after.shows ≡ before.shows + 1
  pub calls : after.calls ≡ before.calls
