-- The summary of a session and its journals, which is written of a generated session in place of its report.
-- The promise of the commands rests on these definitions.
use Rattle.std.specs.Prelude.{◌≡◌, ℕ, ◌<◌, ◌↔◌, Bool, true, false, if◌then◌else◌, IsTrue, List, [], ◌∷◌, ◌++◌, length, count_by, codes, decimal}
use Rattle.grove_edits.specs.declared.edit.Edit.{Edit}
use Rattle.grove_edits.specs.declared.edit.EditKind.{EditKind}
use Rattle.grove_edits.specs.declared.edit.EditKind.TheVariants.{Insert, Delete}
use Rattle.grove_edits.specs.Edit.{edit_kind}
use Rattle.grove_edits.specs.Graph.{graph, IsCanonical}
use Rattle.grove_answers.specs.declared.counts.Counts.{Counts}
use Rattle.grove_answers.specs.Counts.{AreCounts}
use Rattle.grove_answers.specs.Texts.{IsPrintText}
use Rattle.session_script.specs.declared.item.Item.{Item}
use Rattle.session_script.specs.declared.item.Item.TheVariants as item
use Rattle.session_script.specs.declared.session.Session.{Session}
use Rattle.session_report.specs.declared.summary.Summary.{Summary}
use Rattle.session_report.specs.Taken.{Journals, taken}
use Rattle.session_report.specs.Report.{heading}

abbrev pub is_load : Item → Bool
is_load (item.Load replica edit) = true
is_load _ = false

abbrev pub is_insertion : EditKind → Bool
is_insertion Insert = true
is_insertion Delete = false

abbrev pub is_deletion : EditKind → Bool
is_deletion Insert = false
is_deletion Delete = true

-- how many edges of a canonical list are live, and how many are deleted
abbrev pub live_count : List Edit → ℕ
live_count edits = count_by (λ edit. is_insertion (edit_kind edit)) edits

abbrev pub deleted_count : List Edit → ℕ
deleted_count edits = count_by (λ edit. is_deletion (edit_kind edit)) edits

-- a word and a number
abbrev pub count_line : List ℕ → ℕ → List ℕ
count_line word count = heading (word ∷ decimal count ∷ [])

abbrev pub edit_lines : Summary → List ℕ
edit_lines summary = count_line (codes "edits") summary.loads ++ (count_line (codes "live") summary.live ++ count_line (codes "deleted") summary.deleted)

abbrev pub count_lines : Counts → List ℕ
count_lines counts =
    count_line (codes "none") counts.none
    ++ (count_line (codes "multi") counts.multi
    ++ (count_line (codes "cycle") counts.cycle
    ++ (count_line (codes "conflicts") counts.conflicts
    ++ count_line (codes "marks") counts.marks)))

abbrev pub equal_line : Bool → List ℕ
equal_line equal = heading (codes "equal" ∷ (if equal then codes "yes" else codes "no") ∷ [])

abbrev pub summary_text : Summary → List ℕ
summary_text summary = edit_lines summary ++ (count_lines summary.counts ++ equal_line summary.equal)

module _ {M : Type 0} where
  -- the summary is that of the session: how many loads it has; of the first replica's graph at the end the edges of its canonical list
  -- and the counts; and whether every replica prints then what the first prints
  pub record Summarizes (session : Session) (journals : Journals M) (summary : Summary) : Type 0 where
    pub canonical : List Edit
    pub printed : List ℕ
    pub is_canonical : IsCanonical (graph (taken journals 0 session.items)) canonical
    pub is_printed : IsPrintText (graph (taken journals 0 session.items)) printed
    pub loads : summary.loads ≡ count_by is_load session.items
    pub live : summary.live ≡ live_count canonical
    pub deleted : summary.deleted ≡ deleted_count canonical
    pub counts : AreCounts (graph (taken journals 0 session.items)) summary.counts
    pub equal : IsTrue summary.equal ↔ ((replica : ℕ) → replica < length session.replicas → IsPrintText (graph (taken journals replica session.items)) printed)

  -- the text of that summary
  abbrev pub IsSummary : Session → Journals M → List ℕ → Type 0
  IsSummary session journals text = (summary : Summary) × Summarizes session journals summary × (text ≡ summary_text summary)
