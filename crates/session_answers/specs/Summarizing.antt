-- What the replicas at the end of a session make of its summary.
use Rattle.std.specs.Prelude.{◌≡◌, ℕ, ◌↔◌, Bool, IsTrue, List, ◌∷◌, count_by}
use Rattle.std.specs.List.{AllByRecursion}
use Rattle.grove_edits.specs.Graph.{graph, IsCanonical}
use Rattle.grove_answers.specs.Counts.{AreCounts}
use Rattle.grove_answers.specs.Texts.{IsPrintText}
use Rattle.session_script.specs.declared.item.Item.{Item}
use Rattle.replica_core.specs.Content.{Content}
use Rattle.session_report.specs.declared.summary.Summary.{Summary}
use Rattle.session_report.specs.Summary.{is_load, live_count, deleted_count}

-- the replicas print a text
abbrev pub AllPrint : List ℕ → List Content → Type 0
AllPrint text replicas = AllByRecursion (λ replica. IsPrintText (graph replica.edits) text) replicas

-- the first replica prints a text, and so do the others if the answer is yes, and only then
pub record PrintAlike (first : Content) (others : List Content) (answer : Bool) : Type 0 where
  pub text : List ℕ
  pub is_text : IsPrintText (graph first.edits) text
  pub alike : IsTrue answer ↔ AllPrint text others

-- the summary of a session with these items, at whose end these are its replicas
pub record SummarizesReplicas (items : List Item) (replicas : List Content) (summary : Summary) : Type 0 where
  pub first : Content
  pub others : List Content
  pub are : replicas ≡ first ∷ others
  pub canonical : IsCanonical (graph first.edits) first.edits
  pub loads : summary.loads ≡ count_by is_load items
  pub live : summary.live ≡ live_count first.edits
  pub deleted : summary.deleted ≡ deleted_count first.edits
  pub counts : AreCounts (graph first.edits) summary.counts
  pub equal : PrintAlike first others summary.equal
