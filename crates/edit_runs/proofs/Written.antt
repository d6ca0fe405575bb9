-- What the lines of edits are merged to is the canonical text of the edits.
use Rattle.std.proofs.Common.{◌≡◌, ℕ, List, [], ◌∷◌, subst}
use Rattle.grove_edits.specs.declared.edit.Edit.{Edit}
use Rattle.grove_edits.specs.Edit.{edit_edge}
use Rattle.grove_edits.specs.Graph.{graph, IsCanonical}
use Rattle.grove_sorts.specs.declared.version.Version.TheVariants.{Two}
use Rattle.edit_text.specs.Text.{text_of, AreOf}
use Rattle.edit_text.proofs.Lines.{all_in_two}
use Rattle.edit_text.proofs.TextsOfEdits.{one_list}
use Rattle.edit_merge.specs.Merged.{IsMerged}
use Rattle.grove_answers.specs.Texts.{IsCanonicalText}

pub all_of_two : (edits : List Edit) → AreOf Two edits
all_of_two [] = tt
all_of_two (edit ∷ edits) = (all_in_two (edit_edge edit), all_of_two edits)

pub merged_is_canonical : (edits : List Edit) (lines text : List ℕ) → lines ≡ text_of edits → IsMerged Two lines text → IsCanonicalText (graph edits) text
merged_is_canonical edits lines text are merged =
    let same : merged.edits ≡ edits = one_list Two lines merged.edits edits merged.spelled (are, all_of_two edits) in record {
      edits = merged.canonical;
      is_canonical = subst (λ (es : List Edit). IsCanonical (graph es) merged.canonical) same merged.is_canonical;
      written = merged.written;
    }
