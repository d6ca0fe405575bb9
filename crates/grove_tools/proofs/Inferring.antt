-- The answer of the canonical list of a text is that of the text.
use Rattle.std.proofs.Common.{ℕ, List}
use Rattle.grove_edits.specs.declared.edit.Edit.{Edit}
use Rattle.grove_edits.specs.Graph.{Graph, graph, IsSame}
use Rattle.grove_terms.proofs.OneGrove.{grove_along}
use Rattle.grove_calls.specs.Spelled.{IsListOf}
use Rattle.infer_answers.specs.Texts.{IsInferText}
use Rattle.grove_tools.specs.Infer.{IsTextInferred}

inferred_along : (g h : Graph) (text : List ℕ) → IsSame g h → IsInferText g text → IsInferText h text
inferred_along g h text same is = record {
  grove = is.grove;
  texts = is.texts;
  is_grove = grove_along g h is.grove same is.is_grove;
  are_texts = is.are_texts;
  written = is.written;
}

pub answer_inferred : (text answer : List ℕ) (list : List Edit) → IsListOf text list → IsInferText (graph list) answer → IsTextInferred text answer
answer_inferred text answer list of_text is = record {
  version = of_text.version;
  edits = of_text.edits;
  spelled = of_text.spelled;
  inferred = inferred_along (graph list) (graph of_text.edits) answer of_text.canonical.same is;
}
