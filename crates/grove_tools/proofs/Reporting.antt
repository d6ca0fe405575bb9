-- The report of the canonical list of a text is that of the text.
use Rattle.std.proofs.Common.{ℕ, List}
use Rattle.grove_edits.specs.declared.edit.Edit.{Edit}
use Rattle.grove_edits.specs.Graph.{graph}
use Rattle.grove_calls.specs.Spelled.{IsListOf}
use Rattle.grove_json.specs.JsonText.{IsJsonText}
use Rattle.grove_json.proofs.SameGraph.{json_along}
use Rattle.grove_tools.specs.Json.{IsJsonOf}

pub answer_reported : (text answer : List ℕ) (list : List Edit) → IsListOf text list → IsJsonText (graph list) answer → IsJsonOf text answer
answer_reported text answer list of_text is = record {
  version = of_text.version;
  edits = of_text.edits;
  spelled = of_text.spelled;
  report = json_along (graph list) (graph of_text.edits) answer of_text.canonical.same is;
}
