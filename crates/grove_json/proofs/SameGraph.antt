-- Graphs that are the same have the same report.
use Rattle.std.proofs.Common.{ℕ, List}
use Rattle.grove_edits.specs.Graph.{Graph, IsSame}
use Rattle.grove_terms.proofs.OneGrove.{grove_along}
use Rattle.grove_json.specs.JsonText.{IsJsonText}

pub json_along : (g h : Graph) (text : List ℕ) → IsSame g h → IsJsonText g text → IsJsonText h text
json_along g h text same is = record { grove = is.grove; marked = is.marked; is_grove = grove_along g h is.grove same is.is_grove; is_marked = is.is_marked; written = is.written }
