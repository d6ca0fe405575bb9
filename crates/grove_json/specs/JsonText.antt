-- The text of `json`.
use Rattle.std.specs.Prelude.{◌≡◌, ℕ, List, [], ◌∷◌, ◌++◌}
use Rattle.serde_json.specs.Written.{compact_text}
use Rattle.grove_edits.specs.Graph.{Graph}
use Rattle.grove_terms.specs.declared.grove.Grove.{Grove}
use Rattle.grove_terms.specs.Grove.{IsGrove}
use Rattle.marking.specs.Grove.{MarkedTrees, IsMarkedGrove}
use Rattle.grove_json.specs.GroveValue.{grove_value}

-- the compact text of the value of the marked grove of the graph, and a line feed
pub record IsJsonText (g : Graph) (text : List ℕ) : Type 0 where
  pub grove : Grove
  pub marked : MarkedTrees
  pub is_grove : IsGrove g grove
  pub is_marked : IsMarkedGrove grove marked
  pub written : text ≡ compact_text (grove_value marked) ++ 10 ∷ []
