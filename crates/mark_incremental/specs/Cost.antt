-- What it may cost to apply edits one after the other.
use Rattle.std.specs.Prelude.{◌≡◌, ◌+◌, ◌*◌, ℕ, List, [], ◌∷◌}
use Rattle.grove_edits.specs.declared.edit.Edit.{Edit}
use Rattle.grove_edits.specs.Edit.{edit_edge}
use Rattle.grove_edits.specs.Graph.{Graph, graph, graph_join}
use Rattle.kept_records.specs.Size.{IsSize}

-- 64 for each unit of the size of each edit, in the graph to which the earlier ones led, and 64 more for each
abbrev pub IsCostOf : Graph → List Edit → ℕ → Type 0
IsCostOf g [] cost = cost ≡ 0
IsCostOf g (edit ∷ edits) cost =
    (size : ℕ) × (rest : ℕ) × IsSize (edit_edge edit) g (graph_join g (graph (edit ∷ []))) size × IsCostOf (graph_join g (graph (edit ∷ []))) edits rest
    × (cost ≡ 64 * size + 64 + rest)
