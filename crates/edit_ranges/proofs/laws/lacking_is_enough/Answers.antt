use Rattle.grove_edits.specs.Graph.{graph_join}
use Rattle.edit_ranges.proofs.Joined.{enough, known_by_name, within_first, within_second}
use Rattle.edit_ranges.proofs.laws.lacking_is_enough.Goals as goal

pub returns-clause-enough : goal.returns-clause-enough
returns-clause-enough c = enough

pub returns-clause-by_names : goal.returns-clause-by_names
returns-clause-by_names c = λ g h once. known_by_name (graph_join g h) g h (within_first g h) (within_second g h) once
