-- The live edges of a graph that is given by the states of some edges.
use Rattle.std.specs.Prelude.{List, [], ◌∷◌, if◌then◌else◌}
use Rattle.grove_edits.specs.declared.edge.Edge.{Edge}
use Rattle.graph_words.specs.Ordered.{with_edge}
use Rattle.graph_words.specs.States.{Entries}
use Rattle.graph_words.specs.States.{is_live}

-- the live edges, in edge order
abbrev pub live : Entries → List Edge
live [] = []
live (entry ∷ entries) = if is_live entry.1 then with_edge entry.0 (live entries) else live entries
