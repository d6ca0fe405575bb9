-- The greatest counter of an author among names.
use Rattle.std.specs.Prelude.{◌≡◌}
use Rattle.grove_names.specs.declared.name.Name.{Name}
use Rattle.grove_edits.specs.declared.vertex.Vertex.{Vertex}
use Rattle.graph_words.specs.States.{Entries}
use Rattle.live_graph.specs.Ends.{IsEndIn}

-- the name of an end of an edge that is not Absent
abbrev pub IsNameOfEnd : Entries → Name → Type 0
IsNameOfEnd entries n = (v : Vertex) × IsEndIn entries v × (v.name ≡ n)
