-- The indices that are told of the parents of a vertex.
use Rattle.graph_table.specs.declared.parents.Parents.{Parents}
use Rattle.graph_table.specs.declared.parents.Parents.TheVariants.{Zero, One, More}
use Rattle.graph_table.specs.Table.{Table, IsIndex}

-- they are those of edits
abbrev pub AreIndices : Table → Parents → Type 0
AreIndices table Zero = Unit {0}
AreIndices table (One i) = IsIndex table i
AreIndices table (More i j) = IsIndex table i × IsIndex table j
