-- A whole graph by numbers: the edits of its canonical list by their indices, and its vertices by theirs.
use Rattle.std.specs.Prelude.{Bool, true, false, List, [], ◌∷◌, if◌then◌else◌}
use Rattle.grove_edits.specs.declared.edge.Edge.{Edge}
use Rattle.grove_edits.specs.declared.edit.Edit.{Edit}
use Rattle.grove_edits.specs.declared.edit.EditKind.{EditKind}
use Rattle.grove_edits.specs.declared.edit.EditKind.TheVariants.{Insert, Delete}
use Rattle.grove_edits.specs.Edit.{edit_edge, edit_kind}
use Rattle.graph_words.specs.declared.few.Few.{Few}
use Rattle.graph_words.specs.declared.few.Few.TheVariants as few
pub use Rattle.edit_table.specs.Table.{Table, vertex_or_root, vertex_at, edge_or_none, edge_at, kind_or_insert, kind_at, IsNumber, IsIndex, IsEndIn, AreEnds}
use Rattle.graph_table.specs.declared.parents.Parents.{Parents}
use Rattle.graph_table.specs.declared.parents.Parents.TheVariants.{Zero, One, More}

abbrev pub is_insertion : EditKind → Bool
is_insertion Insert = true
is_insertion Delete = false

-- the edges of the insertions, in order
abbrev pub inserted : List Edit → List Edge
inserted [] = []
inserted (edit ∷ edits) = if is_insertion (edit_kind edit) then (edit_edge edit ∷ inserted edits) else inserted edits

-- the live edges, in edge order
abbrev pub live : Table → List Edge
live table = inserted table.edits

-- the edges at the indices that are told of the parents of a vertex
abbrev pub few_at : Table → Parents → Few
few_at table Zero = few.Zero
few_at table (One i) = few.One (edge_at table i)
few_at table (More i j) = few.More (edge_at table i) (edge_at table j)
