-- The canonical list of a graph that is kept in a store.
use Rattle.std.specs.Prelude.{List, [], ◌∷◌, map, Option, None, Some}
use Rattle.edge_lattice.specs.declared.state.State.{State}
use Rattle.edge_lattice.specs.declared.state.State.TheVariants.{Absent, Live, Deleted}
use Rattle.grove_edits.specs.declared.edge.Edge.{Edge}
use Rattle.grove_edits.specs.declared.edit.Edit.{Edit}
use Rattle.grove_edits.specs.declared.edit.EditKind.TheVariants.{Insert, Delete}
use Rattle.grove_edits.specs.Graph.{Graph}
use Rattle.graph_words.specs.States.{Entries, state_in}
use Rattle.replica_core.specs.Canonical.{with_edit}
use Rattle.replica_core.specs.Plain.{edit_of}

-- the edit that asks this state of an edge, where there is one
abbrev pub asking : Edge → State → Option Edit
asking e Absent = None
asking e Live = edit_of Insert e
asking e Deleted = edit_of Delete e

abbrev pub with_some : Option Edit → List Edit → List Edit
with_some None xs = xs
with_some (Some edit) xs = with_edit edit xs

-- the edits that ask of these edges what the graph gives them, in edge order
abbrev pub edits_among : Graph → List Edge → List Edit
edits_among g [] = []
edits_among g (e ∷ es) = with_some (asking e (g e)) (edits_among g es)

-- the canonical list of the graph of a store
abbrev pub edits_in : Entries → List Edit
edits_in entries = edits_among (state_in entries) (map (λ entry. entry.0) entries)
