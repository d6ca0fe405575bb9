-- The states of edges by their entries: which state each edge has, and which have room.
use Rattle.std.specs.Prelude.{◌≡◌, true, List, Option, unwrap_or, IsSome, if◌then◌else◌, is_none, Bool, false, Some, None, ◌⊎◌}
use Rattle.std.specs.Map.{lookup}
use Rattle.edge_lattice.specs.declared.state.State.{State}
use Rattle.edge_lattice.specs.declared.state.State.TheVariants.{Absent, Live, Deleted}
use Rattle.grove_edits.specs.declared.edge.Edge.{Edge}
use Rattle.grove_edits.specs.Graph.{Graph, is_same_edge, state_of}
use Rattle.grove_edits.specs.Edge.{edge_fault}
use Rattle.grove_edits.specs.declared.edit.Edit.{Edit}
use Rattle.grove_edits.specs.Edit.{edit_edge, edit_kind}

-- edges, each with its state
abbrev pub Entries : Type 0
Entries = List (Edge × State)

abbrev pub entry_at : Entries → Edge → Option State
entry_at entries e = lookup (is_same_edge e) entries

-- the state of an edge, which is Absent where it has no entry
abbrev pub state_in : Entries → Graph
state_in entries e = unwrap_or (entry_at entries e) Absent

-- an edge has room where it has an entry, whatever its state
abbrev pub HasRoom : Entries → Edge → Type 0
HasRoom entries e = IsSome (entry_at entries e)

abbrev pub KeepsRoom : Entries → Entries → Type 0
KeepsRoom before after = (e : Edge) → HasRoom before e → HasRoom after e

-- a graph with another state of one edge
abbrev pub with_state : Edge → State → Graph → Graph
with_state edge state g e = if is_same_edge edge e then state else g e

-- a graph without what it says of edges that are not well formed, of which there are no edits
abbrev pub well_formed : Graph → Graph
well_formed g e = if is_none (edge_fault e) then g e else Absent

abbrev pub is_live : State → Bool
is_live Absent = false
is_live Live = true
is_live Deleted = false

-- a state of an edge that an edit named
abbrev pub is_present : State → Bool
is_present Absent = false
is_present Live = true
is_present Deleted = true

-- the edit that asks this state of this edge, or none where it is Absent or the edge is not well formed
abbrev pub IsEditOf : Edge → State → Option Edit → Type 0
IsEditOf edge state None = (state ≡ Absent) ⊎ (is_none (edge_fault edge) ≡ false)
IsEditOf edge state (Some edit) = (edit_edge edit ≡ edge) × (state_of (edit_kind edit) ≡ state)
