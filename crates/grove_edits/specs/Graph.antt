-- Graphs: what a list of edits makes of each edge, and the one list in edge order that makes the same.
-- The promise of the commands rests on these definitions.
use Rattle.std.specs.Prelude.{◌≡◌, Bool, false, List, [], ◌∷◌, if◌then◌else◌}
use Rattle.std.specs.List.{AllByRecursion, Contains}
use Rattle.std.specs.declared.cmp.Ordering.TheVariants.{Less}
use Rattle.std.specs.Ordering.{is_eq}
use Rattle.edge_lattice.specs.declared.state.State.{State}
use Rattle.edge_lattice.specs.declared.state.State.TheVariants.{Absent, Live, Deleted}
use Rattle.edge_lattice.specs.State.{state_join, IsAtMost}
use Rattle.grove_edits.specs.declared.edge.Edge.{Edge}
use Rattle.grove_edits.specs.declared.edit.Edit.{Edit}
use Rattle.grove_edits.specs.declared.edit.EditKind.{EditKind}
use Rattle.grove_edits.specs.declared.edit.EditKind.TheVariants.{Insert, Delete}
use Rattle.grove_edits.specs.Edge.{edge_cmp}
use Rattle.grove_edits.specs.Edit.{edit_edge, edit_kind}

-- a graph gives each edge its state
abbrev pub Graph : Type 0
Graph = Edge → State

-- what an edit asks its edge to be at least
abbrev pub state_of : EditKind → State
state_of Insert = Live
state_of Delete = Deleted

abbrev pub is_same_edge : Edge → Edge → Bool
is_same_edge a b = is_eq (edge_cmp a b)

-- the first edit is of this edge
abbrev pub begins_with : Edge → List Edit → Bool
begins_with e [] = false
begins_with e (edit ∷ edits) = is_same_edge e (edit_edge edit)

-- the greatest state with which an edit of the list names the edge, and else Absent
abbrev pub graph : List Edit → Graph
graph [] e = Absent
graph (edit ∷ edits) e = state_join (if is_same_edge (edit_edge edit) e then state_of (edit_kind edit) else Absent) (graph edits e)

abbrev pub IsSame : Graph → Graph → Type 0
IsSame g h = (e : Edge) → g e ≡ h e

abbrev pub IsBelow : Graph → Graph → Type 0
IsBelow g h = (e : Edge) → IsAtMost (g e) (h e)

abbrev pub graph_join : Graph → Graph → Graph
graph_join g h e = state_join (g e) (h e)

-- the first list has each edit of the second
abbrev pub HasAll : List Edit → List Edit → Type 0
HasAll has [] = Unit {0}
HasAll has (edit ∷ edits) = Contains has edit × HasAll has edits

-- two lists have the same edits, in whatever order and however often
abbrev pub HasSameEdits : List Edit → List Edit → Type 0
HasSameEdits a b = HasAll a b × HasAll b a

-- each edit's edge comes before those of all later edits
abbrev pub Ascends : List Edit → Type 0
Ascends [] = Unit {0}
Ascends (edit ∷ edits) = AllByRecursion (λ later. edge_cmp (edit_edge edit) (edit_edge later) ≡ Less) edits × Ascends edits

-- the list has, in edge order, one edit for each edge that is not Absent in the graph
pub record IsCanonical (g : Graph) (edits : List Edit) : Type 0 where
  pub in_order : Ascends edits
  pub same : IsSame (graph edits) g
