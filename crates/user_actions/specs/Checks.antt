-- What is told of what a check found: a fault, or none.
use Rattle.std.specs.Prelude.{List, [], ◌∷◌, Option, None, Some, option_and_then, if◌then◌else◌}
use Rattle.grove_names.specs.declared.name.Name.{Name}
use Rattle.grove_sorts.specs.declared.sort.Sort.{Sort}
use Rattle.grove_sorts.specs.declared.position.Position.{Position}
use Rattle.grove_sorts.specs.declared.ctor.Ctor.{Ctor}
use Rattle.grove_sorts.specs.Ctor.{first_position}
use Rattle.grove_edits.specs.declared.vertex.Vertex.{Vertex}
use Rattle.grove_edits.specs.declared.edge.Edge.{Edge}
use Rattle.grove_edits.specs.Edge.{is_sort}
use Rattle.grove_edits.specs.Vertex.{stands_in}
use Rattle.graph_words.specs.Walk.{walk}
use Rattle.grove_edits.specs.declared.action.Place.{Place}
use Rattle.grove_edits.specs.declared.act_fault.ActFault.{ActFault}
use Rattle.grove_edits.specs.declared.act_fault.ActFault.TheVariants.{AmbiguousVertex, WrongSort, NoEdge, AmbiguousEdge, IntoItself}
use Rattle.user_actions.specs.Lists.{GraphLists}
use Rattle.user_actions.specs.Names.{edges_named}
use Rattle.user_actions.specs.Place.{sort_at_place, vertex_named, of_vertex}

-- a fault that is told of the vertex of the action's place
abbrev pub at_place : GraphLists → Option Place → (Vertex → Place → Option ActFault) → Option ActFault
at_place lists None fault = None
at_place lists (Some place) fault = of_vertex (vertex_named lists place.name) None (λ v. fault v place)

abbrev pub two_vertices : List Vertex → Option ActFault → Option ActFault
two_vertices (v ∷ w ∷ _) otherwise = Some (AmbiguousVertex v w)
two_vertices _ otherwise = otherwise

-- the target of the one edge
abbrev pub only_target : List Edge → Option Vertex
only_target [] = None
only_target (e ∷ []) = Some e.target
only_target (e ∷ f ∷ _) = None

abbrev pub other_sort : Option Sort → Option Sort → Option ActFault
other_sort (Some wanted) (Some found) = if is_sort (Some wanted) found then None else Some (WrongSort wanted found)
other_sort _ _ = None

-- the first position of the constructor whose children have the sort of those at the place
abbrev pub wrapping_position : Ctor → Vertex → Place → Option Position
wrapping_position ctor v place = option_and_then (first_position ctor) (sort_at_place v place)

abbrev pub else_edges : List Edge → List Edge → List Edge
else_edges [] others = others
else_edges (e ∷ es) others = e ∷ es

-- the edges that a cut deletes: those of the name that were not Absent as the block opened, and where there are none, those of the graph
abbrev pub edges_cut : GraphLists → List Edge → Name → List Edge
edges_cut lists opening edge = else_edges (edges_named edge opening) (edges_named edge lists.present)

abbrev pub none_named : Name → List Edge → Option ActFault
none_named edge [] = Some (NoEdge edge)
none_named edge (e ∷ es) = None

abbrev pub two_edges : List Edge → Option ActFault
two_edges (e ∷ f ∷ _) = Some (AmbiguousEdge e f)
two_edges _ = None

-- the vertex stands on the walk up from the other
abbrev pub below_itself : List Edge → Vertex → Option Vertex → Option ActFault
below_itself live v None = None
below_itself live v (Some moved) = if stands_in moved (walk live v) then Some (IntoItself moved) else None
