-- The place of an action, its vertex, and what stands there.
-- The promise of the commands rests on these definitions.
use Rattle.std.specs.Prelude.{List, Option, None, Some, slice_get}
use Rattle.grove_names.specs.declared.name.Name.{Name}
use Rattle.grove_sorts.specs.declared.sort.Sort.{Sort}
use Rattle.grove_sorts.specs.Ctor.{sort_at}
use Rattle.grove_edits.specs.declared.vertex.Vertex.{Vertex}
use Rattle.grove_edits.specs.declared.edge.Edge.{Edge}
use Rattle.graph_words.specs.Live.{children_of}
use Rattle.grove_edits.specs.declared.action.Place.{Place}
use Rattle.user_actions.specs.Lists.{GraphLists}
use Rattle.user_actions.specs.Names.{vertices_named}

-- the vertex of the graph with a name
abbrev pub vertex_named : GraphLists → Name → Option Vertex
vertex_named lists name = slice_get (vertices_named name lists.vertices) 0

-- the sort of the children at the place, where its vertex has the position
abbrev pub sort_at_place : Vertex → Place → Option Sort
sort_at_place v place = sort_at v.ctor place.position

-- the live edges at the place, in edge order
abbrev pub edges_at : GraphLists → Vertex → Place → List Edge
edges_at lists v place = children_of v place.position lists.live

-- what is said of the vertex of a place, where there is one
abbrev pub of_vertex : {X : Type 0} → Option Vertex → X → (Vertex → X) → X
of_vertex None none some = none
of_vertex (Some v) none some = some v
