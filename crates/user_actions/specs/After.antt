-- The graph after the edits of an action.
use Rattle.std.specs.Prelude.{◌≡◌, Bool, false, ◌&&◌, not, List, map}
use Rattle.std.specs.List.{AllByRecursion}
use Rattle.grove_names.specs.declared.name.Name.{Name}
use Rattle.grove_sorts.specs.declared.position.Position.{Position}
use Rattle.grove_sorts.specs.declared.ctor.Ctor.{Ctor}
use Rattle.grove_sorts.specs.Ctor.{sort_at}
use Rattle.grove_edits.specs.declared.vertex.Vertex.{Vertex}
use Rattle.grove_edits.specs.declared.edge.Edge.{Edge}
use Rattle.grove_edits.specs.declared.edit.Edit.{Edit}
use Rattle.grove_edits.specs.Vertex.{is_same_vertex}
use Rattle.grove_edits.specs.Edit.{edit_edge}
use Rattle.grove_edits.specs.Graph.{Graph, graph, graph_join, is_same_edge}
use Rattle.graph_words.specs.Live.{children_of, is_from}
use Rattle.grove_edits.specs.declared.answer.Answer.{Answer}
use Rattle.grove_edits.specs.declared.answer.Answer.TheVariants.{Refused}
use Rattle.user_actions.specs.Carried.{has_same_sort}

abbrev pub graph_after : Graph → List Edit → Graph
graph_after g edits = graph_join g (graph edits)

-- the action was not refused
abbrev pub IsAccepted : Answer → Type 0
IsAccepted (Refused fault) = ⊥
IsAccepted _ = Unit {0}

abbrev pub vertex_of : Name → Ctor → Vertex
vertex_of name ctor = record { name = name; ctor = ctor }

-- the vertices at a position of a vertex, in the order of their edges
abbrev pub targets_at : Vertex → Position → List Edge → List Vertex
targets_at v p live = map (λ e. e.target) (children_of v p live)

-- where the target of one edge becomes a vertex with a constructor, the other edge goes along to it
abbrev pub goes_along : Ctor → Edge → Edge → Bool
goes_along ctor replaced e =
    is_same_vertex e.source replaced.target && not (is_same_edge e replaced)
    && has_same_sort (sort_at ctor e.position) (sort_at replaced.target.ctor e.position)

-- the place is the source and position of none of the edits
abbrev pub NamesNot : Vertex → Position → List Edit → Type 0
NamesNot v p edits = AllByRecursion (λ edit. is_from (edit_edge edit) v p ≡ false) edits
