-- When each fault of an action applies, and the first that does.
-- The promise of the commands rests on these definitions.
use Rattle.std.specs.Prelude.{ℕ, ◌+◌, ◌&&◌, nat_lt, List, [], ◌∷◌, slice_get, Option, None, Some, is_none, option_map, if◌then◌else◌}
use Rattle.grove_names.specs.declared.name.Name.{Name}
use Rattle.grove_edits.specs.declared.vertex.Vertex.{Vertex}
use Rattle.grove_edits.specs.declared.edge.Edge.{Edge}
use Rattle.grove_edits.specs.declared.action.Action.{Action}
use Rattle.grove_edits.specs.declared.act_fault.ActFault.{ActFault}
use Rattle.grove_edits.specs.declared.act_fault.ActFault.TheVariants.{NoVertex, NoPosition, Occupied, Empty, NamesSpent}
use Rattle.user_actions.specs.Lists.{GraphLists}
use Rattle.user_actions.specs.Names.{vertices_named, greatest_counter}
use Rattle.user_actions.specs.Place.{sort_at_place, edges_at}
use Rattle.user_actions.specs.Checks.{at_place, two_vertices, other_sort, below_itself}
use Rattle.user_actions.specs.Actions.{place_of, vertex_names, found_sort, in_the_way, wants_edge, cannot_wrap, no_edge, ambiguous_edge, moved_vertex, not_loose, name_count}

-- ---- 1 and 2: the vertices that are named

abbrev pub no_vertex : List Vertex → List Name → Option ActFault
no_vertex vertices [] = None
no_vertex vertices (name ∷ names) = if is_none (slice_get (vertices_named name vertices) 0) then Some (NoVertex name) else no_vertex vertices names

abbrev pub ambiguous_vertex : List Vertex → List Name → Option ActFault
ambiguous_vertex vertices [] = None
ambiguous_vertex vertices (name ∷ names) = two_vertices (vertices_named name vertices) (ambiguous_vertex vertices names)

-- ---- 3 and 4: the position and the sort

abbrev pub no_position : GraphLists → Action → Option ActFault
no_position lists action = at_place lists (place_of action) (λ v place. if is_none (sort_at_place v place) then Some (NoPosition v) else None)

abbrev pub wrong_sort : GraphLists → Action → Option ActFault
wrong_sort lists action = at_place lists (place_of action) (λ v place. other_sort (sort_at_place v place) (found_sort lists action))

-- ---- 5 and 6: what stands at the place

abbrev pub occupied : GraphLists → Action → Option ActFault
occupied lists action = at_place lists (place_of action) (λ v place. option_map Occupied (slice_get (in_the_way action (edges_at lists v place)) 0))

abbrev pub empty : GraphLists → Action → Option ActFault
empty lists action =
    at_place lists (place_of action)
    (λ v place. if wants_edge action && is_none (slice_get (edges_at lists v place) 0) then Some (Empty place) else None)

-- ---- 10: the vertex that moves

abbrev pub into_itself : GraphLists → Action → Option ActFault
into_itself lists action = at_place lists (place_of action) (λ v place. below_itself lists.live v (moved_vertex lists action))

-- ---- 12: the new names

-- the greatest counter that there is
abbrev pub last_counter : ℕ
last_counter = 18446744073709551615

abbrev pub names_spent : GraphLists → ℕ → Action → Option ActFault
names_spent lists author action =
    if nat_lt 0 (name_count lists action) && nat_lt last_counter (greatest_counter lists author + name_count lists action)
    then Some (NamesSpent (greatest_counter lists author)) else None

-- ---- the first of them

abbrev pub first_some : List (Option ActFault) → Option ActFault
first_some [] = None
first_some (None ∷ faults) = first_some faults
first_some (Some fault ∷ faults) = Some fault

-- the first fault that applies, in number order
abbrev pub first_fault : GraphLists → List Edge → ℕ → Action → Option ActFault
first_fault lists opening author action =
    first_some (
    no_vertex lists.vertices (vertex_names action)
    ∷ ambiguous_vertex lists.vertices (vertex_names action)
    ∷ no_position lists action
    ∷ wrong_sort lists action
    ∷ occupied lists action
    ∷ empty lists action
    ∷ cannot_wrap lists action
    ∷ no_edge lists opening action
    ∷ ambiguous_edge lists action
    ∷ into_itself lists action
    ∷ not_loose lists action
    ∷ names_spent lists author action
    ∷ [])
