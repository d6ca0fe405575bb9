-- What each action asks of a graph and does to it. Where a definition ends in a line for all others, those ask nothing of that kind.
use Rattle.std.specs.Prelude.{ℕ, ◌+◌, Bool, true, false, not, List, [], ◌∷◌, length, filter, slice_get, Option, None, Some, is_none, option_map, if◌then◌else◌}
use Rattle.grove_names.specs.declared.name.Name.{Name}
use Rattle.grove_sorts.specs.declared.sort.Sort.{Sort}
use Rattle.grove_sorts.specs.declared.ctor.Ctor.{Ctor}
use Rattle.grove_sorts.specs.Ctor.{sort_of_ctor}
use Rattle.grove_edits.specs.declared.vertex.Vertex.{Vertex}
use Rattle.grove_edits.specs.declared.edge.Edge.{Edge}
use Rattle.graph_words.specs.Live.{parents_of}
use Rattle.grove_edits.specs.declared.action.Place.{Place}
use Rattle.grove_edits.specs.declared.action.Action.{Action}
use Rattle.grove_edits.specs.declared.action.Action.TheVariants.{Construct, Wrap, Become, Delete, Cut, Relocate, Restore}
use Rattle.grove_edits.specs.declared.act_fault.ActFault.{ActFault}
use Rattle.grove_edits.specs.declared.act_fault.ActFault.TheVariants.{CannotWrap, NotLoose}
use Rattle.grove_edits.specs.declared.answer.Answer.{Answer}
use Rattle.grove_edits.specs.declared.answer.Answer.TheVariants.{Made, Moved, Done}
use Rattle.user_actions.specs.Lists.{GraphLists}
use Rattle.user_actions.specs.Names.{is_same_name, new_name, edges_named, greatest_counter}
use Rattle.user_actions.specs.Place.{vertex_named, edges_at, of_vertex}
use Rattle.user_actions.specs.Carried.{carried_by_first}
use Rattle.user_actions.specs.Checks.{at_place, only_target, wrapping_position, edges_cut, none_named, two_edges}
use Rattle.user_actions.specs.PlainEdits.{PlainEdit, deletions, insertion, to_new_vertex, wrap_edits, become_edits, relocate_edits}

-- ---- where it acts

-- every action but a cut has a place
abbrev pub place_of : Action → Option Place
place_of (Construct place ctor) = Some place
place_of (Wrap place ctor) = Some place
place_of (Become place ctor) = Some place
place_of (Delete place) = Some place
place_of (Cut edge) = None
place_of (Relocate edge place) = Some place
place_of (Restore vertex place) = Some place

-- the names for which an action wants a vertex, that of the place first
abbrev pub vertex_names : Action → List Name
vertex_names (Construct place ctor) = place.name ∷ []
vertex_names (Wrap place ctor) = place.name ∷ []
vertex_names (Become place ctor) = place.name ∷ []
vertex_names (Delete place) = place.name ∷ []
vertex_names (Cut edge) = []
vertex_names (Relocate edge place) = place.name ∷ []
vertex_names (Restore vertex place) = place.name ∷ vertex ∷ []

-- ---- what its checks ask

-- the sort of what an action is to put at its place
abbrev pub found_sort : GraphLists → Action → Option Sort
found_sort lists (Construct place ctor) = Some (sort_of_ctor ctor)
found_sort lists (Wrap place ctor) = Some (sort_of_ctor ctor)
found_sort lists (Become place ctor) = Some (sort_of_ctor ctor)
found_sort lists (Delete place) = None
found_sort lists (Cut edge) = None
found_sort lists (Relocate edge place) = option_map (λ v. sort_of_ctor v.ctor) (only_target (edges_named edge lists.live))
found_sort lists (Restore vertex place) = option_map (λ v. sort_of_ctor v.ctor) (vertex_named lists vertex)

-- of the edges at the place, those that must not be there
abbrev pub in_the_way : Action → List Edge → List Edge
in_the_way (Construct place ctor) edges = edges
in_the_way (Restore vertex place) edges = edges
in_the_way (Relocate edge place) edges = filter (λ e. not (is_same_name e.name edge)) edges
in_the_way _ edges = []

-- something must stand at the place
abbrev pub wants_edge : Action → Bool
wants_edge (Wrap place ctor) = true
wants_edge (Become place ctor) = true
wants_edge (Delete place) = true
wants_edge _ = false

abbrev pub cannot_wrap : GraphLists → Action → Option ActFault
cannot_wrap lists (Wrap place ctor) = at_place lists (Some place) (λ v at. if is_none (wrapping_position ctor v at) then Some (CannotWrap ctor) else None)
cannot_wrap lists _ = None

abbrev pub no_edge : GraphLists → List Edge → Action → Option ActFault
no_edge lists opening (Relocate edge place) = none_named edge (edges_named edge lists.live)
no_edge lists opening (Cut edge) = none_named edge (edges_cut lists opening edge)
no_edge lists opening _ = None

abbrev pub ambiguous_edge : GraphLists → Action → Option ActFault
ambiguous_edge lists (Relocate edge place) = two_edges (edges_named edge lists.live)
ambiguous_edge lists (Become place ctor) = at_place lists (Some place) (λ v at. two_edges (edges_at lists v at))
ambiguous_edge lists _ = None

-- the vertex that an action moves below its place
abbrev pub moved_vertex : GraphLists → Action → Option Vertex
moved_vertex lists (Relocate edge place) = only_target (edges_named edge lists.live)
moved_vertex lists (Restore vertex place) = vertex_named lists vertex
moved_vertex lists _ = None

abbrev pub not_loose : GraphLists → Action → Option ActFault
not_loose lists (Restore vertex place) = of_vertex (vertex_named lists vertex) None (λ v. option_map NotLoose (slice_get (parents_of v lists.live) 0))
not_loose lists _ = None

-- how many new names an action takes
abbrev pub name_count : GraphLists → Action → ℕ
name_count lists (Construct place ctor) = 2
name_count lists (Wrap place ctor) = of_vertex (vertex_named lists place.name) 2 (λ v. 2 + length (edges_at lists v place))
name_count lists (Become place ctor) = of_vertex (vertex_named lists place.name) 2 (λ v. 2 + length (carried_by_first ctor (edges_at lists v place) lists.live))
name_count lists (Delete place) = 0
name_count lists (Cut edge) = 0
name_count lists (Relocate edge place) = 1
name_count lists (Restore vertex place) = 1

-- ---- what it does

-- the edits of an action whose place has this vertex, where no fault applies
abbrev pub edits_at : GraphLists → ℕ → Action → Vertex → List PlainEdit
edits_at lists author (Construct place ctor) v = to_new_vertex author (greatest_counter lists author) ctor v place ∷ []
edits_at lists author (Wrap place ctor) v = wrap_edits author (greatest_counter lists author) ctor v place (wrapping_position ctor v place) (edges_at lists v place)
edits_at lists author (Become place ctor) v = become_edits author (greatest_counter lists author) ctor v place (edges_at lists v place) lists.live
edits_at lists author (Delete place) v = deletions (edges_at lists v place)
edits_at lists author (Cut edge) v = []
edits_at lists author (Relocate edge place) v = relocate_edits author (greatest_counter lists author) v place (edges_named edge lists.live)
edits_at lists author (Restore vertex place) v =
    of_vertex (vertex_named lists vertex) [] (λ moved. insertion (new_name author (greatest_counter lists author) 1) v place.position moved ∷ [])

abbrev pub edits_of_place : GraphLists → ℕ → Action → Option Place → List PlainEdit
edits_of_place lists author action None = []
edits_of_place lists author action (Some place) = of_vertex (vertex_named lists place.name) [] (edits_at lists author action)

-- the edits of an action to which no fault applies
abbrev pub edits_of : GraphLists → List Edge → ℕ → Action → List PlainEdit
edits_of lists opening author (Cut edge) = deletions (edges_cut lists opening edge)
edits_of lists opening author action = edits_of_place lists author action (place_of action)

-- and what is answered
abbrev pub answer_of : GraphLists → ℕ → Action → Answer
answer_of lists author (Construct place ctor) = Made (new_name author (greatest_counter lists author) 1)
answer_of lists author (Wrap place ctor) = Made (new_name author (greatest_counter lists author) 1)
answer_of lists author (Become place ctor) = Made (new_name author (greatest_counter lists author) 1)
answer_of lists author (Delete place) = Done
answer_of lists author (Cut edge) = Done
answer_of lists author (Relocate edge place) = Moved (new_name author (greatest_counter lists author) 1)
answer_of lists author (Restore vertex place) = Moved (new_name author (greatest_counter lists author) 1)

-- ---- what the laws say of it

-- the action puts one edge at its place
abbrev pub fills_place : Action → Bool
fills_place (Construct place ctor) = true
fills_place (Wrap place ctor) = true
fills_place (Become place ctor) = true
fills_place (Delete place) = false
fills_place (Cut edge) = false
fills_place (Relocate edge place) = true
fills_place (Restore vertex place) = true

-- the constructor of the vertex that the action makes
abbrev pub made_ctor : Action → Option Ctor
made_ctor (Construct place ctor) = Some ctor
made_ctor (Wrap place ctor) = Some ctor
made_ctor (Become place ctor) = Some ctor
made_ctor _ = None

-- the action puts a vertex that is there at its place
abbrev pub moves_vertex : Action → Bool
moves_vertex (Relocate edge place) = true
moves_vertex (Restore vertex place) = true
moves_vertex _ = false
