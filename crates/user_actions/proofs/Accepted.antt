-- What a plan has where it is not refused.
use Rattle.std.proofs.Common.{◌≡◌, ℕ, Bool, true, false, cond, List, [], ◌∷◌, map, refl, sym, ap, subst, ◌∙◌}
use Rattle.std.specs.Prelude.{Option, None, Some, is_none}
use Rattle.grove_names.specs.declared.name.Name.{Name}
use Rattle.grove_sorts.specs.declared.sort.Sort.{Sort}
use Rattle.grove_edits.specs.declared.vertex.Vertex.{Vertex}
use Rattle.grove_edits.specs.declared.edge.Edge.{Edge}
use Rattle.grove_edits.specs.declared.edit.Edit.{Edit}
use Rattle.grove_edits.specs.Vertex.{stands_in}
use Rattle.graph_words.specs.Walk.{walk}
use Rattle.grove_edits.specs.declared.action.Place.{Place}
use Rattle.grove_edits.specs.declared.action.Action.{Action}
use Rattle.grove_edits.specs.declared.act_fault.ActFault.{ActFault}
use Rattle.grove_edits.specs.declared.act_fault.ActFault.TheVariants.{NoVertex, NoPosition, IntoItself}
use Rattle.grove_edits.specs.declared.answer.Answer.{Answer}
use Rattle.grove_edits.specs.declared.answer.Answer.TheVariants.{Refused}
use Rattle.user_actions.specs.Lists.{GraphLists}
use Rattle.user_actions.specs.Names.{vertices_named}
use Rattle.user_actions.specs.Place.{sort_at_place, vertex_named, of_vertex}
use Rattle.user_actions.specs.Faults.{no_vertex, ambiguous_vertex, first_fault}
use Rattle.user_actions.specs.PlainEdits.{plain}
use Rattle.user_actions.specs.Plan.{Planned, plan, unless_refused, IsMade}
use Rattle.user_actions.specs.After.{IsAccepted}
use Rattle.user_actions.specs.Checks.{at_place, other_sort, none_named, below_itself}
use Rattle.user_actions.specs.Actions.{vertex_names, edits_at, edits_of, answer_of}
use Rattle.user_actions.proofs.NoFault.{NoFault, IsOnly, one_named, at_place_is, vertex_named_is, some_from, wanted_sort}

-- ---- a plan that is not refused

pub made : (lists : GraphLists) (opening : List Edge) (author : ℕ) (action : Action) (edits : List Edit) (answer : Answer) → map plain edits ≡ (plan lists opening author action).edits
    → answer ≡ (plan lists opening author action).answer → IsAccepted answer → IsMade lists opening author action edits answer
made lists opening author action edits answer edits_are answer_is accepted = by_fault (first_fault lists opening author action) refl where
  whole : Planned
  whole = record { edits = edits_of lists opening author action; answer = answer_of lists author action }

  by_fault : (o : Option ActFault) → first_fault lists opening author action ≡ o → IsMade lists opening author action edits answer
  by_fault (Some fault) is =
      let refused : answer ≡ Refused fault = answer_is ∙ ap (λ f. (unless_refused f whole).answer) is in
      absurd (subst IsAccepted refused accepted)
  by_fault None is = record {
    no_fault = is;
    edits_are = edits_are ∙ ap (λ f. (unless_refused f whole).edits) is;
    answer_is = answer_is ∙ ap (λ f. (unless_refused f whole).answer) is;
  }

pub edits_here : (lists : GraphLists) (author : ℕ) (action : Action) (place : Place) (v : Vertex) → IsOnly lists place.name v
    → of_vertex (vertex_named lists place.name) [] (edits_at lists author action) ≡ edits_at lists author action v
edits_here lists author action place v only = ap (λ o. of_vertex o [] (edits_at lists author action)) (vertex_named_is lists place.name v only)

-- ---- the vertex of the place, and the sort there

pub record HasPlace (lists : GraphLists) (place : Place) : Type 0 where
  pub vertex : Vertex
  pub only : IsOnly lists place.name vertex
  pub sort : Sort
  pub position : sort_at_place vertex place ≡ Some sort

pub place_from : (lists : GraphLists) (place : Place) (names : List Name) → no_vertex lists.vertices (place.name ∷ names) ≡ None → ambiguous_vertex lists.vertices (place.name ∷ names) ≡ None
    → at_place lists (Some place) (λ v at. cond (is_none (sort_at_place v at)) (Some (NoPosition v)) None) ≡ None → HasPlace lists place
place_from lists place names some one position =
    let v = one_named (NoVertex place.name) (no_vertex lists.vertices names) (ambiguous_vertex lists.vertices names) (vertices_named place.name lists.vertices) some one in
    let found = some_from (sort_at_place v.0 place) (NoPosition v.0) (sym (at_place_is lists place v.0 (λ w at. cond (is_none (sort_at_place w at)) (Some (NoPosition w)) None) v.1) ∙ position) in
    record { vertex = v.0; only = v.1; sort = found.0; position = found.1 }

-- the sort of what is put at the place is the one that its position wants
pub sort_from : (lists : GraphLists) (place : Place) (found : Option Sort) (sort : Sort) → found ≡ Some sort → (has : HasPlace lists place)
    → at_place lists (Some place) (λ v at. other_sort (sort_at_place v at) found) ≡ None → has.sort ≡ sort
sort_from lists place found sort is has none =
    let here : other_sort (sort_at_place has.vertex place) found ≡ None = sym (at_place_is lists place has.vertex (λ v at. other_sort (sort_at_place v at) found) has.only) ∙ none in
    wanted_sort has.sort sort (ap (λ o. other_sort o (Some sort)) (sym has.position) ∙ ap (other_sort (sort_at_place has.vertex place)) (sym is) ∙ here)

-- the second name for which an action wants a vertex is that of one vertex alone
pub second_only : (lists : GraphLists) (opening : List Edge) (author : ℕ) (action : Action) (first second : Name) → NoFault lists opening author action → vertex_names action ≡ first ∷ second ∷ []
    → (v : Vertex) × IsOnly lists second v
second_only lists opening author action first second none are =
    let some : no_vertex lists.vertices (first ∷ second ∷ []) ≡ None = ap (no_vertex lists.vertices) (sym are) ∙ none.vertex in
    let one : ambiguous_vertex lists.vertices (first ∷ second ∷ []) ≡ None = ap (ambiguous_vertex lists.vertices) (sym are) ∙ none.one_vertex in
    let at_first = one_named (NoVertex first) (no_vertex lists.vertices (second ∷ [])) (ambiguous_vertex lists.vertices (second ∷ [])) (vertices_named first lists.vertices) some one in
    let at_second = one_named (NoVertex second) None None (vertices_named second lists.vertices) at_first.2 at_first.3 in
    (at_second.0, at_second.1)

-- ---- the edge with a name, and the vertex that moves

pub some_edge : (edge : Name) (es : List Edge) → none_named edge es ≡ None → (e : Edge) × (rest : List Edge) × (es ≡ e ∷ rest)
some_edge edge [] h = absurd cc
some_edge edge (e ∷ es) h = (e, es, refl)

not_below : (live : List Edge) (v moved : Vertex) → below_itself live v (Some moved) ≡ None → stands_in moved (walk live v) ≡ false
not_below live v moved h = by_test (stands_in moved (walk live v)) refl h where
  by_test : (b : Bool) → stands_in moved (walk live v) ≡ b → cond b (Some (IntoItself moved)) None ≡ None → stands_in moved (walk live v) ≡ false
  by_test true is none = absurd cc
  by_test false is none = is

pub apart_from : (lists : GraphLists) (place : Place) (found : Option Vertex) (moved : Vertex) → found ≡ Some moved → (has : HasPlace lists place)
    → at_place lists (Some place) (λ v at. below_itself lists.live v found) ≡ None → stands_in moved (walk lists.live has.vertex) ≡ false
apart_from lists place found moved is has none =
    not_below lists.live has.vertex moved
    (ap (below_itself lists.live has.vertex) (sym is) ∙ sym (at_place_is lists place has.vertex (λ v at. below_itself lists.live v found) has.only) ∙ none)
