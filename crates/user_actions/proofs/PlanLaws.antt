-- The laws of plans on the graph after their edits.
use Rattle.std.proofs.Common.{◌≡◌, ℕ, true, false, List, [], ◌∷◌, length, map, refl, sym, ap, subst, ◌∙◌}
use Rattle.std.specs.Prelude.{Some}
use Rattle.edge_lattice.specs.State.{state_join}
use Rattle.grove_sorts.specs.declared.position.Position.{Position}
use Rattle.grove_sorts.specs.declared.ctor.Ctor.{Ctor}
use Rattle.grove_edits.specs.declared.vertex.Vertex.{Vertex}
use Rattle.grove_edits.specs.declared.edge.Edge.{Edge}
use Rattle.grove_edits.specs.declared.edit.Edit.{Edit}
use Rattle.grove_edits.specs.declared.edit.EditKind.TheVariants.{Insert}
use Rattle.grove_edits.specs.Graph.{Graph, IsSame}
use Rattle.graph_words.specs.Live.{children_of}
use Rattle.graph_words.specs.Whole.{AreLive, IsVertexOf}
use Rattle.grove_edits.specs.declared.action.Place.{Place}
use Rattle.grove_edits.specs.declared.action.Action.{Action}
use Rattle.grove_edits.specs.declared.action.Action.TheVariants.{Delete}
use Rattle.grove_edits.specs.declared.answer.Answer.{Answer}
use Rattle.user_actions.specs.Lists.{GraphLists}
use Rattle.user_actions.specs.Names.{new_name, greatest_counter}
use Rattle.user_actions.specs.Place.{edges_at}
use Rattle.user_actions.specs.PlainEdits.{PlainEdit, plain, new_vertex, deletions}
use Rattle.user_actions.specs.Plan.{IsPlan}
use Rattle.user_actions.specs.After.{graph_after, IsAccepted, NamesNot}
use Rattle.user_actions.specs.Actions.{place_of, edits_of, answer_of, fills_place, made_ctor, moves_vertex, moved_vertex}
use Rattle.user_actions.proofs.PlainGraphs.{plain_graph, graph-plain, AllEdits, after_edits, one_left, none_left, children_kept, not_of, is_at, join_absent}
use Rattle.user_actions.proofs.EditLists.{all_deletions, has_deletion}
use Rattle.user_actions.proofs.NoFault.{no_fault, IsOnly, only_one}
use Rattle.user_actions.proofs.Accepted.{made, edits_here}
use Rattle.user_actions.proofs.GoodPlans.{to_delete, good_plan}

pub live_along : (g h : Graph) (live : List Edge) → IsSame g h → AreLive g live → AreLive h live
live_along g h live same of = record {
  in_order = of.in_order;
  each = λ e is. of.each e (same e ∙ is);
  no_other = λ e held. sym (same e) ∙ of.no_other e held;
}

pub after_is : (g : Graph) (edits : List Edit) (ps : List PlainEdit) → map plain edits ≡ ps → IsSame (graph_after g edits) (after_edits g ps)
after_is g edits ps are e = ap (state_join (g e)) (graph-plain edits e ∙ ap (λ qs. plain_graph qs e) are)

-- ---- places that no edit names

not_at : (v : Vertex) (p : Position) (edits : List Edit) → NamesNot v p edits → AllEdits (λ kind f. is_at v p f ≡ false) (map plain edits)
not_at v p [] none = tt
not_at v p (edit ∷ edits) none = (none.0, not_at v p edits none.1)

pub other_places : (g : Graph) (edits : List Edit) (before after : List Edge) (v : Vertex) (p : Position) → AreLive g before → AreLive (graph_after g edits) after → NamesNot v p edits
    → children_of v p after ≡ children_of v p before
other_places g edits before after v p of_g of_h none =
    children_kept g (graph_after g edits) before after v p of_g of_h
    (λ e here. after_is g edits (map plain edits) refl e ∙ join_absent (g e) (plain_graph (map plain edits) e) (not_of (is_at v p) (map plain edits) (not_at v p edits none) e here))

-- ---- the place of the action

-- an action that moves a vertex puts an edge at its place
pub moving_fills : (action : Action) → moves_vertex action ≡ true → fills_place action ≡ true
moving_fills (Delete at) moves = absurd cc
moving_fills _ moves = cc

some_place : (p q : Place) → Some p ≡ Some q → p ≡ q
some_place p q is = cc

-- the new edge is the one at the place, and leads to the vertex that the action makes or moves
pub record EdgeLeft (lists : GraphLists) (author : ℕ) (action : Action) (place : Place) (v : Vertex) (answer : Answer) (live : List Edge) : Type 0 where
  pub new : Edge
  pub left : children_of v place.position live ≡ new ∷ []
  pub makes : (ctor : Ctor) → made_ctor action ≡ Some ctor → new.target ≡ new_vertex author (greatest_counter lists author) ctor
  pub moves : moves_vertex action ≡ true → (new.name ≡ new_name author (greatest_counter lists author) 1) × (moved_vertex lists action ≡ Some new.target)
  pub told : answer ≡ answer_of lists author action

pub edge_left : (g : Graph) (opening : List Edge) (author : ℕ) (action : Action) (edits : List Edit) (answer : Answer) (place : Place) (v : Vertex) (live : List Edge)
    → (planned : IsPlan g opening author action edits answer) → IsAccepted answer → fills_place action ≡ true → place_of action ≡ Some place → IsVertexOf g v → v.name ≡ place.name
    → AreLive (graph_after g edits) live → EdgeLeft planned.lists author action place v answer live
edge_left g opening author action edits answer place v live planned accepted fill named vertex at of_h =
    let is = made planned.lists opening author action edits answer planned.edits_are planned.answer_is accepted in
    let f = (good_plan g planned.lists planned.are_lists opening author action (no_fault planned.lists opening author action is.no_fault)).fills fill in
    let here : f.place ≡ place = some_place f.place place (sym f.named ∙ named) in
    let one : f.vertex ≡ v = only_one planned.lists place.name f.vertex v (subst (λ (p : Place). IsOnly planned.lists p.name f.vertex) here f.only) (planned.are_lists.vertices.each v vertex) at in
    let ps = edits_of planned.lists opening author action in
    let left : children_of f.vertex f.place.position live ≡ f.new ∷ [] =
    one_left g planned.lists.live live f.vertex f.place.position f.new ps planned.are_lists.live f.puts (live_along (graph_after g edits) (after_edits g ps) live (after_is g edits ps is.edits_are) of_h) in
    record {
      new = f.new;
      left = ap (λ (p : Place). children_of v p.position live) (sym here) ∙ ap (λ w. children_of w f.place.position live) (sym one) ∙ left;
      makes = f.makes;
      moves = λ moves. let m = f.moves moves in (m.name, m.meant);
      told = is.answer_is;
    }

pub one_edge_left : (g : Graph) (opening : List Edge) (author : ℕ) (action : Action) (edits : List Edit) (answer : Answer) (place : Place) (v : Vertex) (live : List Edge)
    → IsPlan g opening author action edits answer → IsAccepted answer → fills_place action ≡ true → place_of action ≡ Some place → IsVertexOf g v → v.name ≡ place.name
    → AreLive (graph_after g edits) live → length (children_of v place.position live) ≡ 1
one_edge_left g opening author action edits answer place v live planned accepted fill named vertex at of_h =
    ap length (edge_left g opening author action edits answer place v live planned accepted fill named vertex at of_h).left

pub no_edge_left : (g : Graph) (opening : List Edge) (author : ℕ) (edits : List Edit) (answer : Answer) (place : Place) (v : Vertex) (live : List Edge)
    → IsPlan g opening author (Delete place) edits answer → IsAccepted answer → IsVertexOf g v → v.name ≡ place.name
    → AreLive (graph_after g edits) live → children_of v place.position live ≡ []
no_edge_left g opening author edits answer place v live planned accepted vertex at of_h =
    let lists = planned.lists in
    let is = made lists opening author (Delete place) edits answer planned.edits_are planned.answer_is accepted in
    let has = to_delete lists opening author place (no_fault lists opening author (Delete place) is.no_fault) in
    let one : has.vertex ≡ v = only_one lists place.name has.vertex v has.only (planned.are_lists.vertices.each v vertex) at in
    let es = edges_at lists has.vertex place in
    let are : map plain edits ≡ deletions es = is.edits_are ∙ edits_here lists author (Delete place) place has.vertex has.only in
    let left : children_of has.vertex place.position live ≡ [] =
    none_left g lists.live live has.vertex place.position (deletions es) planned.are_lists.live
    (all_deletions (λ kind e. kind ≡ Insert → is_at has.vertex place.position e ≡ true → ⊥) es (λ e held is. absurd cc)) (λ e held. has_deletion es e held)
    (live_along (graph_after g edits) (after_edits g (deletions es)) live (after_is g edits (deletions es) are) of_h) in
    ap (λ w. children_of w place.position live) (sym one) ∙ left
