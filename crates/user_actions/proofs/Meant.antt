-- The one edge of the place leads to the vertex that the action makes or moves.
use Rattle.std.proofs.Common.{◌≡◌, ℕ, true, List, [], ◌∷◌, map, refl, sym, ap, ◌∙◌}
use Rattle.std.specs.Prelude.{Some}
use Rattle.grove_names.specs.declared.name.Name.{Name}
use Rattle.grove_sorts.specs.declared.ctor.Ctor.{Ctor}
use Rattle.grove_edits.specs.declared.vertex.Vertex.{Vertex}
use Rattle.grove_edits.specs.declared.edge.Edge.{Edge}
use Rattle.grove_edits.specs.declared.edit.Edit.{Edit}
use Rattle.grove_edits.specs.Graph.{Graph}
use Rattle.grove_edits.specs.declared.action.Place.{Place}
use Rattle.grove_edits.specs.declared.action.Action.{Action}
use Rattle.grove_edits.specs.declared.action.Action.TheVariants.{Delete}
use Rattle.grove_edits.specs.declared.answer.Answer.{Answer}
use Rattle.grove_edits.specs.declared.answer.Answer.TheVariants.{Made, Moved}
use Rattle.grove_terms.proofs.OneGrove.{one_live}
use Rattle.graph_words.specs.Live.{children_of, holds_edge}
use Rattle.graph_words.specs.Whole.{AreLive, IsVertexOf}
use Rattle.graph_words.proofs.Ordered.{holds-filter}
use Rattle.user_actions.specs.Lists.{GraphLists}
use Rattle.user_actions.specs.Names.{is_same_name, new_name, edges_named, greatest_counter}
use Rattle.user_actions.specs.Place.{vertex_named}
use Rattle.user_actions.specs.PlainEdits.{new_vertex}
use Rattle.user_actions.specs.Plan.{IsPlan}
use Rattle.user_actions.specs.After.{graph_after, IsAccepted, vertex_of, targets_at}
use Rattle.user_actions.specs.Checks.{only_target}
use Rattle.user_actions.specs.Actions.{place_of, vertex_names, moved_vertex, answer_of, fills_place, made_ctor, moves_vertex}
use Rattle.user_actions.proofs.Truths.{same_name_itself}
use Rattle.user_actions.proofs.PlainGraphs.{only_edge}
use Rattle.user_actions.proofs.NoFault.{no_fault, only_one, vertex_named_is}
use Rattle.user_actions.proofs.Accepted.{made, second_only}
use Rattle.user_actions.proofs.InsertedNames.{made_is}
use Rattle.user_actions.proofs.PlanLaws.{edge_left, moving_fills}
use Rattle.grove_sorts.proofs.Truths.{and_true}

targets_are : (v : Vertex) (place : Place) (live : List Edge) (e : Edge) (t : Vertex) → children_of v place.position live ≡ e ∷ [] → e.target ≡ t → targets_at v place.position live ≡ t ∷ []
targets_are v place live e t left target = ap (map (λ c. c.target)) left ∙ ap (λ w. w ∷ []) target

-- ---- a vertex that is made

some_ctor : (a b : Ctor) → Some a ≡ Some b → a ≡ b
some_ctor a b h = cc

pub made_vertex : (author greatest : ℕ) (k : Ctor) (name : Name) (ctor : Ctor) → Some k ≡ Some ctor → name ≡ new_name author greatest 1 → new_vertex author greatest k ≡ vertex_of name ctor
made_vertex author greatest k name ctor makes is = ap (vertex_of (new_name author greatest 1)) (some_ctor k ctor makes) ∙ ap (λ n. vertex_of n ctor) (sym is)

fills_made : (action : Action) (ctor : Ctor) → made_ctor action ≡ Some ctor → fills_place action ≡ true
fills_made (Delete at) ctor makes = absurd cc
fills_made _ ctor makes = cc

pub made_stands : (g : Graph) (opening : List Edge) (author : ℕ) (action : Action) (edits : List Edit) (place : Place) (v : Vertex) (live : List Edge) (name : Name) (ctor : Ctor)
    → IsPlan g opening author action edits (Made name) → place_of action ≡ Some place → made_ctor action ≡ Some ctor → IsVertexOf g v → v.name ≡ place.name
    → AreLive (graph_after g edits) live → targets_at v place.position live ≡ vertex_of name ctor ∷ []
made_stands g opening author action edits place v live name ctor planned named makes vertex at of_h =
    let left = edge_left g opening author action edits (Made name) place v live planned tt (fills_made action ctor makes) named vertex at of_h in
    let as_named = made_vertex author (greatest_counter planned.lists author) ctor name ctor refl (made_is planned.lists author action name left.told) in
    targets_are v place live left.new (vertex_of name ctor) left.left (left.makes ctor makes ∙ as_named)

-- ---- a vertex that is moved

some_vertex : (a b : Vertex) → Some a ≡ Some b → a ≡ b
some_vertex a b h = cc

moved_stands : (g : Graph) (opening : List Edge) (author : ℕ) (action : Action) (place : Place) (edits : List Edit) (answer : Answer) (v moved : Vertex) (live : List Edge)
    → (planned : IsPlan g opening author action edits answer) → IsAccepted answer → moves_vertex action ≡ true → place_of action ≡ Some place → IsVertexOf g v → v.name ≡ place.name
    → AreLive (graph_after g edits) live → moved_vertex planned.lists action ≡ Some moved → targets_at v place.position live ≡ moved ∷ []
moved_stands g opening author action place edits answer v moved live planned accepted moves named vertex at of_h meant =
    let left = edge_left g opening author action edits answer place v live planned accepted (moving_fills action moves) named vertex at of_h in
    targets_are v place live left.new moved left.left (some_vertex left.new.target moved (sym (left.moves moves).1 ∙ meant))

target_of_only : (es : List Edge) (e : Edge) → (v : Vertex) × (only_target es ≡ Some v) → holds_edge e es ≡ true → only_target es ≡ Some e.target
target_of_only [] e some held = absurd cc
target_of_only (x ∷ []) e some held = ap (λ (y : Edge). Some y.target) (only_edge x e held)
target_of_only (x ∷ y ∷ es) e some held = let none = some.1 in absurd cc

-- by an action that moves the target of the one edge with a name
pub target_stands : {action : Action} (g : Graph) (opening : List Edge) (author : ℕ) (edge : Name) (place : Place) (edits : List Edit) (answer : Answer) (v : Vertex) (before after : List Edge) (old : Edge)
    → IsPlan g opening author action edits answer → moves_vertex action ≡ true → place_of action ≡ Some place
    → ((lists : GraphLists) → moved_vertex lists action ≡ only_target (edges_named edge lists.live)) → IsAccepted answer → IsVertexOf g v → v.name ≡ place.name → AreLive g before
    → holds_edge old before ≡ true → old.name ≡ edge → AreLive (graph_after g edits) after → targets_at v place.position after ≡ old.target ∷ []
target_stands {action} g opening author edge place edits answer v before after old planned moves named meant accepted vertex at of_g held called of_h =
    let lists = planned.lists in
    let left = edge_left g opening author action edits answer place v after planned accepted (moving_fills action moves) named vertex at of_h in
    let live : holds_edge old lists.live ≡ true = ap (holds_edge old) (one_live g lists.live before planned.are_lists.live of_g) ∙ held in
    let there : holds_edge old (edges_named edge lists.live) ≡ true =
    holds-filter (λ e. is_same_name e.name edge) old lists.live
    ∙ and_true (is_same_name old.name edge) (holds_edge old lists.live) (ap (λ n. is_same_name n edge) called ∙ same_name_itself edge) live in
    let one = target_of_only (edges_named edge lists.live) old (left.new.target, sym (meant lists) ∙ (left.moves moves).1) there in
    moved_stands g opening author action place edits answer v old.target after planned accepted moves named vertex at of_h (meant lists ∙ one)

-- by an action that moves the vertex with a name
pub vertex_stands : {action : Action} (g : Graph) (opening : List Edge) (author : ℕ) (name : Name) (place : Place) (edits : List Edit) (answer : Answer) (v moved : Vertex) (live : List Edge)
    → IsPlan g opening author action edits answer → moves_vertex action ≡ true → place_of action ≡ Some place → vertex_names action ≡ place.name ∷ name ∷ []
    → ((lists : GraphLists) → moved_vertex lists action ≡ vertex_named lists name) → IsAccepted answer → IsVertexOf g v → v.name ≡ place.name → IsVertexOf g moved → moved.name ≡ name
    → AreLive (graph_after g edits) live → targets_at v place.position live ≡ moved ∷ []
vertex_stands {action} g opening author name place edits answer v moved live planned moves named names meant accepted vertex at is_vertex called of_h =
    let lists = planned.lists in
    let is = made lists opening author action edits answer planned.edits_are planned.answer_is accepted in
    let only = second_only lists opening author action place.name name (no_fault lists opening author action is.no_fault) names in
    let one : only.0 ≡ moved = only_one lists name only.0 moved only.1 (planned.are_lists.vertices.each moved is_vertex) called in
    moved_stands g opening author action place edits answer v moved live planned accepted moves named vertex at of_h (meant lists ∙ vertex_named_is lists name only.0 only.1 ∙ ap Some one)

-- ---- the edge that leads to it

moved_is : (lists : GraphLists) (author : ℕ) (action : Action) (name : Name) → Moved name ≡ answer_of lists author action → new_name author (greatest_counter lists author) 1 ≡ name
moved_is lists author (Delete at) name told = absurd cc
moved_is lists author _ name told = cc

told_moved : (lists : GraphLists) (author : ℕ) (action : Action) (name : Name) → Moved name ≡ answer_of lists author action → moves_vertex action ≡ true
told_moved lists author (Delete at) name told = absurd cc
told_moved lists author _ name told = cc

pub moved_edge_stands : (g : Graph) (opening : List Edge) (author : ℕ) (action : Action) (edits : List Edit) (place : Place) (v : Vertex) (live : List Edge) (name : Name)
    → IsPlan g opening author action edits (Moved name) → place_of action ≡ Some place → IsVertexOf g v → v.name ≡ place.name
    → AreLive (graph_after g edits) live → map (λ e. e.name) (children_of v place.position live) ≡ name ∷ []
moved_edge_stands g opening author action edits place v live name planned named vertex at of_h =
    let is = made planned.lists opening author action edits (Moved name) planned.edits_are planned.answer_is tt in
    let moves = told_moved planned.lists author action name is.answer_is in
    let left = edge_left g opening author action edits (Moved name) place v live planned tt (moving_fills action moves) named vertex at of_h in
    ap (map (λ e. e.name)) left.left ∙ ap (λ n. n ∷ []) ((left.moves moves).0 ∙ moved_is planned.lists author action name is.answer_is)
