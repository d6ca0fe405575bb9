-- An action in a block that opened with no edges, and in one that opens with those of the graph.
use Rattle.std.proofs.Common.{◌≡◌, ℕ, List, [], ◌∷◌, map, refl, ap, ◌∙◌}
use Rattle.grove_names.specs.declared.name.Name.{Name}
use Rattle.grove_edits.specs.declared.edge.Edge.{Edge}
use Rattle.grove_edits.specs.declared.edit.Edit.{Edit}
use Rattle.grove_edits.specs.declared.action.Action.{Action}
use Rattle.grove_edits.specs.declared.action.Action.TheVariants.{Cut}
use Rattle.grove_edits.specs.declared.answer.Answer.{Answer}
use Rattle.grove_edits.specs.Edit.{edit_edge}
use Rattle.grove_edits.specs.Graph.{graph}
use Rattle.user_actions.specs.Checks.{else_edges, edges_cut}
use Rattle.user_actions.specs.Lists.{GraphLists}
use Rattle.user_actions.specs.Names.{edges_named}
use Rattle.user_actions.specs.Plan.{Planned, plan, IsPlan}
use Rattle.user_actions.proofs.OnePlan.{one_lists}
use Rattle.replica_core.specs.Content.{Content, IsContent}
use Rattle.replica_core.specs.Lists.{lists_of}
use Rattle.replica_core.proofs.Contents.{content_opened}
use Rattle.replica_core.proofs.ListsOf.{lists_are}
use Rattle.grove_editor.specs.Acted.{IsPlanned}

else_same : (edges : List Edge) → else_edges edges edges ≡ edges
else_same [] = refl
else_same (e ∷ es) = refl

-- a cut takes the same edges
same_cut : (lists : GraphLists) (edge : Name) → edges_cut lists lists.present edge ≡ edges_cut lists [] edge
same_cut lists edge = else_same (edges_named edge lists.present)

same_plan : (lists : GraphLists) (author : ℕ) (action : Action) → plan lists [] author action ≡ plan lists lists.present author action
same_plan lists author (Cut edge) = simp else_same
same_plan lists author _ = refl

pub own_block : (edits : List Edit) (author : ℕ) (action : Action) → plan (lists_of edits) [] author action ≡ plan (lists_of edits) (map edit_edge edits) author action
own_block edits author action = same_plan (lists_of edits) author action

-- the plan in a block that opened with no edges is that in a block of its own
pub own_plan : (content : Content) (author : ℕ) (action : Action) (edits : List Edit) (answer : Answer) → IsContent content → content.opening ≡ []
    → IsPlan (graph content.edits) content.opening author action edits answer → IsPlanned content.edits author action edits answer
own_plan content author action edits answer of none is =
    let lists = lists_of content.edits in
    let same : is.lists ≡ lists = one_lists (graph content.edits) is.lists lists is.are_lists (lists_are content.edits of.in_order) in
    let block : plan is.lists content.opening author action ≡ plan lists (map edit_edge content.edits) author action =
    ap (λ (ls : GraphLists). plan ls content.opening author action) same ∙ ap (λ (opening : List Edge). plan lists opening author action) none ∙ own_block content.edits author action in
    record {
      opening_in_order = (content_opened content of).opening_in_order;
      lists = lists;
      are_lists = lists_are content.edits of.in_order;
      edits_are = is.edits_are ∙ ap (λ (p : Planned). p.edits) block;
      answer_is = is.answer_is ∙ ap (λ (p : Planned). p.answer) block;
    }
