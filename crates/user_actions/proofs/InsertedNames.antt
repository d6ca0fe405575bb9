-- The edges that an action inserts, and the vertex that it makes, have new names of its author.
use Rattle.std.proofs.Common.{◌≡◌, ℕ, List, [], ◌∷◌, map, refl, sym, ap, subst, ◌∙◌, arith}
use Rattle.std.specs.Prelude.{Option, None, Some}
use Rattle.std.specs.List.{AllByRecursion}
use Rattle.grove_names.specs.declared.name.Name.{Name}
use Rattle.grove_edits.specs.declared.edge.Edge.{Edge}
use Rattle.grove_edits.specs.declared.edit.Edit.{Edit}
use Rattle.grove_edits.specs.declared.edit.EditKind.TheVariants.{Insert}
use Rattle.grove_edits.specs.Edit.{edit_edge, edit_kind}
use Rattle.grove_edits.specs.Graph.{Graph}
use Rattle.graph_words.specs.Names.{IsNameOf}
use Rattle.grove_edits.specs.declared.action.Action.{Action}
use Rattle.grove_edits.specs.declared.action.Action.TheVariants.{Construct}
use Rattle.grove_edits.specs.declared.act_fault.ActFault.{ActFault}
use Rattle.grove_edits.specs.declared.answer.Answer.{Answer}
use Rattle.grove_edits.specs.declared.answer.Answer.TheVariants.{Made}
use Rattle.user_actions.specs.Lists.{GraphLists, AreListsOf}
use Rattle.user_actions.specs.Names.{new_name, greatest_counter}
use Rattle.user_actions.specs.Faults.{first_fault}
use Rattle.user_actions.specs.PlainEdits.{PlainEdit, plain}
use Rattle.user_actions.specs.Plan.{Planned, plan, unless_refused, IsPlan}
use Rattle.user_actions.specs.Actions.{edits_of, answer_of}
use Rattle.user_actions.proofs.PlainGraphs.{AllEdits}
use Rattle.user_actions.proofs.NoFault.{no_fault}
use Rattle.user_actions.proofs.GoodPlans.{NamesNew, good_plan}
use Rattle.user_actions.proofs.NewNames.{new_is_no_name}

new_in_plan : (g : Graph) (lists : GraphLists) (of : AreListsOf g lists) (opening : List Edge) (author : ℕ) (action : Action) → AllEdits (NamesNew lists author) (plan lists opening author action).edits
new_in_plan g lists of opening author action = by_fault (first_fault lists opening author action) refl where
  by_fault : (o : Option ActFault) → first_fault lists opening author action ≡ o
      → AllEdits (NamesNew lists author) (unless_refused o (record { edits = edits_of lists opening author action; answer = answer_of lists author action })).edits
  by_fault (Some fault) is = tt
  by_fault None is = (good_plan g lists of opening author action (no_fault lists opening author action is)).new

each_edit : (g : Graph) (lists : GraphLists) (of : AreListsOf g lists) (author : ℕ) (edits : List Edit) (ps : List PlainEdit) → map plain edits ≡ ps → AllEdits (NamesNew lists author) ps
    → AllByRecursion (λ edit. edit_kind edit ≡ Insert → IsNameOf g (edit_edge edit).name → ⊥) edits
each_edit g lists of author [] ps are all = tt
each_edit g lists of author (edit ∷ edits) [] are all = absurd cc
each_edit g lists of author (edit ∷ edits) (p ∷ ps) are all =
    let same : plain edit ≡ p = cc in
    let rest : map plain edits ≡ ps = cc in
    let first : NamesNew lists author (edit_kind edit) (edit_edge edit) = subst (λ (q : PlainEdit). NamesNew lists author q.0 q.1) (sym same) all.0 in (
      λ is named. let new = first is in new_is_no_name g lists of author new.0 new.1 (subst (IsNameOf g) new.2 named),
      each_edit g lists of author edits ps rest all.1,
    )

-- an inserted edge has a name that is no name of the graph
pub inserted_new : (g : Graph) (opening : List Edge) (author : ℕ) (action : Action) (edits : List Edit) (answer : Answer) → IsPlan g opening author action edits answer
    → AllByRecursion (λ edit. edit_kind edit ≡ Insert → IsNameOf g (edit_edge edit).name → ⊥) edits
inserted_new g opening author action edits answer of =
    each_edit g of.lists of.are_lists author edits (plan of.lists opening author action).edits of.edits_are (new_in_plan g of.lists of.are_lists opening author action)

some_made : (a b : Name) → Made a ≡ Made b → a ≡ b
some_made a b h = cc

pub made_is : (lists : GraphLists) (author : ℕ) (action : Action) (vertex : Name) → Made vertex ≡ answer_of lists author action → vertex ≡ new_name author (greatest_counter lists author) 1
made_is lists author (Construct place ctor) vertex h = some_made vertex (new_name author (greatest_counter lists author) 1) h
made_is lists author _ vertex h = cc

-- and so has the vertex that is made
pub made_new : (g : Graph) (opening : List Edge) (author : ℕ) (action : Action) (edits : List Edit) (vertex : Name) → IsPlan g opening author action edits (Made vertex) → IsNameOf g vertex → ⊥
made_new g opening author action edits vertex of named = by_fault (first_fault of.lists opening author action) refl where
  whole : Planned
  whole = record { edits = edits_of of.lists opening author action; answer = answer_of of.lists author action }

  by_fault : (o : Option ActFault) → first_fault of.lists opening author action ≡ o → ⊥
  by_fault (Some fault) is = let both = of.answer_is ∙ ap (λ f. (unless_refused f whole).answer) is in cc
  by_fault None is =
      let new = made_is of.lists author action vertex (of.answer_is ∙ ap (λ f. (unless_refused f whole).answer) is) in
      new_is_no_name g of.lists of.are_lists author 1 (omega arith) (subst (IsNameOf g) new named)
