-- What undoing says of the live graph that a replica lends, told of the graph itself.
use Rattle.std.proofs.Common.{◌≡◌, ◌≢◌, ℕ, List, get_or, refl, sym, subst, ◌∙◌}
use Rattle.std.proofs.Math.Path.{fun_ext}
use Rattle.std.specs.Prelude.{Result, Ok, Err, IfOk, OnOk}
use Rattle.std.proofs.lemmas.Option.{get_or_from_slice_get}
use Rattle.text_parts.specs.declared.no_memory.NoMemory.{NoMemory}
use Rattle.grove_edits.specs.declared.edit.Edit.{Edit}
use Rattle.grove_edits.specs.Graph.{Graph, graph, IsSame}
use Rattle.graph_words.specs.States.{Entries, state_in}
use Rattle.graph_words.specs.Whole.{AreLive}
use Rattle.grove_undo.specs.declared.change.Change.{Change}
use Rattle.grove_undo.specs.declared.undo_fault.UndoFault.{UndoFault}
use Rattle.grove_undo.specs.Change.{IsChangeOf}
use Rattle.grove_undo.specs.Undoing.{IsUndoing, IsUndoFault}
use Rattle.live_graph.specs.Live.{live}
use Rattle.grove_undo.specs.declared.undo_fault.UndoFault.TheVariants as undo
use Rattle.replica_core.specs.Content.{Content}
use Rattle.grove_editor.specs.declared.deed.Deed.{Deed}
use Rattle.grove_editor.specs.declared.turning.Turned.{Turned}
use Rattle.grove_editor.specs.declared.turning.Turned.TheVariants.{Refused}
use Rattle.grove_editor.specs.Deeds.{IsLastBy}
use Rattle.grove_editor.specs.Turned.{IsUndoneBy, IsNotUndone, HasTurned}

pub undone_in : (now : Graph) (entries : Entries) (author : ℕ) (change : Change) (edits : List Edit) (back : Change) → IsSame (state_in entries) now → AreLive now (live entries)
    → IsUndoing (state_in entries) (live entries) author change edits → IsChangeOf now edits back → IsUndoneBy now author change edits back
undone_in now entries author change edits back same are_live undoing is = record {
  live = live entries;
  are_live = are_live;
  undoing = subst (λ (g : Graph). IsUndoing g (live entries) author change edits) (fun_ext same) undoing;
  is_change = is;
}

pub not_undone_in : (now : Graph) (entries : Entries) (author : ℕ) (change : Change) (fault : UndoFault) → IsSame (state_in entries) now → AreLive now (live entries)
    → IsUndoFault (state_in entries) (live entries) author change fault → IsNotUndone now author change fault
not_undone_in now entries author change fault same are_live is = record {
  live = live entries;
  are_live = are_live;
  is_fault = subst (λ (g : Graph). IsUndoFault g (live entries) author change fault) (fun_ext same) is;
}

-- the author's last deed is the one that was found where it stands
pub last_found : (author : ℕ) (deeds slice : List Deed) (index : ℕ) (found : Deed) → slice ≡ deeds → IsLastBy author slice index → found ≡ get_or deeds index found
    → (last : IsLastBy author deeds index) × (found ≡ last.deed)
last_found author deeds slice index found same of is =
    let last : IsLastBy author deeds index = subst (λ (ds : List Deed). IsLastBy author ds index) same of in
    (last, is ∙ get_or_from_slice_get deeds index last.deed found last.stands)

pub undone_along : (now : Graph) (author : ℕ) (found deed : Deed) (edits : List Edit) (back : Change) → found ≡ deed → IsUndoneBy now author found.change edits back → IsUndoneBy now author deed.change edits back
undone_along now author found deed edits back same is = subst (λ (d : Deed). IsUndoneBy now author d.change edits back) same is

-- a refusal
pub refused_turned : (r : Result Turned NoMemory) (content : Content) (author : ℕ) (deeds others : List Deed) (index : ℕ) (last : IsLastBy author deeds index) (found : Deed) (fault : UndoFault)
    → found ≡ last.deed → IsNotUndone (graph content.edits) author found.change fault → IfOk r (λ turned. turned ≡ Refused fault) → OnOk r (fault ≢ undo.NoMemory)
    → IfOk r (HasTurned author content content deeds deeds others others)
refused_turned (Err e) content author deeds others index last found fault same is turned known = tt
refused_turned (Ok t) content author deeds others index last found fault same is turned known =
    subst (HasTurned author content content deeds deeds others others) (sym turned)
    (index, last, known, subst (λ (d : Deed). IsNotUndone (graph content.edits) author d.change fault) same is, refl, refl, refl)
