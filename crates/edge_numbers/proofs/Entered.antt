-- What is so once an edge was entered, or was not.
use Rattle.std.proofs.Common.{◌≡◌, ℕ, List, Result, Ok, Err, OnOk, OnErr, IfOk, slice_get, Some, refl, sym, ap, subst, ◌∙◌}
use Rattle.std.specs.Map.{keys_of}
use Rattle.grove_edits.specs.declared.vertex.Vertex.{Vertex}
use Rattle.grove_edits.specs.declared.edge.Edge.{Edge}
use Rattle.edge_numbers.specs.declared.narrow_edge.NarrowEdge.{NarrowEdge}
use Rattle.edge_numbers.specs.Numbered.{with_entry, IsNumberOfEdge}
use Rattle.graph_words.specs.States.{Entries, state_in, HasRoom, KeepsRoom}
use Rattle.edge_numbers.specs.Narrow.{NarrowEntries, edge_of, numbered}
use Rattle.edge_numbers.proofs.Narrow.{number_read}
use Rattle.edge_numbers.proofs.States.{KeepsPlaces, state_entered, room_entered, room_stays, numbers_entered}

pub on_err_weaker : {T E P Q : Type 0} (r : Result T E) → (P → Q) → OnErr r P → OnErr r Q
on_err_weaker (Ok x) f p = tt
on_err_weaker (Err e) f p = f p

module _ {E : Type 0} (r : Result ℕ E) where
  pub number_entered : (vs : List Vertex) (es : NarrowEntries) (narrow : NarrowEdge) (e : Edge) → edge_of vs narrow ≡ e → IfOk r (λ n. slice_get (keys_of es) n ≡ Some narrow) → IfOk r (IsNumberOfEdge (numbered vs es) e)
  number_entered vs es narrow e is = by_result r where
    by_result : (r : Result ℕ E) → IfOk r (λ n. slice_get (keys_of es) n ≡ Some narrow) → IfOk r (IsNumberOfEdge (numbered vs es) e)
    by_result (Ok n) at = number_read vs es n narrow at e is
    by_result (Err error) at = tt

  module _ (before after : Entries) (edge : Edge) where
    pub graph_stays : OnOk r (after ≡ with_entry edge before) → OnErr r (after ≡ before) → (e : Edge) → state_in after e ≡ state_in before e
    graph_stays entered same e = by_result r entered same where
      by_result : (r : Result ℕ E) → OnOk r (after ≡ with_entry edge before) → OnErr r (after ≡ before) → state_in after e ≡ state_in before e
      by_result (Ok n) is _ = ap (λ entries. state_in entries e) is ∙ state_entered edge before e
      by_result (Err error) _ is = ap (λ entries. state_in entries e) is

    pub room_kept : OnOk r (after ≡ with_entry edge before) → OnErr r (after ≡ before) → KeepsRoom before after
    room_kept entered same e has = by_result r entered same where
      by_result : (r : Result ℕ E) → OnOk r (after ≡ with_entry edge before) → OnErr r (after ≡ before) → HasRoom after e
      by_result (Ok n) is _ = subst (λ entries. HasRoom entries e) (sym is) (room_stays edge before e has)
      by_result (Err error) _ is = subst (λ entries. HasRoom entries e) (sym is) has

    pub numbers_kept : OnOk r (after ≡ with_entry edge before) → OnErr r (after ≡ before) → KeepsPlaces before after
    numbers_kept entered same = by_result r entered same where
      by_result : (r : Result ℕ E) → OnOk r (after ≡ with_entry edge before) → OnErr r (after ≡ before) → KeepsPlaces before after
      by_result (Ok n) is _ = subst (KeepsPlaces before) (sym is) (numbers_entered edge before)
      by_result (Err error) _ is = subst (KeepsPlaces before) (sym is) (λ n within. (within, refl))

    pub room_made : OnOk r (after ≡ with_entry edge before) → OnOk r (HasRoom after edge)
    room_made = by_result r where
      by_result : (r : Result ℕ E) → OnOk r (after ≡ with_entry edge before) → OnOk r (HasRoom after edge)
      by_result (Ok n) is = subst (λ entries. HasRoom entries edge) (sym is) (room_entered edge before)
      by_result (Err error) is = tt
