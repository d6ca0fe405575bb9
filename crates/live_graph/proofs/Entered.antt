-- What is so of the graph once an edge was entered, or was not.
use Rattle.std.proofs.Common.{◌≡◌, Result, Ok, Err, OnOk, OnErr, sym, ap, subst, ◌∙◌}
use Rattle.grove_edits.specs.declared.edge.Edge.{Edge}
use Rattle.edge_numbers.specs.Numbered.{with_entry}
use Rattle.graph_words.specs.States.{Entries, state_in, HasRoom, KeepsRoom}
use Rattle.edge_numbers.proofs.States.{state_entered, room_entered, room_stays}
use Rattle.live_graph.specs.Live.{live}
use Rattle.live_graph.proofs.Lives.{live-entered}

module _ {T E : Type 0} (r : Result T E) (before after : Entries) (edge : Edge) where
  pub graph_stays : OnOk r (after ≡ with_entry edge before) → OnErr r (after ≡ before) → (e : Edge) → state_in after e ≡ state_in before e
  graph_stays entered same e = by_result r entered same where
    by_result : (r : Result T E) → OnOk r (after ≡ with_entry edge before) → OnErr r (after ≡ before) → state_in after e ≡ state_in before e
    by_result (Ok x) is _ = ap (λ entries. state_in entries e) is ∙ state_entered edge before e
    by_result (Err error) _ is = ap (λ entries. state_in entries e) is

  pub live_stays : OnOk r (after ≡ with_entry edge before) → OnErr r (after ≡ before) → live after ≡ live before
  live_stays entered same = by_result r entered same where
    by_result : (r : Result T E) → OnOk r (after ≡ with_entry edge before) → OnErr r (after ≡ before) → live after ≡ live before
    by_result (Ok x) is _ = ap live is ∙ live-entered edge before
    by_result (Err error) _ is = ap live is

  pub room_kept : OnOk r (after ≡ with_entry edge before) → OnErr r (after ≡ before) → KeepsRoom before after
  room_kept entered same e has = by_result r entered same where
    by_result : (r : Result T E) → OnOk r (after ≡ with_entry edge before) → OnErr r (after ≡ before) → HasRoom after e
    by_result (Ok x) is _ = subst (λ entries. HasRoom entries e) (sym is) (room_stays edge before e has)
    by_result (Err error) _ is = subst (λ entries. HasRoom entries e) (sym is) has

  pub room_made : OnOk r (after ≡ with_entry edge before) → OnOk r (HasRoom after edge)
  room_made = by_result r where
    by_result : (r : Result T E) → OnOk r (after ≡ with_entry edge before) → OnOk r (HasRoom after edge)
    by_result (Ok x) is = subst (λ entries. HasRoom entries edge) (sym is) (room_entered edge before)
    by_result (Err error) is = tt
