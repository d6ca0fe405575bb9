-- Marked nodes, and a walk, stand for the same over tables that keep the meaning of their numbers.
use Rattle.std.proofs.Common.{◌≡◌, ℕ, zero, suc, List, [], ◌∷◌, ◌++◌, length, set, Option, Some, None, IfSome, refl, ap, ◌∙◌}
use Rattle.std.specs.Prelude.{slice_get}
use Rattle.std.specs.Option.{option_map}
use Rattle.grove_terms.specs.declared.node.LentNode.{LentNode}
use Rattle.grove_terms.specs.Lent.{node_of}
use Rattle.type_core.specs.declared.type_id.TypeId.{TypeId}
use Rattle.type_core.specs.Typ.{Typ}
use Rattle.type_core.specs.TypeTable.{IsTypeOf, type_at, KeepsTypes}
use Rattle.ctx_table.specs.Context.{Context}
use Rattle.ctx_table.specs.CtxTable.{KeepsContexts}
use Rattle.mark_step.specs.declared.node.Mode.{Mode}
use Rattle.mark_step.specs.Expression.{Wanted}
use Rattle.mark_step.specs.Node.{wanted_at, IsModeOf}
use Rattle.judging.specs.Machine as machine
use Rattle.judging.specs.declared.frame.Closed.{Closed}
use Rattle.judging.specs.Frames.{frames_at, frames_in, added_at, IsClosedOf}
use Rattle.judging.proofs.Kept.{mode_kept, wanted_kept, some_number_kept, frames_kept, frames_at-kept}
use Rattle.marking.specs.declared.marked_node.MarkedNode.{MarkedNode}
use Rattle.marking.specs.declared.added.Added.{Added}
use Rattle.marking.specs.Added.{with_added, marked_nodes}
use Rattle.mark_rules.specs.declared.taking.Walk.{Walk}
use Rattle.marking.specs.Reading.{meant, meant_nodes}
use Rattle.marking.specs.Numbers.{IsMarkedNodeOf, AreMarkedNodesOf, IsAddedOf, AreAddedOf}
use Rattle.marking.proofs.Beside.{are_marked}
use Rattle.mark_rules.specs.Walking.{state_at, added_by, IsWalkOf}

module _ (old new : List Typ) (keeps : KeepsTypes old new) where
  some_type_kept : (o : Option TypeId) → IfSome o (IsTypeOf old) → option_map (type_at new) o ≡ option_map (type_at old) o
  some_type_kept None h = refl
  some_type_kept (Some t) h = ap Some (keeps.types t h)

  some_mode_kept : (o : Option Mode) → IfSome o (IsModeOf old) → IfSome o (IsModeOf new)
  some_mode_kept None h = tt
  some_mode_kept (Some m) h = mode_kept old new keeps m h

  some_wanted_kept : (o : Option Mode) → IfSome o (IsModeOf old) → option_map (wanted_at new) o ≡ option_map (wanted_at old) o
  some_wanted_kept None h = refl
  some_wanted_kept (Some m) h = ap Some (wanted_kept old new keeps m h)

  pub marked_node_kept : (m : MarkedNode) → IsMarkedNodeOf old m → IsMarkedNodeOf new m
  marked_node_kept m h = record { mode = some_mode_kept m.mode h.mode; typ = some_number_kept old new keeps m.typ h.typ }

  pub meant_kept : (m : MarkedNode) → IsMarkedNodeOf old m → meant new m ≡ meant old m
  meant_kept m h =
      ap (λ (w : Option Wanted). record { node = node_of m.node; wanted = w; typ = option_map (type_at new) m.typ; mark = m.mark }) (some_wanted_kept m.mode h.mode)
      ∙ ap (λ (t : Option Typ). record { node = node_of m.node; wanted = option_map (wanted_at old) m.mode; typ = t; mark = m.mark }) (some_type_kept m.typ h.typ)

  pub marked_nodes_kept : (ms : List MarkedNode) → AreMarkedNodesOf old ms → AreMarkedNodesOf new ms
  marked_nodes_kept [] all = tt
  marked_nodes_kept (m ∷ ms) all = (marked_node_kept m all.0, marked_nodes_kept ms all.1)

  pub meant_nodes_kept : (ms : List MarkedNode) → AreMarkedNodesOf old ms → meant_nodes new ms ≡ meant_nodes old ms
  meant_nodes_kept [] all = refl
  meant_nodes_kept (m ∷ ms) all = ap (λ x. x ∷ meant_nodes new ms) (meant_kept m all.0) ∙ ap (λ xs. meant old m ∷ xs) (meant_nodes_kept ms all.1)

  pub added_kept : (added : List Added) → AreAddedOf old added → AreAddedOf new added
  added_kept [] all = tt
  added_kept (a ∷ added) all = (record { mode = some_mode_kept a.mode all.0.mode; typ = some_number_kept old new keeps a.typ all.0.typ }, added_kept added all.1)

module _ (old new : List Typ) (oldc newc : List Context) (keeps : KeepsTypes old new) (keepsc : KeepsContexts oldc newc) where
  pub walk_kept : (w : Walk) → IsWalkOf old oldc w → IsWalkOf new newc w
  walk_kept w h = record { frames = frames_kept old new oldc newc keeps keepsc (frames_in w.frames.items) h.frames; added = added_kept old new keeps w.added.items h.added }

  pub state_at-kept : (ns : List LentNode) (w : Walk) → IsWalkOf old oldc w → state_at new newc ns w ≡ state_at old oldc ns w
  state_at-kept ns w h =
      ap (λ fs. machine.at fs (meant_nodes new (marked_nodes ns w.added.items))) (frames_at-kept old new oldc newc keeps keepsc w.frames.items h.frames)
      ∙ ap (λ ms. machine.at (frames_at old oldc w.frames.items) ms) (meant_nodes_kept old new keeps (marked_nodes ns w.added.items) (are_marked old ns w.added.items h.added))

-- ---- something is added to the next node, or to an earlier one

module _ (types : List Typ) where
  pub meant_nodes-push : (ns : List LentNode) (added : List Added) (n : LentNode) (a : Added) → slice_get ns (length added) ≡ Some n
      → meant_nodes types (marked_nodes ns (added ++ a ∷ [])) ≡ meant_nodes types (marked_nodes ns added) ++ meant types (with_added n a) ∷ []
  meant_nodes-push [] [] n a next = absurd cc
  meant_nodes-push [] (b ∷ added) n a next = absurd cc
  meant_nodes-push (m ∷ ns) [] n a next = ap (λ (x : LentNode). meant types (with_added x a) ∷ []) (same m n next) where
    same : (x y : LentNode) → Some x ≡ Some y → x ≡ y
    same x y e = cc
  meant_nodes-push (m ∷ ns) (b ∷ added) n a next = ap (λ xs. meant types (with_added m b) ∷ xs) (meant_nodes-push ns added n a next)

  pub are_added-push : (added : List Added) (a : Added) → AreAddedOf types added → IsAddedOf types a → AreAddedOf types (added ++ a ∷ [])
  are_added-push [] a all is = (is, tt)
  are_added-push (b ∷ added) a all is = (all.0, are_added-push added a all.1 is)

  pub meant_nodes-settled : (ns : List LentNode) (added : List Added) (i : ℕ) (c : Closed)
      → meant_nodes types (marked_nodes ns (set added i (added_by c))) ≡ machine.add_at (added_at types c) (meant_nodes types (marked_nodes ns added)) i
  meant_nodes-settled ns [] i c = refl
  meant_nodes-settled [] (a ∷ added) zero c = refl
  meant_nodes-settled [] (a ∷ added) (suc i) c = refl
  meant_nodes-settled (n ∷ ns) (a ∷ added) zero c = refl
  meant_nodes-settled (n ∷ ns) (a ∷ added) (suc i) c = ap (λ xs. meant types (with_added n a) ∷ xs) (meant_nodes-settled ns added i c)

  pub are_added-settled : (added : List Added) (i : ℕ) (c : Closed) → AreAddedOf types added → IsClosedOf types c → AreAddedOf types (set added i (added_by c))
  are_added-settled [] i c all is = tt
  are_added-settled (a ∷ added) zero c all is = (record { mode = is.mode; typ = is.typ }, all.1)
  are_added-settled (a ∷ added) (suc i) c all is = (all.0, are_added-settled added i c all.1 is)

  -- as many nodes are marked as something is added to, while a node is left
  pub length-meant : (ns : List LentNode) (added : List Added) (n : LentNode) → slice_get ns (length added) ≡ Some n → length (meant_nodes types (marked_nodes ns added)) ≡ length added
  length-meant ns [] n next = refl
  length-meant [] (a ∷ added) n next = absurd cc
  length-meant (m ∷ ns) (a ∷ added) n next = ap suc (length-meant ns added n next)
