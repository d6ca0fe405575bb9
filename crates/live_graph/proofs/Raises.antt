-- What an edit makes of a graph, where it asks more of its edge than the graph has, and where it does not.
use Rattle.std.proofs.Common.{◌≡◌, ◌<◌, ◌≤◌, Bool, true, false, cond, [], ◌∷◌, refl, sym, ap, subst, ◌∙◌, arith}
use Rattle.edge_lattice.specs.declared.state.State.{State}
use Rattle.edge_lattice.specs.declared.state.State.TheVariants.{Absent, Live, Deleted}
use Rattle.edge_lattice.specs.State.{rank, state_join}
use Rattle.grove_edits.specs.declared.edge.Edge.{Edge}
use Rattle.grove_edits.specs.declared.edit.Edit.{Edit}
use Rattle.grove_edits.specs.Edit.{edit_edge, edit_kind}
use Rattle.grove_edits.specs.Graph.{Graph, IsSame, graph, graph_join, is_same_edge, state_of}
use Rattle.grove_edits.proofs.Orders.{one_edge}
use Rattle.graph_words.specs.States.{with_state}

join_none : (s : State) → state_join s (state_join Absent Absent) ≡ s
join_none Absent = refl
join_none Live = refl
join_none Deleted = refl

join_above : (s t : State) → rank s < rank t → state_join s (state_join t Absent) ≡ t
join_above Absent Absent above = absurd (omega (arith, above))
join_above Absent Live above = refl
join_above Absent Deleted above = refl
join_above Live Absent above = absurd (omega (arith, above))
join_above Live Live above = absurd (omega (arith, above))
join_above Live Deleted above = refl
join_above Deleted Absent above = absurd (omega (arith, above))
join_above Deleted Live above = absurd (omega (arith, above))
join_above Deleted Deleted above = absurd (omega (arith, above))

join_below : (s t : State) → rank t ≤ rank s → state_join s (state_join t Absent) ≡ s
join_below Absent Absent below = refl
join_below Absent Live below = absurd (omega (arith, below))
join_below Absent Deleted below = absurd (omega (arith, below))
join_below Live Absent below = refl
join_below Live Live below = refl
join_below Live Deleted below = absurd (omega (arith, below))
join_below Deleted Absent below = refl
join_below Deleted Live below = refl
join_below Deleted Deleted below = refl

pub raised : (g h : Graph) (edit : Edit) → IsSame h (with_state (edit_edge edit) (state_of (edit_kind edit)) g) → rank (g (edit_edge edit)) < rank (state_of (edit_kind edit))
    → IsSame h (graph_join g (graph (edit ∷ [])))
raised g h edit is above e = is e ∙ by_test (is_same_edge (edit_edge edit) e) refl where
  by_test : (b : Bool) → is_same_edge (edit_edge edit) e ≡ b → cond b (state_of (edit_kind edit)) (g e) ≡ state_join (g e) (state_join (cond b (state_of (edit_kind edit)) Absent) Absent)
  by_test true same =
      sym (join_above (g e) (state_of (edit_kind edit)) (subst (λ x. rank (g x) < rank (state_of (edit_kind edit))) (one_edge (edit_edge edit) e same) above))
  by_test false _ = sym (join_none (g e))

pub not_raised : (g : Graph) (edit : Edit) → rank (state_of (edit_kind edit)) ≤ rank (g (edit_edge edit)) → IsSame g (graph_join g (graph (edit ∷ [])))
not_raised g edit below e = by_test (is_same_edge (edit_edge edit) e) refl where
  by_test : (b : Bool) → is_same_edge (edit_edge edit) e ≡ b → g e ≡ state_join (g e) (state_join (cond b (state_of (edit_kind edit)) Absent) Absent)
  by_test true same =
      sym (join_below (g e) (state_of (edit_kind edit)) (subst (λ x. rank (state_of (edit_kind edit)) ≤ rank (g x)) (one_edge (edit_edge edit) e same) below))
  by_test false _ = sym (join_none (g e))

pub above_from_not : (s t : State) → (rank t ≤ rank s → ⊥) → rank s < rank t
above_from_not Absent Absent not_below = absurd (not_below (omega arith))
above_from_not Absent Live not_below = omega arith
above_from_not Absent Deleted not_below = omega arith
above_from_not Live Absent not_below = absurd (not_below (omega arith))
above_from_not Live Live not_below = absurd (not_below (omega arith))
above_from_not Live Deleted not_below = omega arith
above_from_not Deleted Absent not_below = absurd (not_below (omega arith))
above_from_not Deleted Live not_below = absurd (not_below (omega arith))
above_from_not Deleted Deleted not_below = absurd (not_below (omega arith))

-- ---- the state of one edge

join_absent : (s : State) → state_join s Absent ≡ s
join_absent Absent = refl
join_absent Live = refl
join_absent Deleted = refl

pub raised_at : (g h : Graph) (x : Edge) (s : State) → IsSame h (with_state x s g) → rank (g x) < rank s → IsSame h (with_state x (state_join (g x) s) g)
raised_at g h x s is above e = is e ∙ ap (λ t. with_state x t g e) (sym (ap (state_join (g x)) (sym (join_absent s)) ∙ join_above (g x) s above))

pub not_raised_at : (g : Graph) (x : Edge) (s : State) → rank s ≤ rank (g x) → IsSame g (with_state x (state_join (g x) s) g)
not_raised_at g x s below e = by_test (is_same_edge x e) refl where
  by_test : (b : Bool) → is_same_edge x e ≡ b → g e ≡ cond b (state_join (g x) s) (g e)
  by_test true same = ap g (sym (one_edge x e same)) ∙ sym (ap (state_join (g x)) (sym (join_absent s)) ∙ join_below (g x) s below)
  by_test false _ = refl
