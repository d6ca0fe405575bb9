-- Graphs of lists of edits: of lists one after the other, and of lists with the same edits.
use Rattle.std.proofs.Common.{◌≡◌, ℕ, zero, suc, ◌<◌, Bool, true, false, cond, List, [], ◌∷◌, ◌++◌, is_none, true≢false, length, get_or, refl, sym, ap, ◌∙◌, arith}
use Rattle.edge_lattice.specs.declared.state.State.{State}
use Rattle.edge_lattice.specs.declared.state.State.TheVariants.{Absent}
use Rattle.edge_lattice.specs.State.{state_join}
use Rattle.edge_lattice.proofs.States.{state_join_assoc, state_join_comm, state_join_idem, Absent-state_join}
use Rattle.grove_edits.specs.declared.edge.Edge.{Edge}
use Rattle.grove_edits.specs.declared.edit.Edit.{Edit}
use Rattle.grove_edits.specs.Edge.{edge_fault}
use Rattle.grove_edits.specs.Edit.{edit_edge, edit_kind}
use Rattle.grove_edits.specs.Graph.{graph, state_of, is_same_edge, IsSame, HasAll}
use Rattle.grove_edits.proofs.Orders.{one_edge}

-- what one edit asks of an edge
abbrev pub asked : Edit → Edge → State
asked edit e = cond (is_same_edge (edit_edge edit) e) (state_of (edit_kind edit)) Absent

-- the graph of two lists one after the other is the join of theirs
pub graph-append : (a b : List Edit) (e : Edge) → graph (a ++ b) e ≡ state_join (graph a e) (graph b e)
graph-append [] b e = sym (Absent-state_join (graph b e))
graph-append (x ∷ a) b e =
    ap (state_join (asked x e)) (graph-append a b e) ∙ sym (state_join_assoc (asked x e) (graph a e) (graph b e))

-- an edit that the list has adds nothing
contained : (b : List Edit) (x : Edit) (k : ℕ) (e : Edge) → k < length b → get_or b k x ≡ x → state_join (asked x e) (graph b e) ≡ graph b e
contained [] x k e lt is = absurd (omega arith)
contained (y ∷ b) x zero e lt is =
    let one : state_join (asked x e) (state_join (asked y e) (graph b e)) ≡ state_join (state_join (asked x e) (asked y e)) (graph b e) = sym (state_join_assoc (asked x e) (asked y e) (graph b e)) in
    one ∙ ap (λ s. state_join s (graph b e)) (ap (λ z. state_join (asked x e) (asked z e)) is ∙ state_join_idem (asked x e) ∙ sym (ap (λ z. asked z e) is))
contained (y ∷ b) x (suc k) e lt is =
    let rest : state_join (asked x e) (graph b e) ≡ graph b e = contained b x k e (omega arith) is in
    let regroup : state_join (asked x e) (state_join (asked y e) (graph b e)) ≡ state_join (state_join (asked x e) (asked y e)) (graph b e) = sym (state_join_assoc (asked x e) (asked y e) (graph b e)) in
    let swap : state_join (state_join (asked x e) (asked y e)) (graph b e) ≡ state_join (state_join (asked y e) (asked x e)) (graph b e) = ap (λ s. state_join s (graph b e)) (state_join_comm (asked x e) (asked y e)) in
    regroup ∙ swap ∙ state_join_assoc (asked y e) (asked x e) (graph b e) ∙ ap (state_join (asked y e)) rest

-- a list whose edits another has adds nothing to it
absorbed : (a b : List Edit) (e : Edge) → HasAll b a → state_join (graph a e) (graph b e) ≡ graph b e
absorbed [] b e h = Absent-state_join (graph b e)
absorbed (x ∷ a) b e h =
    let has = h.0 in
    state_join_assoc (asked x e) (graph a e) (graph b e)
    ∙ ap (state_join (asked x e)) (absorbed a b e h.1)
    ∙ contained b x has.0 e has.1 has.2

-- two lists with the same edits, in any order and with any repeats, have the same graph
pub graph-same_edits : (a b : List Edit) → HasAll a b → HasAll b a → IsSame (graph a) (graph b)
graph-same_edits a b ab ba e = sym (absorbed b a e ab) ∙ state_join_comm (graph b e) (graph a e) ∙ absorbed a b e ba

-- an edge that is not well formed is named by no edit
pub unnamed : (edits : List Edit) (e : Edge) → is_none (edge_fault e) ≡ false → graph edits e ≡ Absent
unnamed [] e ill = refl
unnamed (edit ∷ edits) e ill = by_test (is_same_edge (edit_edge edit) e) refl (unnamed edits e ill) where
  by_test : (b : Bool) → is_same_edge (edit_edge edit) e ≡ b → graph edits e ≡ Absent → state_join (cond b (state_of (edit_kind edit)) Absent) (graph edits e) ≡ Absent
  by_test true same rest = absurd (true≢false (sym edit.well_formed ∙ ap (λ (f : Edge). is_none (edge_fault f)) (one_edge (edit_edge edit) e same) ∙ ill))
  by_test false other rest = Absent-state_join (graph edits e) ∙ rest
