-- Canonical lists with further edits are canonical.
use Rattle.std.proofs.Common.{◌≡◌, Bool, true, false, cond, List, [], ◌∷◌, ◌++◌, map, refl, sym, ap, subst, ◌∙◌}
use Rattle.std.specs.List.{AllByRecursion}
use Rattle.std.specs.declared.cmp.Ordering.{Ordering}
use Rattle.std.specs.declared.cmp.Ordering.TheVariants.{Less, Equal, Greater}
use Rattle.std.specs.Ordering.{match_ordering}
use Rattle.edge_lattice.specs.declared.state.State.{State}
use Rattle.edge_lattice.specs.declared.state.State.TheVariants.{Absent, Live, Deleted}
use Rattle.edge_lattice.specs.State.{state_join}
use Rattle.edge_lattice.proofs.States.{state_join_assoc, state_join_comm, Absent-state_join}
use Rattle.grove_edits.specs.declared.edge.Edge.{Edge}
use Rattle.grove_edits.specs.declared.edit.Edit.{Edit}
use Rattle.grove_edits.specs.declared.edit.EditKind.{EditKind}
use Rattle.grove_edits.specs.declared.edit.EditKind.TheVariants.{Insert, Delete}
use Rattle.grove_edits.specs.Edge.{edge_cmp}
use Rattle.grove_edits.specs.Edit.{edit_edge, edit_kind}
use Rattle.grove_edits.specs.Graph.{Graph, graph, graph_join, state_of, is_same_edge, Ascends, IsCanonical}
use Rattle.grove_edits.proofs.Graphs.{asked}
use Rattle.grove_edits.proofs.Orders.{edge_cmp_exact}
use Rattle.graph_words.specs.Live.{IsInEdgeOrder}
use Rattle.graph_words.specs.Ordered.{put_before, with_edge}
use Rattle.graph_words.proofs.Ordered.{in_order-with_edge}
use Rattle.user_actions.proofs.Openings.{edges_in_order}
use Rattle.replica_core.specs.Canonical.{unless_deletion, greater, with_edit, with_edits}

-- ---- of two edits of one edge, the greater asks what both ask

insert_joined : (b : Bool) (k : EditKind) → state_join (cond b Live Absent) (cond b (state_of k) Absent) ≡ cond b (state_of k) Absent
insert_joined true Insert = refl
insert_joined true Delete = refl
insert_joined false k = refl

delete_joined : (b : Bool) (k : EditKind) → state_join (cond b Deleted Absent) (cond b (state_of k) Absent) ≡ cond b Deleted Absent
delete_joined true Insert = refl
delete_joined true Delete = refl
delete_joined false k = refl

greater_asks : (a b : Edit) (e : Edge) → edit_edge a ≡ edit_edge b → state_join (asked a e) (asked b e) ≡ asked (greater a b) e
greater_asks a b e one = by_kind (edit_kind a) refl where
  other : asked b e ≡ cond (is_same_edge (edit_edge a) e) (state_of (edit_kind b)) Absent
  other = ap (λ x. cond (is_same_edge x e) (state_of (edit_kind b)) Absent) (sym one)

  first : (k : EditKind) → edit_kind a ≡ k → asked a e ≡ cond (is_same_edge (edit_edge a) e) (state_of k) Absent
  first k is = ap (λ j. cond (is_same_edge (edit_edge a) e) (state_of j) Absent) is

  by_kind : (k : EditKind) → edit_kind a ≡ k → state_join (asked a e) (asked b e) ≡ asked (unless_deletion k a b) e
  by_kind Insert is = ap (λ s. state_join s (asked b e)) (first Insert is) ∙ ap (state_join (cond (is_same_edge (edit_edge a) e) Live Absent)) other ∙ insert_joined (is_same_edge (edit_edge a) e) (edit_kind b) ∙ sym other
  by_kind Delete is = ap (λ s. state_join s (asked b e)) (first Delete is) ∙ ap (state_join (cond (is_same_edge (edit_edge a) e) Deleted Absent)) other ∙ delete_joined (is_same_edge (edit_edge a) e) (edit_kind b) ∙ sym (first Delete is)

edge-greater : (a b : Edit) → edit_edge a ≡ edit_edge b → edit_edge (greater a b) ≡ edit_edge b
edge-greater a b one = by_kind (edit_kind a) where
  by_kind : (k : EditKind) → edit_edge (unless_deletion k a b) ≡ edit_edge b
  by_kind Insert = refl
  by_kind Delete = one

-- ---- the graph

swapped : (r s t : State) → state_join r (state_join s t) ≡ state_join s (state_join r t)
swapped r s t = sym (state_join_assoc r s t) ∙ ap (λ u. state_join u t) (state_join_comm r s) ∙ state_join_assoc s r t

pub graph-with_edit : (edit : Edit) (xs : List Edit) (e : Edge) → graph (with_edit edit xs) e ≡ graph (edit ∷ xs) e
graph-with_edit edit [] e = refl
graph-with_edit edit (x ∷ xs) e = by_order (edge_cmp (edit_edge edit) (edit_edge x)) refl (graph-with_edit edit xs e) where
  by_order : (o : Ordering) → edge_cmp (edit_edge edit) (edit_edge x) ≡ o → graph (with_edit edit xs) e ≡ graph (edit ∷ xs) e
      → graph (match_ordering o (edit ∷ x ∷ xs) (greater edit x ∷ xs) (x ∷ with_edit edit xs)) e ≡ graph (edit ∷ x ∷ xs) e
  by_order Less is rest = refl
  by_order Equal is rest =
      ap (λ s. state_join s (graph xs e)) (sym (greater_asks edit x e (edge_cmp_exact (edit_edge edit) (edit_edge x) is))) ∙ state_join_assoc (asked edit e) (asked x e) (graph xs e)
  by_order Greater is rest = ap (state_join (asked x e)) rest ∙ swapped (asked x e) (asked edit e) (graph xs e)

pub graph-with_edits : (edits xs : List Edit) (e : Edge) → graph (with_edits edits xs) e ≡ state_join (graph xs e) (graph edits e)
graph-with_edits [] xs e = sym (state_join_comm (graph xs e) Absent ∙ Absent-state_join (graph xs e))
graph-with_edits (edit ∷ edits) xs e =
    graph-with_edits edits (with_edit edit xs) e
    ∙ ap (λ s. state_join s (graph edits e)) (graph-with_edit edit xs e)
    ∙ state_join_assoc (asked edit e) (graph xs e) (graph edits e)
    ∙ swapped (asked edit e) (graph xs e) (graph edits e)

-- ---- the order

pub edges-with_edit : (edit : Edit) (xs : List Edit) → map edit_edge (with_edit edit xs) ≡ with_edge (edit_edge edit) (map edit_edge xs)
edges-with_edit edit [] = refl
edges-with_edit edit (x ∷ xs) = by_order (edge_cmp (edit_edge edit) (edit_edge x)) refl (edges-with_edit edit xs) where
  by_order : (o : Ordering) → edge_cmp (edit_edge edit) (edit_edge x) ≡ o → map edit_edge (with_edit edit xs) ≡ with_edge (edit_edge edit) (map edit_edge xs)
      → map edit_edge (match_ordering o (edit ∷ x ∷ xs) (greater edit x ∷ xs) (x ∷ with_edit edit xs)) ≡ put_before o (edit_edge edit) (edit_edge x) (map edit_edge xs) (with_edge (edit_edge edit) (map edit_edge xs))
  by_order Less is rest = refl
  by_order Equal is rest = ap (λ (f : Edge). f ∷ map edit_edge xs) (edge-greater edit x (edge_cmp_exact (edit_edge edit) (edit_edge x) is))
  by_order Greater is rest = ap (λ (fs : List Edge). edit_edge x ∷ fs) rest

after_each : (e : Edge) (xs : List Edit) → AllByRecursion (λ later. edge_cmp e later ≡ Less) (map edit_edge xs) → AllByRecursion (λ later. edge_cmp e (edit_edge later) ≡ Less) xs
after_each e [] all = tt
after_each e (x ∷ xs) all = (all.0, after_each e xs all.1)

pub ascends_by_edges : (xs : List Edit) → IsInEdgeOrder (map edit_edge xs) → Ascends xs
ascends_by_edges [] order = tt
ascends_by_edges (x ∷ xs) order = (after_each (edit_edge x) xs order.0, ascends_by_edges xs order.1)

pub ascends-with_edit : (edit : Edit) (xs : List Edit) → Ascends xs → Ascends (with_edit edit xs)
ascends-with_edit edit xs up =
    ascends_by_edges (with_edit edit xs) (subst IsInEdgeOrder (sym (edges-with_edit edit xs)) (in_order-with_edge (edit_edge edit) (map edit_edge xs) (edges_in_order xs up)))

pub ascends-with_edits : (edits xs : List Edit) → Ascends xs → Ascends (with_edits edits xs)
ascends-with_edits [] xs up = up
ascends-with_edits (edit ∷ edits) xs up = ascends-with_edits edits (with_edit edit xs) (ascends-with_edit edit xs up)

-- ---- both

pub canonical-with_edits : (g : Graph) (edits xs : List Edit) → IsCanonical g xs → IsCanonical (graph_join g (graph edits)) (with_edits edits xs)
canonical-with_edits g edits xs of = record {
  in_order = ascends-with_edits edits xs of.in_order;
  same = λ e. graph-with_edits edits xs e ∙ ap (λ s. state_join s (graph edits e)) (of.same e);
}

-- a list that ascends is the canonical list of its graph
pub canonical_itself : (xs : List Edit) → Ascends xs → IsCanonical (graph xs) xs
canonical_itself xs up = record { in_order = up; same = λ e. refl }

pub with_edits-append : (a b xs : List Edit) → with_edits (a ++ b) xs ≡ with_edits b (with_edits a xs)
with_edits-append [] b xs = refl
with_edits-append (edit ∷ a) b xs = with_edits-append a b (with_edit edit xs)
