-- Which edges the graph of a list has, edit by edit.
use Rattle.std.proofs.Common.{◌≡◌, ◌≢◌, Bool, true, false, cond, List, ◌∷◌, refl, sym, ap, ◌∙◌, ◌⊎◌, inl, inr}
use Rattle.edge_lattice.specs.declared.state.State.{State}
use Rattle.edge_lattice.specs.declared.state.State.TheVariants.{Absent, Live, Deleted}
use Rattle.edge_lattice.specs.State.{state_join}
use Rattle.edge_lattice.proofs.States.{state_join_comm, Absent-state_join}
use Rattle.grove_edits.specs.declared.edge.Edge.{Edge}
use Rattle.grove_edits.specs.declared.edit.Edit.{Edit}
use Rattle.grove_edits.specs.declared.edit.EditKind.{EditKind}
use Rattle.grove_edits.specs.declared.edit.EditKind.TheVariants.{Insert, Delete}
use Rattle.grove_edits.specs.Edit.{edit_edge, edit_kind}
use Rattle.grove_edits.specs.Graph.{graph, state_of, is_same_edge}
use Rattle.grove_edits.proofs.Orders.{one_edge, same_edge_laws}
use Rattle.grove_edits.proofs.Graphs.{asked}

-- ---- states

pub absent_second : (a b : State) → state_join a b ≡ Absent → b ≡ Absent
absent_second Absent b h = sym (Absent-state_join b) ∙ h
absent_second Live Absent h = refl
absent_second Live Live h = absurd cc
absent_second Live Deleted h = absurd cc
absent_second Deleted Absent h = refl
absent_second Deleted Live h = absurd cc
absent_second Deleted Deleted h = absurd cc

pub absent_first : (a b : State) → state_join a b ≡ Absent → a ≡ Absent
absent_first a b h = absent_second b a (state_join_comm b a ∙ h)

pub join_deleted : (a : State) → state_join a Deleted ≡ Deleted
join_deleted Absent = refl
join_deleted Live = refl
join_deleted Deleted = refl

pub deleted_join : (a : State) → state_join Deleted a ≡ Deleted
deleted_join a = state_join_comm Deleted a ∙ join_deleted a

pub live_join : (s : State) → state_join Live s ≡ Deleted → s ≡ Deleted
live_join Absent h = absurd cc
live_join Live h = absurd cc
live_join Deleted h = refl

pub deleted_present : Deleted ≢ Absent
deleted_present h = cc

state_present : (k : EditKind) → state_of k ≢ Absent
state_present Insert h = cc
state_present Delete h = cc

-- ---- edges of lists

pub asked_itself : (x : Edit) → asked x (edit_edge x) ≡ state_of (edit_kind x)
asked_itself x = ap (λ b. cond b (state_of (edit_kind x)) Absent) (same_edge_laws.refl (edit_edge x))

pub present_first : (x : Edit) (xs : List Edit) → graph (x ∷ xs) (edit_edge x) ≢ Absent
present_first x xs h = state_present (edit_kind x) (sym (asked_itself x) ∙ absent_first (asked x (edit_edge x)) (graph xs (edit_edge x)) h)

pub present_later : (x : Edit) (xs : List Edit) (e : Edge) → graph xs e ≢ Absent → graph (x ∷ xs) e ≢ Absent
present_later x xs e is h = is (absent_second (asked x e) (graph xs e) h)

-- an edge that the list has is the first edit's or one of the later ones
pub first_or_later : (x : Edit) (xs : List Edit) (e : Edge) → graph (x ∷ xs) e ≢ Absent → (edit_edge x ≡ e) ⊎ (graph xs e ≢ Absent)
first_or_later x xs e is = by_test (is_same_edge (edit_edge x) e) refl where
  by_test : (b : Bool) → is_same_edge (edit_edge x) e ≡ b → (edit_edge x ≡ e) ⊎ (graph xs e ≢ Absent)
  by_test true same = inl (one_edge (edit_edge x) e same)
  by_test false other = inr (λ none. is (ap (λ b. state_join (cond b (state_of (edit_kind x)) Absent) (graph xs e)) other ∙ Absent-state_join (graph xs e) ∙ none))

pub deleted_later : (x : Edit) (xs : List Edit) (e : Edge) → graph xs e ≡ Deleted → graph (x ∷ xs) e ≡ Deleted
deleted_later x xs e is = ap (state_join (asked x e)) is ∙ join_deleted (asked x e)

pub deleted_first : (x : Edit) (xs : List Edit) → edit_kind x ≡ Delete → graph (x ∷ xs) (edit_edge x) ≡ Deleted
deleted_first x xs is = ap (λ s. state_join s (graph xs (edit_edge x))) (asked_itself x ∙ ap state_of is) ∙ deleted_join (graph xs (edit_edge x))

-- the first edit deletes the edge, or a later one does
pub deleted_by : (x : Edit) (xs : List Edit) (e : Edge) → graph (x ∷ xs) e ≡ Deleted → ((edit_edge x ≡ e) × (edit_kind x ≡ Delete)) ⊎ (graph xs e ≡ Deleted)
deleted_by x xs e is = by_test (is_same_edge (edit_edge x) e) refl where
  by_kind : (k : EditKind) → edit_kind x ≡ k → edit_edge x ≡ e → state_join (state_of k) (graph xs e) ≡ Deleted → ((edit_edge x ≡ e) × (edit_kind x ≡ Delete)) ⊎ (graph xs e ≡ Deleted)
  by_kind Insert kind same h = inr (live_join (graph xs e) h)
  by_kind Delete kind same h = inl (same, kind)

  by_test : (b : Bool) → is_same_edge (edit_edge x) e ≡ b → ((edit_edge x ≡ e) × (edit_kind x ≡ Delete)) ⊎ (graph xs e ≡ Deleted)
  by_test true same = by_kind (edit_kind x) refl (one_edge (edit_edge x) e same) (ap (λ b. state_join (cond b (state_of (edit_kind x)) Absent) (graph xs e)) (sym same) ∙ is)
  by_test false other = inr (sym (ap (λ b. state_join (cond b (state_of (edit_kind x)) Absent) (graph xs e)) other ∙ Absent-state_join (graph xs e)) ∙ is)
