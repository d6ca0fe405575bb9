-- The graph that plain edits make, and the live edges of places after them.
use Rattle.std.proofs.Common.{◌≡◌, ◌≢◌, Bool, true, false, cond, List, [], ◌∷◌, map, refl, sym, ap, subst, ◌∙◌, inl, inr, ◌⊎◌}
use Rattle.std.specs.Prelude.{◌&&◌, ◌||◌}
use Rattle.edge_lattice.specs.declared.state.State.{State}
use Rattle.edge_lattice.specs.declared.state.State.TheVariants.{Absent, Live, Deleted}
use Rattle.edge_lattice.specs.State.{state_join}
use Rattle.grove_sorts.specs.declared.position.Position.{Position}
use Rattle.grove_edits.specs.declared.vertex.Vertex.{Vertex}
use Rattle.grove_edits.specs.declared.edge.Edge.{Edge}
use Rattle.grove_edits.specs.declared.edit.Edit.{Edit}
use Rattle.grove_edits.specs.declared.edit.EditKind.{EditKind}
use Rattle.grove_edits.specs.declared.edit.EditKind.TheVariants.{Insert, Delete}
use Rattle.grove_edits.specs.Edit.{edit_edge, edit_kind}
use Rattle.grove_edits.specs.Graph.{Graph, graph, state_of, is_same_edge}
use Rattle.grove_edits.proofs.Orders.{one_edge}
use Rattle.graph_words.specs.Live.{IsInEdgeOrder, children_of, holds_edge}
use Rattle.grove_edits.specs.Vertex.{is_same_vertex}
use Rattle.grove_sorts.specs.Position.{is_same_position}
use Rattle.graph_words.specs.Whole.{AreLive}
use Rattle.grove_terms.proofs.InLive.{same_edge_itself}
use Rattle.graph_words.proofs.Ordered.{holds-filter, in_order-filter, same_lists}
use Rattle.user_actions.specs.PlainEdits.{PlainEdit, plain}
use Rattle.grove_sorts.proofs.Truths.{both_true, or_left, and_true, same_tests}

-- ---- the graph

abbrev pub plain_graph : List PlainEdit → Graph
plain_graph [] e = Absent
plain_graph (p ∷ ps) e = state_join (cond (is_same_edge p.1 e) (state_of p.0) Absent) (plain_graph ps e)

pub graph-plain : (edits : List Edit) (e : Edge) → graph edits e ≡ plain_graph (map plain edits) e
graph-plain [] e = refl
graph-plain (edit ∷ edits) e = ap (state_join (cond (is_same_edge (edit_edge edit) e) (state_of (edit_kind edit)) Absent)) (graph-plain edits e)

abbrev pub AllEdits : (EditKind → Edge → Type 0) → List PlainEdit → Type 0
AllEdits P [] = Unit {0}
AllEdits P (p ∷ ps) = P p.0 p.1 × AllEdits P ps

abbrev pub HasEdit : EditKind → Edge → List PlainEdit → Type 0
HasEdit kind e [] = ⊥
HasEdit kind e (p ∷ ps) = ((p.0 ≡ kind) × (p.1 ≡ e)) ⊎ HasEdit kind e ps

-- ---- joins of states

deleted_join : (s t : State) → state_join s t ≡ Deleted → (s ≡ Deleted) ⊎ (t ≡ Deleted)
deleted_join Absent Absent h = absurd cc
deleted_join Absent Live h = absurd cc
deleted_join Absent Deleted h = inr refl
deleted_join Live Absent h = absurd cc
deleted_join Live Live h = absurd cc
deleted_join Live Deleted h = inr refl
deleted_join Deleted t h = inl refl

live_join : (s t : State) → state_join s t ≡ Live → (s ≡ Live) ⊎ (t ≡ Live)
live_join Absent Absent h = absurd cc
live_join Absent Live h = inr refl
live_join Absent Deleted h = absurd cc
live_join Live t h = inl refl
live_join Deleted Absent h = absurd cc
live_join Deleted Live h = absurd cc
live_join Deleted Deleted h = absurd cc

with_deleted : (s t : State) → t ≡ Deleted → state_join s t ≡ Deleted
with_deleted Absent Absent h = absurd cc
with_deleted Absent Live h = absurd cc
with_deleted Absent Deleted h = refl
with_deleted Live Absent h = absurd cc
with_deleted Live Live h = absurd cc
with_deleted Live Deleted h = refl
with_deleted Deleted Absent h = refl
with_deleted Deleted Live h = refl
with_deleted Deleted Deleted h = refl

deleted_with : (s t : State) → s ≡ Deleted → state_join s t ≡ Deleted
deleted_with Absent t h = absurd cc
deleted_with Live t h = absurd cc
deleted_with Deleted Absent h = refl
deleted_with Deleted Live h = refl
deleted_with Deleted Deleted h = refl

pub both_absent : (s t : State) → state_join s t ≡ Absent → (s ≡ Absent) × (t ≡ Absent)
both_absent Absent Absent h = (refl, refl)
both_absent Absent Live h = absurd cc
both_absent Absent Deleted h = absurd cc
both_absent Live Absent h = absurd cc
both_absent Live Live h = absurd cc
both_absent Live Deleted h = absurd cc
both_absent Deleted Absent h = absurd cc
both_absent Deleted Live h = absurd cc
both_absent Deleted Deleted h = absurd cc

pub join_absent : (s t : State) → t ≡ Absent → state_join s t ≡ s
join_absent Absent Absent h = refl
join_absent Live Absent h = refl
join_absent Deleted Absent h = refl
join_absent s Live h = absurd cc
join_absent s Deleted h = absurd cc

absent_join : (s t : State) → s ≡ Absent → state_join s t ≡ t
absent_join Absent Absent h = refl
absent_join Absent Live h = refl
absent_join Absent Deleted h = refl
absent_join Live t h = absurd cc
absent_join Deleted t h = absurd cc

-- ---- what an edge that is named was asked

pub from_deleted : (P : EditKind → Edge → Type 0) (ps : List PlainEdit) → AllEdits P ps → (e : Edge) → plain_graph ps e ≡ Deleted → P Delete e
from_deleted P [] all e h = absurd cc
from_deleted P ((kind, f) ∷ ps) all e h = by_join (deleted_join (cond (is_same_edge f e) (state_of kind) Absent) (plain_graph ps e) h) (from_deleted P ps all.1 e) where
  named : (k : EditKind) (b : Bool) → is_same_edge f e ≡ b → P k f → cond b (state_of k) Absent ≡ Deleted → P Delete e
  named Insert true same p is = absurd cc
  named Delete true same p is = subst (P Delete) (one_edge f e same) p
  named k false other p is = absurd cc

  by_join : (cond (is_same_edge f e) (state_of kind) Absent ≡ Deleted) ⊎ (plain_graph ps e ≡ Deleted) → (plain_graph ps e ≡ Deleted → P Delete e) → P Delete e
  by_join (inl first) later = named kind (is_same_edge f e) refl all.0 first
  by_join (inr rest) later = later rest

pub from_live : (P : EditKind → Edge → Type 0) (ps : List PlainEdit) → AllEdits P ps → (e : Edge) → plain_graph ps e ≡ Live → P Insert e
from_live P [] all e h = absurd cc
from_live P ((kind, f) ∷ ps) all e h = by_join (live_join (cond (is_same_edge f e) (state_of kind) Absent) (plain_graph ps e) h) (from_live P ps all.1 e) where
  named : (k : EditKind) (b : Bool) → is_same_edge f e ≡ b → P k f → cond b (state_of k) Absent ≡ Live → P Insert e
  named Insert true same p is = subst (P Insert) (one_edge f e same) p
  named Delete true same p is = absurd cc
  named k false other p is = absurd cc

  by_join : (cond (is_same_edge f e) (state_of kind) Absent ≡ Live) ⊎ (plain_graph ps e ≡ Live) → (plain_graph ps e ≡ Live → P Insert e) → P Insert e
  by_join (inl first) later = named kind (is_same_edge f e) refl all.0 first
  by_join (inr rest) later = later rest

asked_itself : (k kind : EditKind) (f e : Edge) → k ≡ kind → f ≡ e → cond (is_same_edge f e) (state_of k) Absent ≡ state_of kind
asked_itself k kind f e same one =
    let test : is_same_edge f e ≡ true = ap (λ x. is_same_edge x e) one ∙ same_edge_itself e in
    ap (λ b. cond b (state_of k) Absent) test ∙ ap state_of same

pub deleted_by : (ps : List PlainEdit) (e : Edge) → HasEdit Delete e ps → plain_graph ps e ≡ Deleted
deleted_by [] e has = absurd has
deleted_by ((kind, f) ∷ ps) e (inl named) =
    deleted_with (cond (is_same_edge f e) (state_of kind) Absent) (plain_graph ps e) (asked_itself kind Delete f e named.0 named.1)
deleted_by ((kind, f) ∷ ps) e (inr later) = with_deleted (cond (is_same_edge f e) (state_of kind) Absent) (plain_graph ps e) (deleted_by ps e later)

pub named_by : (ps : List PlainEdit) (e : Edge) → HasEdit Insert e ps → plain_graph ps e ≡ Absent → ⊥
named_by [] e has absent = has
named_by ((kind, f) ∷ ps) e (inl named) absent =
    let none = (both_absent (cond (is_same_edge f e) (state_of kind) Absent) (plain_graph ps e) absent).0 in
    let asked = asked_itself kind Insert f e named.0 named.1 in
    let both : Live ≡ Absent = sym asked ∙ none in
    cc
named_by ((kind, f) ∷ ps) e (inr later) absent =
    named_by ps e later (both_absent (cond (is_same_edge f e) (state_of kind) Absent) (plain_graph ps e) absent).1

-- ---- the live edges of a place after some edits

pub only_edge : (e f : Edge) → holds_edge f (e ∷ []) ≡ true → e ≡ f
only_edge e f held = one_edge e f (alone (is_same_edge e f) held) where
  alone : (b : Bool) → (b || false) ≡ true → b ≡ true
  alone true h = refl
  alone false h = absurd cc

abbrev pub is_at : Vertex → Position → Edge → Bool
is_at v p e = is_same_vertex e.source v && is_same_position e.position p

-- where the edges of a place have the states that they had, the place has the live edges that it had
pub children_kept : (g h : Graph) (before after : List Edge) (v : Vertex) (p : Position) → AreLive g before → AreLive h after → ((e : Edge) → is_at v p e ≡ true → h e ≡ g e)
    → children_of v p after ≡ children_of v p before
children_kept g h before after v p of_g of_h alike =
    same_lists (children_of v p after) (children_of v p before) (in_order-filter (is_at v p) after of_h.in_order) (in_order-filter (is_at v p) before of_g.in_order)
    (λ e. holds-filter (is_at v p) e after ∙ same_tests (is_at v p e && holds_edge e after) (is_at v p e && holds_edge e before) (to e) (from e) ∙ sym (holds-filter (is_at v p) e before))
  where
    to : (e : Edge) → (is_at v p e && holds_edge e after) ≡ true → (is_at v p e && holds_edge e before) ≡ true
    to e is =
        let parts = both_true (is_at v p e) (holds_edge e after) is in
        and_true (is_at v p e) (holds_edge e before) parts.0 (of_g.each e (sym (alike e parts.0) ∙ of_h.no_other e parts.1))

    from : (e : Edge) → (is_at v p e && holds_edge e before) ≡ true → (is_at v p e && holds_edge e after) ≡ true
    from e is =
        let parts = both_true (is_at v p e) (holds_edge e before) is in
        and_true (is_at v p e) (holds_edge e after) parts.0 (of_h.each e (alike e parts.0 ∙ of_g.no_other e parts.1))

-- plain edits of other edges leave their states
pub not_of : (test : Edge → Bool) (ps : List PlainEdit) → AllEdits (λ kind f. test f ≡ false) ps → (e : Edge) → test e ≡ true → plain_graph ps e ≡ Absent
not_of test [] all e here = refl
not_of test ((kind, f) ∷ ps) all e here = by_test (is_same_edge f e) refl (not_of test ps all.1 e here) where
  by_test : (b : Bool) → is_same_edge f e ≡ b → plain_graph ps e ≡ Absent → state_join (cond b (state_of kind) Absent) (plain_graph ps e) ≡ Absent
  by_test true same rest = let one = ap test (one_edge f e same) in let off = all.0 in absurd cc
  by_test false other rest = absent_join Absent (plain_graph ps e) refl ∙ rest

-- Plain edits that leave these live edges at a place, which are new: they delete all that stand there, and insert no others there.
pub record PutsEdges (g : Graph) (before : List Edge) (v : Vertex) (p : Position) (xs : List Edge) (ps : List PlainEdit) : Type 0 where
  pub in_order : IsInEdgeOrder xs
  pub here : (x : Edge) → holds_edge x xs ≡ true → is_at v p x ≡ true
  pub new : (x : Edge) → holds_edge x xs ≡ true → g x ≡ Absent
  pub inserted : (x : Edge) → holds_edge x xs ≡ true → HasEdit Insert x ps
  pub no_other : AllEdits (λ kind e. kind ≡ Insert → is_at v p e ≡ true → holds_edge e xs ≡ true) ps
  pub known : AllEdits (λ kind e. kind ≡ Delete → g e ≢ Absent) ps
  pub cleared : (e : Edge) → holds_edge e (children_of v p before) ≡ true → HasEdit Delete e ps

-- the same of one edge
pub record PutsOne (g : Graph) (before : List Edge) (v : Vertex) (p : Position) (x : Edge) (ps : List PlainEdit) : Type 0 where
  pub here : is_at v p x ≡ true
  pub new : g x ≡ Absent
  pub inserted : HasEdit Insert x ps
  pub no_other : AllEdits (λ kind e. kind ≡ Insert → is_at v p e ≡ true → e ≡ x) ps
  pub known : AllEdits (λ kind e. kind ≡ Delete → g e ≢ Absent) ps
  pub cleared : (e : Edge) → holds_edge e (children_of v p before) ≡ true → HasEdit Delete e ps

pub all_edits_map : (P Q : EditKind → Edge → Type 0) → ((kind : EditKind) (e : Edge) → P kind e → Q kind e) → (ps : List PlainEdit) → AllEdits P ps → AllEdits Q ps
all_edits_map P Q to [] all = tt
all_edits_map P Q to (p ∷ ps) all = (to p.0 p.1 all.0, all_edits_map P Q to ps all.1)

pub puts_edges : (g : Graph) (before : List Edge) (v : Vertex) (p : Position) (x : Edge) (ps : List PlainEdit) → PutsOne g before v p x ps → PutsEdges g before v p (x ∷ []) ps
puts_edges g before v p x ps puts = record {
  in_order = (tt, tt);
  here = λ y held. subst (λ z. is_at v p z ≡ true) (only_edge x y held) puts.here;
  new = λ y held. subst (λ z. g z ≡ Absent) (only_edge x y held) puts.new;
  inserted = λ y held. subst (λ z. HasEdit Insert z ps) (only_edge x y held) puts.inserted;
  no_other =
      all_edits_map (λ kind e. kind ≡ Insert → is_at v p e ≡ true → e ≡ x) (λ kind e. kind ≡ Insert → is_at v p e ≡ true → holds_edge e (x ∷ []) ≡ true)
      (λ kind e is insert at. or_left (is_same_edge x e) false (ap (λ y. is_same_edge y e) (sym (is insert at)) ∙ same_edge_itself e)) ps puts.no_other;
  known = puts.known;
  cleared = puts.cleared;
}

abbrev pub after_edits : Graph → List PlainEdit → Graph
after_edits g ps e = state_join (g e) (plain_graph ps e)

-- a new edge that is inserted is live, since it is not deleted
pub inserted_live : (g : Graph) (x : Edge) (ps : List PlainEdit) → g x ≡ Absent → HasEdit Insert x ps → AllEdits (λ kind e. kind ≡ Delete → g e ≢ Absent) ps → after_edits g ps x ≡ Live
inserted_live g x ps new inserted known = absent_join (g x) (plain_graph ps x) new ∙ by_asked (plain_graph ps x) refl where
  by_asked : (s : State) → plain_graph ps x ≡ s → plain_graph ps x ≡ Live
  by_asked Absent is = absurd (named_by ps x inserted is)
  by_asked Live is = is
  by_asked Deleted is = absurd (from_deleted (λ kind e. kind ≡ Delete → g e ≢ Absent) ps known x is refl new)

pub live_after : (s t : State) → state_join s t ≡ Live → ((s ≡ Live) × (t ≢ Deleted)) ⊎ (t ≡ Live)
live_after Absent Absent h = absurd cc
live_after Absent Live h = inr refl
live_after Absent Deleted h = absurd cc
live_after Live Absent h = inl (refl, λ e. cc)
live_after Live Live h = inr refl
live_after Live Deleted h = absurd cc
live_after Deleted Absent h = absurd cc
live_after Deleted Live h = absurd cc
live_after Deleted Deleted h = absurd cc

pub edges_left : (g : Graph) (before after : List Edge) (v : Vertex) (p : Position) (xs : List Edge) (ps : List PlainEdit) → AreLive g before → PutsEdges g before v p xs ps
    → AreLive (after_edits g ps) after → children_of v p after ≡ xs
edges_left g before after v p xs ps of_g puts of_h =
    same_lists (children_of v p after) xs (in_order-filter (is_at v p) after of_h.in_order) puts.in_order
    (λ e. holds-filter (is_at v p) e after ∙ same_tests (is_at v p e && holds_edge e after) (holds_edge e xs) (to e) (from e))
  where
    by_state : (e : Edge) → is_at v p e ≡ true → ((g e ≡ Live) × (plain_graph ps e ≢ Deleted)) ⊎ (plain_graph ps e ≡ Live) → holds_edge e xs ≡ true
    by_state e at (inl kept) =
        let there : holds_edge e (children_of v p before) ≡ true = holds-filter (is_at v p) e before ∙ and_true (is_at v p e) (holds_edge e before) at (of_g.each e kept.0) in
        absurd (kept.1 (deleted_by ps e (puts.cleared e there)))
    by_state e at (inr asked) = from_live (λ kind f. kind ≡ Insert → is_at v p f ≡ true → holds_edge f xs ≡ true) ps puts.no_other e asked refl at

    to : (e : Edge) → (is_at v p e && holds_edge e after) ≡ true → holds_edge e xs ≡ true
    to e is =
        let parts = both_true (is_at v p e) (holds_edge e after) is in
        by_state e parts.0 (live_after (g e) (plain_graph ps e) (of_h.no_other e parts.1))

    from : (e : Edge) → holds_edge e xs ≡ true → (is_at v p e && holds_edge e after) ≡ true
    from e held =
        and_true (is_at v p e) (holds_edge e after) (puts.here e held) (of_h.each e (inserted_live g e ps (puts.new e held) (puts.inserted e held) puts.known))

pub one_left : (g : Graph) (before after : List Edge) (v : Vertex) (p : Position) (x : Edge) (ps : List PlainEdit) → AreLive g before → PutsOne g before v p x ps
    → AreLive (after_edits g ps) after → children_of v p after ≡ x ∷ []
one_left g before after v p x ps of_g puts of_h = edges_left g before after v p (x ∷ []) ps of_g (puts_edges g before v p x ps puts) of_h

-- plain edits that delete all edges of a place, and insert none there, leave it empty
pub none_left : (g : Graph) (before after : List Edge) (v : Vertex) (p : Position) (ps : List PlainEdit) → AreLive g before
    → AllEdits (λ kind e. kind ≡ Insert → is_at v p e ≡ true → ⊥) ps
    → ((e : Edge) → holds_edge e (children_of v p before) ≡ true → HasEdit Delete e ps)
    → AreLive (after_edits g ps) after → children_of v p after ≡ []
none_left g before after v p ps of_g no_other cleared of_h =
    same_lists (children_of v p after) [] (in_order-filter (is_at v p) after of_h.in_order) tt
    (λ e. holds-filter (is_at v p) e after ∙ same_tests (is_at v p e && holds_edge e after) false (to e) (λ h. absurd cc))
  where
    by_state : (e : Edge) → is_at v p e ≡ true → ((g e ≡ Live) × (plain_graph ps e ≢ Deleted)) ⊎ (plain_graph ps e ≡ Live) → false ≡ true
    by_state e at (inl kept) =
        let there : holds_edge e (children_of v p before) ≡ true = holds-filter (is_at v p) e before ∙ and_true (is_at v p e) (holds_edge e before) at (of_g.each e kept.0) in
        absurd (kept.1 (deleted_by ps e (cleared e there)))
    by_state e at (inr asked) = absurd (from_live (λ kind f. kind ≡ Insert → is_at v p f ≡ true → ⊥) ps no_other e asked refl at)

    to : (e : Edge) → (is_at v p e && holds_edge e after) ≡ true → false ≡ true
    to e is =
        let parts = both_true (is_at v p e) (holds_edge e after) is in
        by_state e parts.0 (live_after (g e) (plain_graph ps e) (of_h.no_other e parts.1))
