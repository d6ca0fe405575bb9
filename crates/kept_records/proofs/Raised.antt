-- What an edit makes of the graph of some edits: the edge of the edit comes to the live edges, or goes, or neither.
use Rattle.std.proofs.Common.{◌≡◌, ◌⊎◌, inl, inr, Bool, true, false, cond, List, [], ◌∷◌, ◌++◌, refl, sym, ap, subst, ◌∙◌}
use Rattle.std.specs.Prelude.{◌||◌}
use Rattle.std.specs.List.{AllByRecursion}
use Rattle.std.specs.declared.cmp.Ordering.TheVariants.{Less}
use Rattle.std.specs.Ordering.{is_eq}
use Rattle.edge_lattice.specs.declared.state.State.{State}
use Rattle.edge_lattice.specs.declared.state.State.TheVariants.{Absent, Live, Deleted}
use Rattle.edge_lattice.specs.State.{state_join}
use Rattle.grove_edits.specs.declared.vertex.Vertex.{Vertex}
use Rattle.grove_edits.specs.declared.edge.Edge.{Edge}
use Rattle.grove_edits.specs.declared.edit.Edit.{Edit}
use Rattle.grove_edits.specs.Edge.{edge_cmp}
use Rattle.grove_edits.specs.Edit.{edit_edge, edit_kind}
use Rattle.grove_edits.specs.Graph.{Graph, graph, state_of, is_same_edge}
use Rattle.graph_words.specs.Live.{IsInEdgeOrder, holds_edge}
use Rattle.graph_words.specs.Whole.{IsVertexOf, AreLive}
use Rattle.grove_edits.proofs.Orders.{one_edge}
use Rattle.grove_terms.proofs.InLive.{same_edge_itself}
use Rattle.grove_terms.proofs.OneGrove.{one_live}
use Rattle.kept_records.specs.Change.{HasOneMore, Changes, same, comes, goes, is_on_walks}
use Rattle.kept_records.proofs.OnWalks.{source_on_walks, target_on_walks}

-- ---- states

join_absent : (s : State) → state_join Absent s ≡ s
join_absent Absent = refl
join_absent Live = refl
join_absent Deleted = refl

-- an edge that is not the edit's keeps its state
pub other_state : (edits : List Edit) (edit : Edit) (x : Edge) → is_same_edge (edit_edge edit) x ≡ false → graph (edit ∷ edits) x ≡ graph edits x
other_state edits edit x other = ap (λ b. state_join (cond b (state_of (edit_kind edit)) Absent) (graph edits x)) other ∙ join_absent (graph edits x)

pub vertex_was : (edits : List Edit) (edit : Edit) (old new : List Edge) (v : Vertex) → IsVertexOf (graph (edit ∷ edits)) v → is_on_walks (edit_edge edit) old new v ≡ false → IsVertexOf (graph edits) v
vertex_was edits edit old new v (inl root) off = inl root
vertex_was edits edit old new v (inr end) off = by_test (is_same_edge (edit_edge edit) end.0) refl where
  e : Edge
  e = edit_edge edit

  at_end : e ≡ end.0 → (end.0.source ≡ v) ⊎ (end.0.target ≡ v) → ⊥
  at_end one (inl is) =
      let clash : true ≡ false = sym (source_on_walks e old new) ∙ ap (is_on_walks e old new) (ap (λ (x : Edge). x.source) one ∙ is) ∙ off in cc
  at_end one (inr is) =
      let clash : true ≡ false = sym (target_on_walks e old new) ∙ ap (is_on_walks e old new) (ap (λ (x : Edge). x.target) one ∙ is) ∙ off in cc

  by_test : (b : Bool) → is_same_edge (edit_edge edit) end.0 ≡ b → IsVertexOf (graph edits) v
  by_test true one = absurd (at_end (one_edge (edit_edge edit) end.0 one) end.2)
  by_test false other = inr (end.0, λ absent. end.1 (other_state edits edit end.0 other ∙ absent), end.2)

-- ---- a list with one edge more

pub record IsSplit (e : Edge) (es : List Edge) : Type 0 where
  pub before : List Edge
  pub behind : List Edge
  pub is : es ≡ before ++ e ∷ behind

split_at : (e : Edge) (es : List Edge) → holds_edge e es ≡ true → IsSplit e es
split_at e [] held = absurd cc
split_at e (x ∷ xs) held = by_test (is_same_edge x e) refl held (split_at e xs) where
  by_test : (b : Bool) → is_same_edge x e ≡ b → (b || holds_edge e xs) ≡ true → (holds_edge e xs ≡ true → IsSplit e xs) → IsSplit e (x ∷ xs)
  by_test true one h later = record { before = []; behind = xs; is = ap (λ y. y ∷ xs) (one_edge x e one) }
  by_test false other h later = let s = later h in record { before = x ∷ s.before; behind = s.behind; is = ap (λ ys. x ∷ ys) s.is }

all_without : (P : Edge → Type 0) (e : Edge) (before behind : List Edge) → AllByRecursion P (before ++ e ∷ behind) → AllByRecursion P (before ++ behind)
all_without P e [] behind all = all.1
all_without P e (x ∷ xs) behind all = (all.0, all_without P e xs behind all.1)

in_order_without : (e : Edge) (before behind : List Edge) → IsInEdgeOrder (before ++ e ∷ behind) → IsInEdgeOrder (before ++ behind)
in_order_without e [] behind order = order.1
in_order_without e (x ∷ xs) behind order = (all_without (λ later. edge_cmp x later ≡ Less) e xs behind order.0, in_order_without e xs behind order.1)

held_without : (e x : Edge) (before behind : List Edge) → is_same_edge e x ≡ false → holds_edge x (before ++ e ∷ behind) ≡ holds_edge x (before ++ behind)
held_without e x [] behind other = ap (λ b. b || holds_edge x behind) other
held_without e x (y ∷ ys) behind other = ap (λ b. is_same_edge y x || b) (held_without e x ys behind other)

not_later : (e : Edge) (es : List Edge) → AllByRecursion (λ later. edge_cmp e later ≡ Less) es → holds_edge e es ≡ true → ⊥
not_later e [] all held = cc
not_later e (x ∷ xs) all held = by_test (is_same_edge x e) refl held (not_later e xs all.1) where
  by_test : (b : Bool) → is_same_edge x e ≡ b → (b || holds_edge e xs) ≡ true → (holds_edge e xs ≡ true → ⊥) → ⊥
  by_test true one h later =
      let less : is_same_edge e e ≡ false = ap (λ y. is_same_edge e y) (sym (one_edge x e one)) ∙ ap is_eq all.0 in
      let clash : true ≡ false = sym (same_edge_itself e) ∙ less in cc
  by_test false other h later = later h

all_at : (P : Edge → Type 0) (e : Edge) (before behind : List Edge) → AllByRecursion P (before ++ e ∷ behind) → P e
all_at P e [] behind all = all.0
all_at P e (x ∷ xs) behind all = all_at P e xs behind all.1

-- in order an edge stands once
pub gone_without : (e : Edge) (before behind : List Edge) → IsInEdgeOrder (before ++ e ∷ behind) → holds_edge e (before ++ behind) ≡ true → ⊥
gone_without e [] behind order held = not_later e behind order.0 held
gone_without e (x ∷ xs) behind order held = by_test (is_same_edge x e) refl held (gone_without e xs behind order.1) where
  by_test : (b : Bool) → is_same_edge x e ≡ b → (b || holds_edge e (xs ++ behind)) ≡ true → (holds_edge e (xs ++ behind) ≡ true → ⊥) → ⊥
  by_test true one h later =
      let less : edge_cmp x e ≡ Less = all_at (λ later. edge_cmp x later ≡ Less) e xs behind order.0 in
      let clash : true ≡ false = sym one ∙ ap is_eq less in cc
  by_test false other h later = later h

-- ---- the live edges before and after

module _ (g h : Graph) (e : Edge) (alike : (x : Edge) → is_same_edge e x ≡ false → h x ≡ g x) (old new : List Edge) (live_old : AreLive g old) (live_new : AreLive h new) where
  -- the second graph has the edge live and the first has not
  one_more : h e ≡ Live → (g e ≡ Live → ⊥) → HasOneMore e old new
  one_more lives was_not = record {
    before = s.before;
    behind = s.behind;
    without = one_live g old (s.before ++ s.behind) live_old (record { in_order = in_order_without e s.before s.behind order; each = each; no_other = no_other });
    with_it = s.is;
  } where
    s : IsSplit e new
    s = split_at e new (live_new.each e lives)

    order : IsInEdgeOrder (s.before ++ e ∷ s.behind)
    order = subst IsInEdgeOrder s.is live_new.in_order

    each : (x : Edge) → g x ≡ Live → holds_edge x (s.before ++ s.behind) ≡ true
    each x live = by_test (is_same_edge e x) refl where
      by_test : (b : Bool) → is_same_edge e x ≡ b → holds_edge x (s.before ++ s.behind) ≡ true
      by_test true one = absurd (was_not (ap g (one_edge e x one) ∙ live))
      by_test false other = sym (held_without e x s.before s.behind other) ∙ ap (holds_edge x) (sym s.is) ∙ live_new.each x (alike x other ∙ live)

    no_other : (x : Edge) → holds_edge x (s.before ++ s.behind) ≡ true → g x ≡ Live
    no_other x held = by_test (is_same_edge e x) refl where
      by_test : (b : Bool) → is_same_edge e x ≡ b → g x ≡ Live
      by_test true one = absurd (gone_without e s.before s.behind order (ap (λ y. holds_edge y (s.before ++ s.behind)) (one_edge e x one) ∙ held))
      by_test false other = sym (alike x other) ∙ live_new.no_other x (ap (holds_edge x) s.is ∙ held_without e x s.before s.behind other ∙ held)

  -- the edge is live in both, or in neither
  no_more : (h e ≡ Live → g e ≡ Live) → (g e ≡ Live → h e ≡ Live) → old ≡ new
  no_more back on = one_live g old new live_old (record { in_order = live_new.in_order; each = each; no_other = no_other }) where
    each : (x : Edge) → g x ≡ Live → holds_edge x new ≡ true
    each x live = by_test (is_same_edge e x) refl where
      by_test : (b : Bool) → is_same_edge e x ≡ b → holds_edge x new ≡ true
      by_test true one = let there : h x ≡ Live = ap h (sym (one_edge e x one)) ∙ on (ap g (one_edge e x one) ∙ live) in live_new.each x there
      by_test false other = live_new.each x (alike x other ∙ live)

    no_other : (x : Edge) → holds_edge x new ≡ true → g x ≡ Live
    no_other x held = by_test (is_same_edge e x) refl where
      by_test : (b : Bool) → is_same_edge e x ≡ b → g x ≡ Live
      by_test true one = ap g (sym (one_edge e x one)) ∙ back (ap h (one_edge e x one) ∙ live_new.no_other x held)
      by_test false other = sym (alike x other) ∙ live_new.no_other x held

live_or : (s : State) → (s ≡ Live) ⊎ (s ≡ Live → ⊥)
live_or Absent = inr (λ e. cc)
live_or Live = inl refl
live_or Deleted = inr (λ e. cc)

pub changed : (edits : List Edit) (edit : Edit) (old new : List Edge) → AreLive (graph edits) old → AreLive (graph (edit ∷ edits)) new → Changes (edit_edge edit) old new
changed edits edit old new live_old live_new = by_states (live_or (graph edits (edit_edge edit))) (live_or (graph (edit ∷ edits) (edit_edge edit))) where
  e : Edge
  e = edit_edge edit

  back : (x : Edge) → is_same_edge e x ≡ false → graph edits x ≡ graph (edit ∷ edits) x
  back x other = sym (other_state edits edit x other)

  by_states : (graph edits (edit_edge edit) ≡ Live) ⊎ (graph edits (edit_edge edit) ≡ Live → ⊥) → (graph (edit ∷ edits) (edit_edge edit) ≡ Live) ⊎ (graph (edit ∷ edits) (edit_edge edit) ≡ Live → ⊥) → Changes (edit_edge edit) old new
  by_states (inl was) (inl is) = same (no_more (graph edits) (graph (edit ∷ edits)) e (other_state edits edit) old new live_old live_new (λ _. was) (λ _. is))
  by_states (inl was) (inr is_not) = goes (one_more (graph (edit ∷ edits)) (graph edits) e back new old live_new live_old was is_not)
  by_states (inr was_not) (inl is) = comes (one_more (graph edits) (graph (edit ∷ edits)) e (other_state edits edit) old new live_old live_new is was_not)
  by_states (inr was_not) (inr is_not) = same (no_more (graph edits) (graph (edit ∷ edits)) e (other_state edits edit) old new live_old live_new (λ is. absurd (is_not is)) (λ was. absurd (was_not was)))
