-- The root of a cycle is the least vertex of a walk that comes back.
use Rattle.std.proofs.Common.{◌≡◌, ◌⊎◌, inl, inr, suc, ◌+◌, ◌-◌, Bool, true, false, cond, not, List, ◌∷◌, Option, Some, None, refl, sym, ap, subst, ◌∙◌, arith}
use Rattle.std.specs.Ordering.{is_gt}
use Rattle.grove_edits.specs.declared.vertex.Vertex.{Vertex}
use Rattle.grove_edits.specs.declared.edge.Edge.{Edge}
use Rattle.grove_edits.specs.declared.edit.Edit.{Edit}
use Rattle.grove_edits.specs.Edit.{edit_edge}
use Rattle.grove_edits.specs.Vertex.{is_same_vertex, stands_in, vertex_cmp}
use Rattle.grove_edits.specs.Graph.{graph}
use Rattle.grove_edits.proofs.Vertices.{same_vertex_itself, same_vertex_exact}
use Rattle.graph_words.specs.Live.{parents_of}
use Rattle.graph_words.specs.Walk.{above, walk}
use Rattle.graph_words.specs.Class.{is_cycle_root}
use Rattle.graph_words.specs.Whole.{AreLive}
use Rattle.graph_words.proofs.Up.{next_above, walk_len}
use Rattle.graph_words.proofs.Tops.{HasTop, has_top}
use Rattle.graph_words.specs.Cycle.{is_on_cycle, leads_to}
use Rattle.graph_words.proofs.Cycles.{Reaches, ComesBack, up_through, leads_from_reaches, reaches_from_leads, leads_to_itself, back_from_cycle, leads_back, returns, never_none, back_from_return, root_from_least}
use Rattle.kept_records.specs.Change.{CyclesStay}
use Rattle.kept_records.proofs.Edited.{roots_stay, never_on_both}
use Rattle.kept_records.proofs.Decided.{list_or, edge_or, AreSameOrNot}
use Rattle.mark_incremental.specs.declared.passing.Ends.{Ends}
use Rattle.mark_incremental.specs.Passing.{AreWalks}
use Rattle.mark_incremental.specs.Rooting.{IsLeastOf, IsChangedTo, IsOnlyRoot}
use Rattle.mark_incremental.proofs.Concerned.{root_by}
use Rattle.mark_incremental.proofs.RootChange.{ended_roots, begun_roots, root_new}

module _ (live : List Edge) (start : Vertex) where
  reached : (r : Vertex) → IsLeastOf start (walk live start) r → leads_to live start r ≡ true
  reached r is = by is.among where
    by : (r ≡ start) ⊎ (stands_in r (walk live start) ≡ true) → leads_to live start r ≡ true
    by (inl one) = ap (leads_to live start) one ∙ leads_to_itself live start
    by (inr there) = there

  comes_back : (r : Vertex) → ComesBack live start → Reaches live start r → ComesBack live r
  comes_back r back (m, at) =
      let rest = leads_back live start r back (m, at) in
      let pos = rest.1 in
      let sum : rest.0 + m ≡ suc (rest.0 + m - 1) = omega arith in
      back_from_return live r (rest.0 + m - 1) (up_through live r start rest.0 m (suc (rest.0 + m - 1)) rest.2 sum ∙ at)

  pub least_is_root : (r : Vertex) → is_on_cycle live start ≡ true → IsLeastOf start (walk live start) r → (is_cycle_root live r ≡ true) × (leads_to live start r ≡ true)
  least_is_root r on is = (root_from_least live r (comes_back r (back_from_cycle live start on) from) least, reached r is) where
    from : Reaches live start r
    from = reaches_from_leads live start r (reached r is)

    least : (x : Vertex) → Reaches live r x → is_gt (vertex_cmp r x) ≡ false
    least x (k, found) = is.none_less x (leads_from_reaches live start x (from.0 + k, up_through live start r from.0 k (from.0 + k) from.1 refl ∙ found))

not_itself : (b : Bool) → not b ≡ b → ⊥
not_itself true is = cc
not_itself false is = cc

-- where the roots are told by one vertex, it is the only one that moves
only_from : (old new : List Edge) (r : Vertex) (b : Bool) → ((v : Vertex) → is_cycle_root new v ≡ cond (is_same_vertex r v) b (is_cycle_root old v)) → is_cycle_root old r ≡ not b → IsOnlyRoot old new r
only_from old new r b after was = record {
  moves = λ one. not_itself b (sym was ∙ one ∙ after r ∙ ap (λ c. cond c b (is_cycle_root old r)) (same_vertex_itself r));
  alone = λ v differ. by v differ (is_same_vertex r v) refl;
} where
  by : (v : Vertex) → (is_cycle_root old v ≡ is_cycle_root new v → ⊥) → (c : Bool) → is_same_vertex r v ≡ c → v ≡ r
  by v differ true one = sym (same_vertex_exact r v one)
  by v differ false other = absurd (differ (sym (after v ∙ ap (λ c. cond c b (is_cycle_root old v)) other)))

-- the head of the tree of a vertex on a cycle is the cycle's root
top_root : (live : List Edge) (t : Vertex) → is_on_cycle live t ≡ true → (r : Vertex) × (is_cycle_root live r ≡ true) × (leads_to live t r ≡ true)
top_root live t on = by (above live top.top) refl where
  top : HasTop live t
  top = has_top live t

  by : (o : Option Vertex) → above live top.top ≡ o → (r : Vertex) × (is_cycle_root live r ≡ true) × (leads_to live t r ≡ true)
  by None ends = absurd (never_none live t (walk_len live t - 1) (returns live t (back_from_cycle live t on)) (suc top.steps) (ap (next_above live) top.at ∙ ends))
  by (Some x) goes_on = (top.top, root_by (parents_of top.top live) (is_cycle_root live top.top) x goes_on top.heads, leads_from_reaches live t top.top (top.steps, top.at))

-- where the roots do not all stay, one alone moves
pub some_only_root : (edits : List Edit) (edit : Edit) (old new : List Edge) → AreLive (graph edits) old → AreLive (graph (edit ∷ edits)) new → (CyclesStay old new → ⊥) → (r : Vertex) × IsOnlyRoot old new r
some_only_root edits edit old new are_old are_new move = by (is_on_cycle old (edit_edge edit).target) refl (is_on_cycle new (edit_edge edit).target) refl where
  by : (a : Bool) → is_on_cycle old (edit_edge edit).target ≡ a → (b : Bool) → is_on_cycle new (edit_edge edit).target ≡ b → (r : Vertex) × IsOnlyRoot old new r
  by true was true is = absurd (never_on_both edits edit old new are_old are_new (λ one. move (λ v. ap (λ (es : List Edge). is_cycle_root es v) one)) was is)
  by false was false is = absurd (move (roots_stay edits edit old new are_old are_new was is))
  by true was false is =
      let t = top_root old (edit_edge edit).target was in
      (t.0, only_from old new t.0 false (ended_roots edits edit old new are_old are_new t.0 was is t.1 t.2) t.1)
  by false was true is =
      let t = top_root new (edit_edge edit).target is in
      (t.0, only_from old new t.0 true (begun_roots edits edit old new are_old are_new t.0 was is t.1 t.2) (root_new edits edit old new are_old are_new t.0 was is t.1 t.2))

module _ (edits : List Edit) (edit : Edit) (old new : List Edge) (are_old : AreLive (graph edits) old) (are_new : AreLive (graph (edit ∷ edits)) new)
    (before after : Ends) (walked : AreWalks old (edit_edge edit) before) (walks : AreWalks new (edit_edge edit) after) where
  -- the roots of cycles after the edit
  pub changed_roots : (r : Vertex) (b : Bool) → IsChangedTo (edit_edge edit).target before after r b → (v : Vertex) → is_cycle_root new v ≡ cond (is_same_vertex r v) b (is_cycle_root old v)
  changed_roots r true (was, is, least) =
      let root = least_is_root new (edit_edge edit).target r (sym walks.comes_back ∙ is) (subst (λ vs. IsLeastOf (edit_edge edit).target vs r) walks.target least) in
      begun_roots edits edit old new are_old are_new r (sym walked.comes_back ∙ was) (sym walks.comes_back ∙ is) root.0 root.1
  changed_roots r false (was, is, least) =
      let root = least_is_root old (edit_edge edit).target r (sym walked.comes_back ∙ was) (subst (λ vs. IsLeastOf (edit_edge edit).target vs r) walked.target least) in
      ended_roots edits edit old new are_old are_new r (sym walked.comes_back ∙ was) (sym walks.comes_back ∙ is) root.0 root.1

  -- what the root was before
  pub was_root : (r : Vertex) (b : Bool) → IsChangedTo (edit_edge edit).target before after r b → is_cycle_root old r ≡ not b
  was_root r true (was, is, least) =
      let root = least_is_root new (edit_edge edit).target r (sym walks.comes_back ∙ is) (subst (λ vs. IsLeastOf (edit_edge edit).target vs r) walks.target least) in
      root_new edits edit old new are_old are_new r (sym walked.comes_back ∙ was) (sym walks.comes_back ∙ is) root.0 root.1
  was_root r false (was, is, least) =
      (least_is_root old (edit_edge edit).target r (sym walked.comes_back ∙ was) (subst (λ vs. IsLeastOf (edit_edge edit).target vs r) walked.target least)).0

  -- and it is the only one that moves
  pub changed_alone : (r : Vertex) (b : Bool) → IsChangedTo (edit_edge edit).target before after r b → IsOnlyRoot old new r
  changed_alone r b is = only_from old new r b (changed_roots r b is) (was_root r b is)

  -- where both walks from the target come back, or none does, the roots stay
  pub roots_kept : before.target.comes_back ≡ after.target.comes_back → CyclesStay old new
  roots_kept one = by before.target.comes_back refl where
    on_old : (b : Bool) → before.target.comes_back ≡ b → is_on_cycle old (edit_edge edit).target ≡ b
    on_old b is = sym walked.comes_back ∙ is

    on_new : (b : Bool) → before.target.comes_back ≡ b → is_on_cycle new (edit_edge edit).target ≡ b
    on_new b is = sym walks.comes_back ∙ sym one ∙ is

    by_lists : AreSameOrNot old new → before.target.comes_back ≡ true → CyclesStay old new
    by_lists (inl one_list) is = λ v. ap (λ (es : List Edge). is_cycle_root es v) one_list
    by_lists (inr other) is = absurd (never_on_both edits edit old new are_old are_new other (on_old true is) (on_new true is))

    by : (b : Bool) → before.target.comes_back ≡ b → CyclesStay old new
    by false is = roots_stay edits edit old new are_old are_new (on_old false is) (on_new false is)
    by true is = by_lists (list_or edge_or old new) is
