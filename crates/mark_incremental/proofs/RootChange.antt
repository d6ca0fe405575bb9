-- Which vertices are the roots of cycles after an edit that makes or ends one.
use Rattle.std.proofs.Common.{◌≡◌, Bool, true, false, cond, List, ◌∷◌, refl, sym, ap, ◌∙◌}
use Rattle.grove_edits.specs.declared.vertex.Vertex.{Vertex}
use Rattle.grove_edits.specs.declared.edge.Edge.{Edge}
use Rattle.grove_edits.specs.declared.edit.Edit.{Edit}
use Rattle.grove_edits.specs.Edit.{edit_edge}
use Rattle.grove_edits.specs.Vertex.{is_same_vertex}
use Rattle.grove_edits.specs.Graph.{graph}
use Rattle.grove_edits.proofs.Vertices.{same_vertex_exact, same_vertex_itself}
use Rattle.graph_words.specs.Class.{is_cycle_root}
use Rattle.graph_words.specs.Whole.{AreLive}
use Rattle.graph_words.specs.Cycle.{is_on_cycle, leads_to}
use Rattle.graph_words.proofs.Cycles.{one_root, reaches_from_leads}
use Rattle.kept_records.proofs.Edited.{root_ends, root_begins, root_ended, root_begun}
use Rattle.grove_sorts.proofs.Truths.{not_both}

module _ (edits : List Edit) (edit : Edit) (old new : List Edge) (are_old : AreLive (graph edits) old) (are_new : AreLive (graph (edit ∷ edits)) new) (r : Vertex) where
  -- the cycle of the target ends, and its root is one no longer
  module _ (was : is_on_cycle old (edit_edge edit).target ≡ true) (is : is_on_cycle new (edit_edge edit).target ≡ false) (root : is_cycle_root old r ≡ true) (leads : leads_to old (edit_edge edit).target r ≡ true) where
    same_unless : (v : Vertex) → (is_same_vertex r v ≡ true → is_cycle_root new r ≡ true) → is_cycle_root new v ≡ is_cycle_root old v
    same_unless v kept = by (is_cycle_root old v) refl (is_cycle_root new v) refl where
      by : (a : Bool) → is_cycle_root old v ≡ a → (b : Bool) → is_cycle_root new v ≡ b → is_cycle_root new v ≡ is_cycle_root old v
      by true p true q = q ∙ sym p
      by false p false q = q ∙ sym p
      by false p true q = absurd (not_both (is_on_cycle new (edit_edge edit).target) (root_begun edits edit old new are_old are_new v q p).0 is)
      by true p false q =
          let one : r ≡ v =
          one_root old (edit_edge edit).target r v root p (reaches_from_leads old (edit_edge edit).target r leads)
          (reaches_from_leads old (edit_edge edit).target v (root_ended edits edit old new are_old are_new v p q).1) in
          absurd (not_both (is_cycle_root new v) (ap (is_cycle_root new) (sym one) ∙ kept (ap (λ x. is_same_vertex r x) (sym one) ∙ same_vertex_itself r)) q)

    root_gone : is_cycle_root new r ≡ false
    root_gone = by (is_cycle_root new r) refl where
      by : (b : Bool) → is_cycle_root new r ≡ b → is_cycle_root new r ≡ false
      by false q = q
      by true q = absurd (root_ends edits edit old new are_old are_new was is (λ v. sym (same_unless v (λ same. q))))

    pub ended_roots : (v : Vertex) → is_cycle_root new v ≡ (cond (is_same_vertex r v) false (is_cycle_root old v))
    ended_roots v = by (is_same_vertex r v) refl where
      by : (b : Bool) → is_same_vertex r v ≡ b → is_cycle_root new v ≡ cond b false (is_cycle_root old v)
      by true same = ap (is_cycle_root new) (sym (same_vertex_exact r v same)) ∙ root_gone
      by false other = same_unless v (λ same. absurd (not_both (is_same_vertex r v) same other))

  -- a cycle begins at the target, and its root is one now
  module _ (was : is_on_cycle old (edit_edge edit).target ≡ false) (is : is_on_cycle new (edit_edge edit).target ≡ true) (root : is_cycle_root new r ≡ true) (leads : leads_to new (edit_edge edit).target r ≡ true) where
    stays_unless : (v : Vertex) → (is_same_vertex r v ≡ true → is_cycle_root old r ≡ true) → is_cycle_root new v ≡ is_cycle_root old v
    stays_unless v kept = by (is_cycle_root old v) refl (is_cycle_root new v) refl where
      by : (a : Bool) → is_cycle_root old v ≡ a → (b : Bool) → is_cycle_root new v ≡ b → is_cycle_root new v ≡ is_cycle_root old v
      by true p true q = q ∙ sym p
      by false p false q = q ∙ sym p
      by true p false q = absurd (not_both (is_on_cycle old (edit_edge edit).target) (root_ended edits edit old new are_old are_new v p q).0 was)
      by false p true q =
          let one : r ≡ v =
          one_root new (edit_edge edit).target r v root q (reaches_from_leads new (edit_edge edit).target r leads)
          (reaches_from_leads new (edit_edge edit).target v (root_begun edits edit old new are_old are_new v q p).1) in
          absurd (not_both (is_cycle_root old v) (ap (is_cycle_root old) (sym one) ∙ kept (ap (λ x. is_same_vertex r x) (sym one) ∙ same_vertex_itself r)) p)

    pub root_new : is_cycle_root old r ≡ false
    root_new = by (is_cycle_root old r) refl where
      by : (b : Bool) → is_cycle_root old r ≡ b → is_cycle_root old r ≡ false
      by false q = q
      by true q = absurd (root_begins edits edit old new are_old are_new was is (λ v. sym (stays_unless v (λ same. q))))

    pub begun_roots : (v : Vertex) → is_cycle_root new v ≡ (cond (is_same_vertex r v) true (is_cycle_root old v))
    begun_roots v = by (is_same_vertex r v) refl where
      by : (b : Bool) → is_same_vertex r v ≡ b → is_cycle_root new v ≡ cond b true (is_cycle_root old v)
      by true same = ap (is_cycle_root new) (sym (same_vertex_exact r v same)) ∙ root
      by false other = stays_unless v (λ same. absurd (not_both (is_same_vertex r v) same other))
