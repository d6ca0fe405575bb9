-- What a walk down counts after an edit is within the size of the edit.
use Rattle.std.proofs.Common.{◌≡◌, inl, ℕ, ◌+◌, ◌*◌, ◌≤◌, Bool, true, false, not, List, [], ◌∷◌, length, refl, sym, ap, subst, ◌∙◌, arith}
use Rattle.std.specs.Prelude.{filter}
use Rattle.std.specs.List.{sum_by}
use Rattle.std.proofs.lemmas.List.Sums.{sum_by-cons}
use Rattle.grove_edits.specs.declared.vertex.Vertex.{Vertex}
use Rattle.grove_edits.specs.declared.edge.Edge.{Edge}
use Rattle.grove_edits.specs.declared.edit.Edit.{Edit}
use Rattle.grove_edits.specs.Edit.{edit_edge}
use Rattle.grove_edits.specs.Graph.{graph}
use Rattle.graph_words.specs.Whole.{AreLive}
use Rattle.grove_terms.specs.declared.node.Node.{Node}
use Rattle.grove_terms.specs.Grove.{AreTreesOf}
use Rattle.type_core.specs.Typ.{Typ}
use Rattle.ctx_table.specs.Context.{Context}
use Rattle.kept_records.specs.Kept.{Kept, Records, AreKept}
use Rattle.kept_records.specs.Local.{is_inner}
use Rattle.kept_records.specs.Change as change
use Rattle.kept_records.specs.Change.{CyclesStay, is_on_walks, StandOnce, AreNear, near_size, node_count}
use Rattle.kept_records.specs.Renewal.{MakesTrees, AreAllInTrees, names}
use Rattle.kept_records.proofs.Edited.{made_within}
use Rattle.kept_records.proofs.Cost.{whole_weigh, edges_leave}
use Rattle.kept_records.proofs.Sizes.{weight_within}
use Rattle.mark_store.specs.declared.record.Record.{Record}
use Rattle.mark_store.specs.Places.{Places, holds}
use Rattle.mark_incremental.specs.Reading.{records_at}
use Rattle.mark_incremental.specs.Looking.{on}
use Rattle.mark_incremental.specs.Walking.{LeavesRight}
use Rattle.mark_incremental.specs.Passing.{HoldsThese}
use Rattle.mark_incremental.specs.Ticks.{weight, weight_of, AreTreesPaid, AreTreesPaidFor}
use Rattle.mark_incremental.proofs.Renewed.{leaves_right, near_heads}

module _ (edits : List Edit) (edit : Edit) (old new : List Edge) (are_old : AreLive (graph edits) old) (are_new : AreLive (graph (edit ∷ edits)) new) where
  -- the new graph alone weighs no more than both
  pub lighter : (made : List (Vertex × Kept)) → weight_of new made ≤ sum_by (change.weight old new) (names made)
  lighter [] = omega arith
  lighter (m ∷ ms) =
      let rest = lighter ms in
      let here = sum_by-cons (λ (n : Vertex × Kept). weight new n.0) m ms in
      let there = sum_by-cons (change.weight old new) m.0 (names ms) in
      let leave = edges_leave (edit ∷ edits) new are_new m.0 in
      omega (arith, rest, here, there, leave)

  module _ (types : List Typ) (ctxs : List Context) (places : Places Record) (passed : Places Bool) (vertices : List Vertex) (these : HoldsThese passed vertices)
      (walked : (v : Vertex) → holds passed v ≡ is_on_walks (edit_edge edit) old new v) (near : List Vertex) (are_near : AreNear (edit_edge edit) old new near) where
    -- one walk down from the heads on the walks
    pub near_counted : CyclesStay old new → AreKept (graph edits) old (records_at types ctxs places) → (before after : ℕ)
        → AreTreesPaidFor new types ctxs places (on false passed) (filter (λ v. not (is_inner new v)) vertices) before after → after ≤ before + 5 * near_size old new near
    near_counted stay kept before after counted =
        let paid : AreTreesPaid new (is_on_walks (edit_edge edit) old new) (records_at types ctxs places) (filter (λ v. not (is_inner new v)) vertices) before after =
        subst (λ (f : Vertex → Bool). AreTreesPaid new f (records_at types ctxs places) (filter (λ v. not (is_inner new v)) vertices) before after) same_judged (counted (records_at types ctxs places) (λ v. refl) leaves) in
        let within =
        made_within edits edit old new are_old are_new stay (records_at types ctxs places) kept (filter (λ v. not (is_inner new v)) vertices) (near_heads edits edit old new are_old are_new vertices these.once (λ v. sym (these.same v) ∙ walked v))
        paid.all paid.makes near are_near in
        let light = lighter paid.all in
        let all = paid.within in
        omega (arith, within, light, all)
      where
        same_judged : on false passed ≡ is_on_walks (edit_edge edit) old new
        same_judged = λ j v. walked v j

        leaves : LeavesRight new (on false passed) (records_at types ctxs places)
        leaves =
            subst (λ (f : Vertex → Bool). LeavesRight new f (records_at types ctxs places)) (sym same_judged) (leaves_right edits edit old new are_old are_new stay (records_at types ctxs places) kept)

    -- the vertices on the walks are no more than the size
    pub few_walked : length vertices ≤ near_size old new near
    few_walked =
        let within = weight_within (edit_edge edit) old new near are_near vertices these.once (λ v stands. inl (sym (walked v) ∙ these.same v ∙ stands)) in
        let each = one_each vertices in
        omega (arith, within, each)
      where
        one_each : (vs : List Vertex) → length vs ≤ sum_by (change.weight old new) vs
        one_each [] = omega arith
        one_each (v ∷ vs) =
            let rest = one_each vs in
            let here = sum_by-cons (change.weight old new) v vs in
            omega (arith, rest, here)

    -- both, with three for each vertex on the walks
    pub near_ticked : CyclesStay old new → AreKept (graph edits) old (records_at types ctxs places) → (listed : List Vertex) → listed ≡ vertices → (start end : ℕ)
        → ((most : ℕ) → ((before after : ℕ) → AreTreesPaidFor new types ctxs places (on false passed) (filter (λ v. not (is_inner new v)) listed) before after → after ≤ before + most) → end ≤ start + 3 * length listed + most)
        → end ≤ start + 8 * near_size old new near
    near_ticked stay kept listed same start end ticked =
        let few = few_walked in
        let long : length listed ≡ length vertices = ap length same in
        let all = ticked (5 * near_size old new near)
        (λ before after paid. near_counted stay kept before after (subst (λ vs. AreTreesPaidFor new types ctxs places (on false passed) (filter (λ v. not (is_inner new v)) vs) before after) same paid)) in
        omega (arith, few, long, all)

-- walks down whole trees, which make the records of all that stands in them
pub whole_counted : ((new : List Edge) (records : Records) (heads : List Vertex) (made : List (Vertex × Kept)) → MakesTrees (λ v. true) new records heads made → AreAllInTrees new heads made) → (edits : List Edit) (live : List Edge) → AreLive (graph edits) live → (types : List Typ) (ctxs : List Context) (places : Places Record) (passed : Places Bool) (heads : List Vertex) (before after : ℕ)
    → AreTreesPaidFor live types ctxs places (on true passed) heads before after → (trees : List (List Node)) → AreTreesOf live heads trees → after ≤ before + 10 * node_count trees
whole_counted all_made edits live are types ctxs places passed heads before after counted trees of =
    let paid = counted (records_at types ctxs places) (λ v. refl) (λ u us v f d stands left. absurd (clash left.0)) in
    let weighs = whole_weigh edits live are heads paid.all trees (all_made live (records_at types ctxs places) heads paid.all paid.makes) of in
    let within = paid.within in
    omega (arith, weighs, within)
  where
    clash : true ≡ false → ⊥
    clash is = cc
