-- The records that are kept after an edit.
use Rattle.std.proofs.Common.{◌≡◌, Bool, true, false, cond, not, List, [], ◌∷◌, Option, Some, refl, sym, ap, subst, ◌∙◌}
use Rattle.std.specs.Prelude.{filter}
use Rattle.std.specs.Option.{option_map}
use Rattle.grove_edits.specs.declared.vertex.Vertex.{Vertex}
use Rattle.grove_edits.specs.declared.edge.Edge.{Edge}
use Rattle.grove_edits.specs.declared.edit.Edit.{Edit}
use Rattle.grove_edits.specs.Edit.{edit_edge}
use Rattle.grove_edits.specs.Vertex.{is_same_vertex}
use Rattle.grove_edits.specs.Graph.{graph}
use Rattle.graph_words.specs.Whole.{AreLive}
use Rattle.type_core.specs.Typ.{Typ}
use Rattle.ctx_table.specs.Context.{Context}
use Rattle.kept_records.specs.Kept.{AreKept}
use Rattle.kept_records.specs.Local.{is_inner}
use Rattle.kept_records.specs.Change.{CyclesStay, is_on_walks}
use Rattle.kept_records.specs.Renewal.{MakesTrees, put}
use Rattle.mark_store.specs.declared.record.Record.{Record}
use Rattle.mark_store.specs.Places.{Places, value_at, holds}
use Rattle.mark_incremental.specs.Reading.{kept_by, records_at}
use Rattle.mark_incremental.specs.Looking.{on}
use Rattle.mark_incremental.specs.Walking.{meant, HasMadeTrees, LeavesRight}
use Rattle.mark_incremental.specs.Passing.{HoldsThese}
use Rattle.mark_incremental.specs.Standing.{put_in}
use Rattle.mark_incremental.proofs.Renewed.{leaves_right, near_keeps}

-- records that are put by number are put as what they stand for
pub put_read : (types : List Typ) (ctxs : List Context) (made : List (Vertex × Record)) (found : Vertex → Option Record) (v : Vertex)
    → option_map (kept_by types ctxs) (put_in made found v) ≡ put (meant types ctxs made) (λ u. option_map (kept_by types ctxs) (found u)) v
put_read types ctxs [] found v = refl
put_read types ctxs (m ∷ ms) found v = by_test (is_same_vertex m.0 v) (put_read types ctxs ms found v) where
  by_test : (b : Bool) → option_map (kept_by types ctxs) (put_in ms found v) ≡ put (meant types ctxs ms) (λ u. option_map (kept_by types ctxs) (found u)) v
      → option_map (kept_by types ctxs) (cond b (Some m.1) (put_in ms found v)) ≡ cond b (Some (kept_by types ctxs m.1)) (put (meant types ctxs ms) (λ u. option_map (kept_by types ctxs) (found u)) v)
  by_test true rest = refl
  by_test false rest = rest

module _ (edits : List Edit) (edit : Edit) (old new : List Edge) (are_old : AreLive (graph edits) old) (are_new : AreLive (graph (edit ∷ edits)) new) where
  -- after an edit by which no root of a cycle comes or goes
  pub near_renewed : CyclesStay old new → (types : List Typ) (ctxs : List Context) (places after : Places Record) (passed : Places Bool) (vertices : List Vertex) (made : List (Vertex × Record))
      → AreKept (graph edits) old (records_at types ctxs places) → HoldsThese passed vertices → ((v : Vertex) → holds passed v ≡ is_on_walks (edit_edge edit) old new v)
      → HasMadeTrees new types ctxs places (on false passed) (filter (λ v. not (is_inner new v)) vertices) made → ((v : Vertex) → value_at after v ≡ put_in made (value_at places) v)
      → AreKept (graph (edit ∷ edits)) new (records_at types ctxs after)
  near_renewed stay types ctxs places after passed vertices made kept these walked trees puts =
      subst (AreKept (graph (edit ∷ edits)) new) same_records
      (near_keeps edits edit old new are_old are_new stay (records_at types ctxs places) kept vertices these.once (λ v. sym (these.same v) ∙ walked v) (meant types ctxs made) makes) where
        same_judged : on false passed ≡ is_on_walks (edit_edge edit) old new
        same_judged = λ j v. walked v j

        leaves : LeavesRight new (on false passed) (records_at types ctxs places)
        leaves =
            subst (λ (f : Vertex → Bool). LeavesRight new f (records_at types ctxs places)) (sym same_judged) (leaves_right edits edit old new are_old are_new stay (records_at types ctxs places) kept)

        makes : MakesTrees (is_on_walks (edit_edge edit) old new) new (records_at types ctxs places) (filter (λ v. not (is_inner new v)) vertices) (meant types ctxs made)
        makes =
            subst (λ (f : Vertex → Bool). MakesTrees f new (records_at types ctxs places) (filter (λ v. not (is_inner new v)) vertices) (meant types ctxs made)) same_judged
            (trees (records_at types ctxs places) (λ v. refl) leaves)

        same_records : put (meant types ctxs made) (records_at types ctxs places) ≡ records_at types ctxs after
        same_records = λ j v. sym (ap (option_map (kept_by types ctxs)) (puts v) ∙ put_read types ctxs made (value_at places) v) j
