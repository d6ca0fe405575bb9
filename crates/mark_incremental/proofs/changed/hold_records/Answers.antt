-- The record of one more vertex is held.
use Rattle.std.proofs.Common.{◌≡◌, ◌+◌, [], ◌∷◌, ◌++◌, cond, take, sym, ap, ◌∙◌}
use Rattle.std.specs.Prelude.{Option}
use Rattle.std.proofs.lemmas.List.{take_more}
use Rattle.grove_edits.specs.declared.vertex.Vertex.{Vertex}
use Rattle.grove_edits.specs.Vertex.{is_same_vertex}
use Rattle.mark_store.specs.declared.record.Record.{Record}
use Rattle.mark_incremental.specs.Applying.{put_back_in}
use Rattle.mark_incremental.specs.Before.{record_before}
use Rattle.mark_incremental.proofs.Puts.{back_more}
use Rattle.mark_incremental.proofs.changed.hold_records.Goals as goal

pub loop-vertex-preserved : goal.loop-vertex-preserved
loop-vertex-preserved c =
    let i = c.loop-vertex.vertex-index in
    let item = c.loop-vertex-item.result in
    let more : take (i + 1) c.args.old.now ≡ take i c.args.old.now ++ item ∷ [] =
    take_more c.args.old.now i item c.loop-vertex-test.true ∙ ap (λ (x : Vertex × Option Record). take i c.args.old.now ++ x ∷ []) (sym c.loop-vertex-item.is) in
    record {
      listed = c.in_ok-hold_record.ensures.listed;
      records = λ found v.
          c.in_ok-hold_record.ensures.records found v ∙ ap (cond (is_same_vertex item.0 v) item.1) (c.loop-vertex.invariant.records found v)
          ∙ sym (back_more (take i c.args.old.now) item (record_before c.args.before.now.records found) v)
          ∙ ap (λ ms. put_back_in ms (record_before c.args.before.now.records found) v) (sym more);
      roots = c.in_ok-hold_record.ensures.roots ∙ c.loop-vertex.invariant.roots;
    }
