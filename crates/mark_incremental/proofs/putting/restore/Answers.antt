-- One more vertex has its old record.
use Rattle.std.proofs.Common.{◌≡◌, ◌+◌, [], ◌∷◌, ◌++◌, cond, take, sym, ap, ◌∙◌}
use Rattle.std.specs.Prelude.{Option}
use Rattle.std.proofs.lemmas.List.{take_more}
use Rattle.grove_edits.specs.declared.vertex.Vertex.{Vertex}
use Rattle.grove_edits.specs.Vertex.{is_same_vertex}
use Rattle.mark_store.specs.declared.record.Record.{Record}
use Rattle.mark_store.specs.Places.{value_at}
use Rattle.mark_incremental.specs.Applying.{put_back_in}
use Rattle.mark_incremental.proofs.Puts.{back_more}
use Rattle.mark_incremental.proofs.putting.restore.Goals as goal

pub loop-vertex-preserved : goal.loop-vertex-preserved
loop-vertex-preserved c =
    let i = c.loop-vertex.vertex-index in
    let item = c.loop-vertex-item.result in
    let found = value_at c.args.records.now in
    let more : take (i + 1) c.args.old.now ≡ take i c.args.old.now ++ item ∷ [] =
    take_more c.args.old.now i item c.loop-vertex-test.true ∙ ap (λ (x : Vertex × Option Record). take i c.args.old.now ++ x ∷ []) (sym c.loop-vertex-item.is) in
    record {
      put = λ v.
          c.restore_one.ensures.put v ∙ ap (cond (is_same_vertex item.0 v) item.1) (c.loop-vertex.invariant.put v)
          ∙ sym (back_more (take i c.args.old.now) item found v) ∙ ap (λ ms. put_back_in ms found v) (sym more);
      room_stays = λ v held. c.restore_one.ensures.room_stays v (c.loop-vertex.invariant.room_stays v held);
    }
