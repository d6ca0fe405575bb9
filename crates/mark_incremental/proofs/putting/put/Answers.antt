-- One more record is put.
use Rattle.mark_incremental.proofs.Puts.{put_more, room_fewer}
use Rattle.mark_incremental.proofs.putting.put.Goals as goal

pub loop-newest-preserved : goal.loop-newest-preserved
loop-newest-preserved c = record {
  put =
      put_more c.args.made.items c.loop-newest.left.items c.pop.new.self.items c.in-Some.newest c.args.records.now c.loop-newest.records c.set.new.self c.loop-newest.invariant.put c.in-Some.ensures.items
      c.set.ensures.put;
  room = room_fewer c.loop-newest.left.items c.pop.new.self.items c.in-Some.newest c.loop-newest.records c.set.new.self c.in-Some.ensures.items c.set.ensures.room_stays c.loop-newest.invariant.room;
  room_stays = λ v held. c.set.ensures.room_stays v (c.loop-newest.invariant.room_stays v held);
}
