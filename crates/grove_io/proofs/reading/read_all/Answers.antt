use Rattle.std.proofs.Common.{◌∙◌, ap, take, rules}
use Rattle.std.proofs.lemmas.List.{with_items_is, places}
use Rattle.grove_io.proofs.Moved.{Gave-take}
use Rattle.grove_io.proofs.reading.read_all.Goals as goal

pub loop-filled-preserved : goal.loop-filled-preserved
loop-filled-preserved g c =
    let read = c.in_ok-count.ensures in
    let before = c.loop-filled.invariant in
    let text = with_items_is c.make_room.new.text c.read_behind.new.text (search (rules, places)) in
    let front = c.read_behind.ensures.front ∙ ap (take c.loop-filled.filled) c.deref_mut.ensures.value ∙ c.make_room.ensures.front in
    record {
      within = search rules;
      most = search rules;
      gave = rw text (Gave-take _ _ _ c.loop-filled.text.items c.read_behind.new.text c.loop-filled.filled c.in_ok-count.count before.gave front read.gave);
      never_falls = search rules;
      stays_sure = λ sure. c.read_behind.ensures.stays_sure (before.stays_sure sure);
      no_fault = λ sure. c.read_behind.ensures.no_fault (before.stays_sure sure) ∙ before.no_fault sure;
    }
