-- One more edit is taken back, so the others lead to what is there then.
use Rattle.std.specs.Prelude.{reverse}
use Rattle.mark_incremental.specs.Receipts.{held}
use Rattle.mark_incremental.proofs.Receipts.{first_led, have_led_on, taken_back}
use Rattle.mark_incremental.proofs.marks.Marks.take_back_all.Goals as goal

pub take_back-requires : goal.take_back-requires
take_back-requires c =
    let now = held c.loop-last.graph c.loop-last.self in
    let first = c.requires.led.0 in
    let led = first_led c.loop-last.left.items c.pop.new.self.items c.in-Some.last first now c.in-Some.ensures.items (c.loop-last.invariant.led first c.requires.led.1) in
    record { can = led.2.can }

pub loop-last-preserved : goal.loop-last-preserved
loop-last-preserved c = record {
  led = λ before were.
      let now = held c.loop-last.graph c.loop-last.self in
      let later = held c.take_back.new.graph c.take_back.new.self in
      let led = first_led c.loop-last.left.items c.pop.new.self.items c.in-Some.last before now c.in-Some.ensures.items (c.loop-last.invariant.led before were) in
      have_led_on (reverse c.pop.new.self.items) before led.0 later led.1
      (taken_back c.in-Some.last.edit.now c.in-Some.last.applied led.0 now later led.2 (c.take_back.ensures.graph led.0.entries led.0.marks led.2.was) (c.take_back.ensures.kept led.0.entries led.0.marks led.2.was)
      c.take_back.ensures.room_stays c.take_back.ensures.marks_room_stays c.take_back.ensures.numbers_stay);
}
