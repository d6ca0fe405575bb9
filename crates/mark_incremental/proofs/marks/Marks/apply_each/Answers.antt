-- All edits are applied, or those before the one for which there was no memory are taken back.
use Rattle.std.proofs.Common.{sym, ◌∙◌, arith}
use Rattle.std.specs.Prelude.{reverse}
use Rattle.edge_lattice.specs.declared.state.State.TheVariants.{Absent}
use Rattle.edge_lattice.proofs.States.{state_join_comm, Absent-state_join}
use Rattle.graph_words.specs.States.{state_in}
use Rattle.mark_incremental.specs.Receipts.{held}
use Rattle.mark_incremental.proofs.Receipts.{none_led, last_led, have_led_on, as_failed, entries_room, marks_room, numbers_stay}
use Rattle.mark_incremental.proofs.AllApplied.{nothing_spent, joined_more, joined_all, spent_more, spent_within}
use Rattle.mark_incremental.proofs.Edited.{grown_stands}
use Rattle.mark_incremental.proofs.marks.Marks.apply_each.Goals as goal

pub loop-edit-init : goal.loop-edit-init
loop-edit-init g c = record {
  stand = c.requires.stand;
  joined = λ e. sym (state_join_comm (state_in c.args.graph.now e) Absent ∙ Absent-state_join (state_in c.args.graph.now e));
  led = none_led c.in_ok-receipts.receipts.items c.in_ok-receipts.ensures.items (held c.args.graph.now c.args.self.now);
  spent = nothing_spent (state_in c.args.graph.now) c.args.edits.now c.args.steps.now;
  count = c.in_ok-receipts.ensures.len;
  room = let exact = c.in_ok-receipts.ensures.exact in omega (arith, exact);
}

pub loop-edit-preserved : goal.loop-edit-preserved
loop-edit-preserved g c =
    let i = c.loop-edit.edit-index in
    let item = c.edit-item.result in
    let now = held c.loop-edit.graph c.loop-edit.self in
    let later = held c.apply.new.graph c.apply.new.self in
    let first = held c.args.graph.now c.args.self.now in
    record {
      stand = c.apply.ensures.stand;
      joined =
          joined_more c.args.edits.now i item c.loop-edit-test.true c.edit-item.is (state_in c.args.graph.now) (state_in c.loop-edit.graph) (state_in c.apply.new.graph) c.loop-edit.invariant.joined c.in-Ok.ensures.joined;
      led =
          last_led c.loop-edit.receipts.items c.push_reserved.new.self.items _ first later c.push_reserved.ensures.items (
            now,
            c.loop-edit.invariant.led,
            record {
              was = c.in-Ok.ensures.applied;
              can = c.in-Ok.ensures.can_take_back;
              room = c.apply.ensures.room_stays;
              marks_room = c.apply.ensures.marks_room_stays;
              numbers = c.apply.ensures.numbers_stay;
            },
          );
      spent =
          spent_more c.args.edits.now i item c.loop-edit-test.true c.edit-item.is (state_in c.args.graph.now) (state_in c.loop-edit.graph) c.args.steps.now c.loop-edit.steps c.apply.new.steps c.loop-edit.invariant.spent
          c.apply.ensures.ticks (state_in c.apply.new.graph) c.in-Ok.ensures.joined;
      count = let was = c.loop-edit.invariant.count in let more = c.push_reserved.ensures.len in omega (arith, was, more);
      room = let was = c.loop-edit.invariant.room in let same = c.push_reserved.ensures.capacity in omega (arith, was, same);
    }

pub take_back_all-requires : goal.take_back_all-requires
take_back_all-requires g c =
    let first = held c.args.graph.now c.args.self.now in
    let now = held c.loop-edit.graph c.loop-edit.self in
    let failed = held c.apply.new.graph c.apply.new.self in
    record {
      led = (
        first,
        have_led_on (reverse c.loop-edit.receipts.items) first now failed c.loop-edit.invariant.led
            (as_failed now failed c.in-Err.ensures.unchanged c.in-Err.ensures.kept c.apply.ensures.room_stays c.apply.ensures.marks_room_stays c.apply.ensures.numbers_stay),
      );
    }

pub returns-in-Err-clause-unchanged : goal.returns-in-Err-clause-unchanged
returns-in-Err-clause-unchanged g c =
    let first = held c.args.graph.now c.args.self.now in
    let now = held c.loop-edit.graph c.loop-edit.self in
    let failed = held c.apply.new.graph c.apply.new.self in
    let all = have_led_on (reverse c.loop-edit.receipts.items) first now failed c.loop-edit.invariant.led
    (as_failed now failed c.in-Err.ensures.unchanged c.in-Err.ensures.kept c.apply.ensures.room_stays c.apply.ensures.marks_room_stays c.apply.ensures.numbers_stay) in
    let back = c.take_back_all.ensures.back first all in
    back.graph

pub returns-in-Err-clause-stand : goal.returns-in-Err-clause-stand
returns-in-Err-clause-stand g c =
    let first = held c.args.graph.now c.args.self.now in
    let now = held c.loop-edit.graph c.loop-edit.self in
    let failed = held c.apply.new.graph c.apply.new.self in
    let all = have_led_on (reverse c.loop-edit.receipts.items) first now failed c.loop-edit.invariant.led
    (as_failed now failed c.in-Err.ensures.unchanged c.in-Err.ensures.kept c.apply.ensures.room_stays c.apply.ensures.marks_room_stays c.apply.ensures.numbers_stay) in
    let back = c.take_back_all.ensures.back first all in
    grown_stands (state_in c.args.graph.now) (state_in c.take_back_all.new.graph) c.args.self.now c.take_back_all.new.self c.requires.stand back.graph back.marks

pub returns-in-Err-clause-kept : goal.returns-in-Err-clause-kept
returns-in-Err-clause-kept g c =
    let first = held c.args.graph.now c.args.self.now in
    let now = held c.loop-edit.graph c.loop-edit.self in
    let failed = held c.apply.new.graph c.apply.new.self in
    let all = have_led_on (reverse c.loop-edit.receipts.items) first now failed c.loop-edit.invariant.led
    (as_failed now failed c.in-Err.ensures.unchanged c.in-Err.ensures.kept c.apply.ensures.room_stays c.apply.ensures.marks_room_stays c.apply.ensures.numbers_stay) in
    let back = c.take_back_all.ensures.back first all in
    back.marks

pub returns-in-Err-clause-room_stays : goal.returns-in-Err-clause-room_stays
returns-in-Err-clause-room_stays g c =
    let first = held c.args.graph.now c.args.self.now in
    let now = held c.loop-edit.graph c.loop-edit.self in
    let failed = held c.apply.new.graph c.apply.new.self in
    let all = have_led_on (reverse c.loop-edit.receipts.items) first now failed c.loop-edit.invariant.led
    (as_failed now failed c.in-Err.ensures.unchanged c.in-Err.ensures.kept c.apply.ensures.room_stays c.apply.ensures.marks_room_stays c.apply.ensures.numbers_stay) in
    let back = c.take_back_all.ensures.back first all in
    back.room

pub returns-in-Err-clause-marks_room_stays : goal.returns-in-Err-clause-marks_room_stays
returns-in-Err-clause-marks_room_stays g c =
    let first = held c.args.graph.now c.args.self.now in
    let now = held c.loop-edit.graph c.loop-edit.self in
    let failed = held c.apply.new.graph c.apply.new.self in
    let all = have_led_on (reverse c.loop-edit.receipts.items) first now failed c.loop-edit.invariant.led
    (as_failed now failed c.in-Err.ensures.unchanged c.in-Err.ensures.kept c.apply.ensures.room_stays c.apply.ensures.marks_room_stays c.apply.ensures.numbers_stay) in
    let back = c.take_back_all.ensures.back first all in
    back.marks_room

pub returns-in-Err-clause-numbers_stay : goal.returns-in-Err-clause-numbers_stay
returns-in-Err-clause-numbers_stay g c =
    let first = held c.args.graph.now c.args.self.now in
    let now = held c.loop-edit.graph c.loop-edit.self in
    let failed = held c.apply.new.graph c.apply.new.self in
    let all = have_led_on (reverse c.loop-edit.receipts.items) first now failed c.loop-edit.invariant.led
    (as_failed now failed c.in-Err.ensures.unchanged c.in-Err.ensures.kept c.apply.ensures.room_stays c.apply.ensures.marks_room_stays c.apply.ensures.numbers_stay) in
    let back = c.take_back_all.ensures.back first all in
    back.numbers

pub returns-in-Err-clause-ticks : goal.returns-in-Err-clause-ticks
returns-in-Err-clause-ticks g c =
    spent_within c.args.edits.now c.loop-edit.edit-index c.edit-item.result c.loop-edit-test.true c.edit-item.is (state_in c.args.graph.now) (state_in c.loop-edit.graph) c.args.steps.now c.loop-edit.steps
    c.apply.new.steps c.loop-edit.invariant.spent c.apply.ensures.ticks

pub returns-clause-joined : goal.returns-clause-joined
returns-clause-joined g c =
    joined_all c.args.edits.now c.loop-edit.edit-index c.loop-edit-test.false (state_in c.args.graph.now) (state_in c.loop-edit.graph) c.loop-edit.invariant.joined

pub returns-clause-room_stays : goal.returns-clause-room_stays
returns-clause-room_stays g c =
    entries_room (reverse c.loop-edit.receipts.items) (held c.args.graph.now c.args.self.now)
    (held c.loop-edit.graph c.loop-edit.self) c.loop-edit.invariant.led

pub returns-clause-marks_room_stays : goal.returns-clause-marks_room_stays
returns-clause-marks_room_stays g c =
    marks_room (reverse c.loop-edit.receipts.items) (held c.args.graph.now c.args.self.now)
    (held c.loop-edit.graph c.loop-edit.self) c.loop-edit.invariant.led

pub returns-clause-numbers_stay : goal.returns-clause-numbers_stay
returns-clause-numbers_stay g c =
    numbers_stay (reverse c.loop-edit.receipts.items) (held c.args.graph.now c.args.self.now) (held c.loop-edit.graph c.loop-edit.self) c.loop-edit.invariant.led
