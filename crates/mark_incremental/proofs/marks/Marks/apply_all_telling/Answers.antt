-- The marks are told by those that stand before and after, and where memory runs out all edits are taken back.
use Rattle.std.proofs.Common.{List, sym, subst}
use Rattle.std.specs.Prelude.{reverse}
use Rattle.graph_words.specs.States.{state_in}
use Rattle.mark_incremental.specs.declared.applying_all.Receipt.{Receipt}
use Rattle.mark_incremental.specs.Receipts.{held, HaveLed}
use Rattle.mark_incremental.proofs.ChangedMarks.{changed_marks}
use Rattle.mark_incremental.proofs.Edited.{grown_stands}
use Rattle.mark_incremental.proofs.marks.Marks.apply_all_telling.Goals as goal

pub take_back_all-requires : goal.take_back_all-requires
take_back_all-requires g c = record { led = (held c.args.graph.now c.args.self.now, c.in_ok-receipts.ensures.led) }

pub returns-in-Ok-clause-changed : goal.returns-in-Ok-clause-changed
returns-in-Ok-clause-changed g c =
    let first = held c.args.graph.now c.args.self.now in
    let last = held c.apply_each.new.graph c.apply_each.new.self in
    let led = subst (λ (rs : List Receipt). HaveLed (reverse rs) first last) (sym c.deref.ensures.value) c.in_ok-receipts.ensures.led in
    changed_marks (state_in c.args.graph.now) (state_in c.apply_each.new.graph) c.args.self.now c.apply_each.new.self c.requires.stand c.apply_each.ensures.stand c.in-Ok.changed.items
    (c.in-Ok.ensures first c.apply_each.new.graph led c.requires.stand.numbers)

pub returns-in-Err-clause-unchanged : goal.returns-in-Err-clause-unchanged
returns-in-Err-clause-unchanged g c = (c.take_back_all.ensures.back (held c.args.graph.now c.args.self.now) c.in_ok-receipts.ensures.led).graph

pub returns-in-Err-clause-stand : goal.returns-in-Err-clause-stand
returns-in-Err-clause-stand g c =
    let back = c.take_back_all.ensures.back (held c.args.graph.now c.args.self.now) c.in_ok-receipts.ensures.led in
    grown_stands (state_in c.args.graph.now) (state_in c.take_back_all.new.graph) c.args.self.now c.take_back_all.new.self c.requires.stand back.graph back.marks

pub returns-in-Err-clause-kept : goal.returns-in-Err-clause-kept
returns-in-Err-clause-kept g c = (c.take_back_all.ensures.back (held c.args.graph.now c.args.self.now) c.in_ok-receipts.ensures.led).marks

pub returns-in-Err-clause-room_stays : goal.returns-in-Err-clause-room_stays
returns-in-Err-clause-room_stays g c = (c.take_back_all.ensures.back (held c.args.graph.now c.args.self.now) c.in_ok-receipts.ensures.led).room

pub returns-in-Err-clause-marks_room_stays : goal.returns-in-Err-clause-marks_room_stays
returns-in-Err-clause-marks_room_stays g c = (c.take_back_all.ensures.back (held c.args.graph.now c.args.self.now) c.in_ok-receipts.ensures.led).marks_room

pub returns-in-Err-clause-numbers_stay : goal.returns-in-Err-clause-numbers_stay
returns-in-Err-clause-numbers_stay g c = (c.take_back_all.ensures.back (held c.args.graph.now c.args.self.now) c.in_ok-receipts.ensures.led).numbers
