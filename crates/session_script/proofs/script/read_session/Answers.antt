use Rattle.std.proofs.Common.{◌≡◌, true, false, None, Some, length, refl, sym, subst, rules}
use Rattle.session_script.specs.Reading.{view_of}
use Rattle.session_script.specs.Script.{IsBad}
use Rattle.session_script.specs.View.{items_at, fault_at}
use Rattle.session_script.proofs.SoFar.{nothing_yet, one_more, bad_form, bad_statement, bad_end, spelled_end, empty_list}
use Rattle.session_script.proofs.script.read_session.Goals as goal

pub loop-bytes-init : goal.loop-bytes-init
loop-bytes-init c = record {
  so_far = nothing_yet c.args.text.now c.new-reading.result c.new-reading.ensures.view c.new-reading.ensures.authors c.new-reading.ensures.items c.new-reading.ensures.lines;
  ordered = c.new-reading.ensures.ordered;
}

pub returns-in-Err-clause-fault : goal.returns-in-Err-clause-fault
returns-in-Err-clause-fault c =
    subst (IsBad c.args.text.now c.loop-bytes.line) (sym c.from-kind.ensures)
    (bad_form c.args.text.now c.loop-bytes.rest.now c.in-Some.bytes.now c.in-Some.after.now c.loop-bytes.line c.loop-bytes.reading c.in-Err.fault
    c.loop-bytes.invariant.so_far c.in-Some.ensures.parts c.in-Some.ensures.first c.in-Err.ensures.form_fault)

pub returns-in-Some-first_fault-clause-fault : goal.returns-in-Some-first_fault-clause-fault
returns-in-Some-first_fault-clause-fault c =
    let has : fault_at (view_of c.loop-bytes.reading) c.in-Ok.statement ≡ Some c.in-Some-first_fault.kind = sym c.in-Some-first_fault.ensures in
    bad_statement c.args.text.now c.loop-bytes.rest.now c.in-Some.bytes.now c.in-Some.after.now c.loop-bytes.line c.loop-bytes.reading c.in-Ok.statement c.in-Some-first_fault.kind has
    c.loop-bytes.invariant.so_far c.in-Some.ensures.parts c.in-Some.ensures.first c.in-Ok.ensures.says has

pub loop-bytes-preserved : goal.loop-bytes-preserved
loop-bytes-preserved c =
    let fine : fault_at (view_of c.loop-bytes.reading) c.in-Ok.statement ≡ None = search rules in
    record {
      so_far = one_more c.args.text.now c.loop-bytes.rest.now c.in-Some.bytes.now c.in-Some.after.now c.loop-bytes.line c.loop-bytes.reading c.take.new.reading c.in-Ok.statement
          c.loop-bytes.invariant.so_far c.in-Some.ensures.parts c.in-Ok.ensures.says fine c.in-Ok-take.ensures.seen
          c.in-Ok-take.ensures.authors c.in-Ok-take.ensures.items c.in-Ok-take.ensures.lines;
      ordered = c.in-Ok-take.ensures.ordered;
    }

pub returns-then-not-is_between_items-clause-fault : goal.returns-then-not-is_between_items-clause-fault
returns-then-not-is_between_items-clause-fault c =
    let none : length c.loop-bytes.rest.now ≡ 0 = search rules in
    let still_open : items_at (view_of c.loop-bytes.reading) ≡ false = search rules in
    bad_end c.args.text.now c.loop-bytes.rest.now c.loop-bytes.line c.loop-bytes.reading c.loop-bytes.invariant.so_far (empty_list c.loop-bytes.rest.now none) still_open

pub returns-clause-spelled : goal.returns-clause-spelled
returns-clause-spelled c =
    let none : length c.loop-bytes.rest.now ≡ 0 = search rules in
    let ended : items_at (view_of c.loop-bytes.reading) ≡ true = search rules in
    spelled_end c.args.text.now c.loop-bytes.rest.now c.loop-bytes.line c.loop-bytes.reading _ c.loop-bytes.invariant.so_far (empty_list c.loop-bytes.rest.now none) ended refl refl refl refl
