use Rattle.std.proofs.Common.{◌≡◌, ◌∙◌, ◌+◌, ◌-◌, arith, rules}
use Rattle.grove_io.proofs.Moved.{Took-take}
use Rattle.grove_io.proofs.writing.write_out.Goals as goal

pub loop-written-preserved : goal.loop-written-preserved
loop-written-preserved g c =
    let written = c.in_ok-written.ensures in
    let before = c.loop-written.invariant in
    record {
      within = search rules;
      took = Took-take _ _ _ c.args.bytes.now c.loop-written.written c.in_ok-written.field-0 before.took written.took;
      never_falls = search rules;
      stays_sure = λ room sure fits.
          let rest : room - (c.loop-written.written + c.in_ok-written.field-0) ≡ room - c.loop-written.written - c.in_ok-written.field-0 = omega arith in
          rw rest (written.stays_sure (room - c.loop-written.written) (before.stays_sure room sure fits) (search rules));
      no_fault = λ room sure fits. c.write.ensures.no_fault (room - c.loop-written.written) (before.stays_sure room sure fits) (search rules) ∙ before.no_fault room sure fits;
    }
