use Rattle.std.proofs.Common.{◌<◌, ◌^◌, ap, Some, arith}
use Rattle.edit_ranges.proofs.RangeTexts.{last_is_read}
use Rattle.edit_ranges.proofs.reading.read_last.Goals as goal

pub returns-then-first-last-clause-only : goal.returns-then-first-last-clause-only
returns-then-first-last-clause-only c = λ last long small spells.
    let fits : c.in_ok-last-in-45.last < 2 ^ 64 = omega arith in
    ap Some (last_is_read c.args.text.now c.args.first last c.in_ok-last-in-45.last c.in-45.len_at_least c.in_ok-last-in-45.ensures.found fits small spells).0

pub returns-else-first-last-clause-only : goal.returns-else-first-last-clause-only
returns-else-first-last-clause-only c = λ last long small spells.
    let fits : c.in_ok-last-in-45.last < 2 ^ 64 = omega arith in
    let read = last_is_read c.args.text.now c.args.first last c.in_ok-last-in-45.last c.in-45.len_at_least c.in_ok-last-in-45.ensures.found fits small spells in
    let less = c.if-first-last.false in
    absurd (read.1 (omega (arith, read.0)))
