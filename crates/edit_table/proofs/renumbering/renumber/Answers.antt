use Rattle.std.proofs.Common.{◌<◌, ◌≤◌, length, arith}
use Rattle.edit_table.proofs.Renumbered.{all_edits, all_records, keys_differ, none_yet, one_more}
use Rattle.edit_table.proofs.renumbering.renumber.Goals as goal

pub number_of-requires-clause-once : goal.number_of-requires-clause-once
number_of-requires-clause-once c = keys_differ c.requires.0 c.args.keys.now c.requires.1.keys_are.once

pub loop-index-init : goal.loop-index-init
loop-index-init c =
    none_yet c.args.keys.now c.args.records.now.items c.number_of.new.numbers.items c.in_ok-met.met.items c.number_of.new.met.items c.in_ok-met.ensures.items c.in_ok-number_of.ensures.numbers c.in_ok-number_of.ensures.met

pub renumbered-requires-clause-once : goal.renumbered-requires-clause-once
renumbered-requires-clause-once c = keys_differ c.requires.0 c.args.keys.now c.requires.1.keys_are.once

pub loop-index-preserved : goal.loop-index-preserved
loop-index-preserved c =
    let lt : c.loop-index.index < length c.loop-index.records.items = omega (arith, c.loop-index.invariant.long, c.loop-index-test.true, c.len-index-end.ensures) in
    one_more c.args.keys.now c.args.records.now.items c.loop-index.records.items c.loop-index.numbers.items c.renumbered.new.numbers.items c.loop-index.met.items c.renumbered.new.met.items c.loop-index.index
    c.index.result.now c.in_ok-numbered.numbered lt c.index.ensures c.loop-index.invariant c.in_ok-numbered.ensures.numbers c.in_ok-numbered.ensures.record

pub returns-clause-records : goal.returns-clause-records
returns-clause-records c ctors are =
    let over : length c.loop-index.records.items ≤ c.loop-index.index = omega (arith, c.loop-index.invariant.long, c.loop-index-test.false, c.len-index-end.ensures) in
    all_records c.args.keys.now c.args.records.now.items c.loop-index.records.items c.loop-index.numbers.items c.loop-index.met.items c.loop-index.index over c.loop-index.invariant ctors are

pub returns-clause-edits : goal.returns-clause-edits
returns-clause-edits c ctors are =
    let over : length c.loop-index.records.items ≤ c.loop-index.index = omega (arith, c.loop-index.invariant.long, c.loop-index-test.false, c.len-index-end.ensures) in
    all_edits c.args.keys.now c.args.records.now.items c.loop-index.records.items c.loop-index.numbers.items c.loop-index.met.items c.loop-index.index over c.loop-index.invariant ctors are
