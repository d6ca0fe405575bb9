use Rattle.grove_decompose.proofs.Rounds.{round_begun, round_goes_on, way_shrinks, least_is_root, least_is_above, never_ends}
use Rattle.grove_decompose.proofs.cycle.root_of_cycle.Goals as goal

pub loop-above-init : goal.loop-above-init
loop-above-init c = round_begun c.args.table.now c.args.entry c.requires.entry

pub returns-then-above-entry-clause-root : goal.returns-then-above-entry-clause-root
returns-then-above-entry-clause-root c =
    least_is_root c.args.table.now c.requires.once c.args.entry c.loop-above.at c.loop-above.least c.requires.entry c.requires.cycle c.loop-above.invariant c.in-Some.above c.in-Some.ensures.above c.if-above-entry.true

pub returns-then-above-entry-clause-above : goal.returns-then-above-entry-clause-above
returns-then-above-entry-clause-above c =
    least_is_above c.args.table.now c.requires.once c.args.entry c.loop-above.at c.loop-above.least c.requires.entry c.requires.cycle c.loop-above.invariant

pub loop-above-preserved : goal.loop-above-preserved
loop-above-preserved c =
    round_goes_on c.args.table.now c.requires.once c.args.entry c.loop-above.at c.loop-above.least c.requires.entry c.requires.cycle c.loop-above.invariant c.in-Some.above c.lesser-least.result
    c.in-Some.ensures.number c.in-Some.ensures.above c.if-above-entry.false c.lesser-least.ensures.number c.lesser-least.ensures.lesser

pub loop-above-smaller : goal.loop-above-smaller
loop-above-smaller c =
    way_shrinks c.args.table.now c.requires.once c.args.entry c.loop-above.at c.loop-above.least c.requires.entry c.requires.cycle c.loop-above.invariant c.in-Some.above
    c.in-Some.ensures.number c.in-Some.ensures.above c.if-above-entry.false

pub returns-clause-root : goal.returns-clause-root
returns-clause-root c =
    absurd (never_ends c.args.table.now c.requires.once c.args.entry c.loop-above.at c.loop-above.least c.requires.entry c.requires.cycle c.loop-above.invariant c.in_default.ensures.none)

pub returns-clause-above : goal.returns-clause-above
returns-clause-above c =
    least_is_above c.args.table.now c.requires.once c.args.entry c.loop-above.at c.loop-above.least c.requires.entry c.requires.cycle c.loop-above.invariant
