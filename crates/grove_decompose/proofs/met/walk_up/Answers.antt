use Rattle.std.proofs.Common.{Some, ap, sym, ◌∙◌}
use Rattle.graph_table.specs.Table.{vertex_at}
use Rattle.grove_decompose.proofs.Walking.{begun, noted, less_left, came_back, came_to, start_met, goes_on, came_up, start_noted}
use Rattle.grove_decompose.proofs.met.walk_up.Goals as goal

pub loop-earlier-init : goal.loop-earlier-init
loop-earlier-init c = begun c.args.table.now c.args.start c.args.walk c.args.met.now c.requires.start c.requires.all c.requires.earlier

pub returns-then-earlier-walk-clause-start : goal.returns-then-earlier-walk-clause-start
returns-then-earlier-walk-clause-start c =
    start_met c.args.table.now c.requires.once c.args.start c.loop-earlier.at c.args.walk c.args.met.now c.loop-earlier.met c.loop-earlier.invariant c.in-Some.earlier (sym c.in-Some.ensures)

pub returns-then-earlier-walk-clause-ended : goal.returns-then-earlier-walk-clause-ended
returns-then-earlier-walk-clause-ended c =
    came_back c.args.table.now c.requires.once c.args.start c.loop-earlier.at c.args.walk c.args.met.now c.loop-earlier.met c.loop-earlier.invariant
    (sym c.in-Some.ensures ∙ ap Some c.if-earlier-walk.true)

pub returns-else-earlier-walk-clause-start : goal.returns-else-earlier-walk-clause-start
returns-else-earlier-walk-clause-start c =
    start_met c.args.table.now c.requires.once c.args.start c.loop-earlier.at c.args.walk c.args.met.now c.loop-earlier.met c.loop-earlier.invariant c.in-Some.earlier (sym c.in-Some.ensures)

pub returns-else-earlier-walk-clause-ended : goal.returns-else-earlier-walk-clause-ended
returns-else-earlier-walk-clause-ended c =
    came_to c.args.table.now c.requires.once c.args.start c.loop-earlier.at c.args.walk c.args.met.now c.loop-earlier.met c.loop-earlier.invariant c.in-Some.earlier
    (sym c.in-Some.ensures) c.if-earlier-walk.false

pub returns-in_default-number_above-clause-start : goal.returns-in_default-number_above-clause-start
returns-in_default-number_above-clause-start c =
    let it = noted c.args.table.now c.requires.once c.args.start c.loop-earlier.at c.args.walk c.args.met.now c.loop-earlier.met c.loop-earlier.invariant c.enter.new.self (sym c.in_default.ensures) c.enter.ensures in
    start_noted c.args.table.now c.args.start c.loop-earlier.at c.args.walk c.args.met.now c.enter.new.self it

pub returns-in_default-number_above-clause-kept : goal.returns-in_default-number_above-clause-kept
returns-in_default-number_above-clause-kept c =
    let it = noted c.args.table.now c.requires.once c.args.start c.loop-earlier.at c.args.walk c.args.met.now c.loop-earlier.met c.loop-earlier.invariant c.enter.new.self (sym c.in_default.ensures) c.enter.ensures in
    it.entered.kept

pub returns-in_default-number_above-clause-ended : goal.returns-in_default-number_above-clause-ended
returns-in_default-number_above-clause-ended c =
    let it = noted c.args.table.now c.requires.once c.args.start c.loop-earlier.at c.args.walk c.args.met.now c.loop-earlier.met c.loop-earlier.invariant c.enter.new.self (sym c.in_default.ensures) c.enter.ensures in
    came_up c.args.table.now c.args.start c.loop-earlier.at c.args.walk c.args.met.now c.enter.new.self it c.in_default-number_above.ensures.none

pub loop-earlier-smaller : goal.loop-earlier-smaller
loop-earlier-smaller c =
    less_left c.args.table.now c.requires.once c.args.start c.loop-earlier.at c.args.walk c.args.met.now c.loop-earlier.met c.loop-earlier.invariant c.enter.new.self
    (vertex_at c.args.table.now c.in-Some-number_above.above) (sym c.in_default.ensures) c.enter.ensures c.in-Some-number_above.ensures.above

pub loop-earlier-preserved : goal.loop-earlier-preserved
loop-earlier-preserved c =
    let it = noted c.args.table.now c.requires.once c.args.start c.loop-earlier.at c.args.walk c.args.met.now c.loop-earlier.met c.loop-earlier.invariant c.enter.new.self (sym c.in_default.ensures) c.enter.ensures in
    goes_on c.args.table.now c.args.start c.loop-earlier.at c.args.walk c.args.met.now c.enter.new.self it c.in-Some-number_above.above c.in-Some-number_above.ensures.number c.in-Some-number_above.ensures.above
