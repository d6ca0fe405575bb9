-- The source alone sees what the edit makes of the target, or nothing is done.
use Rattle.std.proofs.Common.{arith}
use Rattle.live_graph.specs.Live.{live}
use Rattle.graph_words.specs.States.{state_in}
use Rattle.mark_incremental.proofs.ApartFrom.{seen_by_one, rooted_there, well_there, stands_there, size_near, stand_if, few_short}
use Rattle.mark_incremental.proofs.ConflictRenewed.{children_seen}
use Rattle.mark_incremental.proofs.marks.Marks.renew_if_short.Goals as goal

pub renew_at_conflict-requires-clause-rooted : goal.renew_at_conflict-requires-clause-rooted
renew_at_conflict-requires-clause-rooted g c =
    let was = c.requires.before in
    let new = live c.args.graph.now in
    rooted_there c.args.edge.now (state_in c.args.graph.now) c.args.self.now c.args.before.now c.args.apart was new c.requires.live
    (c.may_be_short.ensures was.old new was.parents c.few-after.ensures.least c.if-not-may_be_short.false)

pub renew_at_conflict-requires-clause-well_formed : goal.renew_at_conflict-requires-clause-well_formed
renew_at_conflict-requires-clause-well_formed g c =
    well_there c.args.edge.now (state_in c.args.graph.now) c.args.self.now c.args.before.now c.args.apart c.requires.before (live c.args.graph.now) c.requires.live

pub renew_short-requires-clause-rooted : goal.renew_short-requires-clause-rooted
renew_short-requires-clause-rooted g c =
    let was = c.requires.before in
    let new = live c.args.graph.now in
    rooted_there c.args.edge.now (state_in c.args.graph.now) c.args.self.now c.args.before.now c.args.apart was new c.requires.live
    (c.may_be_short.ensures was.old new was.parents c.few-after.ensures.least c.if-not-may_be_short.false)

pub renew_short-requires-clause-well_formed : goal.renew_short-requires-clause-well_formed
renew_short-requires-clause-well_formed g c =
    well_there c.args.edge.now (state_in c.args.graph.now) c.args.self.now c.args.before.now c.args.apart c.requires.before (live c.args.graph.now) c.requires.live

pub returns-then-not-may_be_short-clause-ticks : goal.returns-then-not-may_be_short-clause-ticks
returns-then-not-may_be_short-clause-ticks g c = λ was n size.
    let few = few_short c.few-after.result in
    let ticks = c.few-after.ensures.ticks in
    omega (arith, few, ticks)

pub returns-clause-stand : goal.returns-clause-stand
returns-clause-stand g c =
    let was = c.requires.before in
    let new = live c.args.graph.now in
    let are = c.requires.live in
    let may = c.may_be_short.ensures was.old new was.parents c.few-after.ensures.least c.if-not-may_be_short.false in
    stand_if c.renew_short.result
    (λ kept numbers. stands_there c.args.edge.now (state_in c.args.graph.now) c.args.self.now c.args.before.now c.args.apart was new are may c.renew_short.new.self c.renew_short.ensures.roots kept numbers)
    (c.renew_short.ensures.renewed (seen_by_one c.args.edge.now (state_in c.args.graph.now) c.args.self.now c.args.before.now c.args.apart was new are may)) c.renew_short.ensures.numbers

pub returns-in-Some-clause-stand : goal.returns-in-Some-clause-stand
returns-in-Some-clause-stand g c =
    let was = c.requires.before in
    let new = live c.args.graph.now in
    let are = c.requires.live in
    let may = c.may_be_short.ensures was.old new was.parents c.few-after.ensures.least c.if-not-may_be_short.false in
    let sees = c.in-Some.ensures.sees was.old new was.parents c.few-after.ensures.least in
    stand_if c.renew_at_conflict.result
    (λ kept numbers. stands_there c.args.edge.now (state_in c.args.graph.now) c.args.self.now c.args.before.now c.args.apart was new are may c.renew_at_conflict.new.self c.renew_at_conflict.ensures.roots kept numbers)
    (c.renew_at_conflict.ensures.renewed (seen_by_one c.args.edge.now (state_in c.args.graph.now) c.args.self.now c.args.before.now c.args.apart was new are may) sees) c.renew_at_conflict.ensures.numbers

pub returns-in-Some-clause-ticks : goal.returns-in-Some-clause-ticks
returns-in-Some-clause-ticks g c = λ was n size.
    let new = live c.args.graph.now in
    let are = c.requires.live in
    let may = c.may_be_short.ensures was.old new was.parents c.few-after.ensures.least c.if-not-may_be_short.false in
    let sees = c.in-Some.ensures.sees was.old new was.parents c.few-after.ensures.least in
    let seen = seen_by_one c.args.edge.now (state_in c.args.graph.now) c.args.self.now c.args.before.now c.args.apart was new are may in
    let near = size_near c.args.edge.now (state_in c.args.graph.now) c.args.self.now c.args.before.now c.args.apart was new are may n size in
    let walk = c.renew_at_conflict.ensures.ticks seen sees near.0 near.1 in
    let few = few_short c.few-after.result in
    let ticks = c.few-after.ensures.ticks in
    let count = c.demand_at_conflict.ensures.ticks in
    let weighs = children_seen c.args.edge.now new c.args.self.now seen near.0 near.1 in
    let is = near.2 in
    omega (arith, walk, few, ticks, count, weighs, is)

pub returns-clause-ticks : goal.returns-clause-ticks
returns-clause-ticks g c = λ was n size.
    let new = live c.args.graph.now in
    let are = c.requires.live in
    let may = c.may_be_short.ensures was.old new was.parents c.few-after.ensures.least c.if-not-may_be_short.false in
    let seen = seen_by_one c.args.edge.now (state_in c.args.graph.now) c.args.self.now c.args.before.now c.args.apart was new are may in
    let near = size_near c.args.edge.now (state_in c.args.graph.now) c.args.self.now c.args.before.now c.args.apart was new are may n size in
    let short = c.renew_short.ensures.ticks seen near.0 near.1 in
    let few = few_short c.few-after.result in
    let ticks = c.few-after.ensures.ticks in
    let count = c.demand_at_conflict.ensures.ticks in
    let weighs = children_seen c.args.edge.now new c.args.self.now seen near.0 near.1 in
    let is = near.2 in
    omega (arith, short, few, ticks, count, weighs, is)
