-- The vertex around the innermost is taken off, and accepts what is given.
use Rattle.std.proofs.Common.{arith}
use Rattle.mark_incremental.proofs.Stack.{handed_none, handed_one, off_of}
use Rattle.mark_incremental.proofs.Ticks.{one_moved, none_moved}
use Rattle.mark_incremental.proofs.renewal.hand_on.Goals as goal

pub returns-in_default-clause-handed : goal.returns-in_default-clause-handed
returns-in_default-clause-handed c = handed_none c.args.types.now c.args.given c.args.outer.now.items (omega (arith, c.in_default.ensures.cases.0, c.args.outer.now.ok.0))

pub returns-clause-handed : goal.returns-clause-handed
returns-clause-handed c =
    handed_one c.args.types.now c.args.given c.args.outer.now.items c.pop.new.self.items c.in-Some.around c.accept.new.frame c.in-Some.ensures.items c.accept.ensures.accepted

pub returns-clause-numbers : goal.returns-clause-numbers
returns-clause-numbers c = λ ctxs are.
    let of = off_of c.args.types.now ctxs c.args.outer.now.items c.pop.new.self.items c.in-Some.around c.in-Some.ensures.items are in
    (c.accept.ensures.numbers ctxs of.0, of.1)

pub returns-in_default-clause-moved : goal.returns-in_default-clause-moved
returns-in_default-clause-moved c = λ live. none_moved live c.args.outer.now.items (omega (arith, c.in_default.ensures.cases.0, c.args.outer.now.ok.0))

pub returns-clause-moved : goal.returns-clause-moved
returns-clause-moved c = λ live.
    one_moved live c.args.outer.now.items c.pop.new.self.items c.in-Some.around c.accept.new.frame c.in-Some.ensures.items c.accept.ensures.moved
