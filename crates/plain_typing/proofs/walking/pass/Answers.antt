use Rattle.std.proofs.Common.{◌≡◌, ◌-◌, refl, arith}
use Rattle.judging.specs.declared.frame.Frame.TheVariants.{Open, Several}
use Rattle.judging.proofs.Frames.{given_is, several_is, framed}
use Rattle.plain_typing.proofs.Steps.{stands_filled, stands_several}
use Rattle.plain_typing.proofs.walking.pass.Goals as goal

pub go_on-requires-clause-vertex : goal.go_on-requires-clause-vertex
go_on-requires-clause-vertex c =
    let is : c.args.frame.now ≡ Open c.in-Open.vertex = cc in
    given_is c.args.types.now c.args.ctxs.now c.args.frame.now c.in-Open.vertex c.fill.new.vertex c.args.given is c.fill.ensures c.requires.frame c.requires.given

pub returns-then-left-gt1-clause-state : goal.returns-then-left-gt1-clause-state
returns-then-left-gt1-clause-state c =
    let is : c.args.frame.now ≡ Several c.in-Several.demand c.in-Several.left = cc in
    stands_several c.args.types.now c.args.ctxs.now c.args.frame.now c.in-Several.demand c.in-Several.left c.args.given c.args.walk.now _ is (omega arith) c.in_ok-push-in-Several.ensures.items refl

pub returns-then-left-gt1-clause-frames : goal.returns-then-left-gt1-clause-frames
returns-then-left-gt1-clause-frames c =
    let is : c.args.frame.now ≡ Several c.in-Several.demand c.in-Several.left = cc in
    framed c.args.types.now c.args.ctxs.now c.args.walk.now.frames.items c.push.new.self.items (Several c.in-Several.demand (c.in-Several.left - 1)) c.requires.frames
    (several_is c.args.types.now c.args.ctxs.now c.args.frame.now c.in-Several.demand c.in-Several.left (c.in-Several.left - 1) is c.requires.frame) c.in_ok-push-in-Several.ensures.items

pub returns-in-Open-clause-state : goal.returns-in-Open-clause-state
returns-in-Open-clause-state c =
    let is : c.args.frame.now ≡ Open c.in-Open.vertex = cc in
    stands_filled c.args.types.now c.go_on.new.types c.args.ctxs.now c.args.frame.now c.in-Open.vertex c.fill.new.vertex c.args.given c.args.walk.now c.go_on.new.walk c.go_on.result is c.fill.ensures c.requires.frame
    c.go_on.ensures.state
