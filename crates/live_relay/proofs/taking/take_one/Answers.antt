use Rattle.std.proofs.Common.{arith}
use Rattle.live_relay.proofs.Flowing.{taking_more}
use Rattle.live_relay.proofs.taking.take_one.Goals as goal

pub returns-clause-taking : goal.returns-clause-taking
returns-clause-taking g c =
    let before = c.args.taking.now in
    let found = c.in-Some.ensures in
    let handed = c.hand_on-taking in
    let first = c.args.first.now.value in
    taking_more g.M.Machine.after g.M.Machine.effect g.M.Machine.reply g.T.Item.command_of first c.args.relay.now before.receiver c.take_parcel.new.receiver before.taken before.all before.solo handed.new.solo before.done handed.result c.in-Some.parcel
    c.requires (let t = c.if-taking.false in omega arith) found.taken found.next found.known handed.ensures.done handed.ensures.stepped handed.ensures.unchanged (handed.ensures.replays first c.requires.replays)
