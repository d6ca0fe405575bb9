use Rattle.std.proofs.Common.{◌<◌, ◌≤◌, length, arith}
use Rattle.graph_joins.proofs.Joined.{edge_there, kept_twice, one_more_joined, all_joined, all_roomy, numbers_kept}
use Rattle.graph_joins.proofs.merging.raise_all.Goals as goal

pub raise_to-requires : goal.raise_to-requires
raise_to-requires c =
    let other = c.args.other.now in
    let within : c.loop-number.number < length other = omega (arith, c.edge_count-number-end.ensures.count, c.loop-number-test.true) in
    let there = edge_there other c.loop-number.number within in
    (c.loop-number.invariant.numbers there.0 c.loop-number.number there.1).0

pub loop-number-preserved : goal.loop-number-preserved
loop-number-preserved c =
    let other = c.args.other.now in
    let number = c.loop-number.number in
    let invariant = c.loop-number.invariant in
    let within : number < length other = omega (arith, c.edge_count-number-end.ensures.count, c.loop-number-test.true) in
    let there = edge_there other number within in
    let here = invariant.numbers there.0 number there.1 in
    record {
      joined = one_more_joined c.args.into.now other c.loop-number.into c.raise_to.new.into number there.0 c.state_at.result invariant.joined there.1 (c.state_at.ensures there.0 there.1) (c.raise_to.ensures.state there.0 here);
      numbers = numbers_kept other c.loop-number.into c.raise_to.new.into c.args.numbers.now c.raise_to.ensures.numbers_stay invariant.numbers;
      room_stays = λ e had. c.raise_to.ensures.room_stays e (invariant.room_stays e had);
      numbers_stay = kept_twice c.args.into.now c.loop-number.into c.raise_to.new.into invariant.numbers_stay c.raise_to.ensures.numbers_stay;
    }

pub returns-clause-joined : goal.returns-clause-joined
returns-clause-joined c =
    let all : length c.args.other.now ≤ c.loop-number.number = omega (arith, c.edge_count-number-end.ensures.count, c.loop-number-test.false) in
    all_joined c.args.into.now c.args.other.now c.loop-number.into c.loop-number.number all c.loop-number.invariant.joined

pub returns-clause-room : goal.returns-clause-room
returns-clause-room c = all_roomy c.args.other.now c.loop-number.into c.args.numbers.now c.loop-number.invariant.numbers
