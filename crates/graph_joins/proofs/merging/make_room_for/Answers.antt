use Rattle.std.proofs.Common.{◌≤◌, length, ◌∙◌, arith}
use Rattle.graph_joins.proofs.Joined.{kept_twice, one_more_number, all_numbers}
use Rattle.graph_joins.proofs.merging.make_room_for.Goals as goal

pub loop-number-preserved : goal.loop-number-preserved
loop-number-preserved c =
    let invariant = c.loop-number.invariant in
    record {
      numbers = one_more_number c.args.other.now c.loop-number.into c.make_room.new.self c.loop-number.numbers.items c.push.new.self.items c.loop-number.number c.in_ok-make_room.field-0 c.edge.result
          invariant.numbers c.edge.ensures c.in_ok-make_room.ensures.number c.make_room.ensures.numbers_stay c.in_ok-push.ensures.items;
      unchanged = λ e. c.make_room.ensures.unchanged e ∙ invariant.unchanged e;
      room_stays = λ e had. c.make_room.ensures.room_stays e (invariant.room_stays e had);
      numbers_stay = kept_twice c.args.into.now c.loop-number.into c.make_room.new.self invariant.numbers_stay c.make_room.ensures.numbers_stay;
    }

pub returns-in_err-make_room-clause-numbers_stay : goal.returns-in_err-make_room-clause-numbers_stay
returns-in_err-make_room-clause-numbers_stay c =
    kept_twice c.args.into.now c.loop-number.into c.make_room.new.self c.loop-number.invariant.numbers_stay c.make_room.ensures.numbers_stay

pub returns-in_err-push-clause-numbers_stay : goal.returns-in_err-push-clause-numbers_stay
returns-in_err-push-clause-numbers_stay c =
    kept_twice c.args.into.now c.loop-number.into c.make_room.new.self c.loop-number.invariant.numbers_stay c.make_room.ensures.numbers_stay

pub returns-clause-numbers : goal.returns-clause-numbers
returns-clause-numbers c =
    let all : length c.args.other.now ≤ c.loop-number.number = omega (arith, c.edge_count-number-end.ensures.count, c.loop-number-test.false) in
    all_numbers c.args.other.now c.loop-number.into c.loop-number.numbers.items c.loop-number.number all c.loop-number.invariant.numbers
