use Rattle.graph_joins.proofs.Joined.{kept_twice}
use Rattle.graph_joins.proofs.merging.merge.Goals as goal

pub returns-clause-numbers_stay : goal.returns-clause-numbers_stay
returns-clause-numbers_stay c = kept_twice c.args.into.now c.make_room_for.new.into c.raise_all.new.into c.make_room_for.ensures.numbers_stay c.raise_all.ensures.numbers_stay
