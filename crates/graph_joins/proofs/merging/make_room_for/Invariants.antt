use Rattle.grove_edits.specs.Graph.{IsSame}
use Rattle.graph_words.specs.States.{state_in, KeepsRoom}
use Rattle.live_graph.specs.NumberOf.{KeepsNumbersOf}
use Rattle.graph_joins.proofs.Joined.{AreNumbersBelow}
use Rattle.graph_joins.proofs.merging.make_room_for.Given as goal

abbrev pub invariant-loop-number : goal.invariant-loop-number
invariant-loop-number l = record {
  numbers : AreNumbersBelow l.other l.into l.numbers.items l.number;
  unchanged : IsSame (state_in l.into) (state_in l.fn.into);
  room_stays : KeepsRoom l.fn.into l.into;
  numbers_stay : KeepsNumbersOf l.fn.into l.into;
}
