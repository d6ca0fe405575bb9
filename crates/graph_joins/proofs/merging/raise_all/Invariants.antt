use Rattle.graph_words.specs.States.{KeepsRoom}
use Rattle.live_graph.specs.NumberOf.{KeepsNumbersOf}
use Rattle.graph_joins.specs.Merged.{AreNumbersOf}
use Rattle.graph_joins.proofs.Joined.{AreJoinedBelow}
use Rattle.graph_joins.proofs.merging.raise_all.Given as goal

abbrev pub invariant-loop-number : goal.invariant-loop-number
invariant-loop-number l = record {
  joined : AreJoinedBelow l.fn.into l.other l.into l.number;
  numbers : AreNumbersOf l.other l.into l.numbers;
  room_stays : KeepsRoom l.fn.into l.into;
  numbers_stay : KeepsNumbersOf l.fn.into l.into;
}
