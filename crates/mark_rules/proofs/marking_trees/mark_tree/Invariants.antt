use Rattle.std.proofs.Common.{◌≡◌, [], length, drop}
use Rattle.type_core.specs.TypeTable.{KeepsTypes}
use Rattle.ctx_table.specs.CtxTable.{KeepsContexts}
use Rattle.grove_terms.specs.Lent.{nodes_of}
use Rattle.judging.specs.Machine.{at, run}
use Rattle.mark_rules.specs.Walking.{state_at, IsWalkOf}
use Rattle.mark_rules.proofs.marking_trees.mark_tree.Given as goal

abbrev pub invariant-loop-node : goal.invariant-loop-node
invariant-loop-node l = record {
  walk : IsWalkOf l.types l.ctxs l.walk;
  count : length l.walk.added.items ≡ l.node-index;
  state : run (state_at l.types l.ctxs l.nodes l.walk) (nodes_of (drop l.node-index l.nodes)) ≡ run (at [] []) (nodes_of l.nodes);
  types : KeepsTypes l.fn.types l.types;
  contexts : KeepsContexts l.fn.ctxs l.ctxs;
}
