use Rattle.std.proofs.Common.{◌≡◌, ◌++◌, [], length, drop}
use Rattle.grove_terms.specs.Lent.{nodes_of}
use Rattle.marking.specs.Added.{marked_nodes}
use Rattle.marking.specs.Reading.{meant_nodes}
use Rattle.marking.specs.Numbers.{AreAddedOf}
use Rattle.mark_incremental.specs.Standing.{records_in}
use Rattle.kept_printer.specs.Above.{nodes_told}
use Rattle.kept_printer.specs.Parents.{parents_at, AreParentsOf}
use Rattle.kept_printer.proofs.marking_trees.marked_by_records.Given as goal

abbrev pub invariant-loop-node : goal.invariant-loop-node
invariant-loop-node l = record {
  count : length l.added.items ≡ l.node-index;
  parents : AreParentsOf l.marks.types l.parents.items;
  added : AreAddedOf l.marks.types l.added.items;
  told : meant_nodes l.marks.types (marked_nodes l.nodes l.added.items) ++ nodes_told (records_in l.marks) (parents_at l.marks.types l.parents.items) (nodes_of (drop l.node-index l.nodes))
      ≡ nodes_told (records_in l.marks) [] (nodes_of l.nodes);
}
