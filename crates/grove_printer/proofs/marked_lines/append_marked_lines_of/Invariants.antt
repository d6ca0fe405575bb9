use Rattle.std.proofs.Common.{◌≡◌, ◌++◌}
use Rattle.std.specs.Iterator.Adapters.{zip_first, zip_second}
use Rattle.std.specs.Slice.Iter.{iter_rest}
use Rattle.marking.specs.Added.{marked_nodes}
use Rattle.marking.specs.Reading.{meant_nodes}
use Rattle.marking.specs.Numbers.{AreMarkedNodesOf}
use Rattle.grove_printer.specs.Print.{Extends, tree_marked_lines}
use Rattle.grove_printer.proofs.marked_lines.append_marked_lines_of.Given as goal

abbrev pub invariant-loop-node : goal.invariant-loop-node
invariant-loop-node l =
    let left = marked_nodes (iter_rest (zip_first l.node-iterator)) (iter_rest (zip_second l.node-iterator)) in
    record {
      written : l.out.items ++ tree_marked_lines (meant_nodes l.fn.types left) ≡ l.initial.out.items ++ tree_marked_lines (meant_nodes l.fn.types l.tree);
      front : Extends l.initial.out.items l.out.items;
      numbers : AreMarkedNodesOf l.fn.types left;
      same_types : l.types ≡ l.fn.types;
    }
