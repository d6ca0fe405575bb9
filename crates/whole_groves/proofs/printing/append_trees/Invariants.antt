use Rattle.std.proofs.Common.{◌≡◌, ◌++◌, drop, map}
use Rattle.marking.specs.Reading.{meant_nodes}
use Rattle.whole_groves.specs.Marked.{AreMarkedListsOf}
use Rattle.grove_printer.specs.Print.{Extends, trees_text}
use Rattle.whole_groves.proofs.printing.append_trees.Given as goal

abbrev pub invariant-loop-tree : goal.invariant-loop-tree
invariant-loop-tree l = record {
  written : l.out.items ++ trees_text (map (meant_nodes l.fn.types) (drop l.tree-index l.trees)) ≡ l.initial.out.items ++ trees_text (map (meant_nodes l.fn.types) l.trees);
  front : Extends l.initial.out.items l.out.items;
  numbers : AreMarkedListsOf l.fn.types (drop l.tree-index l.trees);
  same_types : l.types ≡ l.fn.types;
}
