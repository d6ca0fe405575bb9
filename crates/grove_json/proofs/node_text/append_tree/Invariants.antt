use Rattle.std.proofs.Common.{◌≡◌, ◌++◌, map}
use Rattle.std.specs.Prelude.{false}
use Rattle.std.specs.Iterator.Adapters.{zip_first, zip_second}
use Rattle.std.specs.Slice.Iter.{iter_rest}
use Rattle.serde_json.specs.View.{items_of}
use Rattle.serde_json.specs.Written.{items_text}
use Rattle.marking.specs.Added.{marked_nodes}
use Rattle.marking.specs.Reading.{meant_nodes}
use Rattle.marking.specs.Numbers.{AreMarkedNodesOf}
use Rattle.grove_json.specs.GroveValue.{node_value}
use Rattle.grove_json.proofs.node_text.append_tree.Given as goal

abbrev pub invariant-loop-node : goal.invariant-loop-node
invariant-loop-node l =
    let left = marked_nodes (iter_rest (zip_first l.node-iterator)) (iter_rest (zip_second l.node-iterator)) in
    record {
      written : l.out.items ++ items_text l.later (items_of (map node_value (meant_nodes l.fn.types left))) ≡ l.initial.out.items ++ items_text false (items_of (map node_value (meant_nodes l.fn.types l.tree)));
      numbers : AreMarkedNodesOf l.fn.types left;
      same_types : l.types ≡ l.fn.types;
    }
