use Rattle.std.proofs.Common.{◌≡◌, ◌∷◌, ◌+◌, drop, List, [], arith}
use Rattle.std.proofs.lemmas.Grind.{common_steps}
use Rattle.grove_terms.specs.declared.node.Node.{Node}
use Rattle.judging.proofs.Kept.{types-then, contexts-then}
use Rattle.whole_groves.proofs.MarkedTrees.{one_more_tree, more_numbers, rest_sorted, marked_for}
use Rattle.whole_groves.proofs.marking_groves.mark_trees.Goals as goal

pub loop-tree-preserved : goal.loop-tree-preserved
loop-tree-preserved c =
    let nodes : List Node = c.tree-item.result in
    let rest : List (List Node) = drop (c.loop-tree.tree-index + 1) c.as_slice-tree-items.result.now in
    let left : drop c.loop-tree.tree-index c.as_slice-tree-items.result.now ≡ nodes ∷ rest = grind (arith, common_steps, c.tree-item.is) in
    record {
      marked = one_more_tree c.loop-tree.types c.mark_tree.new.types c.as_slice-tree-items.result.now (drop c.loop-tree.tree-index c.as_slice-tree-items.result.now) rest nodes c.loop-tree.marked c.push.new.self c.in_ok-mark_tree.field-0
          c.in_ok-mark_tree.ensures.types c.loop-tree.invariant.numbers c.loop-tree.invariant.marked left c.in_ok-mark_tree.ensures.marked c.in_ok-push.ensures.appended;
      numbers = more_numbers c.loop-tree.types c.mark_tree.new.types c.loop-tree.marked c.push.new.self c.in_ok-mark_tree.field-0 c.in_ok-mark_tree.ensures.types c.loop-tree.invariant.numbers c.in_ok-mark_tree.ensures.numbers
          c.in_ok-push.ensures.appended;
      sorted = rest_sorted (drop c.loop-tree.tree-index c.as_slice-tree-items.result.now) rest nodes left c.loop-tree.invariant.sorted;
      types = types-then c.args.types.now c.loop-tree.types c.mark_tree.new.types c.loop-tree.invariant.types c.in_ok-mark_tree.ensures.types;
      contexts = contexts-then c.args.ctxs.now c.loop-tree.ctxs c.mark_tree.new.ctxs c.loop-tree.invariant.contexts c.in_ok-mark_tree.ensures.contexts;
    }

pub returns-clause-marked : goal.returns-clause-marked
returns-clause-marked c =
    let none : drop c.loop-tree.tree-index c.as_slice-tree-items.result.now ≡ [] = grind (arith, common_steps) in
    marked_for c.loop-tree.types c.args.trees.now c.as_slice-tree-items.result.now (drop c.loop-tree.tree-index c.as_slice-tree-items.result.now) c.loop-tree.marked c.as_slice-tree-items.ensures c.loop-tree.invariant.marked none
