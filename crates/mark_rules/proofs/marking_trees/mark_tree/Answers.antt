use Rattle.std.proofs.Common.{◌≡◌, ◌+◌, ◌∷◌, List, Some, length, drop, [], refl, sym, ap, subst, ◌∙◌, arith}
use Rattle.std.specs.Prelude.{slice_get}
use Rattle.std.proofs.lemmas.Option.{slice_get_read}
use Rattle.std.proofs.lemmas.Grind.{common_steps}
use Rattle.grove_terms.specs.declared.node.LentNode.{LentNode}
use Rattle.grove_terms.specs.Lent.{node_of, nodes_of}
use Rattle.judging.specs.Machine.{at, run}
use Rattle.judging.proofs.Kept.{types-then, contexts-then}
use Rattle.marking.specs.Grove.{IsMarkedTree}
use Rattle.marking.specs.Numbers.{AreMarkedNodesOf}
use Rattle.marking.specs.Reading.{meant_nodes}
use Rattle.marking.proofs.Beside.{are_marked}
use Rattle.mark_rules.specs.Walking.{state_at}
use Rattle.mark_rules.proofs.Marks.{one_more_node, all_taken}
use Rattle.mark_rules.proofs.marking_trees.mark_tree.Goals as goal

pub loop-node-preserved : goal.loop-node-preserved
loop-node-preserved c =
    let before = c.loop-node in
    let nodes : List LentNode = c.as_slice-nodes.result.now in
    let node : LentNode = c.node-item.result in
    let rest : List LentNode = drop (before.node-index + 1) nodes in
    let left : drop before.node-index nodes ≡ node ∷ rest = grind (arith, common_steps, c.node-item.is) in
    let next : slice_get nodes (length before.walk.added.items) ≡ Some node =
    ap (slice_get nodes) before.invariant.count ∙ slice_get_read nodes (length nodes) before.node-index node refl c.loop-node-test.true c.node-item.is in
    record {
      walk = c.in_ok-take.ensures.walk;
      count = c.in_ok-take.ensures.count ∙ ap (λ n. n + 1) before.invariant.count;
      state = one_more_node (state_at before.types before.ctxs nodes before.walk) (state_at c.take.new.types c.take.new.ctxs nodes c.take.new.walk) (run (at [] []) (nodes_of nodes)) (nodes_of (drop before.node-index nodes)) (nodes_of rest)
          (node_of node) (ap nodes_of left) (c.in_ok-take.ensures.state nodes next) before.invariant.state;
      types = types-then c.args.types.now before.types c.take.new.types before.invariant.types c.in_ok-take.ensures.types;
      contexts = contexts-then c.args.ctxs.now before.ctxs c.take.new.ctxs before.invariant.contexts c.in_ok-take.ensures.contexts;
    }

pub returns-clause-marked : goal.returns-clause-marked
returns-clause-marked c =
    let nodes : List LentNode = c.as_slice-nodes.result.now in
    let none : drop c.loop-node.node-index nodes ≡ [] = grind (arith, common_steps) in
    subst (λ ms. IsMarkedTree c.args.tree.now (meant_nodes c.loop-node.types ms)) (sym c.new.ensures)
    (all_taken c.loop-node.types c.loop-node.ctxs nodes c.loop-node.walk c.args.tree.now (nodes_of (drop c.loop-node.node-index nodes)) c.requires.sorted (ap nodes_of none)
    (c.loop-node.invariant.state ∙ ap (run (at [] [])) c.as_slice-nodes.ensures))

pub returns-clause-numbers : goal.returns-clause-numbers
returns-clause-numbers c =
    subst (AreMarkedNodesOf c.loop-node.types) (sym c.new.ensures) (are_marked c.loop-node.types c.as_slice-nodes.result.now c.loop-node.walk.added.items c.loop-node.invariant.walk.added)
