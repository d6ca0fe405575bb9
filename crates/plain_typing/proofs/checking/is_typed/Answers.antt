use Rattle.std.proofs.Common.{◌≡◌, ◌+◌, ◌∷◌, false, drop, List, [], refl, sym, ap, subst, arith}
use Rattle.std.proofs.lemmas.Grind.{common_steps}
use Rattle.grove_terms.specs.declared.node.LentNode.{LentNode}
use Rattle.grove_terms.specs.Lent.{node_of, nodes_of}
use Rattle.judging.specs.Frames.{AreFramesOf}
use Rattle.judging.proofs.Kept.{types-itself, types-then, contexts-itself, contexts-then}
use Rattle.plain_typing.proofs.Checked.{come_first, come_further, come_to_end}
use Rattle.plain_typing.proofs.checking.is_typed.Goals as goal

pub loop-node-init : goal.loop-node-init
loop-node-init c = record {
  frames = subst (AreFramesOf c.args.types.now c.args.ctxs.now) (sym c.new.ensures.items) tt;
  come = come_first c.args.types.now c.args.ctxs.now (record { frames = c.new.result; has_mark = false }) (nodes_of c.as_slice-node-items.result.now) c.new.ensures.items refl;
  types = types-itself c.args.types.now;
  contexts = contexts-itself c.args.ctxs.now;
}

pub loop-node-preserved : goal.loop-node-preserved
loop-node-preserved c =
    let nodes : List LentNode = c.as_slice-node-items.result.now in
    let rest : List LentNode = drop (c.loop-node.node-index + 1) nodes in
    let left : drop c.loop-node.node-index nodes ≡ c.node-item.result ∷ rest = grind (arith, common_steps, c.node-item.is) in
    record {
      frames = c.in_ok-take.ensures.frames;
      come = come_further c.loop-node.types c.take.new.types c.loop-node.ctxs c.take.new.ctxs c.loop-node.walk c.take.new.walk (nodes_of nodes) (nodes_of (drop c.loop-node.node-index nodes)) (nodes_of rest)
          (node_of c.node-item.result) c.in_ok-take.ensures.state (ap nodes_of left) c.loop-node.invariant.come;
      types = types-then c.args.types.now c.loop-node.types c.take.new.types c.loop-node.invariant.types c.in_ok-take.ensures.types;
      contexts = contexts-then c.args.ctxs.now c.loop-node.ctxs c.take.new.ctxs c.loop-node.invariant.contexts c.in_ok-take.ensures.contexts;
    }

pub returns-clause-typed : goal.returns-clause-typed
returns-clause-typed c =
    let nodes : List LentNode = c.as_slice-node-items.result.now in
    let none_left : drop c.loop-node.node-index nodes ≡ [] = grind (arith, common_steps) in
    come_to_end c.loop-node.types c.loop-node.ctxs c.loop-node.walk c.args.tree.now (nodes_of nodes) (nodes_of (drop c.loop-node.node-index nodes)) c.requires.sorted c.as_slice-node-items.ensures
    (ap nodes_of none_left) c.loop-node.invariant.come
