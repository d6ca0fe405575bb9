use Rattle.std.proofs.Common.{◌≡◌, ◌++◌, [], drop, sym, ap, ◌∙◌, append-nil, arith}
use Rattle.std.proofs.lemmas.Grind.{common_steps}
use Rattle.grove_terms.specs.Lent.{nodes_of}
use Rattle.whole_groves.proofs.MarkedTrees.{bare_are}
use Rattle.whole_groves.proofs.erasing.erase_tree.Goals as goal

pub returns : goal.returns
returns c =
    let none : drop c.loop-node.node-index c.nodes-node-items.result.now ≡ [] = grind (arith, common_steps) in
    sym (append-nil c.loop-node.tree) ∙ ap (λ ns. c.loop-node.tree ++ nodes_of ns) (sym none) ∙ c.loop-node.invariant ∙ ap nodes_of c.nodes-node-items.ensures ∙ bare_are c.args.marked.now
