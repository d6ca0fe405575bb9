use Rattle.std.proofs.Common.{map, sym, ap, ◌∙◌}
use Rattle.marking.specs.declared.marked_node.MarkedNode.{MarkedNode}
use Rattle.marking.proofs.Beside.{nodes-marked}
use Rattle.marking.proofs.marked_tree.MarkedTree.nodes.Goals as goal

pub returns : goal.returns
returns c = sym (nodes-marked c.self.inside.nodes.now c.self.inside.added.items c.self.invariant) ∙ ap (map (λ (m : MarkedNode). m.node)) c.self.view_is
