use Rattle.std.proofs.Common.{length, sym, ap, ◌∙◌}
use Rattle.marking.proofs.Beside.{length-marked}
use Rattle.marking.proofs.marked_tree.MarkedTree.len.Goals as goal

pub returns-clause-len : goal.returns-clause-len
returns-clause-len c = sym (length-marked c.self.inside.nodes.now c.self.inside.added.items c.self.invariant) ∙ ap length c.self.view_is
