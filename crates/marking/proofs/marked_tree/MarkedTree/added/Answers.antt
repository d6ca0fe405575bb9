use Rattle.std.proofs.Common.{map, sym, ap, ◌∙◌}
use Rattle.marking.specs.Added.{added_to}
use Rattle.marking.proofs.Beside.{added-marked}
use Rattle.marking.proofs.marked_tree.MarkedTree.added.Goals as goal

pub returns : goal.returns
returns c =
    c.deref.ensures.value ∙ sym (added-marked c.self.inside.nodes.now c.self.inside.added.items c.self.invariant) ∙ ap (map added_to) c.self.view_is
