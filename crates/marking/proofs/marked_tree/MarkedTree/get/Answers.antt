use Rattle.std.proofs.Common.{◌≡◌, ◌<◌, Some, length, refl, sym, ap, ◌∙◌, arith}
use Rattle.std.specs.Prelude.{slice_get}
use Rattle.std.proofs.lemmas.Option.{slice_get_read}
use Rattle.marking.specs.Added.{with_added}
use Rattle.marking.proofs.Beside.{get-marked, get-past}
use Rattle.marking.proofs.marked_tree.MarkedTree.get.Goals as goal

pub returns-then-index-self : goal.returns-then-index-self
returns-then-index-self c =
    let nodes = c.self.inside.nodes.now in
    let added = c.self.inside.added.items in
    let node = c.index-self-index.result in
    let beside = c.index.result.now in
    let as_many : c.args.index < length added = omega (arith, c.if-index-self.true, c.self.invariant) in
    let node_is : slice_get nodes c.args.index ≡ Some node = slice_get_read nodes (length nodes) c.args.index node refl c.if-index-self.true c.index-self-index.is in
    let beside_is : slice_get added c.args.index ≡ Some beside = slice_get_read added (length added) c.args.index beside refl as_many c.index.ensures in
    ap Some (c.new.ensures ∙ ap (λ n. with_added n beside) (sym c.index-self-index.is)) ∙ sym (get-marked nodes added c.args.index node beside node_is beside_is)
    ∙ ap (λ ms. slice_get ms c.args.index) c.self.view_is

pub returns-else-index-self : goal.returns-else-index-self
returns-else-index-self c =
    sym (get-past c.self.inside.nodes.now c.self.inside.added.items c.args.index c.if-index-self.false) ∙ ap (λ ms. slice_get ms c.args.index) c.self.view_is
