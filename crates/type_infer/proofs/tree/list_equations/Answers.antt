use Rattle.std.proofs.Common.{◌≡◌, ℕ, ◌+◌, ◌*◌, ◌<◌, ◌++◌, List, length, drop, Some, refl, sym, ap, subst, ◌∙◌}
use Rattle.std.proofs.lemmas.Option.{slice_get-get_or}
use Rattle.grove_terms.specs.declared.node.LentNode.{LentNode}
use Rattle.grove_terms.specs.Lent.{node_of, nodes_of}
use Rattle.type_infer.specs.EqList.{Listed}
use Rattle.type_infer.specs.Walking.{name_at, heads, node_equations, list_equations}
use Rattle.type_infer.specs.Positions.{walk_at, AreWithin}
use Rattle.type_infer.proofs.Taking.{one_node}
use Rattle.type_infer.proofs.tree.list_equations.Goals as goal

pub loop-line-preserved : goal.loop-line-preserved
loop-line-preserved c =
    let nodes = c.args.nodes.now in
    let line = c.loop-line.line in
    let inv = c.loop-line.invariant in
    let rest = heads (drop (line + 1) (nodes_of nodes)) (line + 1) in
    let within : line < length nodes = c.loop-line-test.true in
    let entered = c.in_ok-enter.ensures in
    let taken = c.in_ok-take.ensures in
    record {
      within = subst (λ (v : ℕ). AreWithin v c.take.new.self) (ap (λ (l : Listed). l.variables) entered.list ∙ inv.within.list) taken.within;
      listed = one_node (name_at (nodes_of nodes)) nodes c.index-nodes-line.result line (walk_at c.loop-line.walk) (walk_at c.enter.new.self) (walk_at c.take.new.self)
          c.loop-line.walk.list.equations c.take.new.self.list.equations (list_equations (nodes_of nodes))
          (slice_get-get_or nodes line c.index-nodes-line.result within ∙ ap (λ (n : LentNode). Some n) (sym c.index-nodes-line.is))
          inv.listed entered.walk
          (taken.listed rest line (c.requires.places line within) refl
          ∙ ap (λ (l : Listed). l.equations ++ node_equations (node_of c.index-nodes-line.result).what rest line c.enter.new.self.scope) entered.list)
          (taken.places rest line (c.requires.places line within) refl);
    }
