use Rattle.std.proofs.Common.{◌≡◌, ◌+◌, ◌∷◌, ◌++◌, List, Some, length, drop, [], refl, sym, ap, subst, ◌∙◌, arith, append-nil, length-append}
use Rattle.std.specs.Prelude.{slice_get}
use Rattle.std.proofs.lemmas.Option.{slice_get_read}
use Rattle.std.proofs.lemmas.Grind.{common_steps}
use Rattle.grove_terms.specs.declared.node.LentNode.{LentNode}
use Rattle.grove_terms.specs.Lent.{nodes_of}
use Rattle.marking.specs.declared.added.Added.{Added}
use Rattle.marking.specs.Added.{marked_nodes}
use Rattle.marking.specs.Grove.{IsMarkedTree}
use Rattle.marking.specs.Numbers.{AreAddedOf, AreMarkedNodesOf}
use Rattle.marking.specs.Reading.{meant_nodes}
use Rattle.marking.proofs.Beside.{are_marked}
use Rattle.mark_incremental.specs.Standing.{records_in}
use Rattle.kept_printer.specs.Above.{nodes_told}
use Rattle.kept_printer.specs.Parents.{parents_at}
use Rattle.kept_printer.proofs.Listed.{added_more, told_more, told_is_marked}
use Rattle.kept_printer.proofs.marking_trees.marked_by_records.Goals as goal

pub take-requires-clause-records : goal.take-requires-clause-records
take-requires-clause-records c = c.requires.stand.numbers

pub loop-node-preserved : goal.loop-node-preserved
loop-node-preserved c =
    let before = c.loop-node in
    let types = c.args.marks.now.types in
    let nodes : List LentNode = c.as_slice-nodes.result.now in
    let node : LentNode = c.node-item.result in
    let rest : List LentNode = drop (before.node-index + 1) nodes in
    let left : drop before.node-index nodes ≡ node ∷ rest = grind (arith, common_steps, c.node-item.is) in
    let next : slice_get nodes (length before.added.items) ≡ Some node =
    ap (slice_get nodes) before.invariant.count ∙ slice_get_read nodes (length nodes) before.node-index node refl c.loop-node-test.true c.node-item.is in
    let added : Added = c.in_ok-next.next in
    record {
      count = ap (λ (xs : List Added). length xs) c.in_ok-list.ensures ∙ length-append before.added.items (added ∷ []) ∙ ap (λ n. n + 1) before.invariant.count;
      parents = c.in_ok-next.ensures.parents;
      added = subst (AreAddedOf types) (sym c.in_ok-list.ensures) (added_more types before.added.items added before.invariant.added c.in_ok-next.ensures.numbers);
      told = subst (λ (xs : List Added). meant_nodes types (marked_nodes nodes xs) ++ nodes_told (records_in c.args.marks.now) (parents_at types c.take.new.parents.items) (nodes_of rest) ≡ nodes_told (records_in c.args.marks.now) [] (nodes_of nodes)) (sym c.in_ok-list.ensures)
          (told_more types (records_in c.args.marks.now) nodes before.added.items (parents_at types before.parents.items) (parents_at types c.take.new.parents.items) (nodes_of (drop before.node-index nodes)) (nodes_of rest) node added
          (nodes_told (records_in c.args.marks.now) [] (nodes_of nodes)) next (ap nodes_of left) c.in_ok-next.ensures.told c.in_ok-next.ensures.above before.invariant.told);
    }

pub returns-clause-marked : goal.returns-clause-marked
returns-clause-marked c =
    let types = c.args.marks.now.types in
    let nodes : List LentNode = c.as_slice-nodes.result.now in
    let none : drop c.loop-node.node-index nodes ≡ [] = grind (arith, common_steps) in
    let records = records_in c.args.marks.now in
    let all = meant_nodes types (marked_nodes nodes c.loop-node.added.items) in
    let told : all ≡ nodes_told records [] c.args.tree.now =
    sym (append-nil all) ∙ ap (λ (left : List LentNode). all ++ nodes_told records (parents_at types c.loop-node.parents.items) (nodes_of left)) (sym none) ∙ c.loop-node.invariant.told
    ∙ ap (nodes_told records []) c.as_slice-nodes.ensures in
    subst (λ ms. IsMarkedTree c.args.tree.now (meant_nodes types ms)) (sym c.new.ensures) (told_is_marked c.args.marks.now c.args.tree.now all c.requires told)

pub returns-clause-numbers : goal.returns-clause-numbers
returns-clause-numbers c =
    subst (AreMarkedNodesOf c.args.marks.now.types) (sym c.new.ensures) (are_marked c.args.marks.now.types c.as_slice-nodes.result.now c.loop-node.added.items c.loop-node.invariant.added)
