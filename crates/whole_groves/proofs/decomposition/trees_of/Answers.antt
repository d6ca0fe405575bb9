use Rattle.std.proofs.Common.{◌≡◌, ℕ, ◌<◌, ◌∷◌, ◌+◌, drop, get_or, length, List, [], ap, subst, arith}
use Rattle.std.specs.List.{AllByRecursion}
use Rattle.std.proofs.lemmas.Grind.{common_steps}
use Rattle.graph_words.specs.declared.class.Class.TheVariants.{Inner}
use Rattle.graph_words.specs.Class.{class}
use Rattle.grove_edits.specs.declared.vertex.Vertex.{Vertex}
use Rattle.graph_table.specs.Table.{live, vertex_at, IsNumber}
use Rattle.grove_decompose.specs.Trees.{vertices_of}
use Rattle.whole_groves.proofs.SoFar.{one_more_tree, all_trees}
use Rattle.whole_groves.proofs.decomposition.trees_of.Goals as goal

pub tree_by_number-requires : goal.tree_by_number-requires
tree_by_number-requires c =
    let table = c.args.table.now in
    let heads : List ℕ = c.args.heads.now in
    let index = c.loop-head.head-index in
    let within : index < length heads = c.loop-head-test.true in
    let head : ℕ = get_or heads index 0 in
    let left : drop index heads ≡ head ∷ drop (index + 1) heads = grind (arith, common_steps) in
    let numbers : AllByRecursion (IsNumber table) (head ∷ drop (index + 1) heads) = subst (AllByRecursion (IsNumber table)) left c.loop-head.invariant.numbers in
    let outer : AllByRecursion (λ v. class (live table) v ≡ Inner → ⊥) (vertices_of table (head ∷ drop (index + 1) heads)) =
    subst (λ (ns : List ℕ). AllByRecursion (λ v. class (live table) v ≡ Inner → ⊥) (vertices_of table ns)) left c.loop-head.invariant.trees.outer in
    record { number = numbers.0; outer = outer.0; seen = c.loop-head.invariant.seen }

pub loop-head-preserved : goal.loop-head-preserved
loop-head-preserved c =
    let table = c.args.table.now in
    let heads : List ℕ = c.args.heads.now in
    let index = c.loop-head.head-index in
    let within : index < length heads = c.loop-head-test.true in
    let head : ℕ = get_or heads index 0 in
    let rest : List ℕ = drop (index + 1) heads in
    let left : drop index heads ≡ head ∷ rest = grind (arith, common_steps) in
    let numbers : AllByRecursion (IsNumber table) (head ∷ rest) = subst (AllByRecursion (IsNumber table)) left c.loop-head.invariant.numbers in
    record {
      trees = one_more_tree (live table) (vertices_of table heads) (vertices_of table (drop index heads)) (vertices_of table rest) (vertex_at table head) c.loop-head.trees c.push.new.self c.in_ok-tree_by_number.field-0
          c.loop-head.invariant.trees (ap (vertices_of table) left) c.in_ok-tree_by_number.ensures.tree c.in_ok-push.ensures.appended;
      numbers = numbers.1;
      seen = c.tree_by_number.ensures.seen;
    }

pub returns-clause-trees : goal.returns-clause-trees
returns-clause-trees c =
    let table = c.args.table.now in
    let none : drop c.loop-head.head-index c.args.heads.now ≡ [] = grind (arith, common_steps) in
    all_trees (live table) (vertices_of table c.args.heads.now) (vertices_of table (drop c.loop-head.head-index c.args.heads.now)) c.loop-head.trees c.loop-head.invariant.trees (ap (vertices_of table) none)
