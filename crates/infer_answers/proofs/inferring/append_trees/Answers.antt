use Rattle.std.proofs.Common.{◌≡◌, ℕ, ◌<◌, ◌∷◌, ◌+◌, ◌++◌, length, get_or, drop, take, List, [], ap, sym, ◌∙◌, subst, arith}
use Rattle.std.specs.List.{AllByRecursion}
use Rattle.std.proofs.lemmas.Grind.{common_steps}
use Rattle.grove_edits.specs.declared.vertex.Vertex.{Vertex}
use Rattle.edit_table.specs.Lent.{lent_vertex}
use Rattle.graph_table.specs.Table.{live, vertex_at}
use Rattle.grove_terms.specs.Nodes.{tree_nodes}
use Rattle.grove_decompose.specs.Trees.{OnlyInner, vertices_of}
use Rattle.infer_answers.specs.Telling.{IsHead}
use Rattle.infer_answers.proofs.Told.{vertices-append, told_none, told_one_more}
use Rattle.infer_answers.proofs.inferring.append_trees.Goals as goal

pub loop-head-init : goal.loop-head-init
loop-head-init c = record {
  inferred = told_none (live c.args.table.now) c.args.out.now.items;
  heads = c.requires.heads;
  seen = c.requires.seen;
}

pub loop-head-preserved : goal.loop-head-preserved
loop-head-preserved c =
    let table = c.args.table.now in
    let heads : List ℕ = c.args.heads.now in
    let index = c.loop-head.head-index in
    let head : ℕ = get_or heads index 0 in
    let within : index < length heads = c.loop-head-test.true in
    let before : List ℕ = take index heads in
    let more : List ℕ = take (index + 1) heads in
    let rest : List ℕ = drop (index + 1) heads in
    let first : more ≡ before ++ head ∷ [] = grind (arith, common_steps) in
    let left : drop index heads ≡ head ∷ rest = grind (arith, common_steps) in
    let of_left : AllByRecursion (IsHead table) (head ∷ rest) = subst (AllByRecursion (IsHead table)) left c.loop-head.invariant.heads in
    let all : vertices_of table more ≡ vertices_of table before ++ vertex_at table head ∷ [] = ap (vertices_of table) first ∙ vertices-append table before (head ∷ []) in
    let tree = c.in_ok-tree.tree in
    let is_tree = c.in_ok-tree.ensures.tree in
    let vertex : lent_vertex c.lent-vertex.result ≡ vertex_at table head = c.lent-vertex.ensures ∙ c.vertex.ensures in
    let listed : tree ≡ tree_nodes (lent_vertex c.lent-vertex.result) is_tree.forest = is_tree.listed ∙ ap (λ (v : Vertex). tree_nodes v is_tree.forest) (sym vertex) in
    let told = c.in_ok-append_tree.ensures is_tree.forest (c.as_slice.ensures ∙ listed) in
    record {
      inferred = told_one_more (live table) (vertices_of table more) (vertices_of table before) (vertex_at table head) tree told.0 c.args.out.now.items c.loop-head.out.items c.append_tree.new.out.items
          all c.loop-head.invariant.inferred is_tree (record { head = lent_vertex c.lent-vertex.result; forest = is_tree.forest; is_tree = listed; is_text = told.1 }) told.2;
      heads = of_left.1;
      seen = c.in_ok-tree.ensures.seen;
    }

pub tree_by_number-requires-clause-number : goal.tree_by_number-requires-clause-number
tree_by_number-requires-clause-number c =
    let heads : List ℕ = c.args.heads.now in
    let index = c.loop-head.head-index in
    let head : ℕ = get_or heads index 0 in
    let rest : List ℕ = drop (index + 1) heads in
    let within : index < length heads = c.loop-head-test.true in
    let left : drop index heads ≡ head ∷ rest = grind (arith, common_steps) in
    let of_left : AllByRecursion (IsHead c.args.table.now) (head ∷ rest) = subst (AllByRecursion (IsHead c.args.table.now)) left c.loop-head.invariant.heads in
    of_left.0.number

pub tree_by_number-requires-clause-outer : goal.tree_by_number-requires-clause-outer
tree_by_number-requires-clause-outer c =
    let heads : List ℕ = c.args.heads.now in
    let index = c.loop-head.head-index in
    let head : ℕ = get_or heads index 0 in
    let rest : List ℕ = drop (index + 1) heads in
    let within : index < length heads = c.loop-head-test.true in
    let left : drop index heads ≡ head ∷ rest = grind (arith, common_steps) in
    let of_left : AllByRecursion (IsHead c.args.table.now) (head ∷ rest) = subst (AllByRecursion (IsHead c.args.table.now)) left c.loop-head.invariant.heads in
    of_left.0.outer

pub vertex-requires : goal.vertex-requires
vertex-requires c =
    let heads : List ℕ = c.args.heads.now in
    let index = c.loop-head.head-index in
    let head : ℕ = get_or heads index 0 in
    let rest : List ℕ = drop (index + 1) heads in
    let within : index < length heads = c.loop-head-test.true in
    let left : drop index heads ≡ head ∷ rest = grind (arith, common_steps) in
    let of_left : AllByRecursion (IsHead c.args.table.now) (head ∷ rest) = subst (AllByRecursion (IsHead c.args.table.now)) left c.loop-head.invariant.heads in
    of_left.0.number
