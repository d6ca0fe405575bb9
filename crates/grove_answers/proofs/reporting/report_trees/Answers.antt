use Rattle.std.proofs.Common.{◌≡◌, ℕ, ◌<◌, ◌∷◌, ◌+◌, ◌++◌, length, get_or, drop, take, List, [], ap, sym, ◌∙◌, subst, arith}
use Rattle.std.specs.List.{AllByRecursion}
use Rattle.std.proofs.lemmas.Grind.{common_steps}
use Rattle.graph_table.specs.Table.{live, vertex_at}
use Rattle.grove_decompose.specs.Trees.{OnlyInner, vertices_of}
use Rattle.marking.specs.Reading.{meant_nodes}
use Rattle.grove_answers.specs.Program.{IsHead}
use Rattle.grove_answers.proofs.Heads.{vertices-append}
use Rattle.grove_answers.proofs.Reported.{reported_none, reported_one_more}
use Rattle.grove_answers.proofs.reporting.report_trees.Goals as goal

pub loop-head-init : goal.loop-head-init
loop-head-init g c = record {
  reported = reported_none g.R.Report.takes (live c.args.table.now) g.met.R.Report.takes_none c.args.report.now;
  heads = c.requires.heads;
  seen = c.requires.seen;
}

pub loop-head-preserved : goal.loop-head-preserved
loop-head-preserved g c =
    let table = c.args.table.now in
    let heads : List ℕ = c.args.heads.now in
    let index = c.loop-head.head-index in
    let head : ℕ = get_or heads index 0 in
    let within : index < length heads = c.loop-head-test.true in
    let before : List ℕ = take index heads in
    let more : List ℕ = take (index + 1) heads in
    let rest : List ℕ = drop (index + 1) heads in
    let first : more ≡ before ++ head ∷ [] = grind (arith, common_steps) in
    let left : drop index heads ≡ head ∷ rest = grind (arith, common_steps) in
    let of_left : AllByRecursion (IsHead table) (head ∷ rest) = subst (AllByRecursion (IsHead table)) left c.loop-head.invariant.heads in
    let all : vertices_of table more ≡ vertices_of table before ++ vertex_at table head ∷ [] = ap (vertices_of table) first ∙ vertices-append table before (head ∷ []) in
    let tree = c.in_ok-tree.tree in
    let marked = c.in_ok-marked.marked in
    record {
      reported = reported_one_more g.R.Report.takes (live table) g.met.R.Report.takes_more (vertices_of table more) (vertices_of table before) (vertex_at table head)
          tree (meant_nodes c.marking.new.self.types marked) c.args.report.now c.loop-head.report c.take.new.self all c.loop-head.invariant.reported
          c.in_ok-tree.ensures.tree c.in_ok-marked.ensures.marked (c.in_ok-take.ensures tree c.in_ok-marked.ensures.marked);
      heads = of_left.1;
      seen = subst (OnlyInner table) (sym c.in_ok-marked.ensures.seen) c.in_ok-tree.ensures.seen;
    }

pub tree-requires-clause-head : goal.tree-requires-clause-head
tree-requires-clause-head g c =
    let heads : List ℕ = c.args.heads.now in
    let index = c.loop-head.head-index in
    let head : ℕ = get_or heads index 0 in
    let rest : List ℕ = drop (index + 1) heads in
    let within : index < length heads = c.loop-head-test.true in
    let left : drop index heads ≡ head ∷ rest = grind (arith, common_steps) in
    let of_left : AllByRecursion (IsHead c.args.table.now) (head ∷ rest) = subst (AllByRecursion (IsHead c.args.table.now)) left c.loop-head.invariant.heads in
    of_left.0
