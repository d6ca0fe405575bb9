use Rattle.std.proofs.Common.{◌≡◌, ℕ, ◌<◌, ◌∷◌, ◌+◌, ◌++◌, length, get_or, drop, take, List, [], refl, ap, sym, ◌∙◌, subst, arith, append-nil}
use Rattle.std.specs.List.{AllByRecursion}
use Rattle.std.proofs.lemmas.Grind.{common_steps}
use Rattle.grove_sorts.proofs.Truths.{after_error}
use Rattle.graph_table.specs.Table.{live, vertex_at}
use Rattle.grove_decompose.specs.Trees.{vertices_of}
use Rattle.grove_printer.specs.Print.{tree_text}
use Rattle.grove_printer.proofs.Extending.{extends_further}
use Rattle.grove_answers.specs.Laws.{prints_none, prints_more}
use Rattle.grove_answers.proofs.Heads.{vertices-append}
use Rattle.grove_answers.proofs.Reported.{reported_none, reported_one_more}
use Rattle.kept_printer.specs.Printed.{IsTreeHead, takes}
use Rattle.kept_printer.proofs.Heads.{itself}
use Rattle.kept_printer.proofs.printing.append_trees.Goals as goal

pub loop-head-init : goal.loop-head-init
loop-head-init c = record {
  printed = reported_none takes (live c.args.table.now) prints_none c.args.out.now.items;
  heads = c.requires.heads;
  seen = c.requires.seen;
  types = refl;
  front = itself c.args.out.now.items;
}

pub loop-head-preserved : goal.loop-head-preserved
loop-head-preserved c =
    let table = c.args.table.now in
    let heads : List ℕ = c.args.heads.now in
    let index = c.loop-head.head-index in
    let head : ℕ = get_or heads index 0 in
    let within : index < length heads = c.loop-head-test.true in
    let before : List ℕ = take index heads in
    let more : List ℕ = take (index + 1) heads in
    let rest : List ℕ = drop (index + 1) heads in
    let first : more ≡ before ++ head ∷ [] = grind (arith, common_steps) in
    let left : drop index heads ≡ head ∷ rest = grind (arith, common_steps) in
    let of_left : AllByRecursion (IsTreeHead table) (head ∷ rest) = subst (AllByRecursion (IsTreeHead table)) left c.loop-head.invariant.heads in
    let all : vertices_of table more ≡ vertices_of table before ++ vertex_at table head ∷ [] = ap (vertices_of table) first ∙ vertices-append table before (head ∷ []) in
    let done = c.in_ok-append_tree_of.ensures.printed in
    let was = c.loop-head.out.items in
    let new = c.append_tree_of.new.out.items in
    record {
      printed = reported_one_more takes (live table) (λ r s t a b m n x y. prints_more r s t m n x y) (vertices_of table more) (vertices_of table before) (vertex_at table head)
          done.tree done.marked c.args.out.now.items was new all c.loop-head.invariant.printed done.is_tree done.is_marked
          (done.written ∙ ap (λ (bytes : List ℕ). was ++ bytes) (sym (append-nil (tree_text done.marked))));
      heads = of_left.1;
      seen = c.in_ok-append_tree_of.ensures.seen;
      types = c.append_tree_of.ensures.types ∙ c.loop-head.invariant.types;
      front = extends_further c.args.out.now.items was new c.loop-head.invariant.front (tree_text done.marked, done.written);
    }

pub append_tree_of-requires-clause-head : goal.append_tree_of-requires-clause-head
append_tree_of-requires-clause-head c =
    let heads : List ℕ = c.args.heads.now in
    let index = c.loop-head.head-index in
    let head : ℕ = get_or heads index 0 in
    let rest : List ℕ = drop (index + 1) heads in
    let within : index < length heads = c.loop-head-test.true in
    let left : drop index heads ≡ head ∷ rest = grind (arith, common_steps) in
    let of_left : AllByRecursion (IsTreeHead c.args.table.now) (head ∷ rest) = subst (AllByRecursion (IsTreeHead c.args.table.now)) left c.loop-head.invariant.heads in
    of_left.0

pub append_tree_of-requires-clause-types : goal.append_tree_of-requires-clause-types
append_tree_of-requires-clause-types c = c.loop-head.invariant.types ∙ c.requires.types

pub returns-in_err-append_tree_of-clause-in_part : goal.returns-in_err-append_tree_of-clause-in_part
returns-in_err-append_tree_of-clause-in_part c = after_error c.from_residual.result (extends_further _ _ _ c.loop-head.invariant.front c.in_err-append_tree_of.ensures.in_part)
