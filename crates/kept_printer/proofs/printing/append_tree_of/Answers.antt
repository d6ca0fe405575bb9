use Rattle.std.proofs.Common.{◌++◌, List, ap, subst, sym, ◌∙◌}
use Rattle.std.proofs.lemmas.Result.{on_ok_weaker}
use Rattle.grove_edits.specs.Graph.{graph}
use Rattle.graph_table.specs.Table.{live, vertex_at}
use Rattle.grove_sorts.proofs.Truths.{after_error}
use Rattle.type_core.specs.Typ.{Typ}
use Rattle.marking.specs.Reading.{meant_nodes}
use Rattle.marking.specs.Numbers.{AreMarkedNodesOf}
use Rattle.grove_printer.specs.Print.{tree_text}
use Rattle.kept_printer.proofs.Heads.{itself}
use Rattle.kept_printer.proofs.printing.append_tree_of.Goals as goal

pub marked_by_records-requires : goal.marked_by_records-requires
marked_by_records-requires c = record {
  graph = graph c.args.table.now.edits;
  live = live c.args.table.now;
  head = vertex_at c.args.table.now c.args.head;
  stand = c.requires.stand;
  are_live = c.requires.whole;
  vertex = c.requires.head.vertex;
  outer = c.requires.head.head.outer;
  tree = c.in_ok-tree.ensures.tree;
}

pub append_tree-requires : goal.append_tree-requires
append_tree-requires c = subst (λ (types : List Typ). AreMarkedNodesOf types c.in_ok-marked.marked) (sym c.requires.types) c.in_ok-marked.ensures.numbers

pub returns-clause-printed : goal.returns-clause-printed
returns-clause-printed c =
    on_ok_weaker c.append_tree.result
    (λ appended. record {
      tree = c.in_ok-tree.tree;
      marked = meant_nodes c.args.marks.now.types c.in_ok-marked.marked;
      is_tree = c.in_ok-tree.ensures.tree;
      is_marked = c.in_ok-marked.ensures.marked;
      written = appended ∙ ap (λ (types : List Typ). c.args.out.now.items ++ tree_text (meant_nodes types c.in_ok-marked.marked)) c.requires.types;
    })
    c.append_tree.ensures.appended

pub returns-in_err-tree-clause-in_part : goal.returns-in_err-tree-clause-in_part
returns-in_err-tree-clause-in_part c = after_error c.from_residual.result (itself c.args.out.now.items)

pub returns-in_err-marked-clause-in_part : goal.returns-in_err-marked-clause-in_part
returns-in_err-marked-clause-in_part c = after_error c.from_residual-in_err-marked.result (itself c.args.out.now.items)
