use Rattle.std.proofs.Common.{List, subst, sym}
use Rattle.grove_edits.specs.declared.edit.Edit.{Edit}
use Rattle.grove_edits.specs.Graph.{graph}
use Rattle.graph_words.specs.declared.class.Class.TheVariants.{NoParent, Multi}
use Rattle.graph_words.specs.Whole.{AreLive}
use Rattle.graph_table.specs.Table.{live}
use Rattle.grove_terms.proofs.OneGrove.{vertices_of, vertices_are}
use Rattle.grove_answers.proofs.Heads.{heads_of_class}
use Rattle.grove_answers.proofs.program.Program.of.Goals as goal

pub returns-clause-program : goal.returns-clause-program
returns-clause-program c =
    let table = c.in_ok-table.table in
    let heads = c.in_ok-heads.heads in
    let found = c.in_ok-heads.ensures in
    let vertices = vertices_of table.edits in
    record {
      are_live = subst (λ (edits : List Edit). AreLive (graph edits) (live table)) (sym c.in_ok-table.ensures.edits) c.in_ok-table.ensures.live;
      none = found.none;
      multi = found.multi;
      none_heads = heads_of_class NoParent table vertices heads.none.items (λ e. cc) (found.none vertices (vertices_are table.edits)) found.none_numbers;
      multi_heads = heads_of_class Multi table vertices heads.multi.items (λ e. cc) (found.multi vertices (vertices_are table.edits)) found.multi_numbers;
    }
