use Rattle.grove_edits.specs.Graph.{graph}
use Rattle.grove_answers.proofs.Shown.{shown_text}
use Rattle.grove_answers.proofs.show.print_text.Goals as goal

pub returns : goal.returns
returns c = shown_text (graph c.args.table.edits) _ c.report_graph.new.report c.new.ensures.items c.in_ok-report_graph.ensures
