use Rattle.grove_edits.specs.Graph.{graph}
use Rattle.grove_answers.proofs.Shown.{shown_text}
use Rattle.grove_answers.proofs.show.print_text_in_parts.Goals as goal

pub returns : goal.returns
returns g c = shown_text (graph c.args.table.edits) (record { text = c.new.result }) c.in_ok-shown.shown c.new.ensures.items c.in_ok-shown.ensures
