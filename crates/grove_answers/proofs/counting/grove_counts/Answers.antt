use Rattle.std.proofs.Common.{refl}
use Rattle.grove_edits.specs.Graph.{graph}
use Rattle.grove_answers.proofs.Counted.{all_sections, whole_counts}
use Rattle.grove_answers.proofs.counting.grove_counts.Goals as goal

pub returns : goal.returns
returns c =
    let reported = c.in_ok-report_graph.ensures in
    let grove = reported.grove in
    whole_counts (graph c.args.table.edits) grove reported.marked (record { none = 0; multi = 0; cycle = 0; conflicts = 0; marks = 0 }) c.report_graph.new.report
    reported.is_grove reported.is_marked refl refl
    (all_sections grove reported.marked (record { none = 0; multi = 0; cycle = 0; conflicts = 0; marks = 0 }) reported.none.begun reported.after_none reported.multi.begun reported.after_multi reported.cycle.begun
    c.report_graph.new.report reported.none.begin reported.none.taken reported.multi.begin reported.multi.taken reported.cycle.begin reported.cycle.taken)
