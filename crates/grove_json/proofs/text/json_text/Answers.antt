use Rattle.grove_edits.specs.Graph.{graph}
use Rattle.grove_json.proofs.Lists.{json_told, texts_reported}
use Rattle.grove_json.proofs.text.json_text.Goals as goal

pub returns : goal.returns
returns c =
    let reported = c.in_ok-report_graph.ensures in
    let texts = texts_reported c.new-texts.result reported.none.begun reported.after_none reported.multi.begun reported.after_multi reported.cycle.begun c.report_graph.new.report reported.marked
    c.new-texts.ensures.none c.new-texts.ensures.multi c.new-texts.ensures.cycle reported.none.begin reported.none.taken reported.multi.begin reported.multi.taken reported.cycle.begin reported.cycle.taken in
    json_told c.object_text.result (graph c.args.table.edits) reported.grove reported.marked reported.is_grove reported.is_marked (c.object_text.ensures reported.marked texts.none texts.multi texts.cycle)
