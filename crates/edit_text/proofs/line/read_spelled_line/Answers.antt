use Rattle.std.proofs.Common.{sym, subst}
use Rattle.grove_edits.specs.SpelledEdge.{spelled_edge}
use Rattle.edit_text.specs.Line.{HasFault}
use Rattle.edit_text.proofs.Lines.{has_edge_fault}
use Rattle.edit_text.proofs.line.read_spelled_line.Goals as goal

pub returns-in-Err-clause-first_fault : goal.returns-in-Err-clause-first_fault
returns-in-Err-clause-first_fault c =
    let read = c.in-Some.ensures in
    subst (HasFault c.args.version c.args.line.now) (sym c.from.ensures)
    (has_edge_fault c.args.version c.args.line.now c.in-Some.kind (spelled_edge c.in-Some.edge) c.in-Err.fault c.in-Err.ensures.in_range
    read.of_version read.found c.in-Err.ensures.first_fault)
