use Rattle.std.proofs.Common.{◌≡◌, List, subst, length, arith}
use Rattle.std.specs.Prelude.{OnOk}
use Rattle.grove_edits.specs.declared.edit.Edit.{Edit}
use Rattle.grove_edits.specs.Graph.{graph}
use Rattle.grove_answers.specs.Reports.{IsReported}
use Rattle.kept_printer.specs.Printed.{begins, takes}
use Rattle.kept_printer.proofs.Heads.{written_whole, taken_off}
use Rattle.kept_printer.proofs.printing.append_print_text.Goals as goal

pub returns-clause-appended : goal.returns-clause-appended
returns-clause-appended c =
    let between = c.append_grove-written.new.out.items in
    written_whole (graph c.args.table.edits) c.args.out.now.items between c.whole_or_nothing.new.out.items c.append_grove-written.result c.whole_or_nothing.result c.whole_or_nothing.ensures.same c.whole_or_nothing.ensures.whole
    (subst (λ (edits : List Edit). OnOk c.append_grove-written.result (IsReported begins takes (graph edits) c.args.out.now.items between)) c.in_ok-table.ensures.edits c.append_grove-written.ensures.printed)

pub returns-clause-unchanged : goal.returns-clause-unchanged
returns-clause-unchanged c =
    let starts : c.len-start.result ≡ length c.args.out.now.items = omega (arith, c.len-start.ensures, c.args.out.now.ok.0) in
    taken_off c.args.out.now.items c.append_grove-written.new.out.items c.whole_or_nothing.new.out.items c.len-start.result c.append_grove-written.result c.whole_or_nothing.result starts
    c.whole_or_nothing.ensures.same c.whole_or_nothing.ensures.nothing c.append_grove-written.ensures.in_part
