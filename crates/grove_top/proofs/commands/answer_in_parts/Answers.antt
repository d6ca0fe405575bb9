use Rattle.std.proofs.Common.{subst, sym}
use Rattle.grove_top.specs.declared.command.Question.TheVariants.{Show, Check}
use Rattle.grove_top.specs.Due.{IsAnswered}
use Rattle.grove_top.proofs.Answered.{answer_told}
use Rattle.grove_top.proofs.commands.answer_in_parts.Goals as goal

pub returns-in_ok-show_in_parts-in-Show-clause-answered : goal.returns-in_ok-show_in_parts-in-Show-clause-answered
returns-in_ok-show_in_parts-in-Show-clause-answered g c =
    let text = c.args.text.now in
    let shown = c.in_ok-show_in_parts-in-Show.field-0.items in
    subst (λ question. IsAnswered question text shown) (sym c.in-Show.is)
    (answer_told Show text shown c.in_ok-table-in-Show.table.edits c.in_ok-table-in-Show.ensures.list c.in_ok-show_in_parts-in-Show.ensures)

pub returns-in_ok-check_in_parts-in-Check-clause-answered :
    goal.returns-in_ok-check_in_parts-in-Check-clause-answered
returns-in_ok-check_in_parts-in-Check-clause-answered g c =
    let text = c.args.text.now in
    let checked = c.in_ok-check_in_parts-in-Check.field-0.items in
    subst (λ question. IsAnswered question text checked) (sym c.in-Check.is)
    (answer_told Check text checked c.in_ok-table-in-Check.table.edits c.in_ok-table-in-Check.ensures.list c.in_ok-check_in_parts-in-Check.ensures)
