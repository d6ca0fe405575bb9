use Rattle.std.proofs.Common.{List, ℕ, ◌++◌, take, sym, ap, ap₂, ◌∙◌}
use Rattle.edit_text.specs.Text.{text_of}
use Rattle.edit_merge.proofs.Groups.{text_of-append}
use Rattle.edit_runs.specs.Runs.{joined}
use Rattle.edit_runs.proofs.Runs.{next_run}
use Rattle.edit_runs.proofs.writing.lines_of.Goals as goal

pub loop-run-preserved : goal.loop-run-preserved
loop-run-preserved c =
    c.in_ok-write_edits.ensures.appended ∙ ap₂ (λ (a b : List ℕ). a ++ b) c.loop-run.invariant (ap text_of c.as_slice.ensures)
    ∙ sym (ap text_of (next_run c.args.runs.now c.loop-run.run-index c.run-item.result c.loop-run-test.true c.run-item.is) ∙ text_of-append (joined (take c.loop-run.run-index c.args.runs.now)) c.run-item.result)
