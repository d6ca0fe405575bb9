use Rattle.std.proofs.Common.{refl}
use Rattle.std.proofs.lemmas.Result.{IfOk-weaker}
use Rattle.grove_edits.specs.Graph.{graph}
use Rattle.grove_answers.proofs.Checked.{checked_text}
use Rattle.grove_answers.proofs.check.check_text_in_parts.Goals as goal

pub returns : goal.returns
returns g c =
    IfOk-weaker c.with_roots.result _ _
    (λ text written. checked_text (graph c.args.table.edits) (record { text = c.new.result; roots = 0; typed = 0 }) c.in_ok-checked.checked text.items c.new.ensures.items refl refl c.in_ok-checked.ensures written)
    c.with_roots.ensures
