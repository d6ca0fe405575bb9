-- The lines are those of edits.
use Rattle.grove_sorts.specs.declared.version.Version.TheVariants.{Two}
use Rattle.edit_text.proofs.TextsOfEdits.{not_malformed, no_rest}
use Rattle.edit_runs.proofs.writing.merged.Goals as goal

pub unreachable-requires : goal.unreachable-requires
unreachable-requires c =
    let fault = rw c.in-Err-Malformed.field-0-is at c.in-Err-Malformed.ensures.fault in
    not_malformed Two c.args.lines.now c.requires.0 _ _ c.requires.1 fault

pub unreachable-requires-in-Err-Rest : goal.unreachable-requires-in-Err-Rest
unreachable-requires-in-Err-Rest c =
    let fault = rw c.in-Err-Rest.field-0-is at c.in-Err-Rest.ensures.fault in
    no_rest Two c.args.lines.now c.requires.0 _ c.requires.1 fault
