use Rattle.std.proofs.Common.{List, ℕ, ◌++◌, ap, ◌∙◌}
use Rattle.edit_runs.specs.Runs.{joined}
use Rattle.edit_runs.proofs.Written.{all_of_two, merged_is_canonical}
use Rattle.edit_runs.proofs.writing.append_canonical.Goals as goal

pub merged-requires : goal.merged-requires
merged-requires c = (joined c.args.runs.now, (c.deref.ensures.value ∙ c.in_ok-lines.ensures, all_of_two (joined c.args.runs.now)))

pub returns-clause-appended : goal.returns-clause-appended
returns-clause-appended c =
    let is = merged_is_canonical (joined c.args.runs.now) c.deref.result.now c.in_ok-text.text.items (c.deref.ensures.value ∙ c.in_ok-lines.ensures) c.in_ok-text.ensures in
    let written = c.in_ok-extend_from_slice.ensures.items ∙ ap (λ (text : List ℕ). c.args.out.now.items ++ text) c.deref-2.ensures.value in
    (c.in_ok-text.text.items, is, written)
