use Rattle.std.proofs.Common.{◌≤◌, ◌<◌, ◌++◌, ℕ, List, length, ap, ◌∙◌, rules}
use Rattle.edit_merge.proofs.Standing.{ends_within, whole_line_there}
use Rattle.edit_merge.proofs.writing.copy_line.Goals as goal

pub overflow_add-line : goal.overflow_add-line
overflow_add-line c =
    let within : (c.args.line.start ≤ c.args.line.end) × (c.args.line.end < length c.args.text.now) = ends_within c.requires.0 c.args.text.now c.args.line c.requires.1 in
    search rules

pub slice_bounds-extend_from_slice-end : goal.slice_bounds-extend_from_slice-end
slice_bounds-extend_from_slice-end c =
    let within : (c.args.line.start ≤ c.args.line.end) × (c.args.line.end < length c.args.text.now) = ends_within c.requires.0 c.args.text.now c.args.line c.requires.1 in
    search rules

pub returns : goal.returns
returns c = λ version edit stands.
    c.in_ok-extend_from_slice.ensures.items ∙ ap (λ (bytes : List ℕ). c.args.out.now.items ++ bytes) (whole_line_there version c.args.text.now c.args.line edit stands)
