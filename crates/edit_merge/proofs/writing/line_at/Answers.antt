use Rattle.std.proofs.Common.{◌≤◌, ◌<◌, length, rules}
use Rattle.edit_merge.proofs.Standing.{ends_within, line_there}
use Rattle.edit_merge.proofs.writing.line_at.Goals as goal

pub slice_bounds-result-end : goal.slice_bounds-result-end
slice_bounds-result-end c =
    let within : (c.args.line.start ≤ c.args.line.end) × (c.args.line.end < length c.args.text.now) = ends_within c.requires.0 c.args.text.now c.args.line c.requires.1 in
    search rules

pub returns : goal.returns
returns c = λ version edit stands. line_there version c.args.text.now c.args.line edit stands
