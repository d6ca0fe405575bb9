use Rattle.std.proofs.Common.{sym, ◌∙◌}
use Rattle.edit_ranges.proofs.RangeTexts.{follows}
use Rattle.edit_ranges.proofs.reading.may_follow.Goals as goal

pub returns-in-len1-up : goal.returns-in-len1-up
returns-in-len1-up c = c.is_apart.ensures ∙ sym (follows c.args.ranges.now c.args.range.now _ c.requires.in_order c.requires.is_range c.in-len1-up.len_at_least)
