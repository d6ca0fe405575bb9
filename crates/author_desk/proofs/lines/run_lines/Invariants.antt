use Rattle.std.proofs.Common.{◌≡◌, ◌+◌, length}
use Rattle.author_desk.proofs.UnderWay.{IsUnderWay}
use Rattle.author_desk.proofs.lines.run_lines.Given as goal

-- the turns before the lines that are left were entered, and the next call is that of the first of these
abbrev pub invariant-loop-left : goal.invariant-loop-left
invariant-loop-left g l = IsUnderWay l.fn.pass l.pass l.fn.cuts l.cuts l.fn.lines l.left × (l.call + length l.left ≡ l.fn.first_call + length l.fn.lines)

abbrev pub decreases-loop-left : goal.decreases-loop-left
decreases-loop-left g l = length l.left
