use Rattle.std.proofs.Common.{◌≡◌, ◌+◌, ◌++◌, drop}
use Rattle.grove_tools.specs.Relay.{sender_lines}
use Rattle.grove_tools.proofs.relay.sender_text.Given as goal

-- the lines so far, and then those of the rest
abbrev pub invariant-loop-index : goal.invariant-loop-index
invariant-loop-index l = l.text.items ++ sender_lines (l.index + 1) (drop l.index l.lists) ≡ sender_lines 1 l.lists
