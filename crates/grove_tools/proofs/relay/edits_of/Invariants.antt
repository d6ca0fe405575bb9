use Rattle.std.proofs.Common.{◌≡◌, ◌++◌, drop}
use Rattle.grove_tools.specs.Relay.{dealt_to}
use Rattle.grove_tools.proofs.relay.edits_of.Given as goal

-- those of the sender before this number, and then what is dealt of the rest
abbrev pub invariant-loop-number : goal.invariant-loop-number
invariant-loop-number l = l.list ++ dealt_to l.senders l.sender l.number (drop l.number l.edits) ≡ dealt_to l.senders l.sender 0 l.edits
