use Rattle.std.proofs.Common.{◌≡◌, length}
use Rattle.relaying_program.proofs.sending.lists_of.Given as goal

-- a list for each sender so far
abbrev pub invariant-loop-before : goal.invariant-loop-before
invariant-loop-before l = length l.lists.items ≡ l.before
