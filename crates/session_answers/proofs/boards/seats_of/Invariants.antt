use Rattle.std.proofs.Common.{◌≡◌, map}
use Rattle.author_desk.specs.Cuts.{seat_of}
use Rattle.session_answers.proofs.boards.seats_of.Given as goal

abbrev pub invariant-loop-own : goal.invariant-loop-own
invariant-loop-own l = l.seats.items ≡ map seat_of l.yielded
