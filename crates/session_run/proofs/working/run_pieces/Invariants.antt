use Rattle.std.proofs.Common.{List}
use Rattle.grove_edits.specs.declared.command.Command.{Command}
use Rattle.session_run.proofs.Made.{HasMade}
use Rattle.session_run.proofs.Taken.{TakenSoFar}
use Rattle.session_run.proofs.working.run_pieces.Given as goal

-- the first pieces were taken and entered
abbrev pub invariant-loop-index : goal.invariant-loop-index
invariant-loop-index g l = (commands : List Command) × TakenSoFar l.pieces l.index l.taker.stream commands × HasMade l.initial.pass l.pass commands
