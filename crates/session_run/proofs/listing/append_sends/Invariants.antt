use Rattle.std.proofs.Common.{drop}
use Rattle.session_run.proofs.Listed.{SendsSoFar}
use Rattle.session_run.proofs.listing.append_sends.Given as goal

abbrev pub invariant-loop-send : goal.invariant-loop-send
invariant-loop-send l = SendsSoFar l.sources l.replica l.first_send l.sends l.initial.workers.items l.number (drop l.send-index l.sends) l.workers.items
