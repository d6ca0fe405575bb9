use Rattle.std.proofs.Common.{drop}
use Rattle.session_run.proofs.Listed.{AuthorsSoFar}
use Rattle.session_run.proofs.listing.append_authors.Given as goal

abbrev pub invariant-loop-lines : goal.invariant-loop-lines
invariant-loop-lines l = AuthorsSoFar l.replica l.all l.initial.workers.items (drop l.lines-index l.all) l.workers.items
