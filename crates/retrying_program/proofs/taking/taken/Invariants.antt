use Rattle.std.proofs.Common.{◌≡◌, drop}
use Rattle.replica_core.specs.Content.{no_edits, with_taken}
use Rattle.retrying_program.proofs.taking.taken.Given as goal

-- once the edits that are left are taken, all are
abbrev pub invariant-loop-edit : goal.invariant-loop-edit
invariant-loop-edit g l = with_taken (drop l.edit-index l.edits) l.replica ≡ with_taken l.edits no_edits
