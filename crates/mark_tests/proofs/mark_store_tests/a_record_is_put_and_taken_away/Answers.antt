-- The record is put where room was made for the root.
use Rattle.std.proofs.Common.{arith}
use Rattle.grove_edits.specs.Vertex.{root}
use Rattle.mark_tests.proofs.mark_store_tests.a_record_is_put_and_taken_away.Goals as goal

pub set-requires : goal.set-requires
set-requires g c = c.in_ok-reserve_for.ensures.room 0 root (omega arith)
