use Rattle.std.proofs.Common.{length}
use Rattle.mark_store.proofs.vertex_set.+is_listed.Given as goal

abbrev pub decreases-is_listed : goal.decreases-is_listed
decreases-is_listed l = length l.vertices.now
