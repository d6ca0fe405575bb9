use Rattle.graph_table.proofs.Chains.{IsFollowed}
use Rattle.graph_table.proofs.following.push_indices.Given as goal

abbrev pub invariant-loop-next : goal.invariant-loop-next
invariant-loop-next l = IsFollowed l.links l.position l.fn.out.items l.out.items l.last l.next

abbrev pub decreases-loop-next : goal.decreases-loop-next
decreases-loop-next l = l.next
