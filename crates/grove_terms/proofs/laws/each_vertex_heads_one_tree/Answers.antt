use Rattle.grove_terms.proofs.Heads.{count_heads}
use Rattle.grove_terms.proofs.laws.each_vertex_heads_one_tree.Goals as goal

pub returns : goal.returns
returns c = count_heads
