-- The least two edges of a list, which a graph lends.
use Rattle.graph_words.specs.declared.few.Few.{Few}
use Rattle.graph_words.specs.declared.few.Few.TheVariants.{Zero, One, More}
use Rattle.live_graph.specs.declared.few_edges.FewEdges.{FewEdges}
use Rattle.live_graph.specs.declared.few_edges.FewEdges.TheVariants.{Zero as none_lent, One as one_lent, More as two_lent}

-- the edges themselves
abbrev pub few_of : FewEdges → Few
few_of none_lent = Zero
few_of (one_lent e) = One e
few_of (two_lent e f) = More e f
