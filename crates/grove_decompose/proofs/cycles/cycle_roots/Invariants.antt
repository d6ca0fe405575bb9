use Rattle.std.proofs.Common.{drop}
use Rattle.graph_words.specs.declared.class.Class.TheVariants.{Cycle}
use Rattle.grove_decompose.specs.Trees.{vertices_of}
use Rattle.grove_decompose.proofs.ByNumber.{AreHeadsSoFar}
use Rattle.grove_decompose.proofs.cycles.cycle_roots.Given as goal

abbrev pub invariant-loop-start : goal.invariant-loop-start
invariant-loop-start l = AreHeadsSoFar Cycle l.table (vertices_of l.table l.starts) (vertices_of l.table (drop l.start-index l.starts)) l.found.items
