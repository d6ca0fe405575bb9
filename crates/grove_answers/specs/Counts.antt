-- How many trees a graph has, and how many of their nodes are conflicts and have a mark.
-- The promise of the commands rests on these definitions.
use Rattle.std.specs.Prelude.{◌≡◌, ℕ, ◌+◌, Bool, true, false, List, ◌++◌, length, sum_by, count_by}
use Rattle.grove_edits.specs.Graph.{Graph}
use Rattle.grove_terms.specs.declared.grove.Grove.{Grove}
use Rattle.grove_terms.specs.declared.node.What.{What}
use Rattle.grove_terms.specs.declared.node.What.TheVariants.{Vertex, Hole, Conflict, MultiRef, CycleRef}
use Rattle.grove_terms.specs.Grove.{IsGrove}
use Rattle.marking.specs.Marking.{MarkedNode, has_mark}
use Rattle.marking.specs.Grove.{MarkedTrees, IsMarkedGrove}
use Rattle.grove_printer.specs.declared.section.Section.{Section}
use Rattle.grove_printer.specs.declared.section.Section.TheVariants.{NoParent, Multi, Cycle}
use Rattle.grove_answers.specs.declared.counts.Counts.{Counts}

abbrev pub is_conflict : What → Bool
is_conflict (Vertex v) = false
is_conflict (Hole sort) = false
is_conflict (Conflict sort count) = true
is_conflict (MultiRef v) = false
is_conflict (CycleRef v) = false

-- how many nodes of some trees are conflicts
abbrev pub conflict_count : List (List MarkedNode) → ℕ
conflict_count trees = sum_by (count_by (λ m. is_conflict m.node.what)) trees

-- how many of them have a mark
abbrev pub mark_count : List (List MarkedNode) → ℕ
mark_count trees = sum_by (count_by (λ m. has_mark m.mark)) trees

-- the marked trees of all classes
abbrev pub all_marked : MarkedTrees → List (List MarkedNode)
all_marked marked = marked.none ++ (marked.multi ++ marked.cycle)

-- the counts are those of the graph's grove and its marking
pub record AreCounts (g : Graph) (counts : Counts) : Type 0 where
  pub grove : Grove
  pub marked : MarkedTrees
  pub is_grove : IsGrove g grove
  pub is_marked : IsMarkedGrove grove marked
  pub none : counts.none ≡ length grove.none
  pub multi : counts.multi ≡ length grove.multi
  pub cycle : counts.cycle ≡ length grove.cycle
  pub conflicts : counts.conflicts ≡ conflict_count (all_marked marked)
  pub marks : counts.marks ≡ mark_count (all_marked marked)

-- the counts with so many trees of a class
abbrev pub with_trees : Section → ℕ → Counts → Counts
with_trees NoParent trees counts = record counts { none = trees }
with_trees Multi trees counts = record counts { multi = trees }
with_trees Cycle trees counts = record counts { cycle = trees }

-- the counts with the nodes of some more trees
abbrev pub with_nodes : List (List MarkedNode) → Counts → Counts
with_nodes trees counts = record counts { conflicts = counts.conflicts + conflict_count trees; marks = counts.marks + mark_count trees }
