-- Graphs that are joined, by their entries.
use Rattle.std.specs.Prelude.{ℕ, List, [], ◌∷◌, slice_index}
use Rattle.grove_edits.specs.declared.edge.Edge.{Edge}
use Rattle.grove_edits.specs.declared.edit.Edit.{Edit}
use Rattle.grove_edits.specs.Graph.{graph, graph_join, IsSame}
use Rattle.graph_words.specs.States.{Entries, state_in}
use Rattle.live_graph.specs.NumberOf.{IsNumberOf}

-- merging the second graph into the first leads to the third
abbrev pub IsMerged : Entries → Entries → Entries → Type 0
IsMerged first second merged = IsSame (state_in merged) (graph_join (state_in first) (state_in second))

-- raising the edit leads from one graph to the other
abbrev pub IsRaised : Edit → Entries → Entries → Type 0
IsRaised edit before after = IsSame (state_in after) (graph_join (state_in before) (graph (edit ∷ [])))

-- raising the edits in order leads from one graph to the other
abbrev pub AreRaised : List Edit → Entries → Entries → Type 0
AreRaised [] before after = IsSame (state_in after) (state_in before)
AreRaised (edit ∷ edits) before after = (next : Entries) × IsRaised edit before next × AreRaised edits next after

-- at the number of each edge of the first graph stands its number in the second
abbrev pub AreNumbersOf : Entries → Entries → List ℕ → Type 0
AreNumbersOf entries others numbers = (e : Edge) (n : ℕ) → IsNumberOf entries e n → IsNumberOf others e (slice_index numbers n)
