-- What is seen of a kept graph with its marks.
use Rattle.std.proofs.Common.{◌≡◌, Bool, List, [], Vec, Global, sym, ap, subst}
use Rattle.std.specs.Prelude.{Result, Ok, Err, IfOk}
use Rattle.text_parts.specs.declared.no_memory.NoMemory.{NoMemory}
use Rattle.grove_edits.specs.declared.vertex.Vertex.{Vertex}
use Rattle.grove_edits.specs.Graph.{Graph, graph, IsSame}
use Rattle.graph_words.specs.States.{Entries, state_in}
use Rattle.kept_records.proofs.OneSize.{same_graph}
use Rattle.mark_incremental.specs.Standing.{KeptMarks, StandFor}
use Rattle.mark_incremental.specs.Changed.{AreChangedMarks}
use Rattle.user_actions.specs.Flags.{opening_edges}
use Rattle.replica_core.specs.Content.{Content}
use Rattle.replica_core.specs.Kept.{flagged_content, AreMarksKept}
use Rattle.replica_core.proofs.Keeping.{graph_seen}
use Rattle.replica_core.proofs.OneRecord.{marks_along}

-- marks of no edits stand for a graph with no entries
pub stand_empty : (entries : Entries) (marks : KeptMarks) → entries ≡ [] → StandFor (graph []) marks → StandFor (state_in entries) marks
stand_empty entries marks empty = marks_along (graph []) (state_in entries) marks (λ e. sym (ap (λ (es : Entries). state_in es e) empty))

pub stand_seen : (entries : Entries) (flags : List Bool) (marks : KeptMarks) (content : Content) → AreMarksKept entries flags marks → flagged_content entries flags ≡ content → StandFor (graph content.edits) marks
stand_seen entries flags marks content of view =
    marks_along (state_in entries) (graph content.edits) marks (graph_seen entries (opening_edges entries flags) content of.graph.kept view) of.stand

-- the vertices that are judged otherwise are the same for graphs with the same states
pub changed_seen : (r : Result (Vec Vertex Global) NoMemory) (g h before after : Graph) → IsSame g before → IsSame h after → IfOk r (λ changed. AreChangedMarks g h changed.items)
    → IfOk r (λ changed. AreChangedMarks before after changed.items)
changed_seen (Ok changed) g h before after was is are =
    subst (λ (x : Graph). AreChangedMarks before x changed.items) (same_graph h after is) (subst (λ (x : Graph). AreChangedMarks x h changed.items) (same_graph g before was) are)
changed_seen (Err no_memory) g h before after was is are = are
