-- How the graph of a replica, its opening edges and its marks are kept.
use Rattle.std.specs.Prelude.{◌≤◌, Bool, List, length}
use Rattle.grove_edits.specs.declared.edge.Edge.{Edge}
use Rattle.grove_edits.specs.Graph.{graph, IsSame}
use Rattle.graph_words.specs.Live.{IsInEdgeOrder}
use Rattle.graph_words.specs.States.{Entries, state_in}
use Rattle.mark_incremental.specs.Standing.{KeptMarks, StandFor}
use Rattle.user_actions.specs.Flags.{opening_edges}
use Rattle.user_actions.specs.Good.{AreOpening}
use Rattle.replica_core.specs.Content.{Content}
use Rattle.replica_core.specs.Stored.{edits_in}

-- what contracts see of the entries of a graph and opening edges
abbrev pub content_of : Entries → List Edge → Content
content_of entries opening = record { edits = edits_in entries; opening = opening }

-- the entries have the graph of their canonical list, and the opening edges stand in order and are still not Absent in it
pub record IsKept (entries : Entries) (opening : List Edge) : Type 0 where
  pub same : IsSame (state_in entries) (graph (edits_in entries))
  pub opening_in_order : IsInEdgeOrder opening
  pub opening_known : AreOpening (graph (edits_in entries)) opening

-- what contracts see where the opening edges are told by flags
abbrev pub flagged_content : Entries → List Bool → Content
flagged_content entries flags = content_of entries (opening_edges entries flags)

-- they are kept so, and an edge that gets a number later gets no flag
pub record AreFlagsKept (entries : Entries) (flags : List Bool) : Type 0 where
  pub kept : IsKept entries (opening_edges entries flags)
  pub within : length flags ≤ length entries

-- and the marks stand for the graph
pub record AreMarksKept (entries : Entries) (flags : List Bool) (marks : KeptMarks) : Type 0 where
  pub graph : AreFlagsKept entries flags
  pub stand : StandFor (state_in entries) marks
