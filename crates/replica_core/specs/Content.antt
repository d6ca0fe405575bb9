-- What contracts see of a replica, and what its calls make of it.
use Rattle.std.specs.Prelude.{List, [], map}
use Rattle.grove_edits.specs.declared.edge.Edge.{Edge}
use Rattle.grove_edits.specs.declared.edit.Edit.{Edit}
use Rattle.grove_edits.specs.Edit.{edit_edge}
use Rattle.grove_edits.specs.Graph.{Ascends, graph}
use Rattle.graph_words.specs.Live.{IsInEdgeOrder}
use Rattle.user_actions.specs.Good.{AreOpening}
use Rattle.replica_core.specs.Canonical.{with_edits}

pub record Content : Type 0 where
  -- the canonical list of its graph
  pub edits : List Edit
  -- the edges that were not Absent as the block opened, in edge order
  pub opening : List Edge

-- before any edit, in a block that opened so
abbrev pub no_edits : Content
no_edits = record { edits = []; opening = [] }

-- with the edits taken, one after the other
abbrev pub with_taken : List Edit → Content → Content
with_taken edits content = record content { edits = with_edits edits content.edits }

-- in a block that opens now
abbrev pub with_block : Content → Content
with_block content = record content { opening = map edit_edge content.edits }

-- what holds of each replica: the edits are a canonical list, and the opening edges stand in order and are still not Absent
pub record IsContent (content : Content) : Type 0 where
  pub in_order : Ascends content.edits
  pub opening_in_order : IsInEdgeOrder content.opening
  pub opening_known : AreOpening (graph content.edits) content.opening
