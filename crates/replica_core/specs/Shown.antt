-- What plans read of a replica.
use Rattle.std.specs.Prelude.{◌≡◌, List}
use Rattle.grove_edits.specs.declared.edge.Edge.{Edge}
use Rattle.grove_edits.specs.Graph.{Graph, graph, IsSame}
use Rattle.graph_words.specs.Whole.{AreLive}
use Rattle.replica_core.specs.Content.{Content, IsContent}

-- the states are those of a content's graph, whose live edges the lists have, and the opening edges are its own
pub record Shows (states : Graph) (children parents opening : List Edge) (content : Content) : Type 0 where
  pub content_holds : IsContent content
  pub same : IsSame states (graph content.edits)
  pub children_live : AreLive states children
  pub parents_live : AreLive states parents
  pub same_opening : opening ≡ content.opening
