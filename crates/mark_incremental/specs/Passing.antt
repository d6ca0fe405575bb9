-- Inner model, which no public contract cites: a walk up from a vertex, as far as it has gone.
use Rattle.std.specs.Prelude.{◌≡◌, Bool, List, [], ◌∷◌, ◌++◌}
use Rattle.grove_edits.specs.declared.vertex.Vertex.{Vertex}
use Rattle.grove_edits.specs.declared.edge.Edge.{Edge}
use Rattle.grove_edits.specs.Vertex.{stands_in}
use Rattle.graph_words.specs.Walk.{above, GoesOn, IsWalk, walk}
use Rattle.graph_words.specs.Cycle.{is_on_cycle}
use Rattle.mark_incremental.specs.declared.passing.Ends.{Ends}
use Rattle.kept_records.specs.Change.{StandOnce}
use Rattle.mark_store.specs.Places.{Places, holds}

-- These vertices, which the set holds, are the first of the walk, and this is the last of them. Others are left.
pub record IsUpTo (live : List Edge) (start at : Vertex) (passed : Places Bool) (vertices : List Vertex) : Type 0 where
  pub known : List Vertex
  pub same : (v : Vertex) → holds passed v ≡ stands_in v known
  pub front : List Vertex
  pub last : vertices ≡ front ++ at ∷ []
  pub goes_on : (later : List Vertex) → GoesOn live known (above live at) later → IsWalk live start (vertices ++ later)
  pub left : List Vertex
  pub whole : walk live start ≡ vertices ++ left
  pub ends : GoesOn live known (above live at) left

-- the set has these vertices, each once
pub record HoldsThese (passed : Places Bool) (vertices : List Vertex) : Type 0 where
  pub same : (v : Vertex) → holds passed v ≡ stands_in v vertices
  pub once : StandOnce vertices

-- these are the walks up from the ends of the edge
pub record AreWalks (live : List Edge) (e : Edge) (ends : Ends) : Type 0 where
  pub source : ends.source.vertices.items ≡ walk live e.source
  pub target : ends.target.vertices.items ≡ walk live e.target
  pub comes_back : ends.target.comes_back ≡ is_on_cycle live e.target
