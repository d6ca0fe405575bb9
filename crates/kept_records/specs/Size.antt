-- The size of an edit, by the graphs before and after it.
use Rattle.std.specs.Prelude.{◌≡◌, ◌⊎◌, ℕ, true, List}
use Rattle.grove_edits.specs.declared.vertex.Vertex.{Vertex}
use Rattle.grove_edits.specs.declared.edge.Edge.{Edge}
use Rattle.grove_edits.specs.Graph.{Graph}
use Rattle.grove_edits.specs.Vertex.{stands_in}
use Rattle.graph_words.specs.Whole.{IsVertexOf}
use Rattle.grove_terms.specs.declared.node.Node.{Node}
use Rattle.grove_terms.specs.declared.grove.Grove.{Grove}
use Rattle.grove_terms.specs.Grove.{IsGrove}
use Rattle.kept_records.specs.Change.{AreTouched, trees_in, node_count, is_on_walks, Differs, StandOnce, CyclesStay, near_size}

-- the vertex has another record in the one graph than in the other, or has one in one of them alone
pub data HasOtherRecord (before after : Graph) (old new : List Edge) (v : Vertex) : Type 0 where
  differs : IsVertexOf before v → IsVertexOf after v → Differs old new v → HasOtherRecord before after old new v
  came : (IsVertexOf before v → ⊥) → IsVertexOf after v → HasOtherRecord before after old new v
  went : IsVertexOf before v → (IsVertexOf after v → ⊥) → HasOtherRecord before after old new v

abbrev pub IsNearIn : Edge → Graph → Graph → List Edge → List Edge → Vertex → Type 0
IsNearIn e before after old new v = (is_on_walks e old new v ≡ true) ⊎ HasOtherRecord before after old new v

-- the list has, each once, the vertices that have another record or stand on one of the walks
pub record AreNearIn (e : Edge) (before after : Graph) (old new : List Edge) (vertices : List Vertex) : Type 0 where
  pub once : StandOnce vertices
  pub each : (v : Vertex) → IsNearIn e before after old new v → stands_in v vertices ≡ true
  pub no_other : (v : Vertex) → stands_in v vertices ≡ true → IsNearIn e before after old new v

-- The size by the live edges and the trees of both graphs: the nodes of the touched trees where some vertex becomes the root of a cycle
-- or ceases to be one, and else what the vertices near the edit weigh.
pub data IsSizeBy (e : Edge) (before after : Graph) (old new : List Edge) (trees_before trees_after : List (List Node)) (n : ℕ) : Type 0 where
  of_trees : (CyclesStay old new → ⊥) → (touched : List (List Node)) → AreTouched trees_before trees_after touched → n ≡ node_count touched
      → IsSizeBy e before after old new trees_before trees_after n
  of_near : CyclesStay old new → (near : List Vertex) → AreNearIn e before after old new near → n ≡ near_size old new near
      → IsSizeBy e before after old new trees_before trees_after n

-- the size of an edit of the edge, which makes the second graph of the first
pub record IsSize (e : Edge) (before after : Graph) (n : ℕ) : Type 0 where
  pub grove_before : Grove
  pub grove_after : Grove
  pub is_before : IsGrove before grove_before
  pub is_after : IsGrove after grove_after
  pub size : IsSizeBy e before after is_before.live is_after.live (trees_in grove_before) (trees_in grove_after) n
