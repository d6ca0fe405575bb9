-- How a table keeps its types: as nodes that name their parts by number.
use Rattle.std.specs.Prelude.{◌≡◌, ℕ, ◌<◌, ◌≤◌, ◌⊎◌, List, [], ◌∷◌, ◌++◌, length, fold}
use Rattle.std.specs.List.{slice_index_or}
use Rattle.type_core.specs.declared.node.Node.{Node}
use Rattle.type_core.specs.declared.node.Node.TheVariants.{Unknown, Num, Boolean, Pair}
use Rattle.type_core.specs.Typ.{Typ}
use Rattle.type_core.specs.Typ as typ
use Rattle.type_core.specs.TypeTable.{type_at}

-- the type of a node whose parts are numbers of the table
abbrev pub type_of_node : List Typ → Node → Typ
type_of_node table Unknown = typ.Unknown
type_of_node table Num = typ.Num
type_of_node table Boolean = typ.Boolean
type_of_node table (Pair f a b) = typ.Pair f (type_at table a) (type_at table b)

-- the types of the nodes, each over those before it
abbrev pub types_of : List Node → List Typ
types_of nodes = fold (λ table n. table ++ type_of_node table n ∷ []) [] nodes

abbrev pub node_at : List Node → ℕ → Node
node_at nodes i = slice_index_or nodes i Unknown

-- the parts of a node stand before this place
abbrev pub PartsAreBelow : Node → ℕ → Type 0
PartsAreBelow (Pair f a b) i = (a.0 < i) × (b.0 < i)
PartsAreBelow _ i = Unit {0}

-- no node stands at two places
abbrev pub StandOnce : List Node → Type 0
StandOnce nodes = (i j : ℕ) → i < length nodes → j < length nodes → node_at nodes i ≡ node_at nodes j → i ≡ j

-- the base types come first, each node stands once, and a node's parts stand before it
pub record IsTable (nodes : List Node) : Type 0 where
  pub base_count : 3 ≤ length nodes
  pub unknown : node_at nodes 0 ≡ Unknown
  pub num : node_at nodes 1 ≡ Num
  pub boolean : node_at nodes 2 ≡ Boolean
  pub once : StandOnce nodes
  pub parts : (i : ℕ) → PartsAreBelow (node_at nodes i) i

-- new is old, or old with n as its last node
abbrev pub HasAddedNode : Node → List Node → List Node → Type 0
HasAddedNode n old new = (new ≡ old) ⊎ (new ≡ old ++ n ∷ [])
