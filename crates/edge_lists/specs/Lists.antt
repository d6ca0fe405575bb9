-- Lists of numbers of edges, one for each vertex, and how many edges each has places for.
use Rattle.std.specs.Prelude.{◌≡◌, ℕ, ◌<◌, ◌==◌, Bool, true, not, List, [], length, map, filter, slice_index_or}
use Rattle.std.specs.List.{list_any}
use Rattle.grove_sorts.specs.declared.position.Position.{Position}
use Rattle.grove_sorts.specs.Position.{is_same_position}
use Rattle.grove_edits.specs.declared.edge.Edge.{Edge}
use Rattle.edge_numbers.specs.Numbered.{Numbered, edge_at, IsEdgeNumber}

-- the numbers of the edges at a vertex, and how many may stand there without further memory
pub record Listed : Type 0 where
  pub numbers : List ℕ
  pub places : ℕ

abbrev pub nothing_listed : Listed
nothing_listed = record { numbers = []; places = 0 }

-- what is listed at a vertex, by its number
abbrev pub listed_at : List Listed → ℕ → Listed
listed_at lists v = slice_index_or lists v nothing_listed

abbrev pub numbers_at : List Listed → ℕ → List ℕ
numbers_at lists v = (listed_at lists v).numbers

abbrev pub places_at : List Listed → ℕ → ℕ
places_at lists v = (listed_at lists v).places

-- the edges at a vertex
abbrev pub edges_at : Numbered → List Listed → ℕ → List Edge
edges_at edges lists v = map (edge_at edges) (numbers_at lists v)

abbrev pub HasVertex : List Listed → ℕ → Type 0
HasVertex lists v = v < length lists

abbrev pub HasFreePlace : List Listed → ℕ → Type 0
HasFreePlace lists v = length (numbers_at lists v) < places_at lists v

-- all vertices but one have what they had
abbrev pub KeepsOthers : ℕ → List Listed → List Listed → Type 0
KeepsOthers v before after = (w : ℕ) → (w ≡ v → ⊥) → listed_at after w ≡ listed_at before w

-- the number stands in the list
abbrev pub holds_number : ℕ → List ℕ → Bool
holds_number n numbers = list_any (λ m. m == n) numbers

-- each number of the list is that of an edge
abbrev pub AreEdgeNumbers : Numbered → List ℕ → Type 0
AreEdgeNumbers edges numbers = (n : ℕ) → holds_number n numbers ≡ true → IsEdgeNumber edges n

abbrev pub without_number : ℕ → List ℕ → List ℕ
without_number n numbers = filter (λ m. not (m == n)) numbers

-- of the edges, those from a position
abbrev pub with_position : Position → List Edge → List Edge
with_position p edges = filter (λ e. is_same_position e.position p) edges

-- of the numbers, those of edges from a position
abbrev pub numbers_with_position : Numbered → Position → List ℕ → List ℕ
numbers_with_position edges p numbers = filter (λ n. is_same_position (edge_at edges n).position p) numbers
