-- Inner model, which no public contract cites: the lists of the live edges around each vertex, and what ties them to the entries.
use Rattle.std.specs.Prelude.{◌≡◌, ℕ, zero, suc, ◌+◌, ◌≤◌, ◌^◌, Bool, true, false, ◌&&◌, not, List, [], ◌∷◌, length, set}
use Rattle.std.specs.declared.cmp.Ordering.{Ordering}
use Rattle.edge_lattice.specs.declared.state.State.{State}
use Rattle.grove_edits.specs.declared.vertex.Vertex.{Vertex}
use Rattle.grove_edits.specs.declared.edge.Edge.{Edge}
use Rattle.grove_edits.specs.Vertex.{is_same_vertex}
use Rattle.grove_edits.specs.Edge.{edge_cmp}
use Rattle.graph_words.specs.Live.{holds_edge}
use Rattle.edge_numbers.specs.Numbered.{Numbered, edges_of, states_of, edge_at, KeepsNumbers}
use Rattle.graph_words.specs.States.{Entries, state_in, with_state, is_live}
use Rattle.edge_lists.specs.Lists.{Listed, numbers_at, places_at, edges_at, AreEdgeNumbers}
use Rattle.edge_lists.specs.Order.{IsInOrder, position_first}

abbrev pub once : Bool → ℕ
once true = 1
once false = 0

-- the number is the first of the vertex
abbrev pub is_at : List Vertex → Vertex → ℕ → Bool
is_at [] v n = false
is_at (w ∷ ws) v zero = is_same_vertex w v
is_at (w ∷ ws) v (suc n) = not (is_same_vertex w v) && is_at ws v n

-- ---- the edges that are not live

-- what the entries count for together
abbrev pub total : (Edge → State → ℕ) → Entries → ℕ
total weight [] = 0
total weight (entry ∷ entries) = weight entry.0 entry.1 + total weight entries

-- an edge that is not live counts at the number of its end
abbrev pub idle_weight : List Vertex → (Edge → Vertex) → ℕ → Edge → State → ℕ
idle_weight vertices end n e state = once (not (is_live state) && is_at vertices (end e) n)

-- how many edges at a number are not live
abbrev pub idle : Numbered → (Edge → Vertex) → ℕ → ℕ
idle edges end n = total (idle_weight edges.vertices end n) edges.entries

-- ---- what is listed

-- at the number of each vertex the live edges that have it as their end are listed, with places for those that are not live
pub record AreAround (end : Edge → Vertex) (order : Edge → Edge → Ordering) (edges : Numbered) (lists : List Listed) : Type 0 where
  pub known : (n : ℕ) → AreEdgeNumbers edges (numbers_at lists n)
  pub in_order : (n : ℕ) → IsInOrder order (edges_at edges lists n)
  pub held : (n : ℕ) (e : Edge) → holds_edge e (edges_at edges lists n) ≡ (is_at edges.vertices (end e) n && is_live (state_in edges.entries e))
  pub places : (n : ℕ) → length (numbers_at lists n) + idle edges end n ≤ places_at lists n

-- there is a place for one edge more
abbrev pub HasPlace : (Edge → Vertex) → Numbered → List Listed → Edge → Type 0
HasPlace end edges lists e = (n : ℕ) → length (numbers_at lists n) + idle edges end n + once (is_at edges.vertices (end e) n) ≤ places_at lists n

-- the same stands in the lists, and no place is gone
abbrev pub KeepsLists : List Listed → List Listed → Type 0
KeepsLists before after = (n : ℕ) → (numbers_at after n ≡ numbers_at before n) × (places_at before n ≤ places_at after n)

abbrev pub source_of : Edge → Vertex
source_of e = e.source

abbrev pub target_of : Edge → Vertex
target_of e = e.target

-- the lists of a live graph are those around its vertices
pub record IsListed (edges : Numbered) (children parents : List Listed) : Type 0 where
  pub fits : length edges.entries ≤ 2 ^ 32
  pub sources : AreAround source_of position_first edges children
  pub targets : AreAround target_of edge_cmp edges parents

-- one edge has got another state, and nothing else changed
pub record IsStateSet (edges : Numbered) (n : ℕ) (state : State) (after : Numbered) : Type 0 where
  pub vertices : after.vertices ≡ edges.vertices
  pub kept_edges : edges_of after.entries ≡ edges_of edges.entries
  pub states : states_of after.entries ≡ set (states_of edges.entries) n state
  pub graph : (e : Edge) → state_in after.entries e ≡ with_state (edge_at edges n) state (state_in edges.entries) e
  pub numbers : KeepsNumbers edges after
