-- The orders in which lists of edges stand, and the place of an edge in such a list.
use Rattle.std.specs.Prelude.{◌≡◌, ℕ, List, [], ◌∷◌, if◌then◌else◌}
use Rattle.std.specs.List.{AllByRecursion}
use Rattle.std.specs.declared.cmp.Ordering.{Ordering}
use Rattle.std.specs.declared.cmp.Ordering.TheVariants.{Less}
use Rattle.std.specs.Ordering.{ordering_then, is_lt}
use Rattle.grove_sorts.specs.Position.{position_cmp}
use Rattle.grove_edits.specs.declared.edge.Edge.{Edge}
use Rattle.grove_edits.specs.Edge.{edge_cmp}
use Rattle.graph_words.specs.Ordered.{put_before}
use Rattle.edge_numbers.specs.Numbered.{Numbered, edge_at}

-- edges by position, and those of one position in edge order
abbrev pub position_first : Edge → Edge → Ordering
position_first a b = ordering_then (position_cmp a.position b.position) (edge_cmp a b)

-- each edge comes before all later ones, so none stands twice
abbrev pub IsInOrder : (Edge → Edge → Ordering) → List Edge → Type 0
IsInOrder order [] = Unit {0}
IsInOrder order (e ∷ es) = AllByRecursion (λ later. order e later ≡ Less) es × IsInOrder order es

-- the list with the edge at its place
abbrev pub with_edge_by : (Edge → Edge → Ordering) → Edge → List Edge → List Edge
with_edge_by order e [] = e ∷ []
with_edge_by order e (x ∷ xs) = put_before (order e x) e x xs (with_edge_by order e xs)

-- numbers in the order of their edges
abbrev pub by_edge : (Edge → Edge → Ordering) → Numbered → ℕ → ℕ → Ordering
by_edge order edges m n = order (edge_at edges m) (edge_at edges n)

-- the list with the number behind those that come before it
abbrev pub with_number : (ℕ → ℕ → Ordering) → ℕ → List ℕ → List ℕ
with_number order n [] = n ∷ []
with_number order n (m ∷ ms) = if is_lt (order m n) then (m ∷ with_number order n ms) else (n ∷ m ∷ ms)
