-- The summary of a graph.
use Rattle.std.specs.Prelude.{◌≡◌, ◌≢◌, ◌+◌, ◌⊎◌, ◌↔◌, true, List}
use Rattle.edge_lattice.specs.declared.state.State.TheVariants.{Absent, Deleted}
use Rattle.grove_names.specs.declared.name.Name.{Name}
use Rattle.grove_edits.specs.declared.edge.Edge.{Edge}
use Rattle.grove_edits.specs.Graph.{Graph}
use Rattle.edit_ranges.specs.declared.told.Told.TheVariants as told
use Rattle.edit_ranges.specs.declared.name_range.NameRange.{NameRange}
use Rattle.edit_ranges.specs.Ranges.{are_ranges, tell}

-- the edge has the name, or a vertex at one of its ends has it
abbrev pub Mentions : Edge → Name → Type 0
Mentions e name = (e.name ≡ name) ⊎ (e.source.name ≡ name) ⊎ (e.target.name ≡ name)

-- at most one edge that is not Absent has the name
abbrev pub IsOfOneEdge : Graph → Name → Type 0
IsOfOneEdge g name = (e f : Edge) → g e ≢ Absent → g f ≢ Absent → e.name ≡ name → f.name ≡ name → e ≡ f

-- the graph has the name, and not for several edges
abbrev pub IsHad : Graph → Name → Type 0
IsHad g name = ((e : Edge) × (g e ≢ Absent) × Mentions e name) × IsOfOneEdge g name

-- the one edge with the name is deleted
abbrev pub IsGone : Graph → Name → Type 0
IsGone g name = ((e : Edge) × (g e ≡ Deleted) × (e.name ≡ name)) × IsOfOneEdge g name

-- the name right behind one, by the same author
abbrev pub name_behind : Name → Name
name_behind name = record { author = name.author; counter = name.counter + 1 }

-- the name is of no edge but of a vertex, to which the edge with the name behind it leads, and that edge and the one with the name before it
-- are deleted: so that one range tells of edges that were made one after the other, each with its vertex
pub record IsBetweenGone (g : Graph) (name : Name) : Type 0 where
  pub no_edge : (e : Edge) → g e ≢ Absent → e.name ≢ name
  pub before : Name
  pub follows : name ≡ name_behind before
  pub before_gone : IsGone g before
  pub behind_gone : IsGone g (name_behind name)
  pub leads : behind_gone.0.0.target.name ≡ name

-- the ranges, in order and each as long as it can be, tell which names the graph has, and of which the edges are deleted
pub record IsSummaryOf (g : Graph) (ranges : List NameRange) : Type 0 where
  pub in_order : are_ranges ranges ≡ true
  pub named : (name : Name) → (tell ranges told.Named name ≡ true) ↔ IsHad g name
  pub deleted : (name : Name) → (tell ranges told.Deleted name ≡ true) ↔ (IsGone g name ⊎ IsBetweenGone g name)
