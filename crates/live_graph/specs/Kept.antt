-- Inner model, which no public contract cites: what a live graph keeps beside its entries.
use Rattle.std.specs.Prelude.{◌≡◌, ℕ, List, length}
use Rattle.graph_words.specs.Live.{targets_of}
use Rattle.edge_numbers.specs.Numbered.{Numbered}
use Rattle.edge_lists.specs.Lists.{Listed}
use Rattle.numbers_by_name.specs.ByName.{Lists}
use Rattle.live_graph.specs.Live.{live}
use Rattle.live_graph.specs.Around.{IsListed}
use Rattle.live_graph.specs.ByName.{HasEdgeNames}
use Rattle.live_graph.specs.Uses.{AreUses, HasVertexNames}

-- so many vertices have a live parent edge
abbrev pub IsParentCount : Numbered → ℕ → Type 0
IsParentCount edges count = count ≡ length (targets_of (live edges.entries))

-- all that is kept is of the entries
pub record IsKept (edges : Numbered) (children parents : List Listed) (parent_count : ℕ) (edge_names vertex_names : Lists) (uses : List ℕ) : Type 0 where
  pub listed : IsListed edges children parents
  pub counted : IsParentCount edges parent_count
  pub named : HasEdgeNames edges edge_names
  pub used : AreUses edges uses
  pub vertices_named : HasVertexNames edges (length uses) vertex_names
