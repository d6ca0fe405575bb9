-- Inner model, which no public contract cites: which vertex becomes the root of a cycle or ceases to be one, as two walks tell.
use Rattle.std.specs.Prelude.{◌≡◌, ◌⊎◌, Bool, true, false, List, Option, None, Some}
use Rattle.std.specs.Ordering.{is_gt}
use Rattle.grove_edits.specs.declared.vertex.Vertex.{Vertex}
use Rattle.grove_edits.specs.declared.edge.Edge.{Edge}
use Rattle.grove_edits.specs.Vertex.{vertex_cmp, stands_in}
use Rattle.graph_words.specs.Class.{is_cycle_root}
use Rattle.mark_incremental.specs.declared.passing.Ends.{Ends}

-- the vertex is the least of another one and some further ones
pub record IsLeastOf (first : Vertex) (others : List Vertex) (least : Vertex) : Type 0 where
  pub among : (least ≡ first) ⊎ (stands_in least others ≡ true)
  pub none_less : (x : Vertex) → stands_in x others ≡ true → is_gt (vertex_cmp least x) ≡ false

-- a root came, or went: it is the least vertex of the one walk up from the target that comes back
abbrev pub IsChangedTo : Vertex → Ends → Ends → Vertex → Bool → Type 0
IsChangedTo target before after root true = (before.target.comes_back ≡ false) × (after.target.comes_back ≡ true) × IsLeastOf target after.target.vertices.items root
IsChangedTo target before after root false = (before.target.comes_back ≡ true) × (after.target.comes_back ≡ false) × IsLeastOf target before.target.vertices.items root

-- None where both walks up from the target come back, or neither does
abbrev pub IsChangedRoot : Vertex → Ends → Ends → Option (Vertex × Bool) → Type 0
IsChangedRoot target before after None = before.target.comes_back ≡ after.target.comes_back
IsChangedRoot target before after (Some m) = IsChangedTo target before after m.0 m.1

-- one vertex alone is the root of a cycle in one of two graphs and not in the other
pub record IsOnlyRoot (old new : List Edge) (r : Vertex) : Type 0 where
  pub moves : is_cycle_root old r ≡ is_cycle_root new r → ⊥
  pub alone : (v : Vertex) → (is_cycle_root old v ≡ is_cycle_root new v → ⊥) → v ≡ r
