-- Worked examples, with what the definitions give of them written out by hand.
use Rattle.std.proofs.Common.{◌≡◌, ℕ, List, [], ◌∷◌, Some, None, refl, lit≤}
use Rattle.grove_sorts.specs.declared.ctor.Ctor.{Ctor}
use Rattle.grove_sorts.specs.declared.ctor.Ctor.TheVariants.{Plus, Num, Fst, Snd}
use Rattle.grove_sorts.specs.declared.position.Position.{Position}
use Rattle.grove_sorts.specs.declared.position.Position.TheVariants.{Main, Left, Right, Operand}
use Rattle.grove_sorts.specs.declared.sort.Sort.TheVariants.{Exp}
use Rattle.grove_edits.specs.declared.vertex.Vertex.{Vertex as VertexOf}
use Rattle.grove_edits.specs.declared.edge.Edge.{Edge}
use Rattle.grove_edits.specs.Vertex.{root}
use Rattle.graph_words.specs.declared.class.Class.TheVariants.{Multi, Cycle, Inner}
use Rattle.graph_words.specs.Class.{of_class}
use Rattle.grove_terms.specs.declared.node.Node.{Node}
use Rattle.grove_terms.specs.declared.node.What.TheVariants.{Vertex, Hole, Conflict, MultiRef, CycleRef}
use Rattle.grove_terms.specs.Forest.{Forest, none, multi_ref, cycle_ref, tree, StandsUnder, IsWellSorted}
use Rattle.grove_terms.specs.Nodes.{tree_nodes, node_edges}
use Rattle.grove_terms.specs.Recomposing.{recomposed}

abbrev vertex : ℕ → Ctor → VertexOf
vertex counter ctor = record { name = record { author = 1; counter = counter }; ctor = ctor }

abbrev edge : ℕ → VertexOf → Position → VertexOf → Edge
edge counter source position target = record { name = record { author = 1; counter = counter }; source = source; position = position; target = target }

-- ---- a sum of a conflict of two numbers, and of nothing

abbrev sum : VertexOf
sum = vertex 1 Plus

abbrev seven : VertexOf
seven = vertex 3 (Num 7)

abbrev eight : VertexOf
eight = vertex 5 (Num 8)

abbrev to_sum : Edge
to_sum = edge 2 root Main sum

abbrev to_seven : Edge
to_seven = edge 4 sum Left seven

abbrev to_eight : Edge
to_eight = edge 6 sum Left eight

abbrev under_root : Forest
under_root = tree to_sum (tree to_seven none (tree to_eight none none)) none

sum_stands : StandsUnder (to_sum ∷ to_seven ∷ to_eight ∷ []) root under_root
sum_stands = record { edges = refl; children = (refl, refl, (refl, refl, tt, (refl, refl, tt, tt)), tt) }

sum_sorted : IsWellSorted root under_root
sum_sorted = (
  record { well_formed = refl; source = refl; in_table_order = tt },
  (record { well_formed = refl; source = refl; in_table_order = (lit≤ tt, tt) }, tt, (record { well_formed = refl; source = refl; in_table_order = tt }, tt, tt)),
  tt,
)

abbrev sum_nodes : List Node
sum_nodes =
    record { depth = 0; position = None; edge = None; what = Vertex root }
    ∷ record { depth = 1; position = Some Main; edge = Some to_sum; what = Vertex sum }
    ∷ record { depth = 2; position = Some Left; edge = None; what = Conflict Exp 2 }
    ∷ record { depth = 3; position = Some Left; edge = Some to_seven; what = Vertex seven }
    ∷ record { depth = 3; position = Some Left; edge = Some to_eight; what = Vertex eight }
    ∷ record { depth = 2; position = Some Right; edge = None; what = Hole Exp }
    ∷ []

sum_listed : tree_nodes root under_root ≡ sum_nodes
sum_listed = refl

sum_edges : node_edges sum_nodes ≡ to_sum ∷ to_seven ∷ to_eight ∷ []
sum_edges = refl

sum_read_back : recomposed sum_nodes ≡ to_sum ∷ to_seven ∷ to_eight ∷ []
sum_read_back = refl

-- ---- a number that is both sides of a sum

abbrev to_right : Edge
to_right = edge 6 sum Right seven

abbrev shared : List Edge
shared = to_sum ∷ to_seven ∷ to_right ∷ []

shared_heads : of_class Multi shared (root ∷ sum ∷ seven ∷ []) ≡ seven ∷ []
shared_heads = refl

abbrev with_references : Forest
with_references = tree to_sum (multi_ref to_seven (multi_ref to_right none)) none

shared_stands : StandsUnder shared root with_references
shared_stands = record { edges = refl; children = (refl, refl, (refl, (refl, tt)), tt) }

shared_listed : tree_nodes root with_references
    ≡ record { depth = 0; position = None; edge = None; what = Vertex root }
    ∷ record { depth = 1; position = Some Main; edge = Some to_sum; what = Vertex sum }
    ∷ record { depth = 2; position = Some Left; edge = Some to_seven; what = MultiRef seven }
    ∷ record { depth = 2; position = Some Right; edge = Some to_right; what = MultiRef seven }
    ∷ []
shared_listed = refl

-- ---- two vertices that are each other's child

abbrev first : VertexOf
first = vertex 1 Fst

abbrev second : VertexOf
second = vertex 3 Snd

abbrev down : Edge
down = edge 2 first Operand second

abbrev back : Edge
back = edge 4 second Operand first

abbrev cycle : List Edge
cycle = down ∷ back ∷ []

cycle_head : of_class Cycle cycle (root ∷ first ∷ second ∷ []) ≡ first ∷ []
cycle_head = refl

cycle_inner : of_class Inner cycle (root ∷ first ∷ second ∷ []) ≡ second ∷ []
cycle_inner = refl

abbrev around : Forest
around = tree down (cycle_ref back none) none

cycle_stands : StandsUnder cycle first around
cycle_stands = record { edges = refl; children = (refl, refl, (refl, tt), tt) }

abbrev cycle_nodes : List Node
cycle_nodes =
    record { depth = 0; position = None; edge = None; what = Vertex first }
    ∷ record { depth = 1; position = Some Operand; edge = Some down; what = Vertex second }
    ∷ record { depth = 2; position = Some Operand; edge = Some back; what = CycleRef first }
    ∷ []

cycle_listed : tree_nodes first around ≡ cycle_nodes
cycle_listed = refl

cycle_read_back : recomposed cycle_nodes ≡ down ∷ back ∷ []
cycle_read_back = refl
