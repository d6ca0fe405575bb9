-- The class of a vertex, which says how it heads a tree.
-- The promise of the commands rests on these definitions.
use Rattle.std.specs.Prelude.{Bool, true, false, ◌&&◌, not, List, [], ◌∷◌, Option, None, Some, if◌then◌else◌, filter}
use Rattle.std.specs.Ordering.{is_gt}
use Rattle.grove_edits.specs.declared.vertex.Vertex.{Vertex}
use Rattle.grove_edits.specs.declared.edge.Edge.{Edge}
use Rattle.grove_edits.specs.Vertex.{vertex_cmp, is_same_vertex}
use Rattle.graph_words.specs.declared.class.Class.{Class}
use Rattle.graph_words.specs.declared.class.Class.TheVariants.{NoParent, Multi, Cycle, Inner}
use Rattle.graph_words.specs.Live.{parents_of}
use Rattle.graph_words.specs.Walk.{walk, above_last}

-- no vertex of the list is less
abbrev pub is_least : Vertex → List Vertex → Bool
is_least v [] = true
is_least v (x ∷ xs) = not (is_gt (vertex_cmp v x)) && is_least v xs

abbrev pub is_vertex_of : Vertex → Option Vertex → Bool
is_vertex_of v None = false
is_vertex_of v (Some x) = is_same_vertex x v

-- the walk up comes back to the vertex, which is the least on it
abbrev pub is_cycle_root : List Edge → Vertex → Bool
is_cycle_root edges v = is_vertex_of v (above_last edges (walk edges v)) && is_least v (walk edges v)

abbrev pub class_by : List Edge → Bool → Class
class_by [] is_root = NoParent
class_by (e ∷ []) is_root = if is_root then Cycle else Inner
class_by (e ∷ f ∷ _) is_root = Multi

-- the class of a vertex of the graph with these live edges
abbrev pub class : List Edge → Vertex → Class
class edges v = class_by (parents_of v edges) (is_cycle_root edges v)

abbrev pub is_same_class : Class → Class → Bool
is_same_class NoParent NoParent = true
is_same_class Multi Multi = true
is_same_class Cycle Cycle = true
is_same_class Inner Inner = true
is_same_class _ _ = false

-- those of some vertices that are of a class
abbrev pub of_class : Class → List Edge → List Vertex → List Vertex
of_class c edges vertices = filter (λ v. is_same_class (class edges v) c) vertices
