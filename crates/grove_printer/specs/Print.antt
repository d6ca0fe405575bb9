-- The print text of groves.
-- The promise of the commands rests on these definitions.
use Rattle.std.specs.Prelude.{◌≡◌, ℕ, List, [], ◌∷◌, ◌++◌, length, Option, Some, None, codes, decimal, if◌then◌else◌}
use Rattle.grove_names.specs.Name.{name_text}
use Rattle.grove_sorts.specs.declared.position.Position.{Position}
use Rattle.grove_sorts.specs.declared.sort.Sort.{Sort}
use Rattle.grove_sorts.specs.Sort.{sort_text}
use Rattle.grove_sorts.specs.Ctor.{ctor_text, sort_of_ctor}
use Rattle.grove_sorts.specs.Position.{position_text}
use Rattle.grove_edits.specs.declared.edge.Edge.{Edge}
use Rattle.grove_terms.specs.declared.node.Node.{Node}
use Rattle.grove_terms.specs.declared.node.What.{What}
use Rattle.grove_terms.specs.declared.node.What.TheVariants.{Vertex, Hole, Conflict, MultiRef, CycleRef}
use Rattle.type_core.specs.Typ.{Typ, type_text}
use Rattle.mark_step.specs.declared.node.Mark.{Mark}
use Rattle.mark_step.specs.declared.node.Mark.TheVariants as mark
use Rattle.mark_step.specs.Expression.{Wanted, Synthesise, Analyse, has_mark}
use Rattle.marking.specs.Marking.{MarkedNode}
use Rattle.marking.specs.Grove.{MarkedTrees}
use Rattle.grove_printer.specs.declared.section.Section.{Section}
use Rattle.grove_printer.specs.declared.section.Section.TheVariants.{NoParent, Multi, Cycle}

-- new bytes begin with the old ones
abbrev pub Extends : List ℕ → List ℕ → Type 0
Extends old new = (more : List ℕ) × (new ≡ old ++ more)

abbrev pub dash : List ℕ
dash = 45 ∷ []

abbrev pub position_column : Option Position → List ℕ
position_column (Some p) = position_text p
position_column None = dash

abbrev pub edge_column : Option Edge → List ℕ
edge_column (Some e) = name_text e.name
edge_column None = dash

-- the name of the vertex, or of the one that a reference leads to
abbrev pub vertex_column : What → List ℕ
vertex_column (Vertex v) = name_text v.name
vertex_column (MultiRef v) = name_text v.name
vertex_column (CycleRef v) = name_text v.name
vertex_column (Hole sort) = dash
vertex_column (Conflict sort count) = dash

abbrev pub what_column : What → List ℕ
what_column (Vertex v) = ctor_text v.ctor
what_column (Hole sort) = codes "hole"
what_column (Conflict sort count) = codes "conflict:" ++ decimal count
what_column (MultiRef v) = codes "multi:" ++ ctor_text v.ctor
what_column (CycleRef v) = codes "cycle:" ++ ctor_text v.ctor

-- depth, position and edge, with a space between each two
abbrev pub place_columns : Node → List ℕ
place_columns n = decimal n.depth ++ (32 ∷ (position_column n.position ++ (32 ∷ edge_column n.edge)))

-- the same, and then the vertex and what it is
abbrev pub node_columns : Node → List ℕ
node_columns n = place_columns n ++ (32 ∷ (vertex_column n.what ++ (32 ∷ what_column n.what)))

-- what is wanted of an expression, with the type that it is analysed against, and the sort of any other node
abbrev pub mode_column : Sort → Option Wanted → List ℕ
mode_column sort None = sort_text sort
mode_column sort (Some Synthesise) = codes "syn"
mode_column sort (Some (Analyse t)) = codes "ana:" ++ type_text 8 t

abbrev pub type_column : Option Typ → List ℕ
type_column None = dash
type_column (Some t) = type_text 8 t

abbrev pub mark_text : Mark → List ℕ
mark_text mark.None = dash
mark_text mark.Free = codes "free"
mark_text mark.NotArrow = codes "not-arrow"
mark_text mark.NotProduct = codes "not-product"
mark_text mark.Branches = codes "branches"
mark_text mark.LamAgainst = codes "lam-against"
mark_text mark.Ascription = codes "ascription"
mark_text mark.PairAgainst = codes "pair-against"
mark_text mark.Inconsistent = codes "inconsistent"
mark_text mark.NotSum = codes "not-sum"
mark_text mark.InjAgainst = codes "inj-against"

-- the sort of a node: that of the vertex, or of the position without a sole child
abbrev pub sort_of_node : What → Sort
sort_of_node (Vertex v) = sort_of_ctor v.ctor
sort_of_node (Hole sort) = sort
sort_of_node (Conflict sort count) = sort
sort_of_node (MultiRef v) = sort_of_ctor v.ctor
sort_of_node (CycleRef v) = sort_of_ctor v.ctor

-- what is wanted, the type and the mark, with a space between each two
abbrev pub mark_columns : MarkedNode → List ℕ
mark_columns m = mode_column (sort_of_node m.node.what) m.wanted ++ (32 ∷ (type_column m.typ ++ (32 ∷ mark_text m.mark)))

abbrev pub node_line : MarkedNode → List ℕ
node_line m = node_columns m.node ++ (32 ∷ (mark_columns m ++ 10 ∷ []))

-- a line for each node
abbrev pub tree_text : List MarkedNode → List ℕ
tree_text [] = []
tree_text (m ∷ ms) = node_line m ++ tree_text ms

abbrev pub trees_text : List (List MarkedNode) → List ℕ
trees_text [] = []
trees_text (t ∷ ts) = tree_text t ++ trees_text ts

-- the word of a list of trees, and the space behind it
abbrev pub section_word : Section → List ℕ
section_word NoParent = codes "none "
section_word Multi = codes "multi "
section_word Cycle = codes "cycle "

-- the word and the number of trees
abbrev pub heading : Section → ℕ → List ℕ
heading section count = section_word section ++ (decimal count ++ 10 ∷ [])

-- a heading and the trees, for each of the three lists
abbrev pub print_text : MarkedTrees → List ℕ
print_text grove =
    (heading NoParent (length grove.none) ++ trees_text grove.none)
    ++ ((heading Multi (length grove.multi) ++ trees_text grove.multi) ++ (heading Cycle (length grove.cycle) ++ trees_text grove.cycle))

-- the lines of the nodes that have a mark
abbrev pub tree_marked_lines : List MarkedNode → List ℕ
tree_marked_lines [] = []
tree_marked_lines (m ∷ ms) = if has_mark m.mark then node_line m ++ tree_marked_lines ms else tree_marked_lines ms

abbrev pub trees_marked_lines : List (List MarkedNode) → List ℕ
trees_marked_lines [] = []
trees_marked_lines (t ∷ ts) = tree_marked_lines t ++ trees_marked_lines ts

-- the same of all trees, in the order of the print text and without its headings
abbrev pub marked_lines : MarkedTrees → List ℕ
marked_lines grove = trees_marked_lines grove.none ++ (trees_marked_lines grove.multi ++ trees_marked_lines grove.cycle)
