-- Inner model, which no public contract cites: the text of the object of a node, member by member.
use Rattle.std.specs.Prelude.{ℕ, List, [], ◌∷◌, ◌++◌, Option, codes, decimal}
use Rattle.json.specs.Print.{quoted}
use Rattle.grove_names.specs.Name.{name_text}
use Rattle.grove_sorts.specs.declared.sort.Sort.{Sort}
use Rattle.grove_sorts.specs.Ctor.{ctor_text}
use Rattle.grove_edits.specs.declared.vertex.Vertex.{Vertex}
use Rattle.type_core.specs.Typ.{Typ}
use Rattle.mark_step.specs.declared.node.Mark.{Mark}
use Rattle.mark_step.specs.Expression.{Wanted}
use Rattle.marking.specs.Marking.{MarkedNode}
use Rattle.grove_printer.specs.Print.{edge_column, mark_text, mode_column, position_column, sort_of_node, type_column, vertex_column, what_column}

-- the opening bracket and the first member
abbrev pub depth_member : ℕ → List ℕ
depth_member depth = 123 ∷ (quoted (codes "depth") ++ 58 ∷ decimal depth)

-- a member whose value is a text, behind others
abbrev pub text_member : List ℕ → List ℕ → List ℕ
text_member key text = 44 ∷ (quoted key ++ 58 ∷ quoted text)

abbrev pub first_members : MarkedNode → List ℕ
first_members m =
    depth_member m.node.depth
    ++ (text_member (codes "edge") (edge_column m.node.edge)
    ++ (text_member (codes "mark") (mark_text m.mark)
    ++ text_member (codes "mode") (mode_column (sort_of_node m.node.what) m.wanted)))

-- with the closing bracket
abbrev pub last_members : MarkedNode → List ℕ
last_members m =
    text_member (codes "position") (position_column m.node.position)
    ++ (text_member (codes "type") (type_column m.typ)
    ++ (text_member (codes "vertex") (vertex_column m.node.what)
    ++ (text_member (codes "what") (what_column m.node.what) ++ 125 ∷ [])))

-- ---- what marking says of a vertex, wherever it stands

-- the opening bracket and a first member whose value is a text
abbrev pub opening_member : List ℕ → List ℕ → List ℕ
opening_member key text = 123 ∷ (quoted key ++ 58 ∷ quoted text)

abbrev pub judgement_members : Sort → Option Wanted → Option Typ → Mark → List ℕ
judgement_members sort wanted typ mark =
    opening_member (codes "mark") (mark_text mark) ++ (text_member (codes "mode") (mode_column sort wanted) ++ text_member (codes "type") (type_column typ))

-- with the closing bracket
abbrev pub vertex_members : Vertex → List ℕ
vertex_members v = text_member (codes "vertex") (name_text v.name) ++ (text_member (codes "what") (ctor_text v.ctor) ++ 125 ∷ [])
