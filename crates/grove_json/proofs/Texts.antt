-- The texts of nodes, of trees and of lists of trees.
use Rattle.std.proofs.Common.{◌≡◌, ℕ, List, [], ◌∷◌, ◌++◌, length, map, refl, sym, ap, ◌∙◌, append_assoc, arith}
use Rattle.std.specs.Prelude.{Bool, true, false, Option, codes, decimal}
use Rattle.json.specs.Print.{quoted}
use Rattle.serde_json.specs.Data.{string, Members, member, no_members}
use Rattle.serde_json.specs.View.{items_of}
use Rattle.serde_json.specs.Written.{comma_if, compact_text, items_text, members_text}
use Rattle.grove_names.specs.Name.{name_text}
use Rattle.grove_sorts.specs.Ctor.{ctor_text, sort_of_ctor}
use Rattle.grove_edits.specs.declared.vertex.Vertex.{Vertex}
use Rattle.type_core.specs.Typ.{Typ}
use Rattle.mark_step.specs.declared.node.Mark.{Mark}
use Rattle.mark_step.specs.Expression.{Wanted}
use Rattle.marking.specs.Marking.{MarkedNode}
use Rattle.marking.specs.Grove.{MarkedTrees}
use Rattle.grove_printer.specs.Print.{edge_column, mark_text, mode_column, position_column, sort_of_node, type_column, vertex_column, what_column}
use Rattle.grove_json.specs.GroveValue.{node_value, tree_value, trees_value, grove_value}
use Rattle.grove_json.specs.NodeText.{depth_member, text_member, first_members, last_members, opening_member, judgement_members, vertex_members}
use Rattle.grove_json.specs.RecordValue.{record_value}
use Rattle.grove_json.specs.TreeTexts.{listed}
use Rattle.grove_json.proofs.Plain.{IsPlain, plain_stays}

-- ---- members

-- what opens a member up to its text, the text, and a quote
pub member_written : (old opened told new opening key text : List ℕ) → opened ≡ old ++ opening → told ≡ opened ++ text → new ≡ told ++ 34 ∷ []
    → opening ≡ 44 ∷ (quoted key ++ 58 ∷ 34 ∷ []) → IsPlain text → new ≡ old ++ text_member key text
member_written old opened told new opening key text is_opened is_told is_new is_opening plain =
    is_new
    ∙ ap (λ (xs : List ℕ). xs ++ 34 ∷ []) (is_told ∙ ap (λ (xs : List ℕ). xs ++ text) is_opened)
    ∙ append_assoc (old ++ opening) text (34 ∷ [])
    ∙ append_assoc old opening (text ++ 34 ∷ [])
    ∙ ap (λ (xs : List ℕ). old ++ (xs ++ (text ++ 34 ∷ []))) is_opening
    ∙ ap (λ (xs : List ℕ). old ++ 44 ∷ xs) (append_assoc (quoted key) (58 ∷ 34 ∷ []) (text ++ 34 ∷ []))
    ∙ ap (λ (xs : List ℕ). old ++ 44 ∷ (quoted key ++ 58 ∷ 34 ∷ (xs ++ 34 ∷ []))) (sym (plain_stays text plain))

member_first : (key text rest : List ℕ) (ms : Members) → rest ≡ members_text true ms → text_member key text ++ rest ≡ members_text true (member key (string text) ms)
member_first key text rest ms is = ap (λ (xs : List ℕ). text_member key text ++ xs) is ∙ ap (λ (xs : List ℕ). 44 ∷ xs) (append_assoc (quoted key) (58 ∷ quoted text) (members_text true ms))

-- ---- nodes

pub node_is : (m : MarkedNode) → first_members m ++ last_members m ≡ compact_text (node_value m)
node_is m =
    append_assoc depth (edge ++ (mark ++ mode)) (last_members m)
    ∙ ap (λ (xs : List ℕ). depth ++ xs) (append_assoc edge (mark ++ mode) (last_members m) ∙ ap (λ (xs : List ℕ). edge ++ xs) (append_assoc mark mode (last_members m)))
    ∙ ap (λ (xs : List ℕ). depth ++ xs)
    (member_first (codes "edge") (edge_column m.node.edge) _ (member (codes "mark") (string (mark_text m.mark)) (member (codes "mode") (string (mode_column (sort_of_node m.node.what) m.wanted)) (member (codes "position") (string (position_column m.node.position)) (member (codes "type") (string (type_column m.typ)) (member (codes "vertex") (string (vertex_column m.node.what)) (member (codes "what") (string (what_column m.node.what)) no_members))))))
    (member_first (codes "mark") (mark_text m.mark) _ (member (codes "mode") (string (mode_column (sort_of_node m.node.what) m.wanted)) (member (codes "position") (string (position_column m.node.position)) (member (codes "type") (string (type_column m.typ)) (member (codes "vertex") (string (vertex_column m.node.what)) (member (codes "what") (string (what_column m.node.what)) no_members)))))
    (member_first (codes "mode") (mode_column (sort_of_node m.node.what) m.wanted) _ (member (codes "position") (string (position_column m.node.position)) (member (codes "type") (string (type_column m.typ)) (member (codes "vertex") (string (vertex_column m.node.what)) (member (codes "what") (string (what_column m.node.what)) no_members)))) last)))
    ∙ ap (λ (xs : List ℕ). 123 ∷ xs) (append_assoc (quoted (codes "depth")) (58 ∷ decimal m.node.depth) _)
  where
    depth : List ℕ
    depth = depth_member m.node.depth

    edge : List ℕ
    edge = text_member (codes "edge") (edge_column m.node.edge)

    mark : List ℕ
    mark = text_member (codes "mark") (mark_text m.mark)

    mode : List ℕ
    mode = text_member (codes "mode") (mode_column (sort_of_node m.node.what) m.wanted)

    last : last_members m ≡ members_text true
        (member (codes "position") (string (position_column m.node.position))
        (member (codes "type") (string (type_column m.typ))
        (member (codes "vertex") (string (vertex_column m.node.what))
        (member (codes "what") (string (what_column m.node.what)) no_members))))
    last =
        member_first (codes "position") (position_column m.node.position)
        (text_member (codes "type") (type_column m.typ) ++ (text_member (codes "vertex") (vertex_column m.node.what) ++ (text_member (codes "what") (what_column m.node.what) ++ 125 ∷ [])))
        (member (codes "type") (string (type_column m.typ)) (member (codes "vertex") (string (vertex_column m.node.what)) (member (codes "what") (string (what_column m.node.what)) no_members)))
        (member_first (codes "type") (type_column m.typ)
        (text_member (codes "vertex") (vertex_column m.node.what) ++ (text_member (codes "what") (what_column m.node.what) ++ 125 ∷ []))
        (member (codes "vertex") (string (vertex_column m.node.what)) (member (codes "what") (string (what_column m.node.what)) no_members))
        (member_first (codes "vertex") (vertex_column m.node.what)
        (text_member (codes "what") (what_column m.node.what) ++ 125 ∷ [])
        (member (codes "what") (string (what_column m.node.what)) no_members)
        (member_first (codes "what") (what_column m.node.what) (125 ∷ []) no_members refl)))

-- two parts, one behind the other
pub two_parts : (old middle new first last whole : List ℕ) → middle ≡ old ++ first → new ≡ middle ++ last → first ++ last ≡ whole → new ≡ old ++ whole
two_parts old middle new first last whole is_middle is_new is =
    is_new ∙ ap (λ (xs : List ℕ). xs ++ last) is_middle ∙ append_assoc old first last ∙ ap (λ (xs : List ℕ). old ++ xs) is

-- ---- what marking says of a vertex

pub record_is : (v : Vertex) (wanted : Option Wanted) (typ : Option Typ) (mark : Mark)
    → judgement_members (sort_of_ctor v.ctor) wanted typ mark ++ vertex_members v ≡ compact_text (record_value v wanted typ mark)
record_is v wanted typ mark =
    append_assoc opening (text_member (codes "mode") mode ++ text_member (codes "type") (type_column typ)) (vertex_members v)
    ∙ ap (λ (xs : List ℕ). opening ++ xs)
    (append_assoc (text_member (codes "mode") mode) (text_member (codes "type") (type_column typ)) (vertex_members v)
    ∙ member_first (codes "mode") mode _ (member (codes "type") (string (type_column typ)) (member (codes "vertex") (string (name_text v.name)) (member (codes "what") (string (ctor_text v.ctor)) no_members)))
    (member_first (codes "type") (type_column typ) _ (member (codes "vertex") (string (name_text v.name)) (member (codes "what") (string (ctor_text v.ctor)) no_members))
    (member_first (codes "vertex") (name_text v.name) _ (member (codes "what") (string (ctor_text v.ctor)) no_members)
    (member_first (codes "what") (ctor_text v.ctor) (125 ∷ []) no_members refl))))
    ∙ ap (λ (xs : List ℕ). 123 ∷ xs) (append_assoc (quoted (codes "mark")) (58 ∷ quoted (mark_text mark)) _)
  where
    opening : List ℕ
    opening = opening_member (codes "mark") (mark_text mark)

    mode : List ℕ
    mode = mode_column (sort_of_ctor v.ctor) wanted

-- what opens an object up to the text of its first member, the text, and a quote
pub opening_written : (old opened told new opening key text : List ℕ) → opened ≡ old ++ opening → told ≡ opened ++ text → new ≡ told ++ 34 ∷ []
    → opening ≡ 123 ∷ (quoted key ++ 58 ∷ 34 ∷ []) → IsPlain text → new ≡ old ++ opening_member key text
opening_written old opened told new opening key text is_opened is_told is_new is_opening plain =
    is_new
    ∙ ap (λ (xs : List ℕ). xs ++ 34 ∷ []) (is_told ∙ ap (λ (xs : List ℕ). xs ++ text) is_opened)
    ∙ append_assoc (old ++ opening) text (34 ∷ [])
    ∙ append_assoc old opening (text ++ 34 ∷ [])
    ∙ ap (λ (xs : List ℕ). old ++ (xs ++ (text ++ 34 ∷ []))) is_opening
    ∙ ap (λ (xs : List ℕ). old ++ 123 ∷ xs) (append_assoc (quoted key) (58 ∷ 34 ∷ []) (text ++ 34 ∷ []))
    ∙ ap (λ (xs : List ℕ). old ++ 123 ∷ (quoted key ++ 58 ∷ 34 ∷ (xs ++ 34 ∷ []))) (sym (plain_stays text plain))

-- ---- trees

-- one node more behind some, where what is left follows
pub node_behind : (out comma new : List ℕ) (later : Bool) (m : MarkedNode) (left : List MarkedNode) (all : List ℕ) → comma ≡ out ++ comma_if later → new ≡ comma ++ compact_text (node_value m)
    → out ++ items_text later (items_of (map node_value (m ∷ left))) ≡ all → new ++ items_text true (items_of (map node_value left)) ≡ all
node_behind out comma new later m left all is_comma is_new so_far =
    ap (λ (xs : List ℕ). xs ++ rest) (is_new ∙ ap (λ (xs : List ℕ). xs ++ node) is_comma)
    ∙ append_assoc (out ++ comma_if later) node rest
    ∙ append_assoc out (comma_if later) (node ++ rest)
    ∙ so_far
  where
    node : List ℕ
    node = compact_text (node_value m)

    rest : List ℕ
    rest = items_text true (items_of (map node_value left))

-- behind the last node a bracket closes the array
pub tree_written : (old opened out new : List ℕ) (later : Bool) (nodes : List MarkedNode) → opened ≡ old ++ 91 ∷ []
    → out ++ 93 ∷ [] ≡ opened ++ items_text false (items_of (map node_value nodes)) → new ≡ out ++ 93 ∷ [] → new ≡ old ++ compact_text (tree_value nodes)
tree_written old opened out new later nodes is_opened all is_new =
    is_new ∙ all ∙ ap (λ (xs : List ℕ). xs ++ items_text false (items_of (map node_value nodes))) is_opened ∙ append_assoc old (91 ∷ []) (items_text false (items_of (map node_value nodes)))

-- ---- lists of trees

listed_closed : (trees : List (List MarkedNode)) → listed trees ++ 93 ∷ [] ≡ items_text true (items_of (map tree_value trees))
listed_closed [] = refl
listed_closed (t ∷ ts) =
    ap (λ (xs : List ℕ). 44 ∷ xs) (append_assoc (compact_text (tree_value t)) (listed ts) (93 ∷ []))
    ∙ ap (λ (xs : List ℕ). 44 ∷ (compact_text (tree_value t) ++ xs)) (listed_closed ts)

-- without the first comma
first_closed : (trees : List (List MarkedNode)) (comma : ℕ) (first : List ℕ) → comma ∷ first ≡ listed trees → first ++ 93 ∷ [] ≡ items_text false (items_of (map tree_value trees))
first_closed [] comma first is = absurd cc
first_closed (t ∷ ts) comma first is =
    let same : first ≡ compact_text (tree_value t) ++ listed ts = cc in
    ap (λ (xs : List ℕ). xs ++ 93 ∷ []) same
    ∙ append_assoc (compact_text (tree_value t)) (listed ts) (93 ∷ [])
    ∙ ap (λ (xs : List ℕ). compact_text (tree_value t) ++ xs) (listed_closed ts)

none_closed : (trees : List (List MarkedNode)) → [] ≡ listed trees → 93 ∷ [] ≡ items_text false (items_of (map tree_value trees))
none_closed [] is = refl
none_closed (t ∷ ts) is = absurd cc

-- the texts of some trees, with and without the first comma
pub behind_first : (texts : List ℕ) (comma : ℕ) (first : List ℕ) (trees : List (List MarkedNode)) → texts ≡ comma ∷ first → texts ≡ listed trees
    → first ++ 93 ∷ [] ≡ items_text false (items_of (map tree_value trees))
behind_first texts comma first trees parts are = first_closed trees comma first (sym parts ∙ are)

no_bytes : (texts : List ℕ) → length texts ≡ 0 → texts ≡ []
no_bytes [] h = refl
no_bytes (x ∷ xs) h = absurd (omega (arith, h))

pub behind_none : (texts : List ℕ) (trees : List (List MarkedNode)) → length texts ≡ 0 → texts ≡ listed trees → texts ++ 93 ∷ [] ≡ items_text false (items_of (map tree_value trees))
behind_none texts trees empty are = let none = no_bytes texts empty in ap (λ (xs : List ℕ). xs ++ 93 ∷ []) none ∙ none_closed trees (sym none ∙ are)

-- the array of some trees
pub array_written : (old opened told new first : List ℕ) (trees : List (List MarkedNode)) → opened ≡ old ++ 91 ∷ [] → told ≡ opened ++ first → new ≡ told ++ 93 ∷ []
    → first ++ 93 ∷ [] ≡ items_text false (items_of (map tree_value trees)) → new ≡ old ++ compact_text (trees_value trees)
array_written old opened told new first trees is_opened is_told is_new closed =
    is_new
    ∙ ap (λ (xs : List ℕ). xs ++ 93 ∷ []) (is_told ∙ ap (λ (xs : List ℕ). xs ++ first) is_opened)
    ∙ append_assoc (old ++ 91 ∷ []) first (93 ∷ [])
    ∙ append_assoc old (91 ∷ []) (first ++ 93 ∷ [])
    ∙ ap (λ (xs : List ℕ). old ++ 91 ∷ xs) closed

-- ---- the whole object

seven_parts : (p x q y r z s : List ℕ) → ((((((p ++ x) ++ q) ++ y) ++ r) ++ z) ++ s) ≡ p ++ (x ++ (q ++ (y ++ (r ++ (z ++ s)))))
seven_parts p x q y r z s =
    append_assoc (((((p ++ x) ++ q) ++ y) ++ r)) z s
    ∙ append_assoc ((((p ++ x) ++ q) ++ y)) r (z ++ s)
    ∙ append_assoc (((p ++ x) ++ q)) y (r ++ (z ++ s))
    ∙ append_assoc (p ++ x) q (y ++ (r ++ (z ++ s)))
    ∙ append_assoc p x (q ++ (y ++ (r ++ (z ++ s))))

-- the members of an object with three keys, and a line feed behind it
three_members : (k l n x y z : List ℕ)
    → (123 ∷ (k ++ 58 ∷ [])) ++ (x ++ ((44 ∷ (l ++ 58 ∷ [])) ++ (y ++ ((44 ∷ (n ++ 58 ∷ [])) ++ (z ++ 125 ∷ 10 ∷ [])))))
    ≡ (123 ∷ (k ++ 58 ∷ (x ++ 44 ∷ (l ++ 58 ∷ (y ++ 44 ∷ (n ++ 58 ∷ (z ++ 125 ∷ []))))))) ++ 10 ∷ []
three_members k l n x y z = opened ∙ sym closed where
  end : List ℕ
  end = 10 ∷ []

  opened : (123 ∷ (k ++ 58 ∷ [])) ++ (x ++ ((44 ∷ (l ++ 58 ∷ [])) ++ (y ++ ((44 ∷ (n ++ 58 ∷ [])) ++ (z ++ 125 ∷ 10 ∷ [])))))
      ≡ 123 ∷ (k ++ 58 ∷ (x ++ 44 ∷ (l ++ 58 ∷ (y ++ 44 ∷ (n ++ 58 ∷ (z ++ 125 ∷ 10 ∷ []))))))
  opened =
      ap (λ (xs : List ℕ). 123 ∷ xs) (append_assoc k (58 ∷ []) (x ++ ((44 ∷ (l ++ 58 ∷ [])) ++ (y ++ ((44 ∷ (n ++ 58 ∷ [])) ++ (z ++ 125 ∷ 10 ∷ []))))))
      ∙ ap (λ (xs : List ℕ). 123 ∷ (k ++ 58 ∷ (x ++ 44 ∷ xs))) (append_assoc l (58 ∷ []) (y ++ ((44 ∷ (n ++ 58 ∷ [])) ++ (z ++ 125 ∷ 10 ∷ []))))
      ∙ ap (λ (xs : List ℕ). 123 ∷ (k ++ 58 ∷ (x ++ 44 ∷ (l ++ 58 ∷ (y ++ 44 ∷ xs))))) (append_assoc n (58 ∷ []) (z ++ 125 ∷ 10 ∷ []))

  closed : (123 ∷ (k ++ 58 ∷ (x ++ 44 ∷ (l ++ 58 ∷ (y ++ 44 ∷ (n ++ 58 ∷ (z ++ 125 ∷ []))))))) ++ end
      ≡ 123 ∷ (k ++ 58 ∷ (x ++ 44 ∷ (l ++ 58 ∷ (y ++ 44 ∷ (n ++ 58 ∷ (z ++ 125 ∷ 10 ∷ []))))))
  closed =
      ap (λ (xs : List ℕ). 123 ∷ xs) (append_assoc k (58 ∷ (x ++ 44 ∷ (l ++ 58 ∷ (y ++ 44 ∷ (n ++ 58 ∷ (z ++ 125 ∷ [])))))) end)
      ∙ ap (λ (xs : List ℕ). 123 ∷ (k ++ 58 ∷ xs)) (append_assoc x (44 ∷ (l ++ 58 ∷ (y ++ 44 ∷ (n ++ 58 ∷ (z ++ 125 ∷ []))))) end)
      ∙ ap (λ (xs : List ℕ). 123 ∷ (k ++ 58 ∷ (x ++ 44 ∷ xs))) (append_assoc l (58 ∷ (y ++ 44 ∷ (n ++ 58 ∷ (z ++ 125 ∷ [])))) end)
      ∙ ap (λ (xs : List ℕ). 123 ∷ (k ++ 58 ∷ (x ++ 44 ∷ (l ++ 58 ∷ xs)))) (append_assoc y (44 ∷ (n ++ 58 ∷ (z ++ 125 ∷ []))) end)
      ∙ ap (λ (xs : List ℕ). 123 ∷ (k ++ 58 ∷ (x ++ 44 ∷ (l ++ 58 ∷ (y ++ 44 ∷ xs))))) (append_assoc n (58 ∷ (z ++ 125 ∷ [])) end)
      ∙ ap (λ (xs : List ℕ). 123 ∷ (k ++ 58 ∷ (x ++ 44 ∷ (l ++ 58 ∷ (y ++ 44 ∷ (n ++ 58 ∷ xs)))))) (append_assoc z (125 ∷ []) end)

-- three arrays, between parts of the object
pub object_written : (a b c d e f g h first second third fourth : List ℕ) (trees : MarkedTrees) → a ≡ [] → b ≡ a ++ first → c ≡ b ++ compact_text (trees_value trees.cycle) → d ≡ c ++ second
    → e ≡ d ++ compact_text (trees_value trees.multi) → f ≡ e ++ third → g ≡ f ++ compact_text (trees_value trees.none) → h ≡ g ++ fourth
    → first ≡ 123 ∷ (quoted (codes "cycle") ++ 58 ∷ []) → second ≡ 44 ∷ (quoted (codes "multi") ++ 58 ∷ []) → third ≡ 44 ∷ (quoted (codes "none") ++ 58 ∷ []) → fourth ≡ 125 ∷ 10 ∷ []
    → h ≡ compact_text (grove_value trees) ++ 10 ∷ []
object_written a b c d e f g h first second third fourth trees is_a is_b is_c is_d is_e is_f is_g is_h is_first is_second is_third is_fourth =
    is_h
    ∙ ap (λ (xs : List ℕ). xs ++ fourth) (is_g ∙ ap (λ (xs : List ℕ). xs ++ none) (is_f ∙ ap (λ (xs : List ℕ). xs ++ third) (is_e ∙ ap (λ (xs : List ℕ). xs ++ multi)
    (is_d ∙ ap (λ (xs : List ℕ). xs ++ second) (is_c ∙ ap (λ (xs : List ℕ). xs ++ cycle) (is_b ∙ ap (λ (xs : List ℕ). xs ++ first) is_a))))))
    ∙ literal first second third fourth is_first is_second is_third is_fourth
  where
    cycle : List ℕ
    cycle = compact_text (trees_value trees.cycle)

    multi : List ℕ
    multi = compact_text (trees_value trees.multi)

    none : List ℕ
    none = compact_text (trees_value trees.none)

    literal : (p q r s : List ℕ) → p ≡ 123 ∷ (quoted (codes "cycle") ++ 58 ∷ []) → q ≡ 44 ∷ (quoted (codes "multi") ++ 58 ∷ []) → r ≡ 44 ∷ (quoted (codes "none") ++ 58 ∷ []) → s ≡ 125 ∷ 10 ∷ []
        → ((((((p ++ cycle) ++ q) ++ multi) ++ r) ++ none) ++ s) ≡ compact_text (grove_value trees) ++ 10 ∷ []
    literal p q r s is_p is_q is_r is_s =
        seven_parts p cycle q multi r none s
        ∙ ap (λ (xs : List ℕ). xs ++ (cycle ++ (q ++ (multi ++ (r ++ (none ++ s)))))) is_p
        ∙ ap (λ (xs : List ℕ). (123 ∷ (quoted (codes "cycle") ++ 58 ∷ [])) ++ (cycle ++ (xs ++ (multi ++ (r ++ (none ++ s)))))) is_q
        ∙ ap (λ (xs : List ℕ). (123 ∷ (quoted (codes "cycle") ++ 58 ∷ [])) ++ (cycle ++ ((44 ∷ (quoted (codes "multi") ++ 58 ∷ [])) ++ (multi ++ (xs ++ (none ++ s)))))) is_r
        ∙ ap (λ (xs : List ℕ). (123 ∷ (quoted (codes "cycle") ++ 58 ∷ [])) ++ (cycle ++ ((44 ∷ (quoted (codes "multi") ++ 58 ∷ [])) ++ (multi ++ ((44 ∷ (quoted (codes "none") ++ 58 ∷ [])) ++ (none ++ xs)))))) is_s
        ∙ three_members (quoted (codes "cycle")) (quoted (codes "multi")) (quoted (codes "none")) cycle multi none
