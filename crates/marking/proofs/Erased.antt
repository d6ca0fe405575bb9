-- Marking adds to nodes and changes none.
use Rattle.std.proofs.Common.{◌≡◌, ℕ, zero, suc, ◌+◌, Bool, true, false, cond, List, [], ◌∷◌, ◌++◌, map, refl, ap, ◌∙◌}
use Rattle.std.specs.Prelude.{if◌then◌else◌}
use Rattle.grove_sorts.specs.declared.position.Position.{Position}
use Rattle.grove_sorts.specs.declared.sort.Sort.{Sort}
use Rattle.grove_sorts.specs.declared.sort.Sort.TheVariants.{Top, Exp, Pat, Typ as TypeSort}
use Rattle.grove_sorts.specs.Ctor.{positions, sort_of_ctor}
use Rattle.grove_edits.specs.declared.vertex.Vertex.{Vertex as VertexOf}
use Rattle.grove_sorts.specs.Position.{is_same_position}
use Rattle.grove_terms.specs.declared.node.Node.{Node}
use Rattle.grove_terms.specs.declared.node.What.TheVariants.{Vertex, Hole, Conflict, MultiRef, CycleRef}
use Rattle.grove_terms.specs.Forest.{Forest, none, multi_ref, cycle_ref, tree}
use Rattle.grove_terms.specs.Nodes.{node_at, child_node, head_node, place_nodes, places_nodes, count_at, child_nodes, tree_nodes, nodes_under}
use Rattle.type_core.specs.Typ.{Typ}
use Rattle.mark_step.specs.Expression.{Wanted, Expression, Demanded}
use Rattle.mark_step.specs.Step.{demand}
use Rattle.mark_step.specs.Rows.{is_exp}
use Rattle.marking.specs.Marking.{MarkedNode, expression, judged_in, marked_plain, marked_vertex, marked_place, marked_places, marked_children, by_itself, marked_tree, synthesised_in}

abbrev pub nodes_of : List MarkedNode → List Node
nodes_of ms = map (λ m. m.node) ms

nodes_of-append : (xs ys : List MarkedNode) → nodes_of (xs ++ ys) ≡ nodes_of xs ++ nodes_of ys
nodes_of-append [] ys = refl
nodes_of-append (x ∷ xs) ys = ap (λ ns. x.node ∷ ns) (nodes_of-append xs ys)

pub node-plain : (s : Sort) (w : Wanted) (n : Node) → (marked_plain s w n).node ≡ n
node-plain Top w n = refl
node-plain Exp w n = refl
node-plain Pat w n = refl
node-plain TypeSort w n = refl

pub node-vertex : (s : Sort) (e : Expression) (f : Forest) (n : Node) → (marked_vertex s e f n).node ≡ n
node-vertex Top e f n = refl
node-vertex Exp e f n = refl
node-vertex Pat e f n = refl
node-vertex TypeSort e f n = refl

nodes-place : (n : ℕ) (marked : ℕ → Demanded → List MarkedNode) (nodes : ℕ → List Node) (depth : ℕ) (p : Position) (s : Sort) (d : Demanded)
    → ((at : ℕ) (demanded : Demanded) → nodes_of (marked at demanded) ≡ nodes at) → nodes_of (marked_place n marked depth p s d) ≡ place_nodes n nodes depth p s
nodes-place zero marked nodes depth p s d same = ap (λ n. n ∷ []) (node-plain s d.wanted (node_at depth p (Hole s)))
nodes-place (suc zero) marked nodes depth p s d same = same depth d
nodes-place (suc (suc n)) marked nodes depth p s d same =
    ap (λ x. x ∷ nodes_of (marked (depth + 1) (synthesised_in d))) (node-plain s d.wanted (node_at depth p (Conflict s (suc (suc n)))))
    ∙ ap (λ ns. node_at depth p (Conflict s (suc (suc n))) ∷ ns) (same (depth + 1) (synthesised_in d))

nodes-places : (e : Expression) (counts : Position → ℕ) (marked : ℕ → Position → Demanded → List MarkedNode) (judge : Position → Demanded → Typ) (nodes : ℕ → Position → List Node) (depth : ℕ)
    (ps : List (Position × Sort)) (before : List Typ) → ((at : ℕ) (q : Position) (demanded : Demanded) → nodes_of (marked at q demanded) ≡ nodes at q)
    → nodes_of (marked_places e counts marked judge depth ps before) ≡ places_nodes ps counts nodes depth
nodes-places e counts marked judge nodes depth [] before same = refl
nodes-places e counts marked judge nodes depth (p ∷ ps) before same =
    nodes_of-append (marked_place (counts p.0) (λ at d. marked at p.0 d) depth p.0 p.1 (demand e before)) (marked_places e counts marked judge depth ps (if is_exp p.1 then (before ++ judge p.0 (demand e before) ∷ []) else before))
    ∙ ap (λ ns. ns ++ nodes_of (marked_places e counts marked judge depth ps (if is_exp p.1 then (before ++ judge p.0 (demand e before) ∷ []) else before)))
    (nodes-place (counts p.0) (λ at d. marked at p.0 d) (λ at. nodes at p.0) depth p.0 p.1 (demand e before) (λ at d. same at p.0 d))
    ∙ ap (λ ns. place_nodes (counts p.0) (λ at. nodes at p.0) depth p.0 p.1 ++ ns)
    (nodes-places e counts marked judge nodes depth ps (if is_exp p.1 then (before ++ judge p.0 (demand e before) ∷ []) else before) same)

nodes-children : (f : Forest) (depth : ℕ) (p : Position) (d : Demanded) → nodes_of (marked_children f depth p d) ≡ child_nodes f depth p
nodes-children none depth p d = refl
nodes-children (multi_ref e rest) depth p d = by_test (is_same_position e.position p) (nodes-children rest depth p d) where
  by_test : (b : Bool) → nodes_of (marked_children rest depth p d) ≡ child_nodes rest depth p
      → nodes_of (cond b (marked_plain (sort_of_ctor e.target.ctor) d.wanted (child_node depth p e (MultiRef e.target)) ∷ marked_children rest depth p d) (marked_children rest depth p d))
      ≡ cond b (child_node depth p e (MultiRef e.target) ∷ child_nodes rest depth p) (child_nodes rest depth p)
  by_test true same = ap (λ n. n ∷ nodes_of (marked_children rest depth p d)) (node-plain (sort_of_ctor e.target.ctor) d.wanted (child_node depth p e (MultiRef e.target))) ∙ ap (λ ns. child_node depth p e (MultiRef e.target) ∷ ns) same
  by_test false same = same
nodes-children (cycle_ref e rest) depth p d = by_test (is_same_position e.position p) (nodes-children rest depth p d) where
  by_test : (b : Bool) → nodes_of (marked_children rest depth p d) ≡ child_nodes rest depth p
      → nodes_of (cond b (marked_plain (sort_of_ctor e.target.ctor) d.wanted (child_node depth p e (CycleRef e.target)) ∷ marked_children rest depth p d) (marked_children rest depth p d))
      ≡ cond b (child_node depth p e (CycleRef e.target) ∷ child_nodes rest depth p) (child_nodes rest depth p)
  by_test true same = ap (λ n. n ∷ nodes_of (marked_children rest depth p d)) (node-plain (sort_of_ctor e.target.ctor) d.wanted (child_node depth p e (CycleRef e.target))) ∙ ap (λ ns. child_node depth p e (CycleRef e.target) ∷ ns) same
  by_test false same = same
nodes-children (tree e below rest) depth p d =
    by_test (is_same_position e.position p)
    (nodes-places x (count_at below) (marked_children below) (judged_in below) (child_nodes below) (depth + 1) (positions e.target.ctor) [] (λ at q demanded. nodes-children below at q demanded))
    (nodes-children rest depth p d) where
      x : Expression
      x = expression e.target.ctor d.scope d.wanted below

      by_test : (b : Bool)
          → nodes_of (marked_places (expression e.target.ctor d.scope d.wanted below) (count_at below) (marked_children below) (judged_in below) (depth + 1) (positions e.target.ctor) []) ≡ nodes_under e.target below (depth + 1)
          → nodes_of (marked_children rest depth p d) ≡ child_nodes rest depth p
          → nodes_of (cond b (marked_vertex (sort_of_ctor e.target.ctor) (expression e.target.ctor d.scope d.wanted below) below (child_node depth p e (Vertex e.target))
          ∷ (marked_places (expression e.target.ctor d.scope d.wanted below) (count_at below) (marked_children below) (judged_in below) (depth + 1) (positions e.target.ctor) [] ++ marked_children rest depth p d)) (marked_children rest depth p d))
          ≡ cond b (child_node depth p e (Vertex e.target) ∷ (nodes_under e.target below (depth + 1) ++ child_nodes rest depth p)) (child_nodes rest depth p)
      by_test true below_same same =
          ap (λ n. n ∷ nodes_of (marked_places (expression e.target.ctor d.scope d.wanted below) (count_at below) (marked_children below) (judged_in below) (depth + 1) (positions e.target.ctor) [] ++ marked_children rest depth p d))
          (node-vertex (sort_of_ctor e.target.ctor) (expression e.target.ctor d.scope d.wanted below) below (child_node depth p e (Vertex e.target)))
          ∙ ap (λ ns. child_node depth p e (Vertex e.target) ∷ ns)
          (nodes_of-append (marked_places (expression e.target.ctor d.scope d.wanted below) (count_at below) (marked_children below) (judged_in below) (depth + 1) (positions e.target.ctor) []) (marked_children rest depth p d)
          ∙ ap (λ ns. ns ++ nodes_of (marked_children rest depth p d)) below_same ∙ ap (λ ns. nodes_under e.target below (depth + 1) ++ ns) same)
      by_test false below_same same = same

pub marked_erased : (v : VertexOf) (f : Forest) → nodes_of (marked_tree v f) ≡ tree_nodes v f
marked_erased v f =
    ap (λ n. n ∷ nodes_of (marked_places (by_itself v.ctor f) (count_at f) (marked_children f) (judged_in f) 1 (positions v.ctor) [])) (node-vertex (sort_of_ctor v.ctor) (by_itself v.ctor f) f (head_node v))
    ∙ ap (λ ns. head_node v ∷ ns) (nodes-places (by_itself v.ctor f) (count_at f) (marked_children f) (judged_in f) (child_nodes f) 1 (positions v.ctor) [] (λ at q d. nodes-children f at q d))
