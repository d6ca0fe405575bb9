-- Sums over the nodes of a tree: each child is listed at one position.
use Rattle.std.proofs.Common.{◌≡◌, ℕ, zero, suc, ◌+◌, Bool, true, false, cond, List, [], ◌∷◌, ◌++◌, Option, Some, None, refl, sym, ap, ◌∙◌, arith}
use Rattle.std.specs.List.{AllByRecursion}
use Rattle.grove_sorts.specs.declared.position.Position.{Position}
use Rattle.grove_sorts.specs.declared.sort.Sort.{Sort}
use Rattle.grove_sorts.specs.Ctor.{positions}
use Rattle.grove_edits.specs.declared.vertex.Vertex.{Vertex as VertexOf}
use Rattle.grove_edits.specs.declared.edge.Edge.{Edge}
use Rattle.grove_sorts.specs.Position.{is_same_position}
use Rattle.grove_terms.specs.declared.node.Node.{Node}
use Rattle.grove_terms.specs.declared.node.What.{What}
use Rattle.grove_terms.specs.declared.node.What.TheVariants.{Vertex, Hole, Conflict, MultiRef, CycleRef}
use Rattle.grove_terms.specs.Forest.{Forest, none, multi_ref, cycle_ref, tree, child_edges, IsChildOf, IsWellSorted}
use Rattle.grove_terms.specs.Nodes.{child_node, place_nodes, places_nodes, count_at, child_nodes, nodes_under, tree_nodes}
use Rattle.grove_terms.proofs.Table.{occurs, occurs_once}
use Rattle.grove_terms.proofs.Totals.{total, total-append, spread, spread_all}

-- what a node weighs, by its edge and by what it is
abbrev pub Weight : Type 0
Weight = Option Edge → What → ℕ

abbrev pub node_weight : Weight → Node → ℕ
node_weight w n = w n.edge n.what

-- the edge of each child, with what it and all under it weigh
abbrev pub weighed : Weight → Forest → List (Edge × ℕ)
weighed w none = []
weighed w (multi_ref e rest) = (e, w (Some e) (MultiRef e.target)) ∷ weighed w rest
weighed w (cycle_ref e rest) = (e, w (Some e) (CycleRef e.target)) ∷ weighed w rest
weighed w (tree e below rest) = (e, w (Some e) (Vertex e.target) + total (λ x. x.1) (weighed w below)) ∷ weighed w rest

-- what all that stands under a vertex weighs
abbrev pub forest_weight : Weight → Forest → ℕ
forest_weight w forest = total (λ x. x.1) (weighed w forest)

-- what the children at a position weigh
abbrev weight_at : Weight → Forest → Position → ℕ
weight_at w forest p = total (λ x. cond (is_same_position x.0.position p) x.1 0) (weighed w forest)

none_listed : (forest : Forest) (depth : ℕ) (p : Position) → count_at forest p ≡ 0 → child_nodes forest depth p ≡ []
none_listed none depth p is = refl
none_listed (multi_ref e rest) depth p is = by_test (is_same_position e.position p) is (none_listed rest depth p) where
  by_test : (b : Bool) → cond b (suc (count_at rest p)) (count_at rest p) ≡ 0 → (count_at rest p ≡ 0 → child_nodes rest depth p ≡ [])
      → cond b (child_node depth p e (MultiRef e.target) ∷ child_nodes rest depth p) (child_nodes rest depth p) ≡ []
  by_test true is later = absurd (omega arith)
  by_test false is later = later is
none_listed (cycle_ref e rest) depth p is = by_test (is_same_position e.position p) is (none_listed rest depth p) where
  by_test : (b : Bool) → cond b (suc (count_at rest p)) (count_at rest p) ≡ 0 → (count_at rest p ≡ 0 → child_nodes rest depth p ≡ [])
      → cond b (child_node depth p e (CycleRef e.target) ∷ child_nodes rest depth p) (child_nodes rest depth p) ≡ []
  by_test true is later = absurd (omega arith)
  by_test false is later = later is
none_listed (tree e below rest) depth p is = by_test (is_same_position e.position p) is (none_listed rest depth p) where
  by_test : (b : Bool) → cond b (suc (count_at rest p)) (count_at rest p) ≡ 0 → (count_at rest p ≡ 0 → child_nodes rest depth p ≡ [])
      → cond b (child_node depth p e (Vertex e.target) ∷ (places_nodes (positions e.target.ctor) (count_at below) (child_nodes below) (depth + 1) ++ child_nodes rest depth p)) (child_nodes rest depth p) ≡ []
  by_test true is later = absurd (omega arith)
  by_test false is later = later is

-- the position of a child stands once among those of the vertex
pub child_once : (v : VertexOf) (e : Edge) (others : List Edge) → IsChildOf v e others → occurs e.position (positions v.ctor) ≡ 1
child_once v e others is = ap (λ (u : VertexOf). occurs e.position (positions u.ctor)) (sym is.source) ∙ occurs_once e is.well_formed

-- each child stands at one position of the vertex
placed_once : (w : Weight) (v : VertexOf) (forest : Forest) → IsWellSorted v forest → AllByRecursion (λ x. occurs x.0.position (positions v.ctor) ≡ 1) (weighed w forest)
placed_once w v none sorted = tt
placed_once w v (multi_ref e rest) sorted = (child_once v e (child_edges rest) sorted.0, placed_once w v rest sorted.1)
placed_once w v (cycle_ref e rest) sorted = (child_once v e (child_edges rest) sorted.0, placed_once w v rest sorted.1)
placed_once w v (tree e below rest) sorted = (child_once v e (child_edges rest) sorted.0, placed_once w v rest sorted.2)

module _ (w : Weight) (hole : (sort : Sort) → w None (Hole sort) ≡ 0) (conflict : (sort : Sort) (n : ℕ) → w None (Conflict sort n) ≡ 0) where
  place_weight : (forest : Forest) (p : Position) (sort : Sort) → ((depth : ℕ) → total (node_weight w) (child_nodes forest depth p) ≡ weight_at w forest p)
      → (depth : ℕ) → total (node_weight w) (place_nodes (count_at forest p) (λ d. child_nodes forest d p) depth p sort) ≡ weight_at w forest p
  place_weight forest p sort children depth = by_count (count_at forest p) refl where
    by_count : (n : ℕ) → count_at forest p ≡ n → total (node_weight w) (place_nodes n (λ d. child_nodes forest d p) depth p sort) ≡ weight_at w forest p
    by_count zero is =
        let nothing : 0 ≡ weight_at w forest p = sym (ap (total (node_weight w)) (none_listed forest depth p is)) ∙ children depth in
        let empty = hole sort in
        omega arith
    by_count (suc zero) is = children depth
    by_count (suc (suc n)) is =
        let rest = children (depth + 1) in
        let first = conflict sort (suc (suc n)) in
        omega arith

  places_weight : (forest : Forest) → ((depth : ℕ) (p : Position) → total (node_weight w) (child_nodes forest depth p) ≡ weight_at w forest p)
      → (ps : List (Position × Sort)) (depth : ℕ) → total (node_weight w) (places_nodes ps (count_at forest) (child_nodes forest) depth) ≡ spread (λ x. x.0.position) (λ x. x.1) ps (weighed w forest)
  places_weight forest children [] depth = refl
  places_weight forest children (p ∷ ps) depth =
      total-append (node_weight w) (place_nodes (count_at forest p.0) (λ d. child_nodes forest d p.0) depth p.0 p.1) (places_nodes ps (count_at forest) (child_nodes forest) depth)
      ∙ ap (λ n. n + total (node_weight w) (places_nodes ps (count_at forest) (child_nodes forest) depth)) (place_weight forest p.0 p.1 (λ d. children d p.0) depth)
      ∙ ap (λ n. weight_at w forest p.0 + n) (places_weight forest children ps depth)

  under_from_children : (v : VertexOf) (forest : Forest) → IsWellSorted v forest → ((depth : ℕ) (p : Position) → total (node_weight w) (child_nodes forest depth p) ≡ weight_at w forest p)
      → (depth : ℕ) → total (node_weight w) (nodes_under v forest depth) ≡ forest_weight w forest
  under_from_children v forest sorted children depth =
      places_weight forest children (positions v.ctor) depth
      ∙ spread_all (λ x. x.0.position) (λ x. x.1) (positions v.ctor) (weighed w forest) (placed_once w v forest sorted)

  children_weight : (v : VertexOf) (forest : Forest) → IsWellSorted v forest → (depth : ℕ) (p : Position) → total (node_weight w) (child_nodes forest depth p) ≡ weight_at w forest p
  children_weight v none sorted depth p = refl
  children_weight v (multi_ref e rest) sorted depth p = by_test (is_same_position e.position p) (children_weight v rest sorted.1 depth p) where
    by_test : (b : Bool) → total (node_weight w) (child_nodes rest depth p) ≡ weight_at w rest p
        → total (node_weight w) (cond b (child_node depth p e (MultiRef e.target) ∷ child_nodes rest depth p) (child_nodes rest depth p)) ≡ cond b (w (Some e) (MultiRef e.target)) 0 + weight_at w rest p
    by_test true later = omega arith
    by_test false later = omega arith
  children_weight v (cycle_ref e rest) sorted depth p = by_test (is_same_position e.position p) (children_weight v rest sorted.1 depth p) where
    by_test : (b : Bool) → total (node_weight w) (child_nodes rest depth p) ≡ weight_at w rest p
        → total (node_weight w) (cond b (child_node depth p e (CycleRef e.target) ∷ child_nodes rest depth p) (child_nodes rest depth p)) ≡ cond b (w (Some e) (CycleRef e.target)) 0 + weight_at w rest p
    by_test true later = omega arith
    by_test false later = omega arith
  children_weight v (tree e below rest) sorted depth p =
      by_test (is_same_position e.position p) (children_weight v rest sorted.2 depth p)
      (under_from_children e.target below sorted.1 (λ d q. children_weight e.target below sorted.1 d q) (depth + 1))
    where
      by_test : (b : Bool) → total (node_weight w) (child_nodes rest depth p) ≡ weight_at w rest p
          → total (node_weight w) (nodes_under e.target below (depth + 1)) ≡ forest_weight w below
          → total (node_weight w) (cond b (child_node depth p e (Vertex e.target) ∷ (nodes_under e.target below (depth + 1) ++ child_nodes rest depth p)) (child_nodes rest depth p))
          ≡ cond b (w (Some e) (Vertex e.target) + forest_weight w below) 0 + weight_at w rest p
      by_test true later under =
          let both = total-append (node_weight w) (nodes_under e.target below (depth + 1)) (child_nodes rest depth p) in
          omega arith
      by_test false later under = omega arith

  -- the nodes under a vertex weigh what all that stands under it weighs
  pub under_weight : (v : VertexOf) (forest : Forest) → IsWellSorted v forest → (depth : ℕ) → total (node_weight w) (nodes_under v forest depth) ≡ forest_weight w forest
  under_weight v forest sorted depth = under_from_children v forest sorted (children_weight v forest sorted) depth

  pub tree_weight : (v : VertexOf) (forest : Forest) → IsWellSorted v forest → total (node_weight w) (tree_nodes v forest) ≡ w None (Vertex v) + forest_weight w forest
  tree_weight v forest sorted = ap (λ n. w None (Vertex v) + n) (under_weight v forest sorted 1)
