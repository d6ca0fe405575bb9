-- How often an edge stands at the places of trees: as often as it is live, at each node that is its source.
use Rattle.std.proofs.Common.{◌≡◌, ◌≢◌, ℕ, ◌+◌, ◌*◌, Bool, true, false, cond, ◌||◌, List, [], ◌∷◌, ◌++◌, count_by, Option, Some, None, refl, ap, subst, ◌∙◌, inl, inr, arith}
use Rattle.std.specs.List.{AllByRecursion}
use Rattle.std.specs.declared.cmp.Ordering.TheVariants.{Less}
use Rattle.std.specs.Ordering.{is_eq}
use Rattle.edge_lattice.specs.declared.state.State.TheVariants.{Absent, Live}
use Rattle.grove_edits.specs.declared.vertex.Vertex.{Vertex as VertexOf}
use Rattle.grove_edits.specs.declared.edge.Edge.{Edge}
use Rattle.grove_edits.specs.declared.edit.Edit.{Edit}
use Rattle.grove_edits.specs.Edge.{IsWellFormed, edge_cmp}
use Rattle.grove_edits.specs.Graph.{graph, is_same_edge}
use Rattle.grove_edits.proofs.Orders.{one_edge, same_edge_laws}
use Rattle.graph_words.specs.Live.{IsInEdgeOrder, holds_edge}
use Rattle.grove_edits.specs.Vertex.{is_same_vertex}
use Rattle.grove_terms.specs.declared.grove.Grove.{Grove}
use Rattle.grove_terms.specs.declared.node.Node.{Node}
use Rattle.grove_terms.specs.Forest.{Forest, none, multi_ref, cycle_ref, tree, child_edges, edges_under, AreChildren}
use Rattle.grove_terms.specs.Nodes.{node_edges, edge_before}
use Rattle.grove_terms.specs.Grove.{IsTreeOf, AreTreesOf, IsGrove, trees_nodes, nodes_in, trees_edges, edges_in}
use Rattle.grove_terms.proofs.Totals.{once, total, count_is_total, total-append}
use Rattle.grove_terms.proofs.EdgesUnder.{edges_of, total-edges_under}
use Rattle.grove_terms.proofs.WellSorted.{live_well_formed, stands_sorted}
use Rattle.grove_terms.proofs.Weights.{Weight, node_weight, forest_weight, tree_weight}
use Rattle.grove_terms.proofs.Heads.{vertex_weight, heads_one}

-- how often the edge is the one of a node
abbrev once_at : Edge → Option Edge → ℕ
once_at e None = 0
once_at e (Some x) = once (is_same_edge e x)

-- a node with this edge weighs one
abbrev edge_weight : Edge → Weight
edge_weight e edge what = once_at e edge

-- how often the edge stands in a list
abbrev times : Edge → List Edge → ℕ
times e es = total (λ x. once (is_same_edge e x)) es

-- ---- the live edges

none_later : (e : Edge) (es : List Edge) → AllByRecursion (λ later. edge_cmp e later ≡ Less) es → times e es ≡ 0
none_later e [] later = refl
none_later e (x ∷ es) later =
    let here : once (is_same_edge e x) ≡ 0 = ap (λ o. once (is_eq o)) later.0 in
    let rest = none_later e es later.1 in
    omega arith

-- an edge stands once among edges in order
times_held : (e : Edge) (es : List Edge) → IsInEdgeOrder es → times e es ≡ once (holds_edge e es)
times_held e [] in_order = refl
times_held e (x ∷ es) in_order = by_test (is_same_edge x e) refl (times_held e es in_order.1) where
  by_test : (b : Bool) → is_same_edge x e ≡ b → times e es ≡ once (holds_edge e es) → once (is_same_edge e x) + times e es ≡ once (b || holds_edge e es)
  by_test true same rest =
      let here : once (is_same_edge e x) ≡ 1 = ap once (same_edge_laws.symm e x ∙ same) in
      let none : times e es ≡ 0 = none_later e es (subst (λ y. AllByRecursion (λ later. edge_cmp y later ≡ Less) es) (one_edge x e same) in_order.0) in
      omega arith
  by_test false other rest =
      let here : once (is_same_edge e x) ≡ 0 = ap once (same_edge_laws.symm e x ∙ other) in
      omega arith

-- the edge stands among the live edges from its source as often as among all live ones, and not among those from another vertex
times_from : (e : Edge) (u : VertexOf) (live : List Edge) → times e (edges_of u live) ≡ once (is_same_vertex e.source u) * times e live
times_from e u [] = omega arith
times_from e u (x ∷ live) = by_tests (is_same_edge e x) (is_same_vertex x.source u) refl refl (times_from e u live) where
  by_tests : (a b : Bool) → is_same_edge e x ≡ a → is_same_vertex x.source u ≡ b → times e (edges_of u live) ≡ once (is_same_vertex e.source u) * times e live
      → times e (cond b (x ∷ edges_of u live) (edges_of u live)) ≡ once (is_same_vertex e.source u) * (once a + times e live)
  by_tests true true same from rest =
      let here : once (is_same_vertex e.source u) ≡ 1 = ap (λ (y : Edge). once (is_same_vertex y.source u)) (one_edge e x same) ∙ ap once from in
      let first : once (is_same_edge e x) ≡ 1 = ap once same in
      more (once (is_same_edge e x)) (times e (edges_of u live)) (once (is_same_vertex e.source u)) (times e live) first here rest
    where
      more : (a b c d : ℕ) → a ≡ 1 → c ≡ 1 → b ≡ c * d → a + b ≡ c * (1 + d)
      more a b c d first here rest = rw (first, here) (omega (arith, rest, here, one_over c d here))
        where
          one_over : (c d : ℕ) → c ≡ 1 → c * d ≡ d
          one_over c d is = ap (λ n. n * d) is ∙ omega arith
  by_tests true false same other rest =
      let here : once (is_same_vertex e.source u) ≡ 0 = ap (λ (y : Edge). once (is_same_vertex y.source u)) (one_edge e x same) ∙ ap once other in
      none (times e (edges_of u live)) (once (is_same_vertex e.source u)) (times e live) here rest
    where
      none : (b c d : ℕ) → c ≡ 0 → b ≡ c * d → b ≡ c * (1 + d)
      none b c d here rest = omega arith
  by_tests false true differs from rest =
      let first : once (is_same_edge e x) ≡ 0 = ap once differs in
      same_more (once (is_same_edge e x)) (times e (edges_of u live)) (once (is_same_vertex e.source u)) (times e live) first rest
    where
      same_more : (a b c d : ℕ) → a ≡ 0 → b ≡ c * d → a + b ≡ c * (0 + d)
      same_more a b c d first rest = omega arith
  by_tests false false differs other rest = nothing (times e (edges_of u live)) (once (is_same_vertex e.source u)) (times e live) rest where
    nothing : (b c d : ℕ) → b ≡ c * d → b ≡ c * (0 + d)
    nothing b c d rest = omega arith

-- ---- the edges of nodes

times-node_edges : (e : Edge) (ns : List Node) → times e (node_edges ns) ≡ total (node_weight (edge_weight e)) ns
times-node_edges e [] = refl
times-node_edges e (n ∷ ns) = by_edge n.edge ∙ ap (λ m. once_at e n.edge + m) (times-node_edges e ns) where
  by_edge : (o : Option Edge) → times e (edge_before o (node_edges ns)) ≡ once_at e o + times e (node_edges ns)
  by_edge None = omega arith
  by_edge (Some x) = refl

times-trees_edges : (e : Edge) (ts : List (List Node)) → times e (trees_edges ts) ≡ total (node_weight (edge_weight e)) (trees_nodes ts)
times-trees_edges e [] = refl
times-trees_edges e (t ∷ ts) =
    let first = total-append (λ x. once (is_same_edge e x)) (node_edges t) (trees_edges ts) in
    let second = total-append (node_weight (edge_weight e)) t (trees_nodes ts) in
    let here = times-node_edges e t in
    let rest = times-trees_edges e ts in
    omega (arith, first, second, here, rest)

module _ (live : List Edge) (well : AllByRecursion IsWellFormed live) (e : Edge) where
  times_under : (u : VertexOf) → times e (edges_under live u) ≡ once (is_same_vertex e.source u) * times e live
  times_under u = total-edges_under (λ x. once (is_same_edge e x)) u live well ∙ times_from e u live

  forest_times : (forest : Forest) → AreChildren live forest
      → forest_weight (edge_weight e) forest ≡ times e (child_edges forest) + forest_weight (vertex_weight e.source) forest * times e live
  forest_times none are = omega arith
  forest_times (multi_ref x rest) are = let later = forest_times rest are.1 in omega arith
  forest_times (cycle_ref x rest) are = let later = forest_times rest are.1 in omega arith
  forest_times (tree x below rest) are =
      let under : times e (child_edges below) ≡ once (is_same_vertex e.source x.target) * times e live = ap (times e) are.1 ∙ times_under x.target in
      sums (once (is_same_edge e x)) (forest_weight (edge_weight e) below) (forest_weight (edge_weight e) rest) (times e (child_edges rest)) (once (is_same_vertex e.source x.target))
      (forest_weight (vertex_weight e.source) below) (forest_weight (vertex_weight e.source) rest) (times e live) (times e (child_edges below))
      under (forest_times below are.2) (forest_times rest are.3)
    where
      sums : (o b r c s hb hr n cb : ℕ) → cb ≡ s * n → b ≡ cb + hb * n → r ≡ c + hr * n → (o + b) + r ≡ (o + c) + ((s + hb) + hr) * n
      sums o b r c s hb hr n cb under below rest = omega arith

  tree_times : (u : VertexOf) (nodes : List Node) → IsTreeOf live u nodes
      → total (node_weight (edge_weight e)) nodes ≡ total (node_weight (vertex_weight e.source)) nodes * times e live
  tree_times u nodes t =
      let sorted = stands_sorted live u t.forest well t.stands in
      let edges : total (node_weight (edge_weight e)) nodes ≡ 0 + forest_weight (edge_weight e) t.forest =
      ap (total (node_weight (edge_weight e))) t.listed ∙ tree_weight (edge_weight e) (λ _. refl) (λ _ _. refl) u t.forest sorted in
      let heads : total (node_weight (vertex_weight e.source)) nodes ≡ once (is_same_vertex e.source u) + forest_weight (vertex_weight e.source) t.forest =
      ap (total (node_weight (vertex_weight e.source))) t.listed ∙ tree_weight (vertex_weight e.source) (λ _. refl) (λ _ _. refl) u t.forest sorted in
      let under : times e (child_edges t.forest) ≡ once (is_same_vertex e.source u) * times e live = ap (times e) t.stands.edges ∙ times_under u in
      sums (total (node_weight (edge_weight e)) nodes) (total (node_weight (vertex_weight e.source)) nodes) (forest_weight (edge_weight e) t.forest) (once (is_same_vertex e.source u))
      (forest_weight (vertex_weight e.source) t.forest) (times e (child_edges t.forest)) (times e live) edges heads under (forest_times t.forest t.stands.children)
    where
      sums : (a b f s h c n : ℕ) → a ≡ 0 + f → b ≡ s + h → c ≡ s * n → f ≡ c + h * n → a ≡ b * n
      sums a b f s h c n edges heads under forest =
          let b_n : b * n ≡ (s + h) * n = ap (λ m. m * n) heads in
          omega arith

  trees_times : (us : List VertexOf) (ts : List (List Node)) → AreTreesOf live us ts
      → total (node_weight (edge_weight e)) (trees_nodes ts) ≡ total (node_weight (vertex_weight e.source)) (trees_nodes ts) * times e live
  trees_times [] [] are = omega arith
  trees_times [] (t ∷ ts) are = absurd are
  trees_times (u ∷ us) [] are = absurd are
  trees_times (u ∷ us) (t ∷ ts) are =
      sums _ _ _ _ _ _ (times e live)
      (total-append (node_weight (edge_weight e)) t (trees_nodes ts)) (total-append (node_weight (vertex_weight e.source)) t (trees_nodes ts))
      (tree_times u t are.0) (trees_times us ts are.1)
    where
      sums : (a a1 a2 b b1 b2 n : ℕ) → a ≡ a1 + a2 → b ≡ b1 + b2 → a1 ≡ b1 * n → a2 ≡ b2 * n → a ≡ b * n
      sums a a1 a2 b b1 b2 n both heads first rest =
          let b_n : b * n ≡ (b1 + b2) * n = ap (λ m. m * n) heads in
          omega arith

-- an edge stands in the grove as often as it is live, at each node that is its source
times_in_grove : (edits : List Edit) (grove : Grove) (e : Edge) (is : IsGrove (graph edits) grove)
    → times e (edges_in grove) ≡ total (node_weight (vertex_weight e.source)) (nodes_in grove) * times e is.live
times_in_grove edits grove e is =
    let well = live_well_formed edits is.live is.are_live in
    let edges_first = total-append (λ x. once (is_same_edge e x)) (trees_edges grove.none) (trees_edges grove.multi ++ trees_edges grove.cycle) in
    let edges_second = total-append (λ x. once (is_same_edge e x)) (trees_edges grove.multi) (trees_edges grove.cycle) in
    let heads_first = total-append (node_weight (vertex_weight e.source)) (trees_nodes grove.none) (trees_nodes grove.multi ++ trees_nodes grove.cycle) in
    let heads_second = total-append (node_weight (vertex_weight e.source)) (trees_nodes grove.multi) (trees_nodes grove.cycle) in
    sums _ _ _ _ _ _ _ _ (times e is.live) (edges_first ∙ ap (λ n. times e (trees_edges grove.none) + n) edges_second)
    (heads_first ∙ ap (λ n. total (node_weight (vertex_weight e.source)) (trees_nodes grove.none) + n) heads_second)
    (times-trees_edges e grove.none ∙ trees_times is.live well e _ grove.none is.none)
    (times-trees_edges e grove.multi ∙ trees_times is.live well e _ grove.multi is.multi)
    (times-trees_edges e grove.cycle ∙ trees_times is.live well e _ grove.cycle is.cycle)
  where
    sums : (a a1 a2 a3 b b1 b2 b3 n : ℕ) → a ≡ a1 + (a2 + a3) → b ≡ b1 + (b2 + b3) → a1 ≡ b1 * n → a2 ≡ b2 * n → a3 ≡ b3 * n → a ≡ b * n
    sums a a1 a2 a3 b b1 b2 b3 n edges heads one two three =
        let b_n : b * n ≡ (b1 + (b2 + b3)) * n = ap (λ m. m * n) heads in
        omega arith

pub count_live : (edits : List Edit) (grove : Grove) (e : Edge) → IsGrove (graph edits) grove → graph edits e ≡ Live → count_by (is_same_edge e) (edges_in grove) ≡ 1
count_live edits grove e is lives =
    let present : graph edits e ≢ Absent = λ absent. cc in
    let heads = heads_one edits grove e.source is (inr (e, present, inl refl)) in
    let held : times e is.live ≡ 1 = times_held e is.live is.are_live.in_order ∙ ap once (is.are_live.each e lives) in
    count_is_total (is_same_edge e) (edges_in grove) ∙ times_in_grove edits grove e is ∙ ap (λ n. n * times e is.live) heads ∙ ap (λ n. 1 * n) held

pub count_other : (edits : List Edit) (grove : Grove) (e : Edge) → IsGrove (graph edits) grove → graph edits e ≢ Live → count_by (is_same_edge e) (edges_in grove) ≡ 0
count_other edits grove e is other =
    let none : times e is.live ≡ 0 = times_held e is.live is.are_live.in_order ∙ by_test (holds_edge e is.live) refl in
    count_is_total (is_same_edge e) (edges_in grove) ∙ times_in_grove edits grove e is
    ∙ ap (λ n. total (node_weight (vertex_weight e.source)) (nodes_in grove) * n) none ∙ nothing (total (node_weight (vertex_weight e.source)) (nodes_in grove))
  where
    by_test : (b : Bool) → holds_edge e is.live ≡ b → once (holds_edge e is.live) ≡ 0
    by_test true held = absurd (other (is.are_live.no_other e held))
    by_test false not_held = ap once not_held

    nothing : (n : ℕ) → n * 0 ≡ 0
    nothing n = omega arith
