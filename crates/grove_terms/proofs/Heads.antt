-- How often a vertex is a node of trees: once where the vertex that heads the tree stands on its chain.
use Rattle.std.proofs.Common.{◌≡◌, ℕ, ◌+◌, Bool, true, false, cond, ◌&&◌, ◌||◌, not, List, [], ◌∷◌, ◌++◌, filter, count_by, refl, sym, ap, subst, ◌∙◌, inl, inr, arith}
use Rattle.std.specs.List.{AllByRecursion}
use Rattle.std.specs.declared.cmp.Ordering.TheVariants.{Less}
use Rattle.std.specs.Ordering.{is_eq}
use Rattle.std.proofs.lemmas.Bool.{or_right}
use Rattle.edge_lattice.specs.declared.state.State.TheVariants.{Absent}
use Rattle.grove_edits.specs.declared.vertex.Vertex.{Vertex as VertexOf}
use Rattle.grove_edits.specs.declared.edge.Edge.{Edge}
use Rattle.grove_edits.specs.declared.edit.Edit.{Edit}
use Rattle.grove_edits.specs.Vertex.{vertex_cmp, is_same_vertex, stands_in}
use Rattle.grove_edits.specs.Edge.{IsWellFormed}
use Rattle.grove_edits.specs.Graph.{Graph, graph, is_same_edge}
use Rattle.graph_words.specs.declared.class.Class.{Class}
use Rattle.graph_words.specs.declared.class.Class.TheVariants.{NoParent, Multi, Cycle, Inner}
use Rattle.graph_words.specs.Live.{parents_of, holds_edge}
use Rattle.graph_words.specs.Class.{class, is_same_class, of_class}
use Rattle.graph_words.specs.Whole.{IsVertexOf, IsInVertexOrder, AreLive}
use Rattle.grove_edits.proofs.Vertices.{same_vertex_exact, same_vertex_laws}
use Rattle.graph_words.proofs.Chains.{IsChain, chain_top, has_chain, chain_apart, is_inner, not_inner_from_test, heads_on_chain}
use Rattle.grove_terms.specs.declared.grove.Grove.{Grove}
use Rattle.grove_terms.specs.declared.node.Node.{Node}
use Rattle.grove_terms.specs.Forest.{Forest, none, multi_ref, cycle_ref, tree, child_edges, edges_under, AreChildren}
use Rattle.grove_terms.specs.Nodes.{is_vertex_node, is_headed_by}
use Rattle.grove_terms.specs.Grove.{IsTreeOf, AreTreesOf, IsGrove, trees_nodes, nodes_in}
use Rattle.grove_terms.proofs.Totals.{once, total, count_is_total, total-append, total_alike, total_nothing, total_both, total_swapped}
use Rattle.grove_terms.proofs.EdgesUnder.{edges_of, total-edges_under}
use Rattle.grove_terms.proofs.WellSorted.{held_first, live_well_formed, stands_sorted}
use Rattle.grove_terms.proofs.Weights.{Weight, node_weight, forest_weight, tree_weight}

-- a node that is this vertex weighs one
abbrev pub vertex_weight : VertexOf → Weight
vertex_weight v edge what = once (is_vertex_node v what)

-- the vertex at the end of the edge heads no tree, and stands on the chain
abbrev pub leads : List Edge → VertexOf → List VertexOf → Edge → ℕ
leads live v ws e = once (is_inner live e.target && stands_in e.target (v ∷ ws))

-- a vertex is the first of a chain, or one of the others
once_joined : (live : List Edge) (v : VertexOf) (ws : List VertexOf) → IsChain live v ws → (u : VertexOf) → once (is_same_vertex v u) + once (stands_in u ws) ≡ once (stands_in u (v ∷ ws))
once_joined live v ws is u = by_test (is_same_vertex v u) refl where
  by_test : (b : Bool) → is_same_vertex v u ≡ b → once b + once (stands_in u ws) ≡ once (b || stands_in u ws)
  by_test true same =
      let apart : once (stands_in u ws) ≡ 0 = ap (λ z. once (stands_in z ws)) (sym (same_vertex_exact v u same)) ∙ ap once (chain_apart live v ws is) in
      omega arith
  by_test false other = omega arith

leads_nowhere : (live : List Edge) (v : VertexOf) → IsChain live v [] → (e : Edge) → leads live v [] e ≡ 0
leads_nowhere live v is e = by_test (is_same_vertex v e.target) refl where
  by_test : (b : Bool) → is_same_vertex v e.target ≡ b → once (is_inner live e.target && (b || false)) ≡ 0
  by_test true same =
      let outer : is_inner live e.target ≡ false = ap (is_inner live) (sym (same_vertex_exact v e.target same)) ∙ not_inner_from_test live v is in
      ap (λ c. once (c && true)) outer
  by_test false other = nothing (is_inner live e.target) where
    nothing : (c : Bool) → once (c && false) ≡ 0
    nothing true = refl
    nothing false = refl

leads_on : (live : List Edge) (v w : VertexOf) (ws : List VertexOf) → IsChain live v (w ∷ ws) → (e : Edge) → leads live v (w ∷ ws) e ≡ once (is_same_vertex e.target v) + leads live w ws e
leads_on live v w ws is e = by_test (is_same_vertex v e.target) refl ∙ ap (λ b. once b + leads live w ws e) (same_vertex_laws.symm v e.target) where
  by_test : (b : Bool) → is_same_vertex v e.target ≡ b → once (is_inner live e.target && (b || stands_in e.target (w ∷ ws))) ≡ once b + leads live w ws e
  by_test true same =
      let one : e.target ≡ v = sym (same_vertex_exact v e.target same) in
      let inner : is_inner live e.target ≡ true = ap (is_inner live) one ∙ ap (λ c. is_same_class c Inner) is.1 in
      let apart : stands_in e.target (w ∷ ws) ≡ false = ap (λ z. stands_in z (w ∷ ws)) one ∙ chain_apart live v (w ∷ ws) is in
      let first : once (is_inner live e.target && true) ≡ 1 = ap (λ c. once (c && true)) inner in
      let rest : leads live w ws e ≡ 0 = ap (λ c. once (is_inner live e.target && c)) apart ∙ ap (λ c. once (c && false)) inner in
      omega arith
  by_test false other = omega arith

-- of the live edges from a vertex one leads to a vertex of the chain, where the vertex stands on the chain behind the first one
leads_from : (live : List Edge) (v : VertexOf) (ws : List VertexOf) → IsChain live v ws → (u : VertexOf) → total (leads live v ws) (edges_of u live) ≡ once (stands_in u ws)
leads_from live v [] is u = total_nothing (leads live v []) (leads_nowhere live v is) (edges_of u live)
leads_from live v (w ∷ ws) is u =
    let split = total_alike (leads live v (w ∷ ws)) (λ e. once (is_same_vertex e.target v) + leads live w ws e) (leads_on live v w ws is) (edges_of u live) in
    let both = total_both (λ e. once (is_same_vertex e.target v)) (leads live w ws) (edges_of u live) in
    let swapped = total_swapped (λ (e : Edge). is_same_vertex e.source u) (λ (e : Edge). is_same_vertex e.target v) live in
    let sole : total (λ e. once (is_same_vertex e.source u)) (parents_of v live) ≡ once (is_same_vertex is.0.source u) + 0 = ap (total (λ e. once (is_same_vertex e.source u))) is.2 in
    let from : once (is_same_vertex is.0.source u) ≡ once (is_same_vertex w u) = ap (λ z. once (is_same_vertex z u)) is.3 in
    let rest = leads_from live w ws is.4 u in
    let joined = once_joined live w ws is.4 u in
    omega (arith, split, both, swapped, sole, from, rest, joined)

module _ (live : List Edge) (well : AllByRecursion IsWellFormed live) (v : VertexOf) (ws : List VertexOf) (is : IsChain live v ws) where
  leads_under : (u : VertexOf) → total (leads live v ws) (edges_under live u) ≡ once (stands_in u ws)
  leads_under u = total-edges_under (leads live v ws) u live well ∙ leads_from live v ws is u

  forest_heads : (forest : Forest) → AreChildren live forest → forest_weight (vertex_weight v) forest ≡ total (leads live v ws) (child_edges forest)
  forest_heads none are = refl
  forest_heads (multi_ref e rest) are =
      let here : leads live v ws e ≡ 0 = ap (λ c. once (is_same_class c Inner && stands_in e.target (v ∷ ws))) are.0 in
      let later = forest_heads rest are.1 in
      omega arith
  forest_heads (cycle_ref e rest) are =
      let here : leads live v ws e ≡ 0 = ap (λ c. once (is_same_class c Inner && stands_in e.target (v ∷ ws))) are.0 in
      let later = forest_heads rest are.1 in
      omega arith
  forest_heads (tree e below rest) are =
      let here : leads live v ws e ≡ once (stands_in e.target (v ∷ ws)) = ap (λ c. once (is_same_class c Inner && stands_in e.target (v ∷ ws))) are.0 in
      let under : forest_weight (vertex_weight v) below ≡ once (stands_in e.target ws) =
      forest_heads below are.2 ∙ ap (total (leads live v ws)) are.1 ∙ leads_under e.target in
      let joined = once_joined live v ws is e.target in
      let later = forest_heads rest are.3 in
      omega (arith, here, under, joined, later)

  tree_heads : (u : VertexOf) (nodes : List Node) → IsTreeOf live u nodes → total (node_weight (vertex_weight v)) nodes ≡ once (stands_in u (v ∷ ws))
  tree_heads u nodes t =
      let whole : total (node_weight (vertex_weight v)) nodes ≡ once (is_same_vertex v u) + forest_weight (vertex_weight v) t.forest =
      ap (total (node_weight (vertex_weight v))) t.listed ∙ tree_weight (vertex_weight v) (λ _. refl) (λ _ _. refl) u t.forest (stands_sorted live u t.forest well t.stands) in
      let under : forest_weight (vertex_weight v) t.forest ≡ once (stands_in u ws) =
      forest_heads t.forest t.stands.children ∙ ap (total (leads live v ws)) t.stands.edges ∙ leads_under u in
      whole ∙ ap (λ n. once (is_same_vertex v u) + n) under ∙ once_joined live v ws is u

  trees_heads : (us : List VertexOf) (ts : List (List Node)) → AreTreesOf live us ts → total (node_weight (vertex_weight v)) (trees_nodes ts) ≡ total (λ u. once (stands_in u (v ∷ ws))) us
  trees_heads [] [] are = refl
  trees_heads [] (t ∷ ts) are = absurd are
  trees_heads (u ∷ us) [] are = absurd are
  trees_heads (u ∷ us) (t ∷ ts) are =
      total-append (node_weight (vertex_weight v)) t (trees_nodes ts)
      ∙ ap (λ n. n + total (node_weight (vertex_weight v)) (trees_nodes ts)) (tree_heads u t are.0)
      ∙ ap (λ n. once (stands_in u (v ∷ ws)) + n) (trees_heads us ts are.1)

-- ---- all trees

-- the vertices that head a tree, by the three classes
by_classes : (live : List Edge) (g : VertexOf → ℕ) (us : List VertexOf)
    → total g (of_class NoParent live us) + (total g (of_class Multi live us) + total g (of_class Cycle live us)) ≡ total (λ u. cond (is_inner live u) 0 (g u)) us
by_classes live g [] = omega arith
by_classes live g (u ∷ us) = by_class (class live u) (by_classes live g us) where
  by_class : (c : Class) → total g (of_class NoParent live us) + (total g (of_class Multi live us) + total g (of_class Cycle live us)) ≡ total (λ x. cond (is_inner live x) 0 (g x)) us
      → total g (cond (is_same_class c NoParent) (u ∷ of_class NoParent live us) (of_class NoParent live us))
      + (total g (cond (is_same_class c Multi) (u ∷ of_class Multi live us) (of_class Multi live us)) + total g (cond (is_same_class c Cycle) (u ∷ of_class Cycle live us) (of_class Cycle live us)))
      ≡ cond (is_same_class c Inner) 0 (g u) + total (λ x. cond (is_inner live x) 0 (g x)) us
  by_class NoParent rest = omega arith
  by_class Multi rest = omega arith
  by_class Cycle rest = omega arith
  by_class Inner rest = omega arith

none_later : (z : VertexOf) (us : List VertexOf) → AllByRecursion (λ later. vertex_cmp z later ≡ Less) us → total (λ u. once (is_same_vertex z u)) us ≡ 0
none_later z [] later = refl
none_later z (u ∷ us) later =
    let here : once (is_same_vertex z u) ≡ 0 = ap (λ o. once (is_eq o)) later.0 in
    let rest = none_later z us later.1 in
    omega arith

-- a vertex stands once among vertices in order
once_in_order : (z : VertexOf) (us : List VertexOf) → IsInVertexOrder us → stands_in z us ≡ true → total (λ u. once (is_same_vertex z u)) us ≡ 1
once_in_order z [] in_order stands = absurd cc
once_in_order z (u ∷ us) in_order stands = by_test (is_same_vertex u z) refl stands (once_in_order z us in_order.1) where
  by_test : (b : Bool) → is_same_vertex u z ≡ b → (b || stands_in z us) ≡ true → (stands_in z us ≡ true → total (λ x. once (is_same_vertex z x)) us ≡ 1)
      → once (is_same_vertex z u) + total (λ x. once (is_same_vertex z x)) us ≡ 1
  by_test true same stands rest =
      let here : once (is_same_vertex z u) ≡ 1 = ap once (same_vertex_laws.symm z u ∙ same) in
      let none : total (λ x. once (is_same_vertex z x)) us ≡ 0 = none_later z us (subst (λ y. AllByRecursion (λ later. vertex_cmp y later ≡ Less) us) (same_vertex_exact u z same) in_order.0) in
      omega arith
  by_test false other stands rest =
      let here : once (is_same_vertex z u) ≡ 0 = ap once (same_vertex_laws.symm z u ∙ other) in
      let later = rest stands in
      omega arith

held-filter : (p : Edge → Bool) (e : Edge) (es : List Edge) → holds_edge e (filter p es) ≡ true → holds_edge e es ≡ true
held-filter p e [] held = held
held-filter p e (x ∷ es) held = by_test (p x) held (held-filter p e es) where
  by_test : (b : Bool) → holds_edge e (cond b (x ∷ filter p es) (filter p es)) ≡ true → (holds_edge e (filter p es) ≡ true → holds_edge e es ≡ true) → (is_same_edge x e || holds_edge e es) ≡ true
  by_test true held rest = by_first (is_same_edge x e) held where
    by_first : (c : Bool) → (c || holds_edge e (filter p es)) ≡ true → (c || holds_edge e es) ≡ true
    by_first true h = refl
    by_first false h = rest h
  by_test false held rest = or_right (is_same_edge x e) (holds_edge e es) (rest held)

-- the last vertex of the chain of a vertex is a vertex of the graph
top_is_vertex : (g : Graph) (live : List Edge) → AreLive g live → (v : VertexOf) (ws : List VertexOf) → IsChain live v ws → IsVertexOf g v → IsVertexOf g (chain_top v ws)
top_is_vertex g live are v [] is vertex = vertex
top_is_vertex g live are v (w ∷ ws) is vertex = top_is_vertex g live are w ws is.4 (inr (is.0, present, inl is.3)) where
  held : holds_edge is.0 live ≡ true
  held = held-filter (λ e. is_same_vertex e.target v) is.0 live (ap (holds_edge is.0) is.2 ∙ held_first is.0 [])

  present : g is.0 ≡ Absent → ⊥
  present absent = let lives = are.no_other is.0 held in cc

top_alone : (live : List Edge) (v : VertexOf) (ws : List VertexOf) → IsChain live v ws → (u : VertexOf) → cond (is_inner live u) 0 (once (stands_in u (v ∷ ws))) ≡ once (is_same_vertex (chain_top v ws) u)
top_alone live v ws is u = by_test (is_inner live u) ∙ ap once (heads_on_chain live v ws is u) where
  by_test : (b : Bool) → cond b 0 (once (stands_in u (v ∷ ws))) ≡ once (not b && stands_in u (v ∷ ws))
  by_test true = refl
  by_test false = refl

-- a vertex of the graph is one node of the grove
pub heads_one : (edits : List Edit) (grove : Grove) (v : VertexOf) → IsGrove (graph edits) grove → IsVertexOf (graph edits) v → total (node_weight (vertex_weight v)) (nodes_in grove) ≡ 1
heads_one edits grove v is vertex =
    let well = live_well_formed edits is.live is.are_live in
    let c = has_chain is.live v in
    let first = total-append (node_weight (vertex_weight v)) (trees_nodes grove.none) (trees_nodes grove.multi ++ trees_nodes grove.cycle) in
    let second = total-append (node_weight (vertex_weight v)) (trees_nodes grove.multi) (trees_nodes grove.cycle) in
    let none = trees_heads is.live well v c.above c.is (of_class NoParent is.live is.vertices) grove.none is.none in
    let multi = trees_heads is.live well v c.above c.is (of_class Multi is.live is.vertices) grove.multi is.multi in
    let cycle = trees_heads is.live well v c.above c.is (of_class Cycle is.live is.vertices) grove.cycle is.cycle in
    let split = by_classes is.live (λ u. once (stands_in u (v ∷ c.above))) is.vertices in
    let alone = total_alike (λ u. cond (is_inner is.live u) 0 (once (stands_in u (v ∷ c.above)))) (λ u. once (is_same_vertex (chain_top v c.above) u)) (top_alone is.live v c.above c.is) is.vertices in
    let top = top_is_vertex (graph edits) is.live is.are_live v c.above c.is vertex in
    let one = once_in_order (chain_top v c.above) is.vertices is.are_vertices.in_order (is.are_vertices.each (chain_top v c.above) top) in
    omega (arith, first, second, none, multi, cycle, split, alone, one)

pub count_heads : (edits : List Edit) (grove : Grove) (v : VertexOf) → IsGrove (graph edits) grove → IsVertexOf (graph edits) v → count_by (is_headed_by v) (nodes_in grove) ≡ 1
count_heads edits grove v is vertex = count_is_total (is_headed_by v) (nodes_in grove) ∙ heads_one edits grove v is vertex
