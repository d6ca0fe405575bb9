-- The nodes of a tree, told by the records of a graph, are those of its marking.
use Rattle.std.proofs.Common.{◌≡◌, ℕ, zero, suc, ◌+◌, Bool, true, false, cond, List, [], ◌∷◌, ◌++◌, map, Some, refl, sym, ap, subst, ◌∙◌}
use Rattle.std.specs.List.{AllByRecursion}
use Rattle.grove_sorts.specs.declared.position.Position.{Position}
use Rattle.grove_sorts.specs.declared.sort.Sort.{Sort}
use Rattle.grove_sorts.specs.Ctor.{positions}
use Rattle.grove_sorts.specs.Position.{is_same_position}
use Rattle.grove_edits.specs.declared.vertex.Vertex.{Vertex as VertexOf}
use Rattle.grove_edits.specs.declared.edge.Edge.{Edge}
use Rattle.grove_edits.specs.declared.edit.Edit.{Edit}
use Rattle.grove_edits.specs.Edge.{IsWellFormed}
use Rattle.grove_edits.specs.Graph.{Graph, graph}
use Rattle.graph_words.specs.declared.class.Class.TheVariants.{Inner}
use Rattle.graph_words.specs.Class.{class}
use Rattle.graph_words.specs.Whole.{IsVertexOf, AreLive}
use Rattle.grove_terms.specs.declared.node.Node.{Node}
use Rattle.grove_terms.specs.declared.node.What.{What}
use Rattle.grove_terms.specs.declared.node.What.TheVariants.{Vertex, Hole, Conflict, MultiRef, CycleRef}
use Rattle.grove_terms.specs.Forest.{Forest, none, multi_ref, cycle_ref, tree, child_edges, edges_under, AreChildren, StandsUnder}
use Rattle.grove_terms.specs.Nodes.{child_node, place_nodes, places_nodes, count_at, child_nodes, nodes_under, tree_nodes}
use Rattle.grove_terms.proofs.InLive.{IsFrom, under_lead}
use Rattle.grove_terms.proofs.WellSorted.{live_well_formed, stands_sorted}
use Rattle.mark_step.specs.Expression.{Wanted}
use Rattle.marking.specs.Marking.{MarkedNode, marked_tree}
use Rattle.marking.proofs.Erased.{marked_erased}
use Rattle.kept_records.specs.Kept.{Records, AreKept}
use Rattle.kept_records.specs.Told.{IsToldOf, TellsAs, Tells}
use Rattle.kept_records.proofs.Standing.{one_kept}
use Rattle.kept_records.proofs.Scratch.{target_vertex}
use Rattle.kept_records.proofs.Told.{tree_tells}
use Rattle.kept_printer.specs.Above.{Above, wanted_below, up_to, node_kept, node_told_as, above_after, nodes_told}
use Rattle.kept_printer.proofs.Explained.{explained_as, AreExplained}
use Rattle.kept_printer.proofs.Places.{tree_explained}

all_behind : {X : Type 0} (P : X → Type 0) (xs ys : List X) → AllByRecursion P xs → AllByRecursion P ys → AllByRecursion P (xs ++ ys)
all_behind P [] ys a b = b
all_behind P (x ∷ xs) ys a b = (a.0, all_behind P xs ys a.1 b)

-- ---- the vertices of the nodes of a tree

-- a node that is a vertex is one of these
abbrev IsOneOf : (VertexOf → Type 0) → What → Type 0
IsOneOf K (Vertex v) = K v
IsOneOf K (Hole s) = Unit {0}
IsOneOf K (Conflict s n) = Unit {0}
IsOneOf K (MultiRef v) = Unit {0}
IsOneOf K (CycleRef v) = Unit {0}

module _ (live : List Edge) (K : VertexOf → Type 0) (targets : (v : VertexOf) → AllByRecursion (λ (e : Edge). K e.target) (edges_under live v)) where
  abbrev AreKnown : List Node → Type 0
  AreKnown ns = AllByRecursion (λ (n : Node). IsOneOf K n.what) ns

  place_known : (n : ℕ) (children : ℕ → List Node) → ((depth : ℕ) → AreKnown (children depth)) → (depth : ℕ) (p : Position) (s : Sort) → AreKnown (place_nodes n children depth p s)
  place_known zero children known depth p s = (tt, tt)
  place_known (suc zero) children known depth p s = known depth
  place_known (suc (suc n)) children known depth p s = (tt, known (depth + 1))

  places_known : (ps : List (Position × Sort)) (counts : Position → ℕ) (children : ℕ → Position → List Node) → ((depth : ℕ) (p : Position) → AreKnown (children depth p)) → (depth : ℕ) → AreKnown (places_nodes ps counts children depth)
  places_known [] counts children known depth = tt
  places_known (p ∷ ps) counts children known depth =
      all_behind (λ (n : Node). IsOneOf K n.what) (place_nodes (counts p.0) (λ d. children d p.0) depth p.0 p.1) (places_nodes ps counts children depth)
      (place_known (counts p.0) (λ d. children d p.0) (λ d. known d p.0) depth p.0 p.1) (places_known ps counts children known depth)

  by_test : (b : Bool) (n : Node) (own rest : List Node) → IsOneOf K n.what → AreKnown own → AreKnown rest → AreKnown (cond b (n ∷ (own ++ rest)) rest)
  by_test true n own rest is of_own later = (is, all_behind (λ (m : Node). IsOneOf K m.what) own rest of_own later)
  by_test false n own rest is of_own later = later

  children_known : (f : Forest) → AllByRecursion (λ (e : Edge). K e.target) (child_edges f) → AreChildren live f → (depth : ℕ) (p : Position) → AreKnown (child_nodes f depth p)
  children_known none edges are depth p = tt
  children_known (multi_ref e rest) edges are depth p =
      by_test (is_same_position e.position p) (child_node depth p e (MultiRef e.target)) [] (child_nodes rest depth p) tt tt (children_known rest edges.1 are.1 depth p)
  children_known (cycle_ref e rest) edges are depth p =
      by_test (is_same_position e.position p) (child_node depth p e (CycleRef e.target)) [] (child_nodes rest depth p) tt tt (children_known rest edges.1 are.1 depth p)
  children_known (tree e below rest) edges are depth p =
      by_test (is_same_position e.position p) (child_node depth p e (Vertex e.target)) (nodes_under e.target below (depth + 1)) (child_nodes rest depth p) edges.0
      (places_known (positions e.target.ctor) (count_at below) (child_nodes below)
      (λ d q. children_known below (subst (AllByRecursion (λ (x : Edge). K x.target)) (sym are.1) (targets e.target)) are.2 d q) (depth + 1))
      (children_known rest edges.1 are.3 depth p)

  tree_known : (v : VertexOf) (f : Forest) → K v → StandsUnder live v f → AllByRecursion (λ (n : Node). IsOneOf K n.what) (tree_nodes v f)
  tree_known v f head stands =
      (head, places_known (positions v.ctor) (count_at f) (child_nodes f) (λ d q. children_known f (subst (AllByRecursion (λ (x : Edge). K x.target)) (sym stands.edges) (targets v)) stands.children d q) 1)

-- ---- explained nodes are told by records

-- a node that is a vertex is as its record says
abbrev IsRecordedAs : Records → MarkedNode → What → Type 0
IsRecordedAs records m (Vertex v) = node_kept m.node (records v) ≡ m
IsRecordedAs records m (Hole s) = Unit {0}
IsRecordedAs records m (Conflict s n) = Unit {0}
IsRecordedAs records m (MultiRef v) = Unit {0}
IsRecordedAs records m (CycleRef v) = Unit {0}

node_is_told : (records : Records) (w : Wanted) (m : MarkedNode) (what : What) → explained_as what w m ≡ m → IsRecordedAs records m what → node_told_as records w m.node what ≡ m
node_is_told records w m (Vertex v) explained recorded = recorded
node_is_told records w m (Hole s) explained recorded = explained
node_is_told records w m (Conflict s n) explained recorded = explained
node_is_told records w m (MultiRef v) explained recorded = explained
node_is_told records w m (CycleRef v) explained recorded = explained

told_as_explained : (records : Records) (ms : List MarkedNode) (above : List Above) → AreExplained above ms → AllByRecursion (λ (m : MarkedNode). IsRecordedAs records m m.node.what) ms
    → nodes_told records above (map (λ m. m.node) ms) ≡ ms
told_as_explained records [] above explained recorded = refl
told_as_explained records (m ∷ ms) above explained recorded =
    let left : List Above = up_to m.node.depth above in
    ap (λ (k : MarkedNode). k ∷ nodes_told records (above_after k left) (map (λ x. x.node) ms)) (node_is_told records (wanted_below left) m m.node.what explained.0 recorded.0)
    ∙ ap (λ ks. m ∷ ks) (told_as_explained records ms (above_after m left) explained.1 recorded.1)

-- ---- the records of a graph

module _ (g : Graph) (live : List Edge) (are : AreLive g live) (well : AllByRecursion IsWellFormed live) (records : Records) (kept : AreKept g live records) where
  recorded_of : (m : MarkedNode) (v : VertexOf) → IsVertexOf g v → IsToldOf live v m → node_kept m.node (records v) ≡ m
  recorded_of m v vertex told =
      let has = kept.each v vertex in
      let found : records v ≡ Some told.kept = has.1 ∙ ap Some (one_kept live well v has.0 told.kept has.2 told.is) in
      ap (node_kept m.node) found ∙ ap (λ w. record { node = m.node; wanted = w; typ = told.kept.typ; mark = told.kept.mark }) (sym told.wanted)
      ∙ (ap (λ t. record { node = m.node; wanted = m.wanted; typ = t; mark = told.kept.mark }) (sym told.typ)
      ∙ ap (λ k. record { node = m.node; wanted = m.wanted; typ = m.typ; mark = k }) (sym told.mark))

  recorded_as : (m : MarkedNode) (what : What) → IsOneOf (IsVertexOf g) what → TellsAs live m what → IsRecordedAs records m what
  recorded_as m (Vertex v) known tells = recorded_of m v known tells
  recorded_as m (Hole s) known tells = tt
  recorded_as m (Conflict s n) known tells = tt
  recorded_as m (MultiRef v) known tells = tt
  recorded_as m (CycleRef v) known tells = tt

  all_recorded : (ms : List MarkedNode) → AllByRecursion (λ (n : Node). IsOneOf (IsVertexOf g) n.what) (map (λ m. m.node) ms) → AllByRecursion (Tells live) ms → AllByRecursion (λ (m : MarkedNode). IsRecordedAs records m m.node.what) ms
  all_recorded [] known tells = tt
  all_recorded (m ∷ ms) known tells = (recorded_as m m.node.what known.0 tells.0, all_recorded ms known.1 tells.1)

  vertices_known : (es : List Edge) (v : VertexOf) → AllByRecursion (IsFrom live v) es → AllByRecursion (λ (e : Edge). IsVertexOf g e.target) es
  vertices_known [] v lead = tt
  vertices_known (e ∷ es) v lead = (target_vertex g live are well e lead.0.held, vertices_known es v lead.1)

  -- the nodes of a tree of the graph, told by its records, are those of its marking
  pub tree_told : (v : VertexOf) (f : Forest) → IsVertexOf g v → (class live v ≡ Inner → ⊥) → StandsUnder live v f → nodes_told records [] (tree_nodes v f) ≡ marked_tree v f
  tree_told v f vertex outer stands =
      let ms : List MarkedNode = marked_tree v f in
      let erased : map (λ m. m.node) ms ≡ tree_nodes v f = marked_erased v f in
      let known : AllByRecursion (λ (n : Node). IsOneOf (IsVertexOf g) n.what) (tree_nodes v f) =
      tree_known live (IsVertexOf g) (λ u. vertices_known (edges_under live u) u (under_lead live u)) v f vertex stands in
      ap (nodes_told records []) (sym erased)
      ∙ told_as_explained records ms [] (tree_explained v f (stands_sorted live v f well stands))
      (all_recorded ms (subst (AllByRecursion (λ (n : Node). IsOneOf (IsVertexOf g) n.what)) (sym erased) known) (tree_tells live well v f outer stands))

pub marking_told : (edits : List Edit) (live : List Edge) (records : Records) (v : VertexOf) (f : Forest) → AreLive (graph edits) live → AreKept (graph edits) live records → IsVertexOf (graph edits) v
    → (class live v ≡ Inner → ⊥) → StandsUnder live v f → nodes_told records [] (tree_nodes v f) ≡ marked_tree v f
marking_told edits live records v f are kept vertex outer stands = tree_told (graph edits) live are (live_well_formed edits live are) records kept v f vertex outer stands
