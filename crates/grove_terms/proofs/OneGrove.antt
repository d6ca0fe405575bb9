-- A graph has exactly one grove.
use Rattle.std.proofs.Common.{◌≡◌, ◌≢◌, ◌⊎◌, inl, inr, Bool, true, false, cond, List, [], ◌∷◌, refl, sym, ap, subst, ◌∙◌}
use Rattle.std.specs.Prelude.{◌||◌, filter, map}
use Rattle.std.specs.List.{AllByRecursion}
use Rattle.grove_sorts.proofs.Truths.{both_true, or_left, or_right, and_true}
use Rattle.edge_lattice.specs.declared.state.State.{State}
use Rattle.edge_lattice.specs.declared.state.State.TheVariants.{Absent, Live, Deleted}
use Rattle.edge_lattice.specs.State.{state_join}
use Rattle.grove_edits.specs.declared.vertex.Vertex.{Vertex}
use Rattle.grove_edits.specs.declared.edge.Edge.{Edge}
use Rattle.grove_edits.specs.declared.edit.Edit.{Edit}
use Rattle.grove_edits.specs.declared.edit.EditKind.{EditKind}
use Rattle.grove_edits.specs.declared.edit.EditKind.TheVariants.{Insert, Delete}
use Rattle.grove_edits.specs.Vertex.{vertex_cmp, is_same_vertex, stands_in, root}
use Rattle.grove_edits.specs.Edge.{edge_cmp}
use Rattle.grove_edits.specs.Edit.{edit_edge, edit_kind}
use Rattle.grove_edits.specs.Graph.{Graph, graph, state_of, is_same_edge, IsSame, HasSameEdits}
use Rattle.grove_edits.proofs.Graphs.{graph-same_edits}
use Rattle.grove_edits.proofs.Orders.{vertex_cmp_total, vertex_cmp_exact, edge_cmp_total, edge_cmp_exact, one_edge}
use Rattle.graph_words.specs.declared.class.Class.{Class}
use Rattle.graph_words.specs.declared.class.Class.TheVariants.{NoParent, Multi, Cycle, Inner}
use Rattle.graph_words.specs.Live.{IsInEdgeOrder, holds_edge}
use Rattle.graph_words.specs.Class.{class, is_same_class, of_class}
use Rattle.graph_words.specs.Whole.{IsVertexOf, IsInVertexOrder, AreVertices, AreLive}
use Rattle.grove_edits.proofs.Vertices.{same_vertex_itself, same_vertex_exact}
use Rattle.grove_terms.specs.declared.node.Node.{Node}
use Rattle.grove_terms.specs.declared.grove.Grove.{Grove}
use Rattle.grove_terms.specs.Nodes.{tree_nodes}
use Rattle.grove_terms.specs.Grove.{IsTreeOf, AreTreesOf, IsGrove}
use Rattle.grove_terms.proofs.InOrder.{IsExactOrder, IsInOrder, holds, put, one_in_order, test_itself, in_order_put, holds-put, in_order_filter, holds-filter}
use Rattle.grove_terms.proofs.Forests.{forest_of, root_stands, one_forest}
use Rattle.graph_words.proofs.Truths.{live_from_test, present_from_test, test_from_present}
use Rattle.graph_words.specs.States.{is_live, is_present}

-- ---- lists of edges and of vertices, as lists in an order

edge_order : IsExactOrder edge_cmp
edge_order = record { total = edge_cmp_total; exact = edge_cmp_exact }

vertex_order : IsExactOrder vertex_cmp
vertex_order = record { total = vertex_cmp_total; exact = vertex_cmp_exact }

edges_in_order : (es : List Edge) → IsInEdgeOrder es → IsInOrder edge_cmp es
edges_in_order [] a = tt
edges_in_order (e ∷ es) a = (a.0, edges_in_order es a.1)

in_edge_order : (es : List Edge) → IsInOrder edge_cmp es → IsInEdgeOrder es
in_edge_order [] a = tt
in_edge_order (e ∷ es) a = (a.0, in_edge_order es a.1)

vertices_in_order : (vs : List Vertex) → IsInVertexOrder vs → IsInOrder vertex_cmp vs
vertices_in_order [] a = tt
vertices_in_order (v ∷ vs) a = (a.0, vertices_in_order vs a.1)

in_vertex_order : (vs : List Vertex) → IsInOrder vertex_cmp vs → IsInVertexOrder vs
in_vertex_order [] a = tt
in_vertex_order (v ∷ vs) a = (a.0, in_vertex_order vs a.1)

holds-edges : (e : Edge) (es : List Edge) → holds_edge e es ≡ holds edge_cmp e es
holds-edges e [] = refl
holds-edges e (x ∷ xs) = ap (λ b. is_same_edge x e || b) (holds-edges e xs)

holds-vertices : (v : Vertex) (vs : List Vertex) → stands_in v vs ≡ holds vertex_cmp v vs
holds-vertices v [] = refl
holds-vertices v (x ∷ xs) = ap (λ b. is_same_vertex x v || b) (holds-vertices v xs)

-- ---- one list of live edges, and one of vertices

pub one_live : (g : Graph) (a b : List Edge) → AreLive g a → AreLive g b → a ≡ b
one_live g a b live_a live_b =
    one_in_order edge_cmp edge_order a b (edges_in_order a live_a.in_order) (edges_in_order b live_b.in_order)
    (λ e h. sym (holds-edges e b) ∙ live_b.each e (live_a.no_other e (holds-edges e a ∙ h)))
    (λ e h. sym (holds-edges e a) ∙ live_a.each e (live_b.no_other e (holds-edges e b ∙ h)))

pub one_vertices : (g : Graph) (a b : List Vertex) → AreVertices g a → AreVertices g b → a ≡ b
one_vertices g a b of_a of_b =
    one_in_order vertex_cmp vertex_order a b (vertices_in_order a of_a.in_order) (vertices_in_order b of_b.in_order)
    (λ v h. sym (holds-vertices v b) ∙ of_b.each v (of_a.no_other v (holds-vertices v a ∙ h)))
    (λ v h. sym (holds-vertices v a) ∙ of_a.each v (of_b.no_other v (holds-vertices v b ∙ h)))

-- ---- one list of trees

one_tree : (live : List Edge) (v : Vertex) (a b : List Node) → IsTreeOf live v a → IsTreeOf live v b → a ≡ b
one_tree live v a b of_a of_b =
    of_a.listed ∙ ap (tree_nodes v) (one_forest live of_a.forest of_b.forest (of_a.stands.edges ∙ sym of_b.stands.edges) of_a.stands.children of_b.stands.children) ∙ sym of_b.listed

pub one_trees : (live : List Edge) (vs : List Vertex) (a b : List (List Node)) → AreTreesOf live vs a → AreTreesOf live vs b → a ≡ b
one_trees live [] [] [] of_a of_b = refl
one_trees live [] [] (y ∷ ys) of_a of_b = absurd of_b
one_trees live [] (x ∷ xs) b of_a of_b = absurd of_a
one_trees live (v ∷ vs) [] b of_a of_b = absurd of_a
one_trees live (v ∷ vs) (x ∷ xs) [] of_a of_b = absurd of_b
one_trees live (v ∷ vs) (x ∷ xs) (y ∷ ys) of_a of_b = ap (λ t. t ∷ xs) (one_tree live v x y of_a.0 of_b.0) ∙ ap (λ ts. y ∷ ts) (one_trees live vs xs ys of_a.1 of_b.1)

grove_from_lists : (a b : Grove) → a.none ≡ b.none → a.multi ≡ b.multi → a.cycle ≡ b.cycle → a ≡ b
grove_from_lists a b n m c =
    ap (λ (ts : List (List Node)). let g : Grove = record { none = ts; multi = a.multi; cycle = a.cycle } in g) n
    ∙ ap (λ (ts : List (List Node)). let g : Grove = record { none = b.none; multi = ts; cycle = a.cycle } in g) m
    ∙ ap (λ (ts : List (List Node)). let g : Grove = record { none = b.none; multi = b.multi; cycle = ts } in g) c

moved : (c : Class) (live new : List Edge) (vs ws : List Vertex) (ts : List (List Node)) → live ≡ new → vs ≡ ws → AreTreesOf live (of_class c live vs) ts → AreTreesOf new (of_class c new ws) ts
moved c live new vs ws ts e f trees =
    subst (λ (us : List Vertex). AreTreesOf new (of_class c new us) ts) f (subst (λ (es : List Edge). AreTreesOf es (of_class c es vs) ts) e trees)

pub one_grove : (g : Graph) (a b : Grove) → IsGrove g a → IsGrove g b → a ≡ b
one_grove g a b of_a of_b =
    let live = one_live g of_a.live of_b.live of_a.are_live of_b.are_live in
    let vertices = one_vertices g of_a.vertices of_b.vertices of_a.are_vertices of_b.are_vertices in
    grove_from_lists a b
    (one_trees of_b.live (of_class NoParent of_b.live of_b.vertices) a.none b.none (moved NoParent of_a.live of_b.live of_a.vertices of_b.vertices a.none live vertices of_a.none) of_b.none)
    (one_trees of_b.live (of_class Multi of_b.live of_b.vertices) a.multi b.multi (moved Multi of_a.live of_b.live of_a.vertices of_b.vertices a.multi live vertices of_a.multi) of_b.multi)
    (one_trees of_b.live (of_class Cycle of_b.live of_b.vertices) a.cycle b.cycle (moved Cycle of_a.live of_b.live of_a.vertices of_b.vertices a.cycle live vertices of_a.cycle) of_b.cycle)

-- ---- a graph of edits has a list of live edges, and one of vertices

present_from_live : (s : State) → s ≡ Live → is_present s ≡ true
present_from_live Absent h = absurd cc
present_from_live Live h = refl
present_from_live Deleted h = refl

present-join : (s t : State) → is_present (state_join s t) ≡ (is_present s || is_present t)
present-join Absent Absent = refl
present-join Absent Live = refl
present-join Absent Deleted = refl
present-join Live Absent = refl
present-join Live Live = refl
present-join Live Deleted = refl
present-join Deleted Absent = refl
present-join Deleted Live = refl
present-join Deleted Deleted = refl

present-only : (b : Bool) (kind : EditKind) → is_present (cond b (state_of kind) Absent) ≡ b
present-only true Insert = refl
present-only true Delete = refl
present-only false kind = refl

-- the edges that some edits name, in edge order
abbrev named_by : List Edit → List Edge
named_by [] = []
named_by (edit ∷ edits) = put edge_cmp (edit_edge edit) (named_by edits)

named_in_order : (edits : List Edit) → IsInOrder edge_cmp (named_by edits)
named_in_order [] = tt
named_in_order (edit ∷ edits) = in_order_put edge_cmp edge_order (edit_edge edit) (named_by edits) (named_in_order edits)

holds-named : (edits : List Edit) (e : Edge) → holds edge_cmp e (named_by edits) ≡ is_present (graph edits e)
holds-named [] e = refl
holds-named (edit ∷ edits) e =
    holds-put edge_cmp edge_order e (edit_edge edit) (named_by edits)
    ∙ ap (λ b. is_same_edge (edit_edge edit) e || b) (holds-named edits e)
    ∙ ap (λ b. b || is_present (graph edits e)) (sym (present-only (is_same_edge (edit_edge edit) e) (edit_kind edit)))
    ∙ sym (present-join (cond (is_same_edge (edit_edge edit) e) (state_of (edit_kind edit)) Absent) (graph edits e))

abbrev pub live_of : List Edit → List Edge
live_of edits = filter (λ e. is_live (graph edits e)) (named_by edits)

pub live_are : (edits : List Edit) → AreLive (graph edits) (live_of edits)
live_are edits = record {
  in_order = in_edge_order (live_of edits) (in_order_filter edge_cmp (λ e. is_live (graph edits e)) (named_by edits) (named_in_order edits));
  each = λ e is.
      holds-edges e (live_of edits) ∙ holds-filter edge_cmp edge_order (λ x. is_live (graph edits x)) e (named_by edits)
      ∙ and_true (is_live (graph edits e)) (holds edge_cmp e (named_by edits)) (ap is_live is) (holds-named edits e ∙ present_from_live (graph edits e) is);
  no_other = λ e h.
      live_from_test (graph edits e)
      (both_true (is_live (graph edits e)) (holds edge_cmp e (named_by edits))
      (sym (holds-filter edge_cmp edge_order (λ x. is_live (graph edits x)) e (named_by edits)) ∙ sym (holds-edges e (live_of edits)) ∙ h)).0;
}

-- the ends of some edges and the root, in vertex order
abbrev pub ends_of : List Edge → List Vertex
ends_of [] = root ∷ []
ends_of (e ∷ es) = put vertex_cmp e.source (put vertex_cmp e.target (ends_of es))

ends_in_order : (es : List Edge) → IsInOrder vertex_cmp (ends_of es)
ends_in_order [] = (tt, tt)
ends_in_order (e ∷ es) = in_order_put vertex_cmp vertex_order e.source (put vertex_cmp e.target (ends_of es)) (in_order_put vertex_cmp vertex_order e.target (ends_of es) (ends_in_order es))

holds-ends : (e : Edge) (es : List Edge) (v : Vertex) → holds vertex_cmp v (ends_of (e ∷ es)) ≡ (is_same_vertex e.source v || (is_same_vertex e.target v || holds vertex_cmp v (ends_of es)))
holds-ends e es v =
    holds-put vertex_cmp vertex_order v e.source (put vertex_cmp e.target (ends_of es))
    ∙ ap (λ b. is_same_vertex e.source v || b) (holds-put vertex_cmp vertex_order v e.target (ends_of es))

or_split : (a b : Bool) → (a || b) ≡ true → (a ≡ true) ⊎ (b ≡ true)
or_split true b h = inl refl
or_split false b h = inr h

-- the root, or an end of an edge of the list
abbrev IsEndIn : List Edge → Vertex → Type 0
IsEndIn es v = (v ≡ root) ⊎ ((e : Edge) × (holds edge_cmp e es ≡ true) × ((e.source ≡ v) ⊎ (e.target ≡ v)))

later_end : (x : Edge) (es : List Edge) (v : Vertex) → IsEndIn es v → IsEndIn (x ∷ es) v
later_end x es v (inl is) = inl is
later_end x es v (inr end) = inr (end.0, or_right (is_same_edge x end.0) (holds edge_cmp end.0 es) end.1, end.2)

end_from_held : (es : List Edge) (v : Vertex) → holds vertex_cmp v (ends_of es) ≡ true → IsEndIn es v
end_from_held [] v h = inl (sym (same_vertex_exact root v (only (is_same_vertex root v) h))) where
  only : (a : Bool) → (a || false) ≡ true → a ≡ true
  only true h = refl
  only false h = absurd cc
end_from_held (e ∷ es) v h = by_source (or_split (is_same_vertex e.source v) (is_same_vertex e.target v || holds vertex_cmp v (ends_of es)) (sym (holds-ends e es v) ∙ h)) (end_from_held es v) where
  itself : holds edge_cmp e (e ∷ es) ≡ true
  itself = or_left (is_same_edge e e) (holds edge_cmp e es) (test_itself edge_cmp edge_order e)

  by_target : (is_same_vertex e.target v ≡ true) ⊎ (holds vertex_cmp v (ends_of es) ≡ true) → (holds vertex_cmp v (ends_of es) ≡ true → IsEndIn es v) → IsEndIn (e ∷ es) v
  by_target (inl same) later = inr (e, itself, inr (same_vertex_exact e.target v same))
  by_target (inr rest) later = later_end e es v (later rest)

  by_source : (is_same_vertex e.source v ≡ true) ⊎ ((is_same_vertex e.target v || holds vertex_cmp v (ends_of es)) ≡ true) → (holds vertex_cmp v (ends_of es) ≡ true → IsEndIn es v) → IsEndIn (e ∷ es) v
  by_source (inl same) later = inr (e, itself, inl (same_vertex_exact e.source v same))
  by_source (inr rest) later = by_target (or_split (is_same_vertex e.target v) (holds vertex_cmp v (ends_of es)) rest) later

root_held : (es : List Edge) → holds vertex_cmp root (ends_of es) ≡ true
root_held [] = or_left (is_same_vertex root root) false (same_vertex_itself root)
root_held (e ∷ es) = holds-ends e es root ∙ or_right (is_same_vertex e.source root) (is_same_vertex e.target root || holds vertex_cmp root (ends_of es)) (or_right (is_same_vertex e.target root) (holds vertex_cmp root (ends_of es)) (root_held es))

end_held : (es : List Edge) (e : Edge) (v : Vertex) → holds edge_cmp e es ≡ true → (e.source ≡ v) ⊎ (e.target ≡ v) → holds vertex_cmp v (ends_of es) ≡ true
end_held [] e v h end = absurd cc
end_held (x ∷ xs) e v h end = holds-ends x xs v ∙ by_test (or_split (is_same_edge x e) (holds edge_cmp e xs) h) (λ rest. end_held xs e v rest end) where
  at_end : x ≡ e → (e.source ≡ v) ⊎ (e.target ≡ v) → (is_same_vertex x.source v || (is_same_vertex x.target v || holds vertex_cmp v (ends_of xs))) ≡ true
  at_end one (inl is) = or_left (is_same_vertex x.source v) (is_same_vertex x.target v || holds vertex_cmp v (ends_of xs)) (ap (λ (y : Edge). is_same_vertex y.source v) one ∙ ap (is_same_vertex e.source) (sym is) ∙ same_vertex_itself e.source)
  at_end one (inr is) =
      or_right (is_same_vertex x.source v) (is_same_vertex x.target v || holds vertex_cmp v (ends_of xs))
      (or_left (is_same_vertex x.target v) (holds vertex_cmp v (ends_of xs)) (ap (λ (y : Edge). is_same_vertex y.target v) one ∙ ap (is_same_vertex e.target) (sym is) ∙ same_vertex_itself e.target))

  by_test : (is_same_edge x e ≡ true) ⊎ (holds edge_cmp e xs ≡ true) → (holds edge_cmp e xs ≡ true → holds vertex_cmp v (ends_of xs) ≡ true) → (is_same_vertex x.source v || (is_same_vertex x.target v || holds vertex_cmp v (ends_of xs))) ≡ true
  by_test (inl same) later = at_end (one_edge x e same) end
  by_test (inr rest) later = or_right (is_same_vertex x.source v) (is_same_vertex x.target v || holds vertex_cmp v (ends_of xs)) (or_right (is_same_vertex x.target v) (holds vertex_cmp v (ends_of xs)) (later rest))

-- the vertices of a graph whose edges that are not Absent are those of a list
pub vertices_from : (g : Graph) (es : List Edge) → ((e : Edge) → g e ≢ Absent → holds_edge e es ≡ true) → ((e : Edge) → holds_edge e es ≡ true → g e ≢ Absent) → AreVertices g (ends_of es)
vertices_from g es each no_other = record {
  in_order = in_vertex_order (ends_of es) (ends_in_order es);
  each = λ v is. holds-vertices v (ends_of es) ∙ held v is;
  no_other = λ v h. from_end v (end_from_held es v (sym (holds-vertices v (ends_of es)) ∙ h));
} where
  held : (v : Vertex) → IsVertexOf g v → holds vertex_cmp v (ends_of es) ≡ true
  held v (inl is) = ap (λ x. holds vertex_cmp x (ends_of es)) is ∙ root_held es
  held v (inr end) = end_held es end.0 v (sym (holds-edges end.0 es) ∙ each end.0 end.1) end.2

  from_end : (v : Vertex) → IsEndIn es v → IsVertexOf g v
  from_end v (inl is) = inl is
  from_end v (inr end) = inr (end.0, no_other end.0 (holds-edges end.0 es ∙ end.1), end.2)

abbrev pub vertices_of : List Edit → List Vertex
vertices_of edits = ends_of (named_by edits)

pub vertices_are : (edits : List Edit) → AreVertices (graph edits) (vertices_of edits)
vertices_are edits =
    vertices_from (graph edits) (named_by edits) (λ e some. holds-edges e (named_by edits) ∙ holds-named edits e ∙ test_from_present (graph edits e) some)
    (λ e held. present_from_test (graph edits e) (sym (holds-named edits e) ∙ sym (holds-edges e (named_by edits)) ∙ held))

-- ---- and a grove

class_from_test : (a b : Class) → is_same_class a b ≡ true → a ≡ b
class_from_test NoParent NoParent h = refl
class_from_test NoParent Multi h = absurd cc
class_from_test NoParent Cycle h = absurd cc
class_from_test NoParent Inner h = absurd cc
class_from_test Multi NoParent h = absurd cc
class_from_test Multi Multi h = refl
class_from_test Multi Cycle h = absurd cc
class_from_test Multi Inner h = absurd cc
class_from_test Cycle NoParent h = absurd cc
class_from_test Cycle Multi h = absurd cc
class_from_test Cycle Cycle h = refl
class_from_test Cycle Inner h = absurd cc
class_from_test Inner NoParent h = absurd cc
class_from_test Inner Multi h = absurd cc
class_from_test Inner Cycle h = absurd cc
class_from_test Inner Inner h = refl

-- those of a class are of it
pub all_of_class : (c : Class) (live : List Edge) (vs : List Vertex) → AllByRecursion (λ v. class live v ≡ c) (of_class c live vs)
all_of_class c live [] = tt
all_of_class c live (v ∷ vs) = by_test (is_same_class (class live v) c) refl (all_of_class c live vs) where
  by_test : (b : Bool) → is_same_class (class live v) c ≡ b → AllByRecursion (λ x. class live x ≡ c) (of_class c live vs) → AllByRecursion (λ x. class live x ≡ c) (cond b (v ∷ of_class c live vs) (of_class c live vs))
  by_test true same rest = (class_from_test (class live v) c same, rest)
  by_test false _ rest = rest

abbrev pub tree_of : List Edge → Vertex → List Node
tree_of live v = tree_nodes v (forest_of live v)

trees_are : (c : Class) (live : List Edge) (vs : List Vertex) → (c ≡ Inner → ⊥) → AllByRecursion (λ v. class live v ≡ c) vs → AreTreesOf live vs (map (tree_of live) vs)
trees_are c live [] outer all = tt
trees_are c live (v ∷ vs) outer all =
    (record { forest = forest_of live v; stands = root_stands live v (λ inner. outer (sym all.0 ∙ inner)); listed = refl }, trees_are c live vs outer all.1)

pub some_grove : (edits : List Edit) → (grove : Grove) × IsGrove (graph edits) grove
some_grove edits =
    let live = live_of edits in
    let vertices = vertices_of edits in (
      record {
        none = map (tree_of live) (of_class NoParent live vertices);
        multi = map (tree_of live) (of_class Multi live vertices);
        cycle = map (tree_of live) (of_class Cycle live vertices);
      },
      record {
        live = live;
        vertices = vertices;
        are_live = live_are edits;
        are_vertices = vertices_are edits;
        none = trees_are NoParent live (of_class NoParent live vertices) (λ e. cc) (all_of_class NoParent live vertices);
        multi = trees_are Multi live (of_class Multi live vertices) (λ e. cc) (all_of_class Multi live vertices);
        cycle = trees_are Cycle live (of_class Cycle live vertices) (λ e. cc) (all_of_class Cycle live vertices);
      },
    )

-- ---- graphs that give each edge the same state have the same grove

live_along : (g h : Graph) (es : List Edge) → IsSame g h → AreLive g es → AreLive h es
live_along g h es same live = record { in_order = live.in_order; each = λ e is. live.each e (same e ∙ is); no_other = λ e held. sym (same e) ∙ live.no_other e held }

vertex_along : (g h : Graph) (v : Vertex) → IsSame g h → IsVertexOf g v → IsVertexOf h v
vertex_along g h v same (inl is) = inl is
vertex_along g h v same (inr end) = inr (end.0, λ e. end.1 (same end.0 ∙ e), end.2)

vertices_along : (g h : Graph) (vs : List Vertex) → IsSame g h → AreVertices g vs → AreVertices h vs
vertices_along g h vs same vertices = record {
  in_order = vertices.in_order;
  each = λ v is. vertices.each v (vertex_along h g v (λ e. sym (same e)) is);
  no_other = λ v held. vertex_along g h v same (vertices.no_other v held);
}

pub grove_along : (g h : Graph) (grove : Grove) → IsSame g h → IsGrove g grove → IsGrove h grove
grove_along g h grove same is = record {
  live = is.live;
  vertices = is.vertices;
  are_live = live_along g h is.live same is.are_live;
  are_vertices = vertices_along g h is.vertices same is.are_vertices;
  none = is.none;
  multi = is.multi;
  cycle = is.cycle;
}

pub same_edits_same_grove : (a b : List Edit) (x y : Grove) → HasSameEdits a b → IsGrove (graph a) x → IsGrove (graph b) y → x ≡ y
same_edits_same_grove a b x y same of_a of_b = one_grove (graph b) x y (grove_along (graph a) (graph b) x (graph-same_edits a b same.0 same.1) of_a) of_b
