-- The trees of a grove that an edit does not concern are trees of the grove after it, and the other way round.
use Rattle.std.proofs.Common.{◌≡◌, ◌≢◌, inl, inr, Bool, true, false, cond, List, [], ◌∷◌, ◌++◌, refl, sym, ap, subst, ◌∙◌}
use Rattle.std.specs.Prelude.{◌||◌}
use Rattle.edge_lattice.specs.declared.state.State.{State}
use Rattle.edge_lattice.specs.declared.state.State.TheVariants.{Absent, Live, Deleted}
use Rattle.edge_lattice.specs.State.{state_join}
use Rattle.grove_edits.specs.declared.vertex.Vertex.{Vertex}
use Rattle.grove_edits.specs.declared.edge.Edge.{Edge}
use Rattle.grove_edits.specs.declared.edit.Edit.{Edit}
use Rattle.grove_edits.specs.Edit.{edit_edge, edit_kind}
use Rattle.grove_edits.specs.Graph.{graph, state_of, is_same_edge}
use Rattle.graph_words.specs.declared.class.Class.{Class}
use Rattle.graph_words.specs.declared.class.Class.TheVariants.{NoParent, Multi, Cycle, Inner}
use Rattle.grove_edits.specs.Vertex.{is_same_vertex, stands_in}
use Rattle.graph_words.specs.Class.{class, is_same_class, of_class}
use Rattle.graph_words.specs.Whole.{IsVertexOf}
use Rattle.grove_edits.proofs.Vertices.{same_vertex_exact}
use Rattle.grove_terms.specs.declared.node.Node.{Node}
use Rattle.grove_terms.specs.declared.grove.Grove.{Grove}
use Rattle.grove_terms.specs.Nodes.{tree_nodes}
use Rattle.grove_terms.specs.Grove.{IsTreeOf, AreTreesOf, IsGrove}
use Rattle.grove_terms.proofs.Forests.{one_forest}
use Rattle.grove_terms.proofs.WellSorted.{live_well_formed}
use Rattle.kept_records.specs.Change.{IsAmong, trees_in, IsConcerned, is_target, is_root, holds_source, holds_parent, refers_to_root}
use Rattle.kept_records.proofs.Edits.{change_back}
use Rattle.kept_records.proofs.Raised.{changed}
use Rattle.kept_records.proofs.Apart.{tree_apart}

-- ---- what is among lists

among_left : {X : Type 0} (x : X) (xs ys : List X) → IsAmong x xs → IsAmong x (xs ++ ys)
among_left x [] ys is = absurd is
among_left x (y ∷ xs) ys (inl is) = inl is
among_left x (y ∷ xs) ys (inr is) = inr (among_left x xs ys is)

among_right : {X : Type 0} (x : X) (xs ys : List X) → IsAmong x ys → IsAmong x (xs ++ ys)
among_right x [] ys is = is
among_right x (y ∷ xs) ys is = inr (among_right x xs ys is)

among_stands : (v : Vertex) (vs : List Vertex) → stands_in v vs ≡ true → IsAmong v vs
among_stands v [] stands = absurd cc
among_stands v (x ∷ xs) stands = by_test (is_same_vertex x v) refl stands (among_stands v xs) where
  by_test : (b : Bool) → is_same_vertex x v ≡ b → (b || stands_in v xs) ≡ true → (stands_in v xs ≡ true → IsAmong v xs) → IsAmong v (x ∷ xs)
  by_test true one h later = inl (same_vertex_exact x v one)
  by_test false other h later = inr (later h)

same_class_itself : (c : Class) → is_same_class c c ≡ true
same_class_itself NoParent = refl
same_class_itself Multi = refl
same_class_itself Cycle = refl
same_class_itself Inner = refl

among_of_class : (c : Class) (live : List Edge) (v : Vertex) (vs : List Vertex) → class live v ≡ c → IsAmong v vs → IsAmong v (of_class c live vs)
among_of_class c live v [] is among = absurd among
among_of_class c live v (x ∷ xs) is (inl one) = first (is_same_class (class live x) c) (ap (λ k. is_same_class k c) (ap (class live) one ∙ is) ∙ same_class_itself c) where
  first : (b : Bool) → b ≡ true → IsAmong v (cond b (x ∷ of_class c live xs) (of_class c live xs))
  first true h = inl one
  first false h = absurd cc
among_of_class c live v (x ∷ xs) is (inr among) = later (is_same_class (class live x) c) (among_of_class c live v xs is among) where
  later : (b : Bool) → IsAmong v (of_class c live xs) → IsAmong v (cond b (x ∷ of_class c live xs) (of_class c live xs))
  later true h = inr h
  later false h = h

one_tree : (live : List Edge) (v : Vertex) (a b : List Node) → IsTreeOf live v a → IsTreeOf live v b → a ≡ b
one_tree live v a b of_a of_b =
    of_a.listed ∙ ap (tree_nodes v) (one_forest live of_a.forest of_b.forest (of_a.stands.edges ∙ sym of_b.stands.edges) of_a.stands.children of_b.stands.children) ∙ sym of_b.listed

tree_among : (live : List Edge) (v : Vertex) (t : List Node) (vs : List Vertex) (ts : List (List Node)) → AreTreesOf live vs ts → IsAmong v vs → IsTreeOf live v t → IsAmong t ts
tree_among live v t [] ts are among is = absurd among
tree_among live v t (x ∷ xs) [] are among is = absurd are
tree_among live v t (x ∷ xs) (s ∷ ss) are (inl one) is = inl (one_tree live v s t (subst (λ y. IsTreeOf live y s) one are.0) is)
tree_among live v t (x ∷ xs) (s ∷ ss) are (inr among) is = inr (tree_among live v t xs ss are.1 among is)

-- the tree of a vertex that heads one is among those of the grove
pub tree_in_grove : (edits : List Edit) (grove : Grove) (of : IsGrove (graph edits) grove) (v : Vertex) (t : List Node) → IsVertexOf (graph edits) v → (class of.live v ≡ Inner → ⊥) → IsTreeOf of.live v t
    → IsAmong t (trees_in grove)
tree_in_grove edits grove of v t vertex outer is = by_class (class of.live v) refl where
  among : (c : Class) → class of.live v ≡ c → IsAmong v (of_class c of.live of.vertices)
  among c class_is = among_of_class c of.live v of.vertices class_is (among_stands v of.vertices (of.are_vertices.each v vertex))

  by_class : (c : Class) → class of.live v ≡ c → IsAmong t (trees_in grove)
  by_class NoParent class_is =
      among_left t grove.none (grove.multi ++ grove.cycle) (tree_among of.live v t (of_class NoParent of.live of.vertices) grove.none of.none (among NoParent class_is) is)
  by_class Multi class_is =
      among_right t grove.none (grove.multi ++ grove.cycle)
      (among_left t grove.multi grove.cycle (tree_among of.live v t (of_class Multi of.live of.vertices) grove.multi of.multi (among Multi class_is) is))
  by_class Cycle class_is =
      among_right t grove.none (grove.multi ++ grove.cycle)
      (among_right t grove.multi grove.cycle (tree_among of.live v t (of_class Cycle of.live of.vertices) grove.cycle of.cycle (among Cycle class_is) is))
  by_class Inner class_is = absurd (outer class_is)

-- ---- vertices stay

join_present : (s t : State) → t ≢ Absent → state_join s t ≢ Absent
join_present Absent Absent present is = present refl
join_present Absent Live present is = cc
join_present Absent Deleted present is = cc
join_present Live Absent present is = cc
join_present Live Live present is = cc
join_present Live Deleted present is = cc
join_present Deleted Absent present is = cc
join_present Deleted Live present is = cc
join_present Deleted Deleted present is = cc

pub vertex_stays : (edits : List Edit) (edit : Edit) (v : Vertex) → IsVertexOf (graph edits) v → IsVertexOf (graph (edit ∷ edits)) v
vertex_stays edits edit v (inl root) = inl root
vertex_stays edits edit v (inr end) =
    inr (end.0, join_present (cond (is_same_edge (edit_edge edit) end.0) (state_of (edit_kind edit)) Absent) (graph edits end.0) end.1, end.2)

-- ---- trees that an edit does not concern

pub concerned_back : (e : Edge) (old new live : List Edge) (head : Vertex) → IsConcerned e old new live head → IsConcerned e new old live head
concerned_back e old new live head (is_target one moves) = is_target one (λ k. moves (sym k))
concerned_back e old new live head (is_root moves) = is_root (λ k. moves (sym k))
concerned_back e old new live head (holds_source inside) = holds_source inside
concerned_back e old new live head (holds_parent d held target moves inside) = holds_parent d held target (λ k. moves (sym k)) inside
concerned_back e old new live head (refers_to_root d held moves inside) = refers_to_root d held (λ k. moves (sym k)) inside

module _ (edits : List Edit) (edit : Edit) (a b : Grove) (of_a : IsGrove (graph edits) a) (of_b : IsGrove (graph (edit ∷ edits)) b) where
  -- a tree after the edit, whose head was a vertex before
  pub was_tree : (head : Vertex) (t : List Node) → IsVertexOf (graph edits) head → (class of_b.live head ≡ Inner → ⊥) → IsTreeOf of_b.live head t
      → (IsConcerned (edit_edge edit) of_b.live of_a.live of_b.live head → ⊥) → IsAmong t (trees_in a)
  was_tree head t vertex outer is apart =
      let change = changed edits edit of_a.live of_b.live of_a.are_live of_b.are_live in
      let well = live_well_formed (edit ∷ edits) of_b.live of_b.are_live in
      let both = tree_apart (edit_edge edit) of_a.live of_b.live change well head (λ c. apart (concerned_back (edit_edge edit) of_a.live of_b.live of_b.live head c)) t outer is in
      tree_in_grove edits a of_a head t vertex (λ inner. outer (sym both.0 ∙ inner)) both.1

  -- a tree before the edit
  pub stays_tree : (head : Vertex) (t : List Node) → IsVertexOf (graph edits) head → (class of_a.live head ≡ Inner → ⊥) → IsTreeOf of_a.live head t
      → (IsConcerned (edit_edge edit) of_a.live of_b.live of_a.live head → ⊥) → IsAmong t (trees_in b)
  stays_tree head t vertex outer is apart =
      let change = change_back (edit_edge edit) of_a.live of_b.live (changed edits edit of_a.live of_b.live of_a.are_live of_b.are_live) in
      let well = live_well_formed edits of_a.live of_a.are_live in
      let both = tree_apart (edit_edge edit) of_b.live of_a.live change well head (λ c. apart (concerned_back (edit_edge edit) of_b.live of_a.live of_a.live head c)) t outer is in
      tree_in_grove (edit ∷ edits) b of_b head t (vertex_stays edits edit head vertex) (λ inner. outer (sym both.0 ∙ inner)) both.1
