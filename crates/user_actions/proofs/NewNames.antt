-- An author's new names are no names of the graph.
use Rattle.std.proofs.Common.{◌≡◌, ℕ, ◌<◌, ◌≤◌, max, eq-eqb, Bool, true, false, cond, List, [], ◌∷◌, ◌++◌, map, refl, sym, ap, subst, ◌∙◌, inl, inr, ◌⊎◌, arith}
use Rattle.std.specs.Prelude.{◌||◌, ◌==◌}
use Rattle.edge_lattice.specs.declared.state.State.{State}
use Rattle.edge_lattice.specs.declared.state.State.TheVariants.{Absent, Live, Deleted}
use Rattle.grove_names.specs.declared.name.Name.{Name}
use Rattle.grove_edits.specs.declared.vertex.Vertex.{Vertex}
use Rattle.grove_edits.specs.declared.edge.Edge.{Edge}
use Rattle.grove_edits.specs.Graph.{Graph, is_same_edge}
use Rattle.grove_edits.proofs.Orders.{one_edge}
use Rattle.graph_words.specs.Live.{holds_edge}
use Rattle.grove_edits.specs.Vertex.{is_same_vertex, stands_in}
use Rattle.grove_edits.proofs.Vertices.{same_vertex_exact}
use Rattle.graph_words.specs.Names.{IsNameOf}
use Rattle.user_actions.specs.Lists.{GraphLists, AreListsOf}
use Rattle.user_actions.specs.Names.{counter_by, greatest_in, names_of, greatest_counter, new_name}

-- the name stands in the list
abbrev pub IsAmong : Name → List Name → Type 0
IsAmong n [] = ⊥
IsAmong n (m ∷ ms) = (m ≡ n) ⊎ IsAmong n ms

pub among_first : (n : Name) (ms ns : List Name) → IsAmong n ms → IsAmong n (ms ++ ns)
among_first n [] ns is = absurd is
among_first n (m ∷ ms) ns (inl is) = inl is
among_first n (m ∷ ms) ns (inr is) = inr (among_first n ms ns is)

pub among_second : (n : Name) (ms ns : List Name) → IsAmong n ns → IsAmong n (ms ++ ns)
among_second n [] ns is = is
among_second n (m ∷ ms) ns is = inr (among_second n ms ns is)

pub vertex_among : (v : Vertex) (vs : List Vertex) → stands_in v vs ≡ true → IsAmong v.name (map (λ x. x.name) vs)
vertex_among v [] is = absurd cc
vertex_among v (x ∷ xs) is = by_test (is_same_vertex x v) refl is (vertex_among v xs) where
  by_test : (b : Bool) → is_same_vertex x v ≡ b → (b || stands_in v xs) ≡ true → (stands_in v xs ≡ true → IsAmong v.name (map (λ y. y.name) xs)) → IsAmong v.name (map (λ y. y.name) (x ∷ xs))
  by_test true same h later = inl (ap (λ (y : Vertex). y.name) (same_vertex_exact x v same))
  by_test false other h later = inr (later h)

pub edge_among : (e : Edge) (es : List Edge) → holds_edge e es ≡ true → IsAmong e.name (map (λ x. x.name) es)
edge_among e [] is = absurd cc
edge_among e (x ∷ xs) is = by_test (is_same_edge x e) refl is (edge_among e xs) where
  by_test : (b : Bool) → is_same_edge x e ≡ b → (b || holds_edge e xs) ≡ true → (holds_edge e xs ≡ true → IsAmong e.name (map (λ y. y.name) xs)) → IsAmong e.name (map (λ y. y.name) (x ∷ xs))
  by_test true same h later = inl (ap (λ (y : Edge). y.name) (one_edge x e same))
  by_test false other h later = inr (later h)

-- no name of the author has a greater counter
pub counter_within : (author : ℕ) (ns : List Name) (n : Name) → IsAmong n ns → n.author ≡ author → n.counter ≤ greatest_in author ns
counter_within author [] n is by = absurd is
counter_within author (m ∷ ms) n is by = by_place is (counter_within author ms n) where
  itself : (k : ℕ) → k ≡ author → (k == author) ≡ true
  itself k same = eq-eqb k author same

  first : m ≡ n → n.counter ≤ counter_by author m
  first one =
      let test : (m.author == author) ≡ true = itself m.author (ap (λ (k : Name). k.author) one ∙ by) in
      let counted : counter_by author m ≡ m.counter = ap (λ b. cond b m.counter 0) test in
      let same : m.counter ≡ n.counter = ap (λ (k : Name). k.counter) one in
      omega arith

  by_place : (m ≡ n) ⊎ IsAmong n ms → (IsAmong n ms → n.author ≡ author → n.counter ≤ greatest_in author ms) → n.counter ≤ max (counter_by author m) (greatest_in author ms)
  by_place (inl one) later = let c = first one in omega arith
  by_place (inr rest) later = let c = later rest by in omega arith

pub new_not_among : (lists : GraphLists) (author number : ℕ) → 0 < number → IsAmong (new_name author (greatest_counter lists author) number) (names_of lists) → ⊥
new_not_among lists author number positive among =
    let within = counter_within author (names_of lists) (new_name author (greatest_counter lists author) number) among refl in
    absurd (omega arith)

module _ (g : Graph) (lists : GraphLists) (of : AreListsOf g lists) (author number : ℕ) (positive : 0 < number) where
  -- no vertex of the graph has a new name
  pub not_vertex_name : (v : Vertex) → stands_in v lists.vertices ≡ true → v.name ≡ new_name author (greatest_counter lists author) number → ⊥
  not_vertex_name v is named =
      new_not_among lists author number positive
      (subst (λ n. IsAmong n (names_of lists)) named
      (among_first v.name (map (λ x. x.name) lists.vertices) (map (λ e. e.name) lists.present) (vertex_among v lists.vertices is)))

  pub not_edge_name : (e : Edge) → holds_edge e lists.present ≡ true → e.name ≡ new_name author (greatest_counter lists author) number → ⊥
  not_edge_name e is named =
      new_not_among lists author number positive
      (subst (λ n. IsAmong n (names_of lists)) named
      (among_second e.name (map (λ x. x.name) lists.vertices) (map (λ x. x.name) lists.present) (edge_among e lists.present is)))

  -- an edge with a new name is Absent
  pub new_absent : (e : Edge) → e.name ≡ new_name author (greatest_counter lists author) number → g e ≡ Absent
  new_absent e named = by_state (g e) refl where
    by_state : (s : State) → g e ≡ s → g e ≡ Absent
    by_state Absent is = is
    by_state Live is = absurd (not_edge_name e (of.present.each e (λ absent. let both = sym is ∙ absent in cc)) named)
    by_state Deleted is = absurd (not_edge_name e (of.present.each e (λ absent. let both = sym is ∙ absent in cc)) named)

  pub new_is_no_name : IsNameOf g (new_name author (greatest_counter lists author) number) → ⊥
  new_is_no_name (inl edge) = not_edge_name edge.0 (of.present.each edge.0 edge.1) edge.2
  new_is_no_name (inr vertex) = not_vertex_name vertex.0 (of.vertices.each vertex.0 vertex.1) vertex.2
