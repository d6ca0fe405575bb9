-- The trees among the children of a vertex: the edges to them, and what stands under them.
use Rattle.std.proofs.Common.{◌≡◌, inl, inr, Bool, true, false, cond, List, [], ◌∷◌, ◌++◌, refl, sym, ap, subst, ◌∙◌}
use Rattle.std.specs.Prelude.{◌||◌, ◌&&◌, ◌==◌, Some, filter}
use Rattle.std.specs.List.{AllByRecursion}
use Rattle.std.proofs.lemmas.Bool.{or_left, or_right}
use Rattle.grove_sorts.specs.declared.position.Position.{Position}
use Rattle.grove_sorts.specs.declared.sort.Sort.{Sort}
use Rattle.grove_sorts.specs.Position.{position_number, is_same_position}
use Rattle.grove_sorts.specs.Ctor.{positions, sort_in, sort_of_ctor, sort_at}
use Rattle.grove_sorts.proofs.Orders.{position_same, same_position_laws}
use Rattle.grove_edits.specs.declared.vertex.Vertex.{Vertex}
use Rattle.grove_edits.specs.declared.edge.Edge.{Edge}
use Rattle.grove_edits.specs.Edge.{IsWellFormed}
use Rattle.grove_edits.specs.Graph.{is_same_edge}
use Rattle.graph_words.specs.declared.class.Class.{Class}
use Rattle.graph_words.specs.declared.class.Class.TheVariants.{Multi, Cycle, Inner}
use Rattle.graph_words.specs.Live.{holds_edge, parents_of, children_of}
use Rattle.grove_edits.specs.Vertex.{is_same_vertex}
use Rattle.graph_words.specs.Class.{class, class_by, is_cycle_root}
use Rattle.grove_edits.proofs.Vertices.{same_vertex_itself, same_vertex_exact}
use Rattle.grove_terms.specs.Forest.{Forest, none, multi_ref, cycle_ref, tree, child_edges, edges_from, edges_under, AreChildren, StandsUnder}
use Rattle.grove_edits.proofs.Orders.{one_edge}
use Rattle.grove_edits.proofs.WellFormed.{place_fits}
use Rattle.grove_terms.proofs.InLive.{IsFrom, stands_among, under_lead}
use Rattle.kept_records.specs.Kept.{IsTreeIn}

-- ---- what is true of all edges

pub all_held : (P : Edge → Type 0) (es : List Edge) → AllByRecursion P es → (e : Edge) → holds_edge e es ≡ true → P e
all_held P [] all e held = absurd cc
all_held P (x ∷ xs) all e held = by_test (is_same_edge x e) refl held (all_held P xs all.1 e) where
  by_test : (b : Bool) → is_same_edge x e ≡ b → (b || holds_edge e xs) ≡ true → (holds_edge e xs ≡ true → P e) → P e
  by_test true same held later = subst P (one_edge x e same) all.0
  by_test false other held later = later held

pub held_in_filter : (p : Edge → Bool) (e : Edge) (es : List Edge) → holds_edge e (filter p es) ≡ true → holds_edge e es ≡ true
held_in_filter p e [] held = held
held_in_filter p e (x ∷ es) held = by_test (p x) held (held_in_filter p e es) where
  by_first : (c : Bool) → (holds_edge e (filter p es) ≡ true → holds_edge e es ≡ true) → (c || holds_edge e (filter p es)) ≡ true → (c || holds_edge e es) ≡ true
  by_first true rest h = refl
  by_first false rest h = rest h

  by_test : (b : Bool) → holds_edge e (cond b (x ∷ filter p es) (filter p es)) ≡ true → (holds_edge e (filter p es) ≡ true → holds_edge e es ≡ true) → (is_same_edge x e || holds_edge e es) ≡ true
  by_test true held rest = by_first (is_same_edge x e) rest held
  by_test false held rest = or_right (is_same_edge x e) (holds_edge e es) (rest held)

pub held_alone : (p e : Edge) → holds_edge e (p ∷ []) ≡ true → p ≡ e
held_alone p e held = one_edge p e (only (is_same_edge p e) held) where
  only : (a : Bool) → (a || false) ≡ true → a ≡ true
  only true h = refl
  only false h = absurd cc

-- the parent edges of a vertex lead to it
pub parents_lead : (v : Vertex) (es : List Edge) → AllByRecursion (λ e. e.target ≡ v) (parents_of v es)
parents_lead v [] = tt
parents_lead v (e ∷ es) = by_test (is_same_vertex e.target v) refl (parents_lead v es) where
  by_test : (b : Bool) → is_same_vertex e.target v ≡ b → AllByRecursion (λ x. x.target ≡ v) (parents_of v es) → AllByRecursion (λ x. x.target ≡ v) (cond b (e ∷ parents_of v es) (parents_of v es))
  by_test true same rest = (same_vertex_exact e.target v same, rest)
  by_test false other rest = rest

-- ---- the parent of an inner vertex

sole_by : (e : Edge) (ps : List Edge) (b : Bool) → holds_edge e ps ≡ true → class_by ps b ≡ Inner → ps ≡ e ∷ []
sole_by e [] b held is = absurd cc
sole_by e (p ∷ []) b held is = ap (λ x. x ∷ []) (held_alone p e held)
sole_by e (p ∷ q ∷ ps) b held is = absurd cc

-- a live edge to an inner vertex is its only parent edge
pub sole_parent : (live : List Edge) (e : Edge) → holds_edge e live ≡ true → class live e.target ≡ Inner → parents_of e.target live ≡ e ∷ []
sole_parent live e held inner = sole_by e (parents_of e.target live) (is_cycle_root live e.target) (stands_among e live held) inner

-- ---- trees among children

-- what is true of the edges to children is true of those to trees
pub tree_all : (P : Edge → Type 0) (g : Forest) → AllByRecursion P (child_edges g) → (e : Edge) (b : Forest) → IsTreeIn g e b → P e
tree_all P none all e b is = absurd is
tree_all P (multi_ref d rest) all e b is = tree_all P rest all.1 e b is
tree_all P (cycle_ref d rest) all e b is = tree_all P rest all.1 e b is
tree_all P (tree d under rest) all e b (inl is) = subst P is.0 all.0
tree_all P (tree d under rest) all e b (inr is) = tree_all P rest all.1 e b is

-- a tree among right children is that of an inner vertex
pub tree_inner : (live : List Edge) (g : Forest) → AreChildren live g → (e : Edge) (b : Forest) → IsTreeIn g e b → class live e.target ≡ Inner
tree_inner live none are e b is = absurd is
tree_inner live (multi_ref d rest) are e b is = tree_inner live rest are.1 e b is
tree_inner live (cycle_ref d rest) are e b is = tree_inner live rest are.1 e b is
tree_inner live (tree d under rest) are e b (inl is) = ap (λ (x : Edge). class live x.target) (sym is.0) ∙ are.0
tree_inner live (tree d under rest) are e b (inr is) = tree_inner live rest are.3 e b is

-- and stands under it
pub tree_stands : (live : List Edge) (g : Forest) → AreChildren live g → (e : Edge) (b : Forest) → IsTreeIn g e b → StandsUnder live e.target b
tree_stands live none are e b is = absurd is
tree_stands live (multi_ref d rest) are e b is = tree_stands live rest are.1 e b is
tree_stands live (cycle_ref d rest) are e b is = tree_stands live rest are.1 e b is
tree_stands live (tree d under rest) are e b (inl is) =
    subst (λ f. StandsUnder live e.target f) is.1 (subst (λ (x : Edge). StandsUnder live x.target under) is.0 (record { edges = are.1; children = are.2 }))
tree_stands live (tree d under rest) are e b (inr is) = tree_stands live rest are.3 e b is

-- an edge among those to right children, to an inner vertex, is that of a tree
pub record HasTree (g : Forest) (e : Edge) : Type 0 where
  pub below : Forest
  pub is : IsTreeIn g e below

two_classes : (a b : Class) → a ≡ b → Inner ≡ a → Multi ≡ b → ⊥
two_classes a b e f g = let clash : Inner ≡ Multi = f ∙ e ∙ sym g in cc

two_others : (a b : Class) → a ≡ b → Inner ≡ a → Cycle ≡ b → ⊥
two_others a b e f g = let clash : Inner ≡ Cycle = f ∙ e ∙ sym g in cc

pub has_tree : (live : List Edge) (g : Forest) → AreChildren live g → (e : Edge) → holds_edge e (child_edges g) ≡ true → class live e.target ≡ Inner → HasTree g e
has_tree live none are e held inner = absurd cc
has_tree live (multi_ref d rest) are e held inner = by_test (is_same_edge d e) refl held (has_tree live rest are.1 e) where
  by_test : (b : Bool) → is_same_edge d e ≡ b → (b || holds_edge e (child_edges rest)) ≡ true → (holds_edge e (child_edges rest) ≡ true → class live e.target ≡ Inner → HasTree rest e) → HasTree (multi_ref d rest) e
  by_test true same h later =
      absurd (two_classes (class live e.target) (class live d.target) (ap (λ (x : Edge). class live x.target) (sym (one_edge d e same))) (sym inner) (sym are.0))
  by_test false other h later = let t = later h inner in record { below = t.below; is = t.is }
has_tree live (cycle_ref d rest) are e held inner = by_test (is_same_edge d e) refl held (has_tree live rest are.1 e) where
  by_test : (b : Bool) → is_same_edge d e ≡ b → (b || holds_edge e (child_edges rest)) ≡ true → (holds_edge e (child_edges rest) ≡ true → class live e.target ≡ Inner → HasTree rest e) → HasTree (cycle_ref d rest) e
  by_test true same h later =
      absurd (two_others (class live e.target) (class live d.target) (ap (λ (x : Edge). class live x.target) (sym (one_edge d e same))) (sym inner) (sym are.0))
  by_test false other h later = let t = later h inner in record { below = t.below; is = t.is }
has_tree live (tree d under rest) are e held inner = by_test (is_same_edge d e) refl held (has_tree live rest are.3 e) where
  by_test : (b : Bool) → is_same_edge d e ≡ b → (b || holds_edge e (child_edges rest)) ≡ true → (holds_edge e (child_edges rest) ≡ true → class live e.target ≡ Inner → HasTree rest e) → HasTree (tree d under rest) e
  by_test true same h later = record { below = under; is = inl (one_edge d e same, refl) }
  by_test false other h later = let t = later h inner in record { below = t.below; is = inr t.is }

-- ---- live edges stand under their sources

held_append_left : (e : Edge) (xs ys : List Edge) → holds_edge e xs ≡ true → holds_edge e (xs ++ ys) ≡ true
held_append_left e [] ys held = absurd cc
held_append_left e (x ∷ xs) ys held = by_test (is_same_edge x e) held (held_append_left e xs ys) where
  by_test : (b : Bool) → (b || holds_edge e xs) ≡ true → (holds_edge e xs ≡ true → holds_edge e (xs ++ ys) ≡ true) → (b || holds_edge e (xs ++ ys)) ≡ true
  by_test true h later = refl
  by_test false h later = later h

held_append_right : (e : Edge) (xs ys : List Edge) → holds_edge e ys ≡ true → holds_edge e (xs ++ ys) ≡ true
held_append_right e [] ys held = held
held_append_right e (x ∷ xs) ys held = or_right (is_same_edge x e) (holds_edge e (xs ++ ys)) (held_append_right e xs ys held)

among_children : (e : Edge) (es : List Edge) → holds_edge e es ≡ true → holds_edge e (children_of e.source e.position es) ≡ true
among_children e [] held = absurd cc
among_children e (x ∷ es) held = by_same (is_same_edge x e) refl held (among_children e es) where
  passes : x ≡ e → (is_same_vertex x.source e.source && is_same_position x.position e.position) ≡ true
  passes one =
      ap (λ (y : Edge). is_same_vertex y.source e.source && is_same_position y.position e.position) one
      ∙ ap (λ b. b && is_same_position e.position e.position) (same_vertex_itself e.source) ∙ same_position_laws.refl e.position

  first : (b : Bool) → b ≡ true → is_same_edge x e ≡ true → holds_edge e (cond b (x ∷ children_of e.source e.position es) (children_of e.source e.position es)) ≡ true
  first true is same = or_left (is_same_edge x e) (holds_edge e (children_of e.source e.position es)) same
  first false is same = absurd cc

  later : (b : Bool) → holds_edge e (children_of e.source e.position es) ≡ true → holds_edge e (cond b (x ∷ children_of e.source e.position es) (children_of e.source e.position es)) ≡ true
  later true h = or_right (is_same_edge x e) (holds_edge e (children_of e.source e.position es)) h
  later false h = h

  by_same : (b : Bool) → is_same_edge x e ≡ b → (b || holds_edge e es) ≡ true → (holds_edge e es ≡ true → holds_edge e (children_of e.source e.position es) ≡ true)
      → holds_edge e (children_of e.source e.position (x ∷ es)) ≡ true
  by_same true same h rest = first (is_same_vertex x.source e.source && is_same_position x.position e.position) (passes (one_edge x e same)) same
  by_same false other h rest = later (is_same_vertex x.source e.source && is_same_position x.position e.position) (rest h)

among_from : (live : List Edge) (e : Edge) (s : Sort) (ps : List (Position × Sort)) → holds_edge e live ≡ true → sort_in ps e.position ≡ Some s → holds_edge e (edges_from live e.source ps) ≡ true
among_from live e s [] held is = absurd cc
among_from live e s (q ∷ qs) held is = by_test (position_number q.0 == position_number e.position) refl is (among_from live e s qs held) where
  by_test : (b : Bool) → (position_number q.0 == position_number e.position) ≡ b → cond b (Some q.1) (sort_in qs e.position) ≡ Some s
      → (sort_in qs e.position ≡ Some s → holds_edge e (edges_from live e.source qs) ≡ true) → holds_edge e (children_of e.source q.0 live ++ edges_from live e.source qs) ≡ true
  by_test true same is later =
      held_append_left e (children_of e.source q.0 live) (edges_from live e.source qs)
      (ap (λ p. holds_edge e (children_of e.source p live)) (position_same q.0 e.position same) ∙ among_children e live held)
  by_test false other is later = held_append_right e (children_of e.source q.0 live) (edges_from live e.source qs) (later is)

-- a well-formed live edge is one of those under its source
pub held_under : (live : List Edge) (e : Edge) → holds_edge e live ≡ true → IsWellFormed e → holds_edge e (edges_under live e.source) ≡ true
held_under live e held well = among_from live e (sort_of_ctor e.target.ctor) (positions e.source.ctor) held (place_fits e well)

-- ---- the children of a vertex of a graph with well-formed edges

-- a live edge from the vertex, whose target has the sort that its position wants
pub record IsTreeOf (live : List Edge) (v : Vertex) (e : Edge) : Type 0 where
  pub held : holds_edge e live ≡ true
  pub source : e.source ≡ v
  pub sorted : sort_at v.ctor e.position ≡ Some (sort_of_ctor e.target.ctor)

module _ (live : List Edge) (well : AllByRecursion IsWellFormed live) where
  all_of : (v : Vertex) (es : List Edge) → AllByRecursion (IsFrom live v) es → AllByRecursion (IsTreeOf live v) es
  all_of v [] all = tt
  all_of v (e ∷ es) all = (
    record {
      held = all.0.held;
      source = all.0.source;
      sorted = ap (λ (u : Vertex). sort_at u.ctor e.position) (sym all.0.source) ∙ place_fits e (all_held IsWellFormed live well e all.0.held);
    },
    all_of v es all.1,
  )

  pub under_are_of : (v : Vertex) → AllByRecursion (IsTreeOf live v) (edges_under live v)
  under_are_of v = all_of v (edges_under live v) (under_lead live v)

  pub children_are_of : (v : Vertex) (g : Forest) → child_edges g ≡ edges_under live v → (e : Edge) (b : Forest) → IsTreeIn g e b → IsTreeOf live v e
  children_are_of v g edges e b is = tree_all (IsTreeOf live v) g (subst (AllByRecursion (IsTreeOf live v)) (sym edges) (under_are_of v)) e b is
