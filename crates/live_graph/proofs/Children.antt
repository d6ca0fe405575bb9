-- The live edges at a vertex by its list.
use Rattle.std.proofs.Common.{◌≡◌, ℕ, zero, suc, ◌<◌, Bool, true, false, cond, List, [], ◌∷◌, length, get_or, refl, sym, ap, subst, ◌∙◌, arith}
use Rattle.std.specs.Prelude.{◌&&◌, ◌||◌, ◌==◌, not, filter}
use Rattle.std.specs.List.{AllByRecursion, IsDistinct}
use Rattle.std.proofs.lemmas.Bool.{eq-eqb}
use Rattle.grove_sorts.specs.declared.position.Position.{Position}
use Rattle.grove_sorts.specs.Position.{is_same_position}
use Rattle.grove_edits.specs.declared.vertex.Vertex.{Vertex}
use Rattle.grove_edits.specs.declared.edge.Edge.{Edge}
use Rattle.grove_edits.specs.Vertex.{is_same_vertex, stands_in, root}
use Rattle.grove_edits.specs.Edge.{edge_cmp}
use Rattle.grove_edits.specs.Graph.{is_same_edge}
use Rattle.grove_edits.proofs.Orders.{same_edge_laws}
use Rattle.grove_edits.proofs.Vertices.{same_vertex_exact, same_vertex_itself}
use Rattle.graph_words.specs.Live.{IsInEdgeOrder, holds_edge, children_of, parents_of}
use Rattle.graph_words.proofs.Ordered.{holds-filter, in_order-filter, same_lists}
use Rattle.edge_numbers.specs.Numbered.{Numbered, edges_of, edge_at, HasEndsIn, IsNumberOfVertex}
use Rattle.graph_words.specs.States.{state_in, is_live}
use Rattle.edge_lists.specs.Lists.{Listed, numbers_at, edges_at, with_position, numbers_with_position, holds_number, AreEdgeNumbers}
use Rattle.edge_lists.specs.Order.{IsInOrder, position_first}
use Rattle.live_graph.specs.Live.{live}
use Rattle.live_graph.specs.Around.{is_at, AreAround, source_of, target_of}
use Rattle.live_graph.proofs.Around.{of_live}
use Rattle.live_graph.proofs.Lives.{in_order-live, holds-live}
use Rattle.live_graph.proofs.Numbers.{is_at-number}

-- what is at a number is the vertex there
at_number_is : (vs : List Vertex) (v : Vertex) (n : ℕ) → is_at vs v n ≡ true → get_or vs n root ≡ v
at_number_is [] v n at = absurd cc
at_number_is (w ∷ ws) v zero at = same_vertex_exact w v at
at_number_is (w ∷ ws) v (suc n) at = by_test (is_same_vertex w v) at (at_number_is ws v n) where
  by_test : (b : Bool) → (not b && is_at ws v n) ≡ true → (is_at ws v n ≡ true → get_or ws n root ≡ v) → get_or ws n root ≡ v
  by_test true h rest = absurd cc
  by_test false h rest = rest h

-- the vertices at the number of a vertex are that vertex
pub is_at-same : (edges : Numbered) (v x : Vertex) (n : ℕ) → IsDistinct is_same_vertex edges.vertices → IsNumberOfVertex edges v n → is_at edges.vertices x n ≡ is_same_vertex x v
is_at-same edges v x n once number = by_test (is_same_vertex x v) refl where
  by_test : (b : Bool) → is_same_vertex x v ≡ b → is_at edges.vertices x n ≡ b
  by_test true same =
      ap (λ w. is_at edges.vertices w n) (same_vertex_exact x v same) ∙ is_at-number edges.vertices v n n once number.0 number.1 ∙ eq-eqb n n refl
  by_test false other = by_place (is_at edges.vertices x n) refl where
    by_place : (b : Bool) → is_at edges.vertices x n ≡ b → b ≡ false
    by_place true at =
        let one : v ≡ x = sym number.1 ∙ at_number_is edges.vertices x n at in
        let itself : is_same_vertex x v ≡ true = ap (is_same_vertex x) one ∙ same_vertex_itself x in
        absurd cc
    by_place false _ = refl

-- a vertex without a number is the end of no live edge
unnumbered : (edges : Numbered) (v : Vertex) → ((n : ℕ) → IsNumberOfVertex edges v n → ⊥) → stands_in v edges.vertices ≡ true → ⊥
unnumbered edges v none stands = let found = number_of edges.vertices stands in none found.0 (found.1, found.2) where
  number_of : (vs : List Vertex) → stands_in v vs ≡ true → (n : ℕ) × (n < length vs) × (get_or vs n root ≡ v)
  number_of [] h = absurd cc
  number_of (w ∷ ws) h = by_test (is_same_vertex w v) refl h (number_of ws) where
    by_test : (b : Bool) → is_same_vertex w v ≡ b → (b || stands_in v ws) ≡ true → (stands_in v ws ≡ true → (n : ℕ) × (n < length ws) × (get_or ws n root ≡ v))
        → (n : ℕ) × (n < length (w ∷ ws)) × (get_or (w ∷ ws) n root ≡ v)
    by_test true same _ _ = (0, omega arith, same_vertex_exact w v same)
    by_test false _ later rest = let found = rest later in (suc found.0, omega (arith, found.1), found.2)

and_swap : (a b c : Bool) → (a && (b && c)) ≡ ((b && a) && c)
and_swap true true c = refl
and_swap true false c = refl
and_swap false true c = refl
and_swap false false c = refl

nothing_held : (xs : List Edge) → ((e : Edge) → holds_edge e xs ≡ false) → xs ≡ []
nothing_held [] none = refl
nothing_held (x ∷ xs) none =
    let one : holds_edge x (x ∷ xs) ≡ true = ap (λ b. b || holds_edge x xs) (same_edge_laws.refl x) in
    let no_one = none x in
    absurd cc

module _ (edges : Numbered) (v : Vertex) (once_edges : IsDistinct is_same_edge (edges_of edges.entries)) where
  -- ---- where the vertex has a number

  module _ (once_vertices : IsDistinct is_same_vertex edges.vertices) (n : ℕ) (number : IsNumberOfVertex edges v n) (lists : List Listed) where
    pub children_listed : AreAround source_of position_first edges lists → (p : Position) → IsInEdgeOrder (with_position p (edges_at edges lists n))
        → with_position p (edges_at edges lists n) ≡ children_of v p (live edges.entries)
    children_listed around p ordered =
        same_lists (with_position p (edges_at edges lists n)) (children_of v p (live edges.entries)) ordered
        (in_order-filter (λ e. is_same_vertex e.source v && is_same_position e.position p) (live edges.entries) (in_order-live edges.entries))
        (λ e.
        holds-filter (λ x. is_same_position x.position p) e (edges_at edges lists n) ∙ ap (λ b. is_same_position e.position p && b) (around.held n e)
        ∙ and_swap (is_same_position e.position p) (is_at edges.vertices e.source n) (is_live (state_in edges.entries e))
        ∙ (λ j. (is_at-same edges v e.source n once_vertices number j && is_same_position e.position p) && sym (holds-live edges.entries e once_edges) j)
        ∙ sym (holds-filter (λ x. is_same_vertex x.source v && is_same_position x.position p) e (live edges.entries)))

    pub parents_listed : AreAround target_of edge_cmp edges lists → edges_at edges lists n ≡ parents_of v (live edges.entries)
    parents_listed around =
        same_lists (edges_at edges lists n) (parents_of v (live edges.entries)) (in_edge_order (edges_at edges lists n) (around.in_order n))
        (in_order-filter (λ e. is_same_vertex e.target v) (live edges.entries) (in_order-live edges.entries))
        (λ e.
        around.held n e ∙ (λ j. is_at-same edges v e.target n once_vertices number j && sym (holds-live edges.entries e once_edges) j)
        ∙ sym (holds-filter (λ x. is_same_vertex x.target v) e (live edges.entries)))
      where
        in_edge_order : (es : List Edge) → IsInOrder edge_cmp es → IsInEdgeOrder es
        in_edge_order [] o = tt
        in_edge_order (e ∷ es) o = (o.0, in_edge_order es o.1)

  -- ---- where it has none

  module _ (ends : AllByRecursion (HasEndsIn edges.vertices) (edges_of edges.entries)) (none : (n : ℕ) → IsNumberOfVertex edges v n → ⊥) where
    none_from : (test : Edge → Bool) → ((e : Edge) → HasEndsIn edges.vertices e → test e ≡ true → stands_in v edges.vertices ≡ true) → filter test (live edges.entries) ≡ []
    none_from test at = nothing_held (filter test (live edges.entries)) (λ e. holds-filter test e (live edges.entries) ∙ ap (λ b. test e && b) (holds-live edges.entries e once_edges) ∙ by_test e (test e) refl (is_live (state_in edges.entries e)) refl) where
      by_test : (e : Edge) (t : Bool) → test e ≡ t → (l : Bool) → is_live (state_in edges.entries e) ≡ l → (t && l) ≡ false
      by_test e true passes true lives = absurd (unnumbered edges v none (at e (of_live (HasEndsIn edges.vertices) edges.entries e lives ends) passes))
      by_test e true passes false dead = refl
      by_test e false fails l _ = refl

    pub no_children : (p : Position) → children_of v p (live edges.entries) ≡ []
    no_children p = none_from (λ e. is_same_vertex e.source v && is_same_position e.position p) (λ e has passes. subst (λ w. stands_in w edges.vertices ≡ true) (same_vertex_exact e.source v (first_true (is_same_vertex e.source v) (is_same_position e.position p) passes)) has.0) where
      first_true : (b c : Bool) → (b && c) ≡ true → b ≡ true
      first_true true c h = refl
      first_true false c h = absurd cc

    pub no_parents : parents_of v (live edges.entries) ≡ []
    no_parents = none_from (λ e. is_same_vertex e.target v) (λ e has passes. subst (λ w. stands_in w edges.vertices ≡ true) (same_vertex_exact e.target v passes) has.1)

-- at a vertex without a list nothing is listed
pub nothing_at : (lists : List Listed) (n : ℕ) → (n < length lists → ⊥) → numbers_at lists n ≡ []
nothing_at [] n past = refl
nothing_at (l ∷ ls) zero past = absurd (past (omega arith))
nothing_at (l ∷ ls) (suc n) past = nothing_at ls n (λ within. past (omega (arith, within)))

-- the numbers of edges from a position are numbers of edges
pub known_at_position : (edges : Numbered) (p : Position) (ns : List ℕ) → AreEdgeNumbers edges ns → AreEdgeNumbers edges (numbers_with_position edges p ns)
known_at_position edges p ns known n has = known n (held_before ns has) where
  held_before : (ms : List ℕ) → holds_number n (numbers_with_position edges p ms) ≡ true → holds_number n ms ≡ true
  held_before [] h = h
  held_before (m ∷ ms) h = by_test (is_same_position (edge_at edges m).position p) h (held_before ms) where
    by_test : (b : Bool) → holds_number n (cond b (m ∷ numbers_with_position edges p ms) (numbers_with_position edges p ms)) ≡ true
        → (holds_number n (numbers_with_position edges p ms) ≡ true → holds_number n ms ≡ true) → ((m == n) || holds_number n ms) ≡ true
    by_test true later rest = by_first (m == n) later where
      by_first : (b : Bool) → (b || holds_number n (numbers_with_position edges p ms)) ≡ true → (b || holds_number n ms) ≡ true
      by_first true _ = refl
      by_first false later = rest later
    by_test false later rest = or_right (m == n) (rest later) where
      or_right : (b : Bool) {c : Bool} → c ≡ true → (b || c) ≡ true
      or_right true h = refl
      or_right false h = h
