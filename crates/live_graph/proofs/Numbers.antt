-- The numbers of vertices and of edges among those that a graph has.
use Rattle.std.proofs.Common.{◌≡◌, ℕ, zero, suc, ◌+◌, ◌<◌, ◌≤◌, Bool, true, false, cond, List, [], ◌∷◌, ◌++◌, length, get_or, map, Some, is_some, refl, sym, ap, ◌∙◌, arith}
use Rattle.std.specs.Prelude.{◌&&◌, ◌||◌, ◌==◌, not}
use Rattle.std.specs.declared.cmp.Ordering.{Ordering}
use Rattle.std.specs.Ordering.{is_lt}
use Rattle.std.specs.List.{IsDistinct}
use lib.Dec.{eqb-suc-suc, eqb-suc-zero, eqb-zero-suc}
use Rattle.std.proofs.lemmas.Bool.{eq-eqb}
use Rattle.std.proofs.lemmas.List.{length-map}
use Rattle.std.proofs.lemmas.List.Elements.{All-from_recursion, All-get_or}
use Rattle.grove_edits.specs.declared.vertex.Vertex.{Vertex}
use Rattle.grove_edits.specs.declared.edge.Edge.{Edge}
use Rattle.grove_edits.specs.Vertex.{is_same_vertex, stands_in, root}
use Rattle.grove_edits.specs.Graph.{is_same_edge}
use Rattle.grove_edits.proofs.Orders.{one_edge, same_edge_laws}
use Rattle.grove_edits.proofs.Vertices.{same_vertex_itself}
use Rattle.graph_words.specs.Live.{holds_edge}
use Rattle.edge_numbers.specs.Numbered.{Numbered, edges_of, edge_at, no_edge, IsEdgeNumber, KeepsNumbers}
use Rattle.graph_words.specs.States.{Entries, entry_at, HasRoom}
use Rattle.edge_lists.specs.Lists.{Listed, holds_number, without_number, AreEdgeNumbers, places_at, listed_at, nothing_listed, HasVertex}
use Rattle.edge_lists.specs.Order.{with_number}
use Rattle.live_graph.specs.Around.{is_at}

-- ---- vertices

-- a vertex is at its number alone
pub is_at-number : (vs : List Vertex) (v : Vertex) (k n : ℕ) → IsDistinct is_same_vertex vs → k < length vs → get_or vs k root ≡ v → is_at vs v n ≡ (k == n)
unfolding IsDistinct
is_at-number [] v k n once within at = absurd (omega (arith, within))
is_at-number (w ∷ ws) v zero zero once within at = ap (λ x. is_same_vertex x v) at ∙ same_vertex_itself v
is_at-number (w ∷ ws) v zero (suc n) once within at = ap (λ b. not b && is_at ws v n) (ap (λ x. is_same_vertex x v) at ∙ same_vertex_itself v) ∙ sym (eqb-zero-suc n)
is_at-number (w ∷ ws) v (suc k) n once within at =
    let inner : k < length ws = omega (arith, within) in
    let differs : is_same_vertex w v ≡ false =
    ap (is_same_vertex w) (sym at) ∙ All-get_or (λ x. is_same_vertex w x ≡ false) ws k root inner (All-from_recursion (λ x. is_same_vertex w x ≡ false) ws once.0) in
    by_number n differs (λ m. is_at-number ws v k m once.1 inner at)
  where
    by_number : (n : ℕ) → is_same_vertex w v ≡ false → ((m : ℕ) → is_at ws v m ≡ (k == m)) → is_at (w ∷ ws) v n ≡ (suc k == n)
    by_number zero differs rest = differs ∙ sym (eqb-suc-zero k)
    by_number (suc m) differs rest = ap (λ b. not b && is_at ws v m) differs ∙ rest m ∙ sym (eqb-suc-suc k m)

-- further vertices change no number
pub is_at-more : (vs more : List Vertex) (v : Vertex) (n : ℕ) → stands_in v vs ≡ true → is_at (vs ++ more) v n ≡ is_at vs v n
is_at-more [] more v n stands = absurd cc
is_at-more (w ∷ ws) more v zero stands = refl
is_at-more (w ∷ ws) more v (suc n) stands = by_test (is_same_vertex w v) stands (is_at-more ws more v n) where
  by_test : (b : Bool) → (b || stands_in v ws) ≡ true → (stands_in v ws ≡ true → is_at (ws ++ more) v n ≡ is_at ws v n)
      → (not b && is_at (ws ++ more) v n) ≡ (not b && is_at ws v n)
  by_test true _ rest = refl
  by_test false stands rest = rest stands

-- ---- edges

pub one_number : (es : List Edge) (i j : ℕ) → IsDistinct is_same_edge es → i < length es → j < length es → get_or es i no_edge ≡ get_or es j no_edge → i ≡ j
unfolding IsDistinct
one_number [] i j once first second same = absurd (omega (arith, first))
one_number (e ∷ es) zero zero once first second same = refl
one_number (e ∷ es) zero (suc j) once first second same =
    let apart : is_same_edge e (get_or es j no_edge) ≡ false =
    All-get_or (λ x. is_same_edge e x ≡ false) es j no_edge (omega (arith, second)) (All-from_recursion (λ x. is_same_edge e x ≡ false) es once.0) in
    let itself : is_same_edge e (get_or es j no_edge) ≡ true = ap (is_same_edge e) (sym same) ∙ same_edge_laws.refl e in
    absurd cc
one_number (e ∷ es) (suc i) zero once first second same =
    let apart : is_same_edge e (get_or es i no_edge) ≡ false =
    All-get_or (λ x. is_same_edge e x ≡ false) es i no_edge (omega (arith, first)) (All-from_recursion (λ x. is_same_edge e x ≡ false) es once.0) in
    let itself : is_same_edge e (get_or es i no_edge) ≡ true = ap (is_same_edge e) same ∙ same_edge_laws.refl e in
    absurd cc
one_number (e ∷ es) (suc i) (suc j) once first second same = ap suc (one_number es i j once.1 (omega (arith, first)) (omega (arith, second)) same)

module _ (edges : Numbered) where
  pub within_edges : (n : ℕ) → IsEdgeNumber edges n → n < length (edges_of edges.entries)
  within_edges n number = omega (arith, number, length-map edges.entries (λ entry. entry.0))

  pub known_later : (m : ℕ) (ms : List ℕ) → AreEdgeNumbers edges (m ∷ ms) → AreEdgeNumbers edges ms
  known_later m ms known n held = known n (by_test (m == n) held) where
    by_test : (b : Bool) → holds_number n ms ≡ true → (b || holds_number n ms) ≡ true
    by_test true h = refl
    by_test false h = h

  pub known_first : (m : ℕ) (ms : List ℕ) → AreEdgeNumbers edges (m ∷ ms) → IsEdgeNumber edges m
  known_first m ms known = known m (ap (λ b. b || holds_number m ms) (eq-eqb m m refl))

  -- a list that holds an edge holds its number
  pub held_number : (ms : List ℕ) (n : ℕ) → IsDistinct is_same_edge (edges_of edges.entries) → IsEdgeNumber edges n → AreEdgeNumbers edges ms
      → holds_edge (edge_at edges n) (map (edge_at edges) ms) ≡ true → holds_number n ms ≡ true
  held_number [] n once number known held = absurd cc
  held_number (m ∷ ms) n once number known held =
      by_test (is_same_edge (edge_at edges m) (edge_at edges n)) refl held (held_number ms n once number (known_later m ms known))
    where
      or_right : (b : Bool) {c : Bool} → c ≡ true → (b || c) ≡ true
      or_right true h = refl
      or_right false h = h

      by_test : (b : Bool) → is_same_edge (edge_at edges m) (edge_at edges n) ≡ b → (b || holds_edge (edge_at edges n) (map (edge_at edges) ms)) ≡ true
          → (holds_edge (edge_at edges n) (map (edge_at edges) ms) ≡ true → holds_number n ms ≡ true) → holds_number n (m ∷ ms) ≡ true
      by_test true same _ _ =
          let one = one_number (edges_of edges.entries) m n once (within_edges m (known_first m ms known)) (within_edges n number) (one_edge (edge_at edges m) (edge_at edges n) same) in
          ap (λ b. b || holds_number n ms) (eq-eqb m n one)
      by_test false _ rest later = or_right (m == n) (later rest)

  -- what has a number is the same edge still
  pub edges_stay : (after : Numbered) (ms : List ℕ) → KeepsNumbers edges after → AreEdgeNumbers edges ms → map (edge_at after) ms ≡ map (edge_at edges) ms
  edges_stay after [] keeps known = refl
  edges_stay after (m ∷ ms) keeps known =
      ap (λ e. e ∷ map (edge_at after) ms) ((keeps m (known_first m ms known)).1) ∙ ap (λ es. edge_at edges m ∷ es) (edges_stay after ms keeps (known_later m ms known))

  pub known_still : (after : Numbered) (ms : List ℕ) → KeepsNumbers edges after → AreEdgeNumbers edges ms → AreEdgeNumbers after ms
  known_still after ms keeps known n held = (keeps n (known n held)).0

-- a vertex whose list has a place has a list
pub has_list : (lists : List Listed) (n : ℕ) → 1 ≤ places_at lists n → HasVertex lists n
has_list [] n some = absurd (omega (arith, some))
has_list (l ∷ ls) zero some = omega arith
has_list (l ∷ ls) (suc n) some = omega (arith, has_list ls n some)

length-without_number-le : (ms : List ℕ) (n : ℕ) → length (without_number n ms) ≤ length ms
length-without_number-le [] n = omega arith
length-without_number-le (m ∷ ms) n = by_test (not (m == n)) (length-without_number-le ms n) where
  by_test : (b : Bool) → length (without_number n ms) ≤ length ms → length (cond b (m ∷ without_number n ms) (without_number n ms)) ≤ suc (length ms)
  by_test true rest = omega (arith, rest)
  by_test false rest = omega (arith, rest)

-- a list that holds a number has one more than it has without it
pub length-without_number : (ms : List ℕ) (n : ℕ) → holds_number n ms ≡ true → length (without_number n ms) + 1 ≤ length ms
length-without_number [] n held = absurd cc
length-without_number (m ∷ ms) n held = by_test (m == n) held (length-without_number ms n) (length-without_number-le ms n) where
  by_test : (b : Bool) → (b || holds_number n ms) ≡ true → (holds_number n ms ≡ true → length (without_number n ms) + 1 ≤ length ms) → length (without_number n ms) ≤ length ms
      → length (cond (not b) (m ∷ without_number n ms) (without_number n ms)) + 1 ≤ suc (length ms)
  by_test true _ _ fewer = omega (arith, fewer)
  by_test false rest later _ = omega (arith, later rest)

pub length-with_number : (order : ℕ → ℕ → Ordering) (n : ℕ) (ms : List ℕ) → length (with_number order n ms) ≡ length ms + 1
length-with_number order n [] = omega arith
length-with_number order n (m ∷ ms) = by_test (is_lt (order m n)) (length-with_number order n ms) where
  by_test : (b : Bool) → length (with_number order n ms) ≡ length ms + 1 → length (cond b (m ∷ with_number order n ms) (n ∷ m ∷ ms)) ≡ suc (length ms) + 1
  by_test true rest = omega (arith, rest)
  by_test false rest = omega arith

-- one list more, in which nothing stands, changes nothing
pub listed_push : (lists : List Listed) (n : ℕ) → listed_at (lists ++ nothing_listed ∷ []) n ≡ listed_at lists n
listed_push [] zero = refl
listed_push [] (suc n) = refl
listed_push (l ∷ ls) zero = refl
listed_push (l ∷ ls) (suc n) = listed_push ls n

-- as many entries as of the same edges
pub kept_fits : (edges after : Numbered) → edges_of after.entries ≡ edges_of edges.entries → {most : ℕ} → length edges.entries ≤ most → length after.entries ≤ most
kept_fits edges after same fits =
    let count : length (edges_of after.entries) ≡ length (edges_of edges.entries) = ap length same in
    omega (arith, fits, count, length-map after.entries (λ entry. entry.0), length-map edges.entries (λ entry. entry.0))

-- ---- room

pub room-at : (entries : Entries) (n : ℕ) → n < length entries → HasRoom entries (get_or (edges_of entries) n no_edge)
room-at [] n within = absurd (omega (arith, within))
room-at (x ∷ xs) zero within = ap (λ b. is_some (cond b (Some x.1) (entry_at xs x.0))) (same_edge_laws.refl x.0)
room-at (x ∷ xs) (suc n) within = by_test (is_same_edge (get_or (edges_of xs) n no_edge) x.0) (room-at xs n (omega (arith, within))) where
  by_test : (b : Bool) → HasRoom xs (get_or (edges_of xs) n no_edge) → is_some (cond b (Some x.1) (entry_at xs (get_or (edges_of xs) n no_edge))) ≡ true
  by_test true rest = refl
  by_test false rest = rest

-- an edge with room has a number
pub number_of_room : (entries : Entries) (e : Edge) → HasRoom entries e → (n : ℕ) × (n < length entries) × (get_or (edges_of entries) n no_edge ≡ e)
number_of_room [] e room = absurd cc
number_of_room (x ∷ xs) e room = by_test (is_same_edge e x.0) refl room (number_of_room xs e) where
  by_test : (b : Bool) → is_same_edge e x.0 ≡ b → is_some (cond b (Some x.1) (entry_at xs e)) ≡ true → (HasRoom xs e → (n : ℕ) × (n < length xs) × (get_or (edges_of xs) n no_edge ≡ e))
      → (n : ℕ) × (n < length (x ∷ xs)) × (get_or (edges_of (x ∷ xs)) n no_edge ≡ e)
  by_test true same _ _ = (0, omega arith, sym (one_edge e x.0 same))
  by_test false _ has rest = let found = rest has in (suc found.0, omega (arith, found.1), found.2)
