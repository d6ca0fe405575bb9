-- How the lists around the vertices go on where one edge gets another state.
use Rattle.std.proofs.Common.{◌≡◌, ℕ, ◌+◌, ◌≤◌, Bool, true, false, List, [], ◌∷◌, Some, length, map, cond, refl, sym, ap, subst, ◌∙◌, arith}
use Rattle.std.specs.Prelude.{◌&&◌, ◌||◌, ◌==◌, not}
use Rattle.std.specs.List.{IsDistinct}
use Rattle.std.specs.declared.cmp.Ordering.{Ordering}
use Rattle.std.specs.declared.cmp.Ordering.TheVariants.{Less, Equal, Greater}
use Rattle.std.proofs.lemmas.Bool.{eqb-true, eqb-false, eq-eqb}
use Rattle.edge_lattice.specs.declared.state.State.{State}
use Rattle.grove_sorts.proofs.Truths.{or_swap, or_again}
use Rattle.grove_edits.specs.declared.vertex.Vertex.{Vertex}
use Rattle.grove_edits.specs.declared.edge.Edge.{Edge}
use Rattle.grove_edits.specs.Vertex.{is_same_vertex}
use Rattle.grove_edits.specs.Graph.{is_same_edge}
use Rattle.grove_edits.proofs.Orders.{one_edge, same_edge_laws}
use Rattle.graph_words.specs.Live.{holds_edge}
use Rattle.graph_words.specs.Ordered.{put_before, without_edge}
use Rattle.graph_words.proofs.Ordered.{holds-filter}
use Rattle.edge_numbers.specs.Numbered.{Numbered, edges_of, edge_at, state_at, IsEdgeNumber, IsNumberOfVertex}
use Rattle.graph_words.specs.States.{state_in, with_state, is_live}
use Rattle.edge_numbers.proofs.States.{state_numbered}
use Rattle.edge_lists.specs.Lists.{Listed, listed_at, numbers_at, places_at, edges_at, holds_number, without_number, AreEdgeNumbers, HasVertex, HasFreePlace, KeepsOthers}
use Rattle.edge_lists.specs.Order.{IsInOrder, with_edge_by, by_edge, with_number}
use Rattle.live_graph.specs.Around.{once, is_at, total, idle, idle_weight, AreAround, IsStateSet}
use Rattle.live_graph.proofs.Numbers.{is_at-number, one_number, within_edges, held_number, edges_stay, known_still, has_list, length-without_number, length-with_number}
use Rattle.live_graph.proofs.Totals.{total-at, total-set}

and_false : (b : Bool) → (b && false) ≡ false
and_false true = refl
and_false false = refl

holds-with_edge_by : (order : Edge → Edge → Ordering) → ((a b : Edge) → order a b ≡ Equal → a ≡ b) → (e x : Edge) (xs : List Edge) → holds_edge e (with_edge_by order x xs) ≡ (is_same_edge x e || holds_edge e xs)
holds-with_edge_by order exact e x [] = refl
holds-with_edge_by order exact e x (y ∷ ys) =
    elim (order x y) as (λ o. order x y ≡ o → holds_edge e (put_before o x y ys (with_edge_by order x ys)) ≡ (is_same_edge x e || (is_same_edge y e || holds_edge e ys))) [
      | Less ↦ λ _. refl
      | Equal ↦ λ tie.
          let one : y ≡ x = sym (exact x y tie) in
          let again : (is_same_edge x e || holds_edge e ys) ≡ (is_same_edge x e || (is_same_edge x e || holds_edge e ys)) = or_again (is_same_edge x e) (holds_edge e ys) in
          subst (λ z. (is_same_edge z e || holds_edge e ys) ≡ (is_same_edge x e || (is_same_edge z e || holds_edge e ys))) (sym one) again
      | Greater ↦ λ _. ap (λ b. is_same_edge y e || b) (holds-with_edge_by order exact e x ys) ∙ or_swap (is_same_edge y e) (is_same_edge x e) (holds_edge e ys)
    ] refl

-- what is kept of the lists where one state is set
module _ (end : Edge → Vertex) (order : Edge → Edge → Ordering) (edges : Numbered) (n : ℕ) where
  abbrev edge : Edge
  edge = edge_at edges n

  -- what the edge counts for at a number, with a state
  abbrev counts : ℕ → State → ℕ
  counts m s = idle_weight edges.vertices end m edge s

  pub around-set : (state : State) (after : Numbered) (lists : List Listed) → IsEdgeNumber edges n → IsStateSet edges n state after
      → ((m : ℕ) → AreEdgeNumbers edges (numbers_at lists m)) → ((m : ℕ) → IsInOrder order (edges_at edges lists m))
      → ((m : ℕ) (e : Edge) → holds_edge e (edges_at edges lists m) ≡ (is_at edges.vertices (end e) m && is_live (with_state edge state (state_in edges.entries) e)))
      → ((m i : ℕ) → i + counts m (state_at edges n) ≡ idle edges end m + counts m state → length (numbers_at lists m) + i ≤ places_at lists m)
      → AreAround end order after lists
  around-set state after lists number set known in_order held places = record {
    known = λ m. known_still edges after (numbers_at lists m) set.numbers (known m);
    in_order = λ m. subst (IsInOrder order) (sym (edges_stay edges after (numbers_at lists m) set.numbers (known m))) (in_order m);
    held = λ m e. ap (holds_edge e) (edges_stay edges after (numbers_at lists m) set.numbers (known m)) ∙ held m e ∙ (λ j. is_at (sym set.vertices j) (end e) m && is_live (sym (set.graph e) j));
    places = λ m.
        let same : idle after end m ≡ total (idle_weight edges.vertices end m) after.entries = ap (λ vs. total (idle_weight vs end m) after.entries) set.vertices in
        let change = total-set (idle_weight edges.vertices end m) edges.entries after.entries n state number set.kept_edges set.states in
        places m (idle after end m) (omega (arith, same, change));
  }

  module _ (once_edges : IsDistinct is_same_edge (edges_of edges.entries)) (number : IsEdgeNumber edges n) (before : List Listed) (around : AreAround end order edges before) where
    pub state_there : state_in edges.entries edge ≡ state_at edges n
    state_there =
        state_numbered edges edge n (λ i is. ap Some (one_number (edges_of edges.entries) n i once_edges (within_edges edges n number) (within_edges edges i is.0) (sym is.1))) (number, refl)

    -- another state that is as live changes no list
    pub around-kept : (state : State) (after : Numbered) → IsStateSet edges n state after → is_live state ≡ is_live (state_at edges n) → AreAround end order after before
    around-kept state after set same = around-set state after before number set around.known around.in_order held places where
      alike : (e : Edge) → is_live (state_in edges.entries e) ≡ is_live (with_state edge state (state_in edges.entries) e)
      alike e = by_test (is_same_edge edge e) refl where
        by_test : (b : Bool) → is_same_edge edge e ≡ b → is_live (state_in edges.entries e) ≡ is_live (cond b state (state_in edges.entries e))
        by_test true is = ap (λ x. is_live (state_in edges.entries x)) (sym (one_edge edge e is)) ∙ ap is_live state_there ∙ sym same
        by_test false other = refl

      held : (m : ℕ) (e : Edge) → holds_edge e (edges_at edges before m) ≡ (is_at edges.vertices (end e) m && is_live (with_state edge state (state_in edges.entries) e))
      held m e = around.held m e ∙ ap (λ b. is_at edges.vertices (end e) m && b) (alike e)

      places : (m i : ℕ) → i + counts m (state_at edges n) ≡ idle edges end m + counts m state → length (numbers_at before m) + i ≤ places_at before m
      places m i change =
          let weight : counts m state ≡ counts m (state_at edges n) = ap (λ b. once (not b && is_at edges.vertices (end edge) m)) same in
          omega (arith, change, weight, around.places m)

    module _ (k : ℕ) (once_vertices : IsDistinct is_same_vertex edges.vertices) (vertex : IsNumberOfVertex edges (end edge) k) where
      at_number : (m : ℕ) → is_at edges.vertices (end edge) m ≡ (k == m)
      at_number m = is_at-number edges.vertices (end edge) k m once_vertices vertex.0 vertex.1

      at_itself : is_at edges.vertices (end edge) k ≡ true
      at_itself = at_number k ∙ eq-eqb k k refl

      counts_dead : (m : ℕ) (s : State) → is_live s ≡ false → counts m s ≡ once (k == m)
      counts_dead m s dead = ap (λ b. once (not b && is_at edges.vertices (end edge) m)) dead ∙ ap once (at_number m)

      counts_live : (m : ℕ) (s : State) → is_live s ≡ true → counts m s ≡ 0
      counts_live m s lives = ap (λ b. once (not b && is_at edges.vertices (end edge) m)) lives

      -- the edge with the new state is at the number alone
      abbrev Changed : State → (ℕ → Edge → Bool) → Type 0
      Changed state holds = (m : ℕ) (e : Edge) → holds m e ≡ (is_at edges.vertices (end e) m && is_live (with_state edge state (state_in edges.entries) e))

      -- ---- an edge that becomes live

      module _ (not_live : is_live (state_at edges n) ≡ false) where
        dead_there : is_live (state_in edges.entries edge) ≡ false
        dead_there = ap is_live state_there ∙ not_live

        pub put_new : holds_edge edge (edges_at edges before k) ≡ false
        put_new = around.held k edge ∙ ap (λ b. is_at edges.vertices (end edge) k && b) dead_there ∙ and_false (is_at edges.vertices (end edge) k)

        some_idle : 1 ≤ idle edges end k
        some_idle =
            let here = total-at (idle_weight edges.vertices end k) edges.entries n number in
            let one : counts k (state_at edges n) ≡ 1 = counts_dead k (state_at edges n) not_live ∙ ap once (eq-eqb k k refl) in
            omega (arith, here, one)

        pub put_place : HasFreePlace before k
        put_place = omega (arith, some_idle, around.places k)

        pub put_list : HasVertex before k
        put_list = has_list before k (omega (arith, some_idle, around.places k))

        pub around-put : ((a b : Edge) → order a b ≡ Equal → a ≡ b) → (state : State) (after : Numbered) (lists : List Listed) → IsStateSet edges n state after → is_live state ≡ true
            → edges_at edges lists k ≡ with_edge_by order edge (edges_at edges before k)
            → numbers_at lists k ≡ with_number (by_edge order edges) n (numbers_at before k)
            → ((m : ℕ) → holds_number m (numbers_at lists k) ≡ ((n == m) || holds_number m (numbers_at before k)))
            → IsInOrder order (edges_at edges lists k) → places_at lists k ≡ places_at before k → KeepsOthers k before lists → AreAround end order after lists
        around-put exact state after lists set lives put_edges put_numbers put_holds ordered same_places others =
            around-set state after lists number set known in_order held places
          where
            same : (m : ℕ) → (k == m) ≡ false → listed_at lists m ≡ listed_at before m
            same m other = others m (λ is. eqb-false k m other (sym is))

            known : (m : ℕ) → AreEdgeNumbers edges (numbers_at lists m)
            known m = by_test (k == m) refl where
              at_k : AreEdgeNumbers edges (numbers_at lists k)
              at_k j has = by_either (n == j) refl (sym (put_holds j) ∙ has) where
                by_either : (b : Bool) → (n == j) ≡ b → (b || holds_number j (numbers_at before k)) ≡ true → IsEdgeNumber edges j
                by_either true is _ = subst (IsEdgeNumber edges) (eqb-true n j is) number
                by_either false _ rest = around.known k j rest

              by_test : (b : Bool) → (k == m) ≡ b → AreEdgeNumbers edges (numbers_at lists m)
              by_test true is = subst (λ i. AreEdgeNumbers edges (numbers_at lists i)) (eqb-true k m is) at_k
              by_test false other = subst (λ l. AreEdgeNumbers edges l.numbers) (sym (same m other)) (around.known m)

            in_order : (m : ℕ) → IsInOrder order (edges_at edges lists m)
            in_order m = by_test (k == m) refl where
              by_test : (b : Bool) → (k == m) ≡ b → IsInOrder order (edges_at edges lists m)
              by_test true is = subst (λ i. IsInOrder order (edges_at edges lists i)) (eqb-true k m is) ordered
              by_test false other = subst (λ l. IsInOrder order (map (edge_at edges) l.numbers)) (sym (same m other)) (around.in_order m)

            held : Changed state (λ m e. holds_edge e (edges_at edges lists m))
            held m e = by_test (k == m) refl (is_same_edge edge e) refl where
              told : (b : Bool) → is_same_edge edge e ≡ b → (is_at edges.vertices (end e) m && is_live (cond b state (state_in edges.entries e))) ≡ (is_at edges.vertices (end e) m && is_live (with_state edge state (state_in edges.entries) e))
              told b is = ap (λ c. is_at edges.vertices (end e) m && is_live (cond c state (state_in edges.entries e))) (sym is)

              by_test : (t : Bool) → (k == m) ≡ t → (b : Bool) → is_same_edge edge e ≡ b → holds_edge e (edges_at edges lists m) ≡ (is_at edges.vertices (end e) m && is_live (with_state edge state (state_in edges.entries) e))
              by_test true here true is =
                  let one = one_edge edge e is in
                  ap (λ i. holds_edge e (edges_at edges lists i)) (sym (eqb-true k m here)) ∙ ap (holds_edge e) put_edges ∙ holds-with_edge_by order exact e edge (edges_at edges before k)
                  ∙ ap (λ b. b || holds_edge e (edges_at edges before k)) is
                  ∙ sym (ap (λ x. is_at edges.vertices (end x) m && is_live state) (sym one) ∙ (λ j. (at_number m ∙ here) j && lives j)) ∙ told true is
              by_test true here false other =
                  ap (λ i. holds_edge e (edges_at edges lists i)) (sym (eqb-true k m here)) ∙ ap (holds_edge e) put_edges ∙ holds-with_edge_by order exact e edge (edges_at edges before k)
                  ∙ ap (λ b. b || holds_edge e (edges_at edges before k)) other
                  ∙ ap (λ i. holds_edge e (edges_at edges before i)) (eqb-true k m here) ∙ around.held m e ∙ told false other
              by_test false apart true is =
                  let one = one_edge edge e is in
                  let away : is_at edges.vertices (end e) m ≡ false = ap (λ x. is_at edges.vertices (end x) m) (sym one) ∙ at_number m ∙ apart in
                  ap (λ l. holds_edge e (map (edge_at edges) l.numbers)) (same m apart) ∙ around.held m e
                  ∙ ap (λ b. b && is_live (state_in edges.entries e)) away ∙ sym (ap (λ b. b && is_live state) away) ∙ told true is
              by_test false apart false other = ap (λ l. holds_edge e (map (edge_at edges) l.numbers)) (same m apart) ∙ around.held m e ∙ told false other

            places : (m i : ℕ) → i + counts m (state_at edges n) ≡ idle edges end m + counts m state → length (numbers_at lists m) + i ≤ places_at lists m
            places m i change = by_test (k == m) refl where
              by_test : (b : Bool) → (k == m) ≡ b → length (numbers_at lists m) + i ≤ places_at lists m
              by_test true here =
                  let at : k ≡ m = eqb-true k m here in
                  let old : counts m (state_at edges n) ≡ 1 = counts_dead m (state_at edges n) not_live ∙ ap once here in
                  let new : counts m state ≡ 0 = counts_live m state lives in
                  let count : length (numbers_at lists m) ≡ length (numbers_at before m) + 1 =
                  ap (λ x. length (numbers_at lists x)) (sym at) ∙ ap length put_numbers ∙ length-with_number (by_edge order edges) n (numbers_at before k) ∙ ap (λ x. length (numbers_at before x) + 1) at in
                  let room : places_at lists m ≡ places_at before m = ap (places_at lists) (sym at) ∙ same_places ∙ ap (places_at before) at in
                  omega (arith, change, old, new, count, room, around.places m)
              by_test false apart =
                  let old : counts m (state_at edges n) ≡ 0 = counts_dead m (state_at edges n) not_live ∙ ap once apart in
                  let new : counts m state ≡ 0 = counts_live m state lives in
                  let count : length (numbers_at lists m) ≡ length (numbers_at before m) = ap (λ l. length l.numbers) (same m apart) in
                  let room : places_at lists m ≡ places_at before m = ap (λ l. l.places) (same m apart) in
                  omega (arith, change, old, new, count, room, around.places m)

      -- ---- an edge that is live no longer

      module _ (is_now : is_live (state_at edges n) ≡ true) where
        pub take_held : holds_number n (numbers_at before k) ≡ true
        take_held = held_number edges (numbers_at before k) n once_edges number (around.known k) (around.held k edge ∙ (λ j. at_itself j && (ap is_live state_there ∙ is_now) j))

        pub take_list : HasVertex before k
        take_list = has_list before k (omega (arith, length-without_number (numbers_at before k) n take_held, around.places k))

        pub around-take_out : (state : State) (after : Numbered) (lists : List Listed) → IsStateSet edges n state after → is_live state ≡ false
            → edges_at edges lists k ≡ without_edge edge (edges_at edges before k)
            → numbers_at lists k ≡ without_number n (numbers_at before k)
            → ((m : ℕ) → holds_number m (numbers_at lists k) ≡ (not (n == m) && holds_number m (numbers_at before k)))
            → IsInOrder order (edges_at edges lists k) → places_at lists k ≡ places_at before k → KeepsOthers k before lists → AreAround end order after lists
        around-take_out state after lists set dead take_edges take_numbers take_holds ordered same_places others =
            around-set state after lists number set known in_order held places
          where
            same : (m : ℕ) → (k == m) ≡ false → listed_at lists m ≡ listed_at before m
            same m other = others m (λ is. eqb-false k m other (sym is))

            known : (m : ℕ) → AreEdgeNumbers edges (numbers_at lists m)
            known m = by_test (k == m) refl where
              at_k : AreEdgeNumbers edges (numbers_at lists k)
              at_k j has = around.known k j (by_either (not (n == j)) (sym (take_holds j) ∙ has)) where
                by_either : (b : Bool) → (b && holds_number j (numbers_at before k)) ≡ true → holds_number j (numbers_at before k) ≡ true
                by_either true h = h
                by_either false h = absurd cc

              by_test : (b : Bool) → (k == m) ≡ b → AreEdgeNumbers edges (numbers_at lists m)
              by_test true is = subst (λ i. AreEdgeNumbers edges (numbers_at lists i)) (eqb-true k m is) at_k
              by_test false other = subst (λ l. AreEdgeNumbers edges l.numbers) (sym (same m other)) (around.known m)

            in_order : (m : ℕ) → IsInOrder order (edges_at edges lists m)
            in_order m = by_test (k == m) refl where
              by_test : (b : Bool) → (k == m) ≡ b → IsInOrder order (edges_at edges lists m)
              by_test true is = subst (λ i. IsInOrder order (edges_at edges lists i)) (eqb-true k m is) ordered
              by_test false other = subst (λ l. IsInOrder order (map (edge_at edges) l.numbers)) (sym (same m other)) (around.in_order m)

            held : Changed state (λ m e. holds_edge e (edges_at edges lists m))
            held m e = by_test (k == m) refl (is_same_edge edge e) refl where
              told : (b : Bool) → is_same_edge edge e ≡ b → (is_at edges.vertices (end e) m && is_live (cond b state (state_in edges.entries e))) ≡ (is_at edges.vertices (end e) m && is_live (with_state edge state (state_in edges.entries) e))
              told b is = ap (λ c. is_at edges.vertices (end e) m && is_live (cond c state (state_in edges.entries e))) (sym is)

              gone : (is_at edges.vertices (end e) m && is_live state) ≡ false
              gone = ap (λ b. is_at edges.vertices (end e) m && b) dead ∙ and_false (is_at edges.vertices (end e) m)

              by_test : (t : Bool) → (k == m) ≡ t → (b : Bool) → is_same_edge edge e ≡ b → holds_edge e (edges_at edges lists m) ≡ (is_at edges.vertices (end e) m && is_live (with_state edge state (state_in edges.entries) e))
              by_test true here b is =
                  ap (λ i. holds_edge e (edges_at edges lists i)) (sym (eqb-true k m here)) ∙ ap (holds_edge e) take_edges ∙ holds-filter (λ x. not (is_same_edge x edge)) e (edges_at edges before k)
                  ∙ ap (λ c. not c && holds_edge e (edges_at edges before k)) (same_edge_laws.symm e edge ∙ is) ∙ by_same b is ∙ told b is
                where
                  by_same : (b : Bool) → is_same_edge edge e ≡ b → (not b && holds_edge e (edges_at edges before k)) ≡ (is_at edges.vertices (end e) m && is_live (cond b state (state_in edges.entries e)))
                  by_same true _ = sym gone
                  by_same false _ = ap (λ i. holds_edge e (edges_at edges before i)) (eqb-true k m here) ∙ around.held m e
              by_test false apart true is =
                  let one = one_edge edge e is in
                  let away : is_at edges.vertices (end e) m ≡ false = ap (λ x. is_at edges.vertices (end x) m) (sym one) ∙ at_number m ∙ apart in
                  ap (λ l. holds_edge e (map (edge_at edges) l.numbers)) (same m apart) ∙ around.held m e
                  ∙ ap (λ b. b && is_live (state_in edges.entries e)) away ∙ sym (ap (λ b. b && is_live state) away) ∙ told true is
              by_test false apart false other = ap (λ l. holds_edge e (map (edge_at edges) l.numbers)) (same m apart) ∙ around.held m e ∙ told false other

            places : (m i : ℕ) → i + counts m (state_at edges n) ≡ idle edges end m + counts m state → length (numbers_at lists m) + i ≤ places_at lists m
            places m i change = by_test (k == m) refl where
              by_test : (b : Bool) → (k == m) ≡ b → length (numbers_at lists m) + i ≤ places_at lists m
              by_test true here =
                  let at : k ≡ m = eqb-true k m here in
                  let old : counts m (state_at edges n) ≡ 0 = counts_live m (state_at edges n) is_now in
                  let new : counts m state ≡ 1 = counts_dead m state dead ∙ ap once here in
                  let count : length (numbers_at lists m) ≡ length (without_number n (numbers_at before k)) = ap (λ x. length (numbers_at lists x)) (sym at) ∙ ap length take_numbers in
                  let fewer : length (without_number n (numbers_at before k)) + 1 ≤ length (numbers_at before k) = length-without_number (numbers_at before k) n take_held in
                  let moved : length (numbers_at before k) ≡ length (numbers_at before m) = ap (λ x. length (numbers_at before x)) at in
                  let room : places_at lists m ≡ places_at before m = ap (places_at lists) (sym at) ∙ same_places ∙ ap (places_at before) at in
                  omega (arith, change, old, new, count, fewer, moved, room, around.places m)
              by_test false apart =
                  let old : counts m (state_at edges n) ≡ 0 = counts_live m (state_at edges n) is_now in
                  let new : counts m state ≡ 0 = counts_dead m state dead ∙ ap once apart in
                  let count : length (numbers_at lists m) ≡ length (numbers_at before m) = ap (λ l. length l.numbers) (same m apart) in
                  let room : places_at lists m ≡ places_at before m = ap (λ l. l.places) (same m apart) in
                  omega (arith, change, old, new, count, room, around.places m)
