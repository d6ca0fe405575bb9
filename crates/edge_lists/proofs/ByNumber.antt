-- Lists of edges in an order, by their numbers: the place of one more, and of one that is taken out.
use Rattle.std.proofs.Common.{◌≡◌, ℕ, suc, ◌+◌, ◌<◌, Bool, true, false, cond, List, [], ◌∷◌, length, map, refl, sym, ap, subst, ◌∙◌, arith}
use Rattle.std.specs.Prelude.{◌||◌, ◌==◌, not, filter, remove}
use Rattle.std.specs.List.{AllByRecursion, prefix_len}
use Rattle.std.specs.declared.cmp.Ordering.{Ordering}
use Rattle.std.specs.declared.cmp.Ordering.TheVariants.{Less, Equal, Greater}
use Rattle.std.specs.Ordering.{is_lt, ordering_reverse}
use Rattle.std.specs.Cmp.{IsTotalOrder}
use Rattle.std.proofs.lemmas.Bool.{eqb-true}
use Rattle.std.proofs.lemmas.Cmp.{tied_itself}
use Rattle.grove_edits.specs.declared.edge.Edge.{Edge}
use Rattle.grove_edits.specs.Graph.{is_same_edge}
use Rattle.grove_edits.proofs.Orders.{one_edge, same_edge_laws}
use Rattle.graph_words.specs.Live.{holds_edge}
use Rattle.graph_words.specs.Ordered.{put_before, without_edge}
use Rattle.edge_lists.specs.Lists.{holds_number, without_number}
use Rattle.edge_lists.specs.Order.{IsInOrder, with_edge_by, with_number}
use Rattle.edge_lists.proofs.Prefixes.{Falls}
use Rattle.edge_lists.proofs.Numbers.{one_more}
use Rattle.grove_sorts.proofs.Truths.{less_from_test}

neither : (a b : Bool) → (a || b) ≡ false → b ≡ false
neither true b h = absurd cc
neither false b h = h

other_of_both : (a b : Bool) → a ≡ false → (a || b) ≡ true → b ≡ true
other_of_both true b fails h = absurd cc
other_of_both false b fails h = h

module _ (order : Edge → Edge → Ordering) (total : IsTotalOrder order) where
  -- ---- an edge more, and edges fewer

  pub all_after : (x y : Edge) (ys : List Edge) → order x y ≡ Less → AllByRecursion (λ later. order y later ≡ Less) ys → AllByRecursion (λ later. order x later ≡ Less) ys
  all_after x y [] lt all = tt
  all_after x y (z ∷ zs) lt all = (total.trans x y z lt all.0, all_after x y zs lt all.1)

  all-with_edge_by : (y x : Edge) (ys : List Edge) → order y x ≡ Less → AllByRecursion (λ later. order y later ≡ Less) ys → AllByRecursion (λ later. order y later ≡ Less) (with_edge_by order x ys)
  all-with_edge_by y x [] lt all = (lt, tt)
  all-with_edge_by y x (z ∷ zs) lt all =
      elim (order x z) as (λ o. AllByRecursion (λ later. order y later ≡ Less) (put_before o x z zs (with_edge_by order x zs))) [
        | Less ↦ (lt, all)
        | Equal ↦ all
        | Greater ↦ (all.0, all-with_edge_by y x zs lt all.1)
      ]

  pub in_order-with_edge_by : (x : Edge) (xs : List Edge) → IsInOrder order xs → IsInOrder order (with_edge_by order x xs)
  in_order-with_edge_by x [] ordered = (tt, tt)
  in_order-with_edge_by x (y ∷ ys) ordered =
      elim (order x y) as (λ o. order x y ≡ o → IsInOrder order (put_before o x y ys (with_edge_by order x ys))) [
        | Less ↦ λ lt. ((lt, all_after x y ys lt ordered.0), ordered)
        | Equal ↦ λ _. ordered
        | Greater ↦ λ gt. (all-with_edge_by y x ys (total.antisymm y x ∙ ap ordering_reverse gt) ordered.0, in_order-with_edge_by x ys ordered.1)
      ] refl

  all-filter : (p : Edge → Bool) (x : Edge) (xs : List Edge) → AllByRecursion (λ later. order x later ≡ Less) xs → AllByRecursion (λ later. order x later ≡ Less) (filter p xs)
  all-filter p x [] all = tt
  all-filter p x (y ∷ ys) all =
      elim (p y) as (λ b. AllByRecursion (λ later. order x later ≡ Less) (cond b (y ∷ filter p ys) (filter p ys))) [
        | true ↦ (all.0, all-filter p x ys all.1)
        | false ↦ all-filter p x ys all.1
      ]

  pub in_order-filter : (p : Edge → Bool) (xs : List Edge) → IsInOrder order xs → IsInOrder order (filter p xs)
  in_order-filter p [] ordered = tt
  in_order-filter p (x ∷ xs) ordered =
      elim (p x) as (λ b. IsInOrder order (cond b (x ∷ filter p xs) (filter p xs))) [
        | true ↦ (all-filter p x xs ordered.0, in_order-filter p xs ordered.1)
        | false ↦ in_order-filter p xs ordered.1
      ]

  -- ---- by number

  module _ (edge : ℕ → Edge) where
    abbrev Before : ℕ → ℕ → Bool
    Before n m = is_lt (order (edge m) (edge n))

    earlier_too : (n x : ℕ) (xs : List ℕ) → AllByRecursion (λ later. order (edge x) later ≡ Less) (map edge xs) → AllByRecursion (λ later. Before n later ≡ true → Before n x ≡ true) xs
    earlier_too n x [] all = tt
    earlier_too n x (y ∷ ys) all = (λ is. ap is_lt (total.trans (edge x) (edge y) (edge n) all.0 (less_from_test (order (edge y) (edge n)) is)), earlier_too n x ys all.1)

    -- before an edge that comes before another there are only such
    pub falls-order : (n : ℕ) (xs : List ℕ) → IsInOrder order (map edge xs) → Falls (λ m. is_lt (order (edge m) (edge n))) xs
    falls-order n [] ordered = tt
    falls-order n (x ∷ xs) ordered = (earlier_too n x xs ordered.0, falls-order n xs ordered.1)

    -- no edge comes before itself
    never_before_itself : (n x : ℕ) → order (edge n) (edge x) ≡ Less → edge x ≡ edge n → ⊥
    never_before_itself n x lt same =
        let before : order (edge n) (edge n) ≡ Less = ap (order (edge n)) (sym same) ∙ lt in
        let tied = tied_itself total (edge n) in
        cc

    without_number-later : (n : ℕ) (xs : List ℕ) → AllByRecursion (λ later. order (edge n) later ≡ Less) (map edge xs) → without_number n xs ≡ xs
    without_number-later n [] all = refl
    without_number-later n (x ∷ xs) all =
        elim (x == n) as (λ b. (x == n) ≡ b → cond (not b) (x ∷ without_number n xs) (without_number n xs) ≡ x ∷ xs) [
          | true ↦ λ same. absurd (never_before_itself n x all.0 (ap edge (eqb-true x n same)))
          | false ↦ λ _. ap (λ zs. x ∷ zs) (without_number-later n xs all.1)
        ] refl

    without_edge-later : (n : ℕ) (xs : List ℕ) → AllByRecursion (λ later. order (edge n) later ≡ Less) (map edge xs) → without_edge (edge n) (map edge xs) ≡ map edge xs
    without_edge-later n [] all = refl
    without_edge-later n (x ∷ xs) all =
        elim (is_same_edge (edge x) (edge n)) as (λ b. is_same_edge (edge x) (edge n) ≡ b → cond (not b) (edge x ∷ without_edge (edge n) (map edge xs)) (without_edge (edge n) (map edge xs)) ≡ edge x ∷ map edge xs) [
          | true ↦ λ same. absurd (never_before_itself n x all.0 (one_edge (edge x) (edge n) same))
          | false ↦ λ _. ap (λ zs. edge x ∷ zs) (without_edge-later n xs all.1)
        ] refl

    before_held : (x n : ℕ) (xs : List ℕ) → AllByRecursion (λ later. order (edge x) later ≡ Less) (map edge xs) → holds_number n xs ≡ true → order (edge x) (edge n) ≡ Less
    before_held x n [] all held = absurd cc
    before_held x n (y ∷ ys) all held =
        elim (y == n) as (λ b. (y == n) ≡ b → (b || holds_number n ys) ≡ true → order (edge x) (edge n) ≡ Less) [
          | true ↦ λ same _. ap (λ z. order (edge x) (edge z)) (sym (eqb-true y n same)) ∙ all.0
          | false ↦ λ _ rest. before_held x n ys all.1 rest
        ] refl held

    -- ---- an edge that is taken out

    not_before_itself : (n : ℕ) → Before n n ≡ false
    not_before_itself n = ap is_lt (tied_itself total (edge n))

    pub prefix_len-held : (n : ℕ) (xs : List ℕ) → IsInOrder order (map edge xs) → holds_number n xs ≡ true → prefix_len (λ m. is_lt (order (edge m) (edge n))) xs < length xs
    prefix_len-held n [] ordered held = absurd cc
    prefix_len-held n (x ∷ xs) ordered held =
        elim (x == n) as (λ b. (x == n) ≡ b → (b || holds_number n xs) ≡ true → cond (Before n x) (1 + prefix_len (Before n) xs) 0 < suc (length xs)) [
          | true ↦ λ same _. subst (λ b. cond b (1 + prefix_len (Before n) xs) 0 < suc (length xs)) (sym (ap (Before n) (eqb-true x n same) ∙ not_before_itself n)) (omega arith)
          | false ↦ λ _ rest.
              let fewer = prefix_len-held n xs ordered.1 rest in
              subst (λ b. cond b (1 + prefix_len (Before n) xs) 0 < suc (length xs)) (sym (ap is_lt (before_held x n xs ordered.0 rest))) (omega (arith, fewer))
        ] refl held

    pub remove-prefix_len : (n : ℕ) (xs : List ℕ) → IsInOrder order (map edge xs) → holds_number n xs ≡ true → remove xs (prefix_len (λ m. is_lt (order (edge m) (edge n))) xs) ≡ without_number n xs
    remove-prefix_len n [] ordered held = absurd cc
    remove-prefix_len n (x ∷ xs) ordered held =
        elim (x == n) as (λ b. (x == n) ≡ b → (b || holds_number n xs) ≡ true → remove (x ∷ xs) (cond (Before n x) (1 + prefix_len (Before n) xs) 0) ≡ cond (not b) (x ∷ without_number n xs) (without_number n xs)) [
          | true ↦ λ same _.
              ap (λ b. remove (x ∷ xs) (cond b (1 + prefix_len (Before n) xs) 0)) (ap (Before n) (eqb-true x n same) ∙ not_before_itself n)
              ∙ sym (without_number-later n xs (subst (λ z. AllByRecursion (λ later. order (edge z) later ≡ Less) (map edge xs)) (eqb-true x n same) ordered.0))
          | false ↦ λ _ rest.
              ap (λ b. remove (x ∷ xs) (cond b (1 + prefix_len (Before n) xs) 0)) (ap is_lt (before_held x n xs ordered.0 rest))
              ∙ ap (remove (x ∷ xs)) (one_more (prefix_len (Before n) xs))
              ∙ ap (λ zs. x ∷ zs) (remove-prefix_len n xs ordered.1 rest)
        ] refl held

    same_from_number : (x n : ℕ) → (x == n) ≡ true → is_same_edge (edge x) (edge n) ≡ true
    same_from_number x n same = ap (λ z. is_same_edge (edge z) (edge n)) (eqb-true x n same) ∙ same_edge_laws.refl (edge n)

    apart_from_before : (x n : ℕ) → order (edge x) (edge n) ≡ Less → is_same_edge (edge x) (edge n) ≡ false
    apart_from_before x n lt =
        elim (is_same_edge (edge x) (edge n)) as (λ b. is_same_edge (edge x) (edge n) ≡ b → b ≡ false) [
          | true ↦ λ same. absurd (never_before_itself x n lt (sym (one_edge (edge x) (edge n) same)))
          | false ↦ λ _. refl
        ] refl

    pub edges-without_number : (n : ℕ) (xs : List ℕ) → IsInOrder order (map edge xs) → holds_number n xs ≡ true → map edge (without_number n xs) ≡ without_edge (edge n) (map edge xs)
    edges-without_number n [] ordered held = absurd cc
    edges-without_number n (x ∷ xs) ordered held =
        elim (x == n) as (λ b. (x == n) ≡ b → (b || holds_number n xs) ≡ true
        → map edge (cond (not b) (x ∷ without_number n xs) (without_number n xs)) ≡ cond (not (is_same_edge (edge x) (edge n))) (edge x ∷ without_edge (edge n) (map edge xs)) (without_edge (edge n) (map edge xs))) [
          | true ↦ λ same _.
              let later = subst (λ z. AllByRecursion (λ later. order (edge z) later ≡ Less) (map edge xs)) (eqb-true x n same) ordered.0 in
              ap (map edge) (without_number-later n xs later) ∙ sym (without_edge-later n xs later)
              ∙ sym (ap (λ b. cond (not b) (edge x ∷ without_edge (edge n) (map edge xs)) (without_edge (edge n) (map edge xs))) (same_from_number x n same))
          | false ↦ λ _ rest.
              ap (λ zs. edge x ∷ zs) (edges-without_number n xs ordered.1 rest)
              ∙ sym (ap (λ b. cond (not b) (edge x ∷ without_edge (edge n) (map edge xs)) (without_edge (edge n) (map edge xs))) (apart_from_before x n (before_held x n xs ordered.0 rest)))
        ] refl held

    -- ---- an edge that is put

    pub edges-with_number : ((a b : Edge) → order a b ≡ Equal → a ≡ b) → (n : ℕ) (xs : List ℕ) → holds_edge (edge n) (map edge xs) ≡ false
        → map edge (with_number (λ a b. order (edge a) (edge b)) n xs) ≡ with_edge_by order (edge n) (map edge xs)
    edges-with_number exact n [] new = refl
    edges-with_number exact n (x ∷ xs) new =
        rw (total.antisymm (edge x) (edge n))
        (elim (order (edge n) (edge x)) as (λ o. order (edge n) (edge x) ≡ o → map edge (cond (is_lt (ordering_reverse o)) (x ∷ with_number (λ a b. order (edge a) (edge b)) n xs) (n ∷ x ∷ xs)) ≡ put_before o (edge n) (edge x) (map edge xs) (with_edge_by order (edge n) (map edge xs))) [
          | Less ↦ λ _. refl
          | Equal ↦ λ tie.
              let held : holds_edge (edge n) (edge x ∷ map edge xs) ≡ true = ap (λ b. b || holds_edge (edge n) (map edge xs)) (ap (λ z. is_same_edge z (edge n)) (sym (exact (edge n) (edge x) tie)) ∙ same_edge_laws.refl (edge n)) in
              absurd cc
          | Greater ↦ λ _. ap (λ zs. edge x ∷ zs) (edges-with_number exact n xs (neither (is_same_edge (edge x) (edge n)) (holds_edge (edge n) (map edge xs)) new))
        ] refl)
