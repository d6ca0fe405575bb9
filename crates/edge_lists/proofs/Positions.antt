-- Lists of edges by position first: the edges from one position stand together, in edge order.
use Rattle.std.proofs.Common.{◌≡◌, ℕ, suc, ◌+◌, ◌-◌, ◌≤◌, Bool, true, false, cond, ◌⊎◌, inl, inr, List, [], ◌∷◌, map, take, drop, refl, sym, ap, ◌∙◌, arith}
use Rattle.std.specs.Prelude.{filter, slice_range}
use Rattle.std.specs.List.{AllByRecursion, prefix_len}
use Rattle.std.specs.declared.cmp.Ordering.{Ordering}
use Rattle.std.specs.declared.cmp.Ordering.TheVariants.{Less, Equal, Greater}
use Rattle.std.specs.Ordering.{ordering_then, is_eq}
use Rattle.std.specs.Cmp.{IsTotalOrder}
use Rattle.std.proofs.lemmas.Cmp.{alike_right}
use Rattle.grove_sorts.specs.declared.position.Position.{Position}
use Rattle.grove_sorts.specs.Position.{position_cmp, is_same_position}
use Rattle.grove_sorts.proofs.Orders.{position_cmp_total, equal_from_test}
use Rattle.grove_edits.specs.declared.edge.Edge.{Edge}
use Rattle.grove_edits.specs.Edge.{edge_cmp}
use Rattle.graph_words.specs.Live.{IsInEdgeOrder}
use Rattle.graph_words.specs.Ordered.{put_before, with_edge}
use Rattle.edge_lists.specs.Lists.{with_position}
use Rattle.edge_lists.specs.Order.{IsInOrder, position_first, with_edge_by}
use Rattle.edge_lists.specs.Places.{is_up_to}
use Rattle.edge_lists.proofs.Prefixes.{Falls, prefix_len-none, all_fail}
use Rattle.edge_lists.proofs.Numbers.{one_more}
use Rattle.edge_lists.proofs.ByNumber.{all_after}

pub map-filter : (edge : ℕ → Edge) (test : Edge → Bool) (xs : List ℕ) → map edge (filter (λ n. test (edge n)) xs) ≡ filter test (map edge xs)
map-filter edge test [] = refl
map-filter edge test (x ∷ xs) =
    elim (test (edge x)) as (λ b. map edge (cond b (x ∷ filter (λ n. test (edge n)) xs) (filter (λ n. test (edge n)) xs)) ≡ cond b (edge x ∷ filter test (map edge xs)) (filter test (map edge xs))) [
      | true ↦ ap (λ zs. edge x ∷ zs) (map-filter edge test xs)
      | false ↦ map-filter edge test xs
    ]

-- ---- up to a position

not_after : (a b : Edge) → position_first a b ≡ Less → (position_cmp a.position b.position ≡ Less) ⊎ (position_cmp a.position b.position ≡ Equal)
not_after a b lt = by_order (position_cmp a.position b.position) refl where
  by_order : (o : Ordering) → position_cmp a.position b.position ≡ o → (o ≡ Less) ⊎ (o ≡ Equal)
  by_order Less is = inl refl
  by_order Equal is = inr refl
  by_order Greater is =
      let greater : position_first a b ≡ Greater = ap (λ o. ordering_then o (edge_cmp a b)) is in
      absurd cc

-- where a position is counted, so is one that is not after it
up_to_earlier : (itself : Bool) (a b p : Position) → (position_cmp a b ≡ Less) ⊎ (position_cmp a b ≡ Equal) → is_up_to itself (position_cmp b p) ≡ true → is_up_to itself (position_cmp a p) ≡ true
up_to_earlier itself a b p (inr same) counted = ap (is_up_to itself) (position_cmp_total.congr a b p same) ∙ counted
up_to_earlier itself a b p (inl before) counted = by_order (position_cmp b p) refl counted where
  by_order : (o : Ordering) → position_cmp b p ≡ o → is_up_to itself o ≡ true → is_up_to itself (position_cmp a p) ≡ true
  by_order Less is _ = ap (is_up_to itself) (position_cmp_total.trans a b p before is)
  by_order Equal is _ = ap (is_up_to itself) (sym (alike_right position_cmp_total b p a is) ∙ before)
  by_order Greater is fails = absurd cc

module _ (edge : ℕ → Edge) (p : Position) where
  -- how the position of the edge with a number stands to this
  abbrev Stands : ℕ → Ordering
  Stands n = position_cmp (edge n).position p

  earlier_too : (itself : Bool) (x : ℕ) (xs : List ℕ) → AllByRecursion (λ later. position_first (edge x) later ≡ Less) (map edge xs)
      → AllByRecursion (λ later. is_up_to itself (Stands later) ≡ true → is_up_to itself (Stands x) ≡ true) xs
  earlier_too itself x [] all = tt
  earlier_too itself x (y ∷ ys) all =
      (up_to_earlier itself (edge x).position (edge y).position p (not_after (edge x) (edge y) all.0), earlier_too itself x ys all.1)

  pub falls-position : (itself : Bool) (xs : List ℕ) → IsInOrder position_first (map edge xs) → Falls (λ n. is_up_to itself (position_cmp (edge n).position p)) xs
  falls-position itself [] ordered = tt
  falls-position itself (x ∷ xs) ordered = (earlier_too itself x xs ordered.0, falls-position itself xs ordered.1)

  -- ---- the part of a list with a position

  pub prefix_lens : (xs : List ℕ) → prefix_len (λ n. is_up_to false (position_cmp (edge n).position p)) xs ≤ prefix_len (λ n. is_up_to true (position_cmp (edge n).position p)) xs
  prefix_lens [] = omega arith
  prefix_lens (x ∷ xs) =
      elim (Stands x) as (λ o. cond (is_up_to false o) (1 + prefix_len (λ n. is_up_to false (Stands n)) xs) 0 ≤ cond (is_up_to true o) (1 + prefix_len (λ n. is_up_to true (Stands n)) xs) 0) [
        | Less ↦ let rest = prefix_lens xs in omega (arith, rest)
        | Equal ↦ omega arith
        | Greater ↦ omega arith
      ]

  not_there : (o : Ordering) → is_up_to true o ≡ false → is_eq o ≡ false
  not_there Less fails = absurd cc
  not_there Equal fails = absurd cc
  not_there Greater fails = refl

  filter-none : (xs : List ℕ) → AllByRecursion (λ n. is_up_to true (Stands n) ≡ false) xs → filter (λ n. is_eq (Stands n)) xs ≡ []
  filter-none [] all = refl
  filter-none (x ∷ xs) all = ap (λ b. cond b (x ∷ filter (λ n. is_eq (Stands n)) xs) (filter (λ n. is_eq (Stands n)) xs)) (not_there (Stands x) all.0) ∙ filter-none xs all.1

  pub slice-position : (xs : List ℕ) → IsInOrder position_first (map edge xs)
      → slice_range xs (prefix_len (λ n. is_up_to false (position_cmp (edge n).position p)) xs) (prefix_len (λ n. is_up_to true (position_cmp (edge n).position p)) xs) ≡ filter (λ n. is_eq (position_cmp (edge n).position p)) xs
  slice-position [] ordered = refl
  slice-position (x ∷ xs) ordered = by_order (slice-position xs ordered.1) (Stands x) refl where
    from : ℕ
    from = prefix_len (λ n. is_up_to false (Stands n)) xs

    to : ℕ
    to = prefix_len (λ n. is_up_to true (Stands n)) xs

    by_order : slice_range xs from to ≡ filter (λ n. is_eq (Stands n)) xs → (o : Ordering) → Stands x ≡ o
        → slice_range (x ∷ xs) (cond (is_up_to false o) (1 + from) 0) (cond (is_up_to true o) (1 + to) 0) ≡ cond (is_eq o) (x ∷ filter (λ n. is_eq (Stands n)) xs) (filter (λ n. is_eq (Stands n)) xs)
    by_order rest Less is =
        let less : (1 + to) - (1 + from) ≡ to - from = omega arith in
        ap (λ k. take k (drop (1 + from) (x ∷ xs))) less ∙ ap (λ k. take (to - from) (drop k (x ∷ xs))) (one_more from) ∙ rest
    by_order rest Equal is =
        let none : from ≡ 0 = prefix_len-none (λ n. is_up_to false (Stands n)) xs (all_fail (λ n. is_up_to false (Stands n)) x xs (earlier_too false x xs ordered.0) (ap (is_up_to false) is)) in
        let all : (1 + to) - 0 ≡ suc (to - 0) = omega arith in
        ap (λ k. take k (x ∷ xs)) all ∙ ap (λ zs. x ∷ zs) (sym (ap (λ k. slice_range xs k to) none) ∙ rest)
    by_order rest Greater is = sym (filter-none xs (all_fail (λ n. is_up_to true (Stands n)) x xs (earlier_too true x xs ordered.0) (ap (is_up_to true) is)))

-- ---- in edge order, where an order is that among the edges of one position

module _ (p : Position) where
  abbrev There : Edge → Bool
  There e = is_eq (position_cmp e.position p)

  one_position : (a b : Edge) → There a ≡ true → There b ≡ true → is_eq (position_cmp a.position b.position) ≡ true
  one_position a b a_there b_there = ap is_eq (alike_right position_cmp_total b.position p a.position (equal_from_test (position_cmp b.position p) b_there)) ∙ a_there

  module _ (order : Edge → Edge → Ordering) (within : (a b : Edge) → is_same_position a.position b.position ≡ true → order a b ≡ edge_cmp a b) where
    in_edge_order : (a b : Edge) → There a ≡ true → There b ≡ true → edge_cmp a b ≡ order a b
    in_edge_order a b a_there b_there = sym (within a b (one_position a b a_there b_there))

    after_there : (e : Edge) (es : List Edge) → There e ≡ true → AllByRecursion (λ later. order e later ≡ Less) es → AllByRecursion (λ later. edge_cmp e later ≡ Less) (filter There es)
    after_there e [] there all = tt
    after_there e (x ∷ xs) there all =
        elim (There x) as (λ b. There x ≡ b → AllByRecursion (λ later. edge_cmp e later ≡ Less) (cond b (x ∷ filter There xs) (filter There xs))) [
          | true ↦ λ x_there. (in_edge_order e x there x_there ∙ all.0, after_there e xs there all.1)
          | false ↦ λ _. after_there e xs there all.1
        ] refl

    pub in_order-with_position : (es : List Edge) → IsInOrder order es → IsInEdgeOrder (with_position p es)
    in_order-with_position [] ordered = tt
    in_order-with_position (e ∷ es) ordered =
        elim (There e) as (λ b. There e ≡ b → IsInEdgeOrder (cond b (e ∷ filter There es) (filter There es))) [
          | true ↦ λ there. (after_there e es there ordered.0, in_order-with_position es ordered.1)
          | false ↦ λ _. in_order-with_position es ordered.1
        ] refl

    -- ---- an edge more

    with_edge-first : (e : Edge) (es : List Edge) → AllByRecursion (λ later. edge_cmp e later ≡ Less) es → with_edge e es ≡ e ∷ es
    with_edge-first e [] all = refl
    with_edge-first e (x ∷ xs) all = ap (λ o. put_before o e x xs (with_edge e xs)) all.0

    -- an edge from another position is not seen
    put_elsewhere : (e : Edge) (xs : List Edge) → There e ≡ false → with_position p (with_edge_by order e xs) ≡ with_position p xs
    put_elsewhere e [] apart = ap (λ b. cond b (e ∷ []) []) apart
    put_elsewhere e (x ∷ xs) apart =
        elim (order e x) as (λ o. with_position p (put_before o e x xs (with_edge_by order e xs)) ≡ with_position p (x ∷ xs)) [
          | Less ↦ ap (λ b. cond b (e ∷ with_position p (x ∷ xs)) (with_position p (x ∷ xs))) apart
          | Equal ↦ refl
          | Greater ↦ ap (λ zs. cond (There x) (x ∷ zs) zs) (put_elsewhere e xs apart)
        ]

    module _ (total : IsTotalOrder order) (exact : (a b : Edge) → order a b ≡ Equal → a ≡ b) (e : Edge) where
      put_before_all : (there : There e ≡ true) (x : Edge) (xs : List Edge) → IsInOrder order (x ∷ xs) → order e x ≡ Less → with_position p (e ∷ x ∷ xs) ≡ with_edge e (with_position p (x ∷ xs))
      put_before_all there x xs ordered lt =
          ap (λ b. cond b (e ∷ with_position p (x ∷ xs)) (with_position p (x ∷ xs))) there
          ∙ sym (with_edge-first e (with_position p (x ∷ xs)) (after_there e (x ∷ xs) there (lt, all_after order total e x xs lt ordered.0)))

      put_again : (there : There e ≡ true) (x : Edge) (xs : List Edge) → order e x ≡ Equal → with_position p (x ∷ xs) ≡ with_edge e (with_position p (x ∷ xs))
      put_again there x xs tie =
          let x_there : There x ≡ true = ap There (sym (exact e x tie)) ∙ there in
          let kept : with_position p (x ∷ xs) ≡ x ∷ with_position p xs = ap (λ b. cond b (x ∷ with_position p xs) (with_position p xs)) x_there in
          kept
          ∙ sym (ap (λ o. put_before o e x (with_position p xs) (with_edge e (with_position p xs))) (in_edge_order e x there x_there ∙ tie))
          ∙ sym (ap (with_edge e) kept)

      put_behind : (there : There e ≡ true) (x : Edge) (xs : List Edge) → order e x ≡ Greater → with_position p (with_edge_by order e xs) ≡ with_edge e (with_position p xs)
          → with_position p (x ∷ with_edge_by order e xs) ≡ with_edge e (with_position p (x ∷ xs))
      put_behind there x xs gt rest =
          elim (There x) as (λ b. There x ≡ b → cond b (x ∷ with_position p (with_edge_by order e xs)) (with_position p (with_edge_by order e xs)) ≡ with_edge e (cond b (x ∷ with_position p xs) (with_position p xs))) [
            | true ↦ λ x_there.
                ap (λ zs. x ∷ zs) rest ∙ sym (ap (λ o. put_before o e x (with_position p xs) (with_edge e (with_position p xs))) (in_edge_order e x there x_there ∙ gt))
            | false ↦ λ _. rest
          ] refl

      put_there : (xs : List Edge) → There e ≡ true → IsInOrder order xs → with_position p (with_edge_by order e xs) ≡ with_edge e (with_position p xs)
      put_there [] there ordered = ap (λ b. cond b (e ∷ []) []) there
      put_there (x ∷ xs) there ordered =
          elim (order e x) as (λ o. order e x ≡ o → with_position p (put_before o e x xs (with_edge_by order e xs)) ≡ with_edge e (with_position p (x ∷ xs))) [
            | Less ↦ λ lt. put_before_all there x xs ordered lt
            | Equal ↦ λ tie. put_again there x xs tie
            | Greater ↦ λ gt. put_behind there x xs gt (put_there xs there ordered.1)
          ] refl

      -- among the edges of one position the edge is put in edge order, and those of others stay
      pub with_position-with_edge_by : (xs : List Edge) → IsInOrder order xs
          → with_position p (with_edge_by order e xs) ≡ cond (is_same_position e.position p) (with_edge e (with_position p xs)) (with_position p xs)
      with_position-with_edge_by xs ordered =
          elim (There e) as (λ b. There e ≡ b → with_position p (with_edge_by order e xs) ≡ cond b (with_edge e (with_position p xs)) (with_position p xs)) [
            | true ↦ λ there. put_there xs there ordered
            | false ↦ λ apart. put_elsewhere e xs apart
          ] refl

-- ---- an edge fewer

pub filter-filter : (first second : Edge → Bool) (xs : List Edge) → filter first (filter second xs) ≡ filter second (filter first xs)
filter-filter first second [] = refl
filter-filter first second (x ∷ xs) =
    elim (first x) as (λ a. first x ≡ a → filter first (cond (second x) (x ∷ filter second xs) (filter second xs)) ≡ filter second (cond a (x ∷ filter first xs) (filter first xs))) [
      | true ↦ λ passes.
          elim (second x) as (λ b. filter first (cond b (x ∷ filter second xs) (filter second xs)) ≡ cond b (x ∷ filter second (filter first xs)) (filter second (filter first xs))) [
            | true ↦ ap (λ a. cond a (x ∷ filter first (filter second xs)) (filter first (filter second xs))) passes ∙ ap (λ zs. x ∷ zs) (filter-filter first second xs)
            | false ↦ filter-filter first second xs
          ]
      | false ↦ λ fails.
          elim (second x) as (λ b. filter first (cond b (x ∷ filter second xs) (filter second xs)) ≡ filter second (filter first xs)) [
            | true ↦ ap (λ a. cond a (x ∷ filter first (filter second xs)) (filter first (filter second xs))) fails ∙ filter-filter first second xs
            | false ↦ filter-filter first second xs
          ]
    ] refl
