-- Lists in edge order that hold the same edges are one, and what they hold with one edge more or fewer.
use Rattle.std.proofs.Common.{◌≡◌, Bool, true, false, cond, List, [], ◌∷◌, refl, sym, ap, subst, ◌∙◌}
use Rattle.std.specs.Prelude.{◌&&◌, ◌||◌, not, filter}
use Rattle.std.specs.List.{AllByRecursion}
use Rattle.std.specs.declared.cmp.Ordering.TheVariants.{Less, Equal, Greater}
use Rattle.std.specs.Ordering.{ordering_reverse}
use Rattle.std.proofs.lemmas.Cmp.{tied_itself}
use Rattle.grove_sorts.proofs.Truths.{or_swap, or_again}
use Rattle.grove_edits.specs.declared.edge.Edge.{Edge}
use Rattle.grove_edits.specs.Edge.{edge_cmp}
use Rattle.grove_edits.specs.Graph.{is_same_edge}
use Rattle.grove_edits.proofs.Orders.{edge_cmp_total, edge_cmp_exact, one_edge, same_edge_laws}
use Rattle.graph_words.specs.Live.{IsInEdgeOrder, holds_edge}
use Rattle.graph_words.specs.Ordered.{put_before, with_edge, without_edge, with_edges}

pub less_from_greater : (a b : Edge) → edge_cmp a b ≡ Greater → edge_cmp b a ≡ Less
less_from_greater a b e = edge_cmp_total.antisymm b a ∙ ap ordering_reverse e

pub not_same_from_less : (a b : Edge) → edge_cmp a b ≡ Less → is_same_edge b a ≡ false
not_same_from_less a b e =
    elim (is_same_edge b a) as (λ t. is_same_edge b a ≡ t → t ≡ false) [
      | true ↦ λ same.
          let one = one_edge b a same in
          let itself : edge_cmp a a ≡ Less = ap (edge_cmp a) (sym one) ∙ e in
          let equal = tied_itself edge_cmp_total a in
          absurd cc
      | false ↦ λ _. refl
    ] refl

pub not_same_from_greater : (x e : Edge) → edge_cmp e x ≡ Greater → is_same_edge x e ≡ false
not_same_from_greater x e gt =
    elim (is_same_edge x e) as (λ t. is_same_edge x e ≡ t → t ≡ false) [
      | true ↦ λ same.
          let one = one_edge x e same in
          let itself : edge_cmp x x ≡ Greater = ap (λ z. edge_cmp z x) one ∙ gt in
          let equal = tied_itself edge_cmp_total x in
          absurd cc
      | false ↦ λ _. refl
    ] refl

-- ---- what a list holds

or_group : (a b c : Bool) → (a || (b || c)) ≡ ((a || b) || c)
or_group true b c = refl
or_group false b c = refl

pub holds-with_edge : (e x : Edge) (xs : List Edge) → holds_edge e (with_edge x xs) ≡ (is_same_edge x e || holds_edge e xs)
holds-with_edge e x [] = refl
holds-with_edge e x (y ∷ ys) =
    elim (edge_cmp x y) as (λ o. edge_cmp x y ≡ o → holds_edge e (put_before o x y ys (with_edge x ys)) ≡ (is_same_edge x e || (is_same_edge y e || holds_edge e ys))) [
      | Less ↦ λ _. refl
      | Equal ↦ λ tie.
          let one : y ≡ x = sym (edge_cmp_exact x y tie) in
          let again : (is_same_edge x e || holds_edge e ys) ≡ (is_same_edge x e || (is_same_edge x e || holds_edge e ys)) = or_again (is_same_edge x e) (holds_edge e ys) in
          subst (λ z. (is_same_edge z e || holds_edge e ys) ≡ (is_same_edge x e || (is_same_edge z e || holds_edge e ys))) (sym one) again
      | Greater ↦ λ _. ap (λ b. is_same_edge y e || b) (holds-with_edge e x ys) ∙ or_swap (is_same_edge y e) (is_same_edge x e) (holds_edge e ys)
    ] refl

pub holds-with_edges : (e : Edge) (es xs : List Edge) → holds_edge e (with_edges es xs) ≡ (holds_edge e es || holds_edge e xs)
holds-with_edges e [] xs = refl
holds-with_edges e (x ∷ es) xs =
    holds-with_edge e x (with_edges es xs) ∙ ap (λ b. is_same_edge x e || b) (holds-with_edges e es xs) ∙ or_group (is_same_edge x e) (holds_edge e es) (holds_edge e xs)

pub holds-filter : (p : Edge → Bool) (e : Edge) (xs : List Edge) → holds_edge e (filter p xs) ≡ (p e && holds_edge e xs)
holds-filter p e [] = elim (p e) as (λ b. false ≡ (b && false)) [ true ↦ refl | false ↦ refl ]
holds-filter p e (x ∷ xs) =
    elim (is_same_edge x e) as (λ s. is_same_edge x e ≡ s → holds_edge e (cond (p x) (x ∷ filter p xs) (filter p xs)) ≡ (p e && (s || holds_edge e xs))) [
      | true ↦ λ same.
          let one = one_edge x e same in
          elim (p x) as (λ b. p x ≡ b → holds_edge e (cond b (x ∷ filter p xs) (filter p xs)) ≡ (p e && true)) [
            | true ↦ λ passes. ap (λ s. s || holds_edge e (filter p xs)) same ∙ sym (ap (λ b. b && true) (ap p (sym one) ∙ passes))
            | false ↦ λ fails. let no : p e ≡ false = ap p (sym one) ∙ fails in holds-filter p e xs ∙ ap (λ b. b && holds_edge e xs) no ∙ sym (ap (λ b. b && true) no)
          ] refl
      | false ↦ λ other.
          elim (p x) as (λ b. holds_edge e (cond b (x ∷ filter p xs) (filter p xs)) ≡ (p e && holds_edge e xs)) [
            | true ↦ ap (λ s. s || holds_edge e (filter p xs)) other ∙ holds-filter p e xs
            | false ↦ holds-filter p e xs
          ]
    ] refl

-- ---- edge order

pub all_after : (x y : Edge) (ys : List Edge) → edge_cmp x y ≡ Less → AllByRecursion (λ later. edge_cmp y later ≡ Less) ys → AllByRecursion (λ later. edge_cmp x later ≡ Less) ys
all_after x y [] lt all = tt
all_after x y (z ∷ zs) lt all = (edge_cmp_total.trans x y z lt all.0, all_after x y zs lt all.1)

all-with_edge : (y x : Edge) (ys : List Edge) → edge_cmp y x ≡ Less → AllByRecursion (λ later. edge_cmp y later ≡ Less) ys → AllByRecursion (λ later. edge_cmp y later ≡ Less) (with_edge x ys)
all-with_edge y x [] lt all = (lt, tt)
all-with_edge y x (z ∷ zs) lt all =
    elim (edge_cmp x z) as (λ o. AllByRecursion (λ later. edge_cmp y later ≡ Less) (put_before o x z zs (with_edge x zs))) [
      | Less ↦ (lt, all)
      | Equal ↦ all
      | Greater ↦ (all.0, all-with_edge y x zs lt all.1)
    ]

pub in_order-with_edge : (x : Edge) (xs : List Edge) → IsInEdgeOrder xs → IsInEdgeOrder (with_edge x xs)
in_order-with_edge x [] order = (tt, tt)
in_order-with_edge x (y ∷ ys) order =
    elim (edge_cmp x y) as (λ o. edge_cmp x y ≡ o → IsInEdgeOrder (put_before o x y ys (with_edge x ys))) [
      | Less ↦ λ lt. ((lt, all_after x y ys lt order.0), order)
      | Equal ↦ λ _. order
      | Greater ↦ λ gt. (all-with_edge y x ys (less_from_greater x y gt) order.0, in_order-with_edge x ys order.1)
    ] refl

pub in_order-with_edges : (es xs : List Edge) → IsInEdgeOrder xs → IsInEdgeOrder (with_edges es xs)
in_order-with_edges [] xs order = order
in_order-with_edges (e ∷ es) xs order = in_order-with_edge e (with_edges es xs) (in_order-with_edges es xs order)

all-filter : (p : Edge → Bool) (x : Edge) (xs : List Edge) → AllByRecursion (λ later. edge_cmp x later ≡ Less) xs → AllByRecursion (λ later. edge_cmp x later ≡ Less) (filter p xs)
all-filter p x [] all = tt
all-filter p x (y ∷ ys) all =
    elim (p y) as (λ b. AllByRecursion (λ later. edge_cmp x later ≡ Less) (cond b (y ∷ filter p ys) (filter p ys))) [
      | true ↦ (all.0, all-filter p x ys all.1)
      | false ↦ all-filter p x ys all.1
    ]

pub in_order-filter : (p : Edge → Bool) (xs : List Edge) → IsInEdgeOrder xs → IsInEdgeOrder (filter p xs)
in_order-filter p [] order = tt
in_order-filter p (x ∷ xs) order =
    elim (p x) as (λ b. IsInEdgeOrder (cond b (x ∷ filter p xs) (filter p xs))) [
      | true ↦ (all-filter p x xs order.0, in_order-filter p xs order.1)
      | false ↦ in_order-filter p xs order.1
    ]

-- ---- lists in edge order that hold the same edges are one

pub not_held_before : (x : Edge) (ys : List Edge) → AllByRecursion (λ later. edge_cmp x later ≡ Less) ys → holds_edge x ys ≡ false
not_held_before x [] all = refl
not_held_before x (y ∷ ys) all = ap (λ b. b || holds_edge x ys) (not_same_from_less x y all.0) ∙ not_held_before x ys all.1

first_less : (x y : Edge) (xs ys : List Edge) → edge_cmp x y ≡ Less → AllByRecursion (λ later. edge_cmp y later ≡ Less) ys → holds_edge x (x ∷ xs) ≡ holds_edge x (y ∷ ys) → ⊥
first_less x y xs ys lt all same =
    let none : holds_edge x (y ∷ ys) ≡ false = not_held_before x (y ∷ ys) (lt, all_after x y ys lt all) in
    let one : holds_edge x (x ∷ xs) ≡ true = ap (λ b. b || holds_edge x xs) (same_edge_laws.refl x) in
    cc

pub same_lists : (xs ys : List Edge) → IsInEdgeOrder xs → IsInEdgeOrder ys → ((e : Edge) → holds_edge e xs ≡ holds_edge e ys) → xs ≡ ys
same_lists [] [] xo yo same = refl
same_lists [] (y ∷ ys) xo yo same =
    let one : holds_edge y (y ∷ ys) ≡ true = ap (λ b. b || holds_edge y ys) (same_edge_laws.refl y) in
    let none = same y in
    absurd cc
same_lists (x ∷ xs) [] xo yo same =
    let one : holds_edge x (x ∷ xs) ≡ true = ap (λ b. b || holds_edge x xs) (same_edge_laws.refl x) in
    let none = same x in
    absurd cc
same_lists (x ∷ xs) (y ∷ ys) xo yo same =
    elim (edge_cmp x y) as (λ o. edge_cmp x y ≡ o → (x ∷ xs) ≡ (y ∷ ys)) [
      | Less ↦ λ lt. absurd (first_less x y xs ys lt yo.0 (same x))
      | Equal ↦ λ tie.
          let one : x ≡ y = edge_cmp_exact x y tie in
          let moved : (e : Edge) → (is_same_edge x e || holds_edge e xs) ≡ (is_same_edge x e || holds_edge e ys) =
          λ e. same e ∙ ap (λ z. is_same_edge z e || holds_edge e ys) (sym one) in
          let yo_x : AllByRecursion (λ later. edge_cmp x later ≡ Less) ys = subst (λ z. AllByRecursion (λ later. edge_cmp z later ≡ Less) ys) (sym one) yo.0 in
          let rest : (e : Edge) → holds_edge e xs ≡ holds_edge e ys = λ e.
          elim (is_same_edge x e) as (λ b. is_same_edge x e ≡ b → (b || holds_edge e xs) ≡ (b || holds_edge e ys) → holds_edge e xs ≡ holds_edge e ys) [
            | true ↦ λ is _.
                let z = one_edge x e is in
                subst (λ d. holds_edge d xs ≡ holds_edge d ys) z (not_held_before x xs xo.0 ∙ sym (not_held_before x ys yo_x))
            | false ↦ λ _ h. h
          ] refl (moved e) in
          ap (λ zs. x ∷ zs) (same_lists xs ys xo.1 yo.1 rest) ∙ ap (λ z. z ∷ ys) one
      | Greater ↦ λ gt. absurd (first_less y x ys xs (less_from_greater x y gt) xo.0 (sym (same y)))
    ] refl

-- a list does not change without an edge that comes before all of its edges
pub without_none : (e : Edge) (xs : List Edge) → AllByRecursion (λ later. edge_cmp e later ≡ Less) xs → without_edge e xs ≡ xs
without_none e [] all = refl
without_none e (x ∷ xs) all =
    ap (λ b. cond (not b) (x ∷ without_edge e xs) (without_edge e xs)) (not_same_from_less e x all.0) ∙ ap (λ zs. x ∷ zs) (without_none e xs all.1)
