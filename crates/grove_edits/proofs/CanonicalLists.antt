-- The last edit of each run of equal edges in a sorted list is the canonical list.
use Rattle.std.proofs.Common.{◌≡◌, ℕ, zero, suc, ◌+◌, ◌-◌, ◌<◌, ◌≤◌, Bool, true, false, cond, List, [], ◌∷◌, ◌++◌, length, get_or, set, take, drop, append_assoc, add-one, drop-cons, refl, sym, ap, subst, ◌∙◌, arith}
use Rattle.std.specs.List.{AllByRecursion}
use Rattle.std.specs.declared.cmp.Ordering.{Ordering}
use Rattle.std.specs.declared.cmp.Ordering.TheVariants.{Less, Equal, Greater}
use Rattle.std.specs.Ordering.{is_eq, is_gt, is_lt, ordering_reverse, ordering_then, nat_cmp}
use Rattle.std.specs.List.Sorted.{IsSorted}
use Rattle.std.specs.Cmp.{IsTotalOrder}
use Rattle.std.proofs.lemmas.List.{append-nil, take_rest, take_more_set, drop_all, drop-set-lt, get_or_default, length-set}
use Rattle.std.proofs.lemmas.Cmp.{alike_right, on_total, then_total, nat_cmp_total}
use Rattle.edge_lattice.specs.declared.state.State.{State}
use Rattle.edge_lattice.specs.declared.state.State.TheVariants.{Absent, Live, Deleted}
use Rattle.edge_lattice.specs.State.{state_join}
use Rattle.edge_lattice.proofs.States.{state_join_assoc, Absent-state_join}
use Rattle.grove_edits.specs.declared.edge.Edge.{Edge}
use Rattle.grove_edits.specs.declared.edit.Edit.{Edit}
use Rattle.grove_edits.specs.declared.edit.EditKind.{EditKind}
use Rattle.grove_edits.specs.declared.edit.EditKind.TheVariants.{Insert, Delete}
use Rattle.grove_edits.specs.Edge.{edge_cmp}
use Rattle.grove_edits.specs.Edit.{edit_edge, edit_kind, kind_number, edit_cmp}
use Rattle.grove_edits.specs.Graph.{graph, state_of, is_same_edge, Ascends, IsCanonical, begins_with}
use Rattle.grove_edits.specs.contracts.edit.EditOrd.TheImpl as edit_impl
use Rattle.grove_sorts.proofs.Orders.{equal_from_test}
use Rattle.grove_edits.proofs.Orders.{edge_cmp_total, cmp_is_edit_cmp}
use Rattle.grove_edits.proofs.Graphs.{asked}

-- an edit does not come after another
abbrev pub IsUpTo : Edit → Edit → Type 0
IsUpTo x y = is_gt (edit_cmp x y) ≡ false

-- neighbours are in order, the first after an edit
abbrev pub IsChainAfter : Edit → List Edit → Type 0
IsChainAfter x [] = Unit {0}
IsChainAfter x (y ∷ ys) = IsUpTo x y × IsChainAfter y ys

-- the edits whose next one has another edge
abbrev pub lasts : Edit → List Edit → List Edit
lasts x [] = x ∷ []
lasts x (y ∷ ys) = cond (is_same_edge (edit_edge x) (edit_edge y)) (lasts y ys) (x ∷ lasts y ys)

abbrev pub kept : List Edit → List Edit
kept [] = []
kept (x ∷ xs) = lasts x xs

first_of_both : (o p : Ordering) → is_gt (ordering_then o p) ≡ false → is_gt o ≡ false
first_of_both Less p h = refl
first_of_both Equal p h = refl
first_of_both Greater p h = h

second_of_both : (o p : Ordering) → is_eq o ≡ true → is_gt (ordering_then o p) ≡ false → is_gt p ≡ false
second_of_both Less p e h = absurd cc
second_of_both Equal p e h = h
second_of_both Greater p e h = absurd cc

-- the edges of two edits in order are in order
edges_up_to : (x y : Edit) → IsUpTo x y → is_gt (edge_cmp (edit_edge x) (edit_edge y)) ≡ false
edges_up_to x y h = first_of_both (edge_cmp (edit_edge x) (edit_edge y)) _ h

less_from_tests : (o : Ordering) → is_gt o ≡ false → is_eq o ≡ false → o ≡ Less
less_from_tests Less g e = refl
less_from_tests Equal g e = absurd cc
less_from_tests Greater g e = absurd cc

not_greater_from_less : (o : Ordering) → o ≡ Less → is_gt o ≡ false
not_greater_from_less o e = rw e refl

-- less, and then not greater
less_then_up_to : (x y z : Edge) → edge_cmp x y ≡ Less → is_gt (edge_cmp y z) ≡ false → edge_cmp x z ≡ Less
less_then_up_to x y z lt le = cases (edge_cmp y z) refl le where
  cases : (o : Ordering) → edge_cmp y z ≡ o → is_gt o ≡ false → edge_cmp x z ≡ Less
  cases Less e le = edge_cmp_total.trans x y z lt e
  cases Equal e le = sym (alike_right edge_cmp_total y z x e) ∙ lt
  cases Greater e le = absurd cc

-- ---- the graph stays

kinds_join : (k l : EditKind) (s : State) → is_gt (nat_cmp (kind_number k) (kind_number l)) ≡ false → state_join (state_of k) (state_join (state_of l) s) ≡ state_join (state_of l) s
kinds_join Insert Insert s h = sym (state_join_assoc Live Live s)
kinds_join Insert Delete s h = sym (state_join_assoc Live Deleted s)
kinds_join Delete Insert s h = absurd cc
kinds_join Delete Delete s h = sym (state_join_assoc Deleted Deleted s)

nothing_joined : (s : State) → state_join Absent s ≡ s
nothing_joined s = Absent-state_join s

-- an edit that is followed by one of the same edge asks nothing more
covered : (x y : Edit) (e : Edge) (s : State) → IsUpTo x y → is_same_edge (edit_edge x) (edit_edge y) ≡ true → state_join (asked x e) (state_join (asked y e) s) ≡ state_join (asked y e) s
covered x y e s up same =
    let alike : is_same_edge (edit_edge x) e ≡ is_same_edge (edit_edge y) e = ap is_eq (edge_cmp_total.congr (edit_edge x) (edit_edge y) e (equal_from_test _ same)) in
    let kinds = second_of_both (edge_cmp (edit_edge x) (edit_edge y)) _ same up in
    by_test (is_same_edge (edit_edge y) e) (is_same_edge (edit_edge x) e) alike kinds
  where
    by_test : (b a : Bool) → a ≡ b → is_gt (nat_cmp (kind_number (edit_kind x)) (kind_number (edit_kind y))) ≡ false
        → state_join (cond a (state_of (edit_kind x)) Absent) (state_join (cond b (state_of (edit_kind y)) Absent) s) ≡ state_join (cond b (state_of (edit_kind y)) Absent) s
    by_test true a e kinds = rw e (kinds_join (edit_kind x) (edit_kind y) s kinds)
    by_test false a e kinds = rw e (nothing_joined (state_join Absent s))

graph-lasts_by : (x y : Edit) (ys : List Edit) (e : Edge) (b : Bool) → is_same_edge (edit_edge x) (edit_edge y) ≡ b → IsUpTo x y → graph (lasts y ys) e ≡ graph (y ∷ ys) e
    → graph (cond b (lasts y ys) (x ∷ lasts y ys)) e ≡ graph (x ∷ y ∷ ys) e
graph-lasts_by x y ys e true same up rest = rest ∙ sym (covered x y e (graph ys e) up same)
graph-lasts_by x y ys e false other up rest = ap (state_join (asked x e)) rest

graph-lasts : (x : Edit) (xs : List Edit) (e : Edge) → IsChainAfter x xs → graph (lasts x xs) e ≡ graph (x ∷ xs) e
graph-lasts x [] e h = refl
graph-lasts x (y ∷ ys) e h = graph-lasts_by x y ys e (is_same_edge (edit_edge x) (edit_edge y)) refl h.0 (graph-lasts y ys e h.1)

-- ---- the edges ascend

chosen_all : (P : Edit → Type 0) (x : Edit) (ys : List Edit) (b : Bool) → P x → AllByRecursion P ys → AllByRecursion P (cond b ys (x ∷ ys))
chosen_all P x ys true p all = all
chosen_all P x ys false p all = (p, all)

-- what holds of each edit of a list holds of each that is kept
lasts_all : (P : Edit → Type 0) (x : Edit) (xs : List Edit) → P x → AllByRecursion P xs → AllByRecursion P (lasts x xs)
lasts_all P x [] p h = (p, tt)
lasts_all P x (y ∷ ys) p h = chosen_all P x (lasts y ys) (is_same_edge (edit_edge x) (edit_edge y)) p (lasts_all P y ys h.0 h.1)

-- an edge before the first of a chain is before all of them
before_chain : (e : Edge) (y : Edit) (ys : List Edit) → edge_cmp e (edit_edge y) ≡ Less → IsChainAfter y ys → AllByRecursion (λ z. edge_cmp e (edit_edge z) ≡ Less) ys
before_chain e y [] lt h = tt
before_chain e y (z ∷ zs) lt h =
    let next = less_then_up_to e (edit_edge y) (edit_edge z) lt (edges_up_to y z h.0) in
    (next, before_chain e z zs next h.1)

Ascends-lasts_by : (x y : Edit) (ys : List Edit) (b : Bool) → is_same_edge (edit_edge x) (edit_edge y) ≡ b → IsUpTo x y → IsChainAfter y ys → Ascends (lasts y ys)
    → Ascends (cond b (lasts y ys) (x ∷ lasts y ys))
Ascends-lasts_by x y ys true same up chain rest = rest
Ascends-lasts_by x y ys false other up chain rest =
    let lt = less_from_tests (edge_cmp (edit_edge x) (edit_edge y)) (edges_up_to x y up) other in
    (lasts_all (λ z. edge_cmp (edit_edge x) (edit_edge z) ≡ Less) y ys lt (before_chain (edit_edge x) y ys lt chain), rest)

Ascends-lasts : (x : Edit) (xs : List Edit) → IsChainAfter x xs → Ascends (lasts x xs)
Ascends-lasts x [] h = (tt, tt)
Ascends-lasts x (y ∷ ys) h = Ascends-lasts_by x y ys (is_same_edge (edit_edge x) (edit_edge y)) refl h.0 h.1 (Ascends-lasts y ys h.1)

-- neighbours are in order
abbrev pub IsChain : List Edit → Type 0
IsChain [] = Unit {0}
IsChain (x ∷ xs) = IsChainAfter x xs

pub kept_is_canonical : (xs : List Edit) → IsChain xs → IsCanonical (graph xs) (kept xs)
kept_is_canonical [] h = record { in_order = tt; same = λ e. refl }
kept_is_canonical (x ∷ xs) h = record { in_order = Ascends-lasts x xs h; same = λ e. graph-lasts x xs e h }

-- what is kept of a list depends on whether its second edit has the first one's edge
pub kept-cons : (x : Edit) (xs : List Edit) → kept (x ∷ xs) ≡ cond (begins_with (edit_edge x) xs) (kept xs) (x ∷ kept xs)
kept-cons x [] = refl
kept-cons x (y ∷ ys) = refl

pub begins_with-first : (e f : Edge) (edits : List Edit) (first : Edit) (b : Bool) → f ≡ edit_edge first → 1 ≤ length edits → first ≡ get_or edits 0 first → b ≡ is_same_edge e f → b ≡ begins_with e edits
begins_with-first e f [] first b is some at same = absurd (omega arith)
begins_with-first e f (x ∷ xs) first b is some at same = same ∙ ap (is_same_edge e) (is ∙ ap edit_edge at)

-- ---- the loop

next_kept : (xs : List Edit) (i : ℕ) (x : Edit) → i < length xs → x ≡ get_or xs i x → kept (drop i xs) ≡ cond (begins_with (edit_edge x) (drop (i + 1) xs)) (kept (drop (i + 1) xs)) (x ∷ kept (drop (i + 1) xs))
next_kept xs i x lt is =
    let cons : drop i xs ≡ x ∷ drop (i + 1) xs = drop-cons xs i x lt ∙ ap (λ (y : Edit). y ∷ drop (suc i) xs) (sym is) ∙ ap (λ k. x ∷ drop k xs) (sym (add-one i)) in
    ap kept cons ∙ kept-cons x (drop (i + 1) xs)

pub skipped : (xs front total : List Edit) (i : ℕ) (x : Edit) → i < length xs → x ≡ get_or xs i x
    → true ≡ begins_with (edit_edge x) (take (length xs - (i + 1)) (drop (i + 1) xs))
    → front ++ kept (drop i xs) ≡ total → front ++ kept (drop (i + 1) xs) ≡ total
skipped xs front total i x lt is test so_far =
    let begins : begins_with (edit_edge x) (drop (i + 1) xs) ≡ true = ap (begins_with (edit_edge x)) (sym (take_rest xs (i + 1))) ∙ sym test in
    let same : kept (drop i xs) ≡ kept (drop (i + 1) xs) = next_kept xs i x lt is ∙ ap (λ t. cond t (kept (drop (i + 1) xs)) (x ∷ kept (drop (i + 1) xs))) begins in
    ap (λ (ys : List Edit). front ++ ys) (sym same) ∙ so_far

pub pushed : (xs front total : List Edit) (i : ℕ) (x y : Edit) → i < length xs → x ≡ get_or xs i x → y ≡ get_or xs i y
    → false ≡ begins_with (edit_edge x) (take (length xs - (i + 1)) (drop (i + 1) xs))
    → front ++ kept (drop i xs) ≡ total → (front ++ y ∷ []) ++ kept (drop (i + 1) xs) ≡ total
pushed xs front total i x y lt is is_too test so_far =
    let same : y ≡ x = is_too ∙ get_or_default xs i y x lt ∙ sym is in
    let begins : begins_with (edit_edge x) (drop (i + 1) xs) ≡ false = ap (begins_with (edit_edge x)) (sym (take_rest xs (i + 1))) ∙ sym test in
    let one : kept (drop i xs) ≡ x ∷ kept (drop (i + 1) xs) = next_kept xs i x lt is ∙ ap (λ t. cond t (kept (drop (i + 1) xs)) (x ∷ kept (drop (i + 1) xs))) begins in
    ap (λ (z : Edit). (front ++ z ∷ []) ++ kept (drop (i + 1) xs)) same
    ∙ append_assoc front (x ∷ []) (kept (drop (i + 1) xs)) ∙ ap (λ (ys : List Edit). front ++ ys) (sym one) ∙ so_far

-- what a sort by the code's comparison leaves has its neighbours in order
edit_cmp_total : IsTotalOrder edit_cmp
edit_cmp_total = then_total (on_total edit_edge edge_cmp_total) (on_total (λ e. kind_number (edit_kind e)) nat_cmp_total)

not_after : (o : Ordering) → is_lt o ≡ false → is_gt (ordering_reverse o) ≡ false
not_after Less h = absurd cc
not_after Equal h = refl
not_after Greater h = refl

sorted_tail : (x : Edit) (xs : List Edit) → IsSorted edit_impl.ghosts.cmp (x ∷ xs) → IsSorted edit_impl.ghosts.cmp xs
sorted_tail x xs up k d low high =
    let next : suc k + 1 ≡ suc (k + 1) = omega arith in
    subst (λ (n : ℕ). is_lt (edit_impl.ghosts.cmp (get_or (x ∷ xs) n d) (get_or xs k d)) ≡ false) next (up (suc k) d (omega arith) (omega arith))

chain_after : (x : Edit) (xs : List Edit) → IsSorted edit_impl.ghosts.cmp (x ∷ xs) → IsChainAfter x xs
chain_after x [] up = tt
chain_after x (y ∷ ys) up =
    let first : is_lt (edit_cmp y x) ≡ false = ap is_lt (sym (cmp_is_edit_cmp y x)) ∙ up zero x (omega arith) (omega arith) in
    let in_order : IsUpTo x y = ap is_gt (edit_cmp_total.antisymm x y) ∙ not_after (edit_cmp y x) first in
    (in_order, chain_after y ys (sorted_tail x (y ∷ ys) up))

chain_from_sorted : (xs : List Edit) → IsSorted edit_impl.ghosts.cmp xs → IsChain xs
chain_from_sorted [] up = tt
chain_from_sorted (x ∷ xs) up = chain_after x xs up

-- ---- the loop in place

-- a list after its first i edits were gone over: those of them that are kept stand at its front, and behind the i edits nothing has
-- changed
pub record AreCompacted (xs ys : List Edit) (len i : ℕ) : Type 0 where
  pub below : len ≤ i
  pub long : length ys ≡ length xs
  pub front : take len ys ++ kept (drop i ys) ≡ kept xs

pub compacted_first : (xs : List Edit) → AreCompacted xs xs 0 0
compacted_first xs = record { below = omega arith; long = refl; front = refl }

pub compacted_skipped : (xs ys : List Edit) (len i : ℕ) (x : Edit) → i < length ys → x ≡ get_or ys i x
    → (zs : List Edit) → zs ≡ ys → true ≡ begins_with (edit_edge x) (take (length zs - (i + 1)) (drop (i + 1) zs))
    → AreCompacted xs ys len i → AreCompacted xs ys len (i + 1)
compacted_skipped xs ys len i x lt is zs lent tested so_far =
    let below = so_far.below in
    let test = subst (λ (us : List Edit). true ≡ begins_with (edit_edge x) (take (length us - (i + 1)) (drop (i + 1) us))) lent tested in
    record { below = omega arith; long = so_far.long; front = skipped ys (take len ys) (kept xs) i x lt is test so_far.front }

pub compacted_pushed : (xs ys : List Edit) (len i : ℕ) (x y : Edit) → i < length ys → x ≡ get_or ys i x → y ≡ get_or ys i y
    → (zs : List Edit) → zs ≡ ys → false ≡ begins_with (edit_edge x) (take (length zs - (i + 1)) (drop (i + 1) zs))
    → AreCompacted xs ys len i → AreCompacted xs (set ys len y) (len + 1) (i + 1)
compacted_pushed xs ys len i x y lt is is_too zs lent tested so_far =
    let below = so_far.below in
    let test = subst (λ (us : List Edit). false ≡ begins_with (edit_edge x) (take (length us - (i + 1)) (drop (i + 1) us))) lent tested in
    let front : take (len + 1) (set ys len y) ≡ take len ys ++ y ∷ [] = take_more_set ys len y (omega arith) in
    let rest : drop (i + 1) (set ys len y) ≡ drop (i + 1) ys = drop-set-lt (i + 1) ys len y (omega arith) in
    record {
      below = omega arith;
      long = length-set ys len y ∙ so_far.long;
      front = ap (λ zs. zs ++ kept (drop (i + 1) (set ys len y))) front ∙ ap (λ zs. (take len ys ++ y ∷ []) ++ kept zs) rest
          ∙ pushed ys (take len ys) (kept xs) i x y lt is is_too test so_far.front;
    }

pub compacted_all : (xs ys : List Edit) (len i : ℕ) → length xs ≤ i → IsSorted edit_impl.ghosts.cmp xs → AreCompacted xs ys len i → IsCanonical (graph xs) (take len ys)
compacted_all xs ys len i le up all =
    let long = all.long in
    let none : drop i ys ≡ [] = drop_all i ys (omega arith) in
    let is : take len ys ≡ kept xs = sym (append-nil (take len ys)) ∙ ap (λ zs. take len ys ++ kept zs) (sym none) ∙ all.front in
    subst (IsCanonical (graph xs)) (sym is) (kept_is_canonical xs (chain_from_sorted xs up))
