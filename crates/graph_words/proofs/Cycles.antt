-- Which vertices are above others, and which of them are the roots of cycles.
use Rattle.std.proofs.Common.{◌≡◌, ℕ, zero, suc, ◌+◌, ◌-◌, ◌*◌, ◌<◌, Bool, true, false, List, [], ◌∷◌, length, refl, sym, ap, ◌∙◌, arith}
use native.Mathlib.Numerals.{unary_clauses}
use Rattle.std.specs.Prelude.{◌||◌, ◌&&◌, leb, Option, None, Some}
use Rattle.std.proofs.lemmas.Bool.{leb-true, leb-false}
use Rattle.std.specs.declared.cmp.Ordering.{Ordering}
use Rattle.std.specs.declared.cmp.Ordering.TheVariants.{Less, Equal, Greater}
use Rattle.std.specs.Ordering.{is_gt, ordering_reverse}
use Rattle.grove_edits.specs.declared.vertex.Vertex.{Vertex}
use Rattle.grove_edits.specs.declared.edge.Edge.{Edge}
use Rattle.grove_edits.specs.Vertex.{vertex_cmp, is_same_vertex, stands_in}
use Rattle.grove_edits.proofs.Orders.{vertex_cmp_exact, vertex_cmp_total}
use Rattle.graph_words.specs.Live.{parents_of}
use Rattle.graph_words.specs.Walk.{only_source, above, above_last, GoesOn, walk}
use Rattle.graph_words.specs.Class.{class, class_by, is_same_class, is_vertex_of, is_least, is_cycle_root}
use Rattle.graph_words.specs.declared.class.Class.TheVariants.{Cycle}
use Rattle.grove_edits.proofs.Vertices.{same_vertex_exact, same_vertex_itself}
use Rattle.graph_words.proofs.Endings.{walk_is}
use Rattle.graph_words.proofs.Up.{up, next_above, up-along, up_none_along, walk_len, walk_apart, walk_back, walk_last, walk_least, walk_least_from}
use Rattle.graph_words.specs.Cycle.{leads_to, is_on_cycle}
use Rattle.graph_words.proofs.Returns.{some_same}
use Rattle.graph_words.proofs.Roots.{root_back, root_least, vertex_of_some}
use Rattle.grove_sorts.proofs.Truths.{or_true}

-- ---- steps up in two parts

up_add : (edges : List Edge) (o : Option Vertex) (a b : ℕ) → up edges (a + b) o ≡ up edges b (up edges a o)
up_add edges o a zero = simp unary_clauses refl
up_add edges o a (suc b) = simp unary_clauses (ap (next_above edges) (up_add edges o a b))

pub up_through : (edges : List Edge) (v x : Vertex) (a b n : ℕ) → up edges a (Some v) ≡ Some x → a + b ≡ n → up edges n (Some v) ≡ up edges b (Some x)
up_through edges v x a b n at sum = ap (λ i. up edges i (Some v)) (sym sum) ∙ up_add edges (Some v) a b ∙ ap (up edges b) at

up_first : (edges : List Edge) (o : Option Vertex) (x : Vertex) (i : ℕ) → o ≡ Some x → up edges (suc i) o ≡ up edges i (above edges x)
up_first edges o x i is =
    let e : suc i ≡ 1 + i = omega arith in
    ap (λ n. up edges n o) e ∙ up_add edges o 1 i ∙ ap (λ p. up edges i (next_above edges p)) is

-- ---- the vertices above are those on the walk

-- some steps up from v lead to x
abbrev pub Reaches : List Edge → Vertex → Vertex → Type 0
Reaches edges v x = (n : ℕ) × (up edges n (Some v) ≡ Some x)

reaches_itself : (edges : List Edge) (v : Vertex) → Reaches edges v v
reaches_itself edges v = (0, refl)

-- each vertex above is found within the walk
pub within_walk : (edges : List Edge) (v : Vertex) (n : ℕ) (x : Vertex) → up edges n (Some v) ≡ Some x → (i : ℕ) × (i < walk_len edges v) × (up edges i (Some v) ≡ Some x)
within_walk edges v zero x at = (0, omega arith, at)
within_walk edges v (suc n) x at = by_last (up edges n (Some v)) (λ y is. within_walk edges v n y is) refl at where
  by_length : (y : Vertex) (i : ℕ) → above edges y ≡ Some x → i < walk_len edges v → up edges i (Some v) ≡ Some y → (j : ℕ) × (j < walk_len edges v) × (up edges j (Some v) ≡ Some x)
  by_length y i next lt there =
      let further : up edges (suc i) (Some v) ≡ Some x = ap (next_above edges) there ∙ next in
      elim (leb (i + 2) (walk_len edges v)) as (λ b. leb (i + 2) (walk_len edges v) ≡ b → (j : ℕ) × (j < walk_len edges v) × (up edges j (Some v) ≡ Some x)) [
        | true ↦ λ le. (suc i, omega (arith, leb-true (i + 2) (walk_len edges v) le), further)
        | false ↦ λ gt.
            let e : walk_len edges v ≡ suc i = omega (arith, leb-false (i + 2) (walk_len edges v) gt) in
            walk_back edges v x (ap (λ j. up edges j (Some v)) e ∙ further)
      ] refl

  by_last : (o : Option Vertex) → ((y : Vertex) → up edges n (Some v) ≡ Some y → (i : ℕ) × (i < walk_len edges v) × (up edges i (Some v) ≡ Some y))
      → up edges n (Some v) ≡ o → next_above edges o ≡ Some x → (i : ℕ) × (i < walk_len edges v) × (up edges i (Some v) ≡ Some x)
  by_last None within is next = absurd cc
  by_last (Some y) within is next =
      let found = within y is in
      by_length y found.0 next found.1 found.2

goes_stands : (edges : List Edge) (passed : List Vertex) (o : Option Vertex) (xs : List Vertex) → GoesOn edges passed o xs → (x : Vertex) (i : ℕ) → i < length xs → up edges i o ≡ Some x → stands_in x xs ≡ true
goes_stands edges passed o [] g x i lt at = absurd (omega arith)
goes_stands edges passed o (y ∷ ys) g x zero lt at =
    let one : y ≡ x = some_same y x (sym g.0 ∙ at) in
    ap (λ z. is_same_vertex z x || stands_in x ys) one ∙ ap (λ b. b || stands_in x ys) (same_vertex_itself x)
goes_stands edges passed o (y ∷ ys) g x (suc i) lt at =
    let rest = goes_stands edges (y ∷ passed) (above edges y) ys g.2 x i (omega arith) (sym (up_first edges o y i g.0) ∙ at) in
    ap (λ b. is_same_vertex y x || b) rest ∙ or_true (is_same_vertex y x)

stands_goes : (edges : List Edge) (passed : List Vertex) (o : Option Vertex) (xs : List Vertex) → GoesOn edges passed o xs → (x : Vertex) → stands_in x xs ≡ true → (i : ℕ) × (up edges i o ≡ Some x)
stands_goes edges passed o [] g x is = absurd cc
stands_goes edges passed o (y ∷ ys) g x is =
    elim (is_same_vertex y x) as (λ b. is_same_vertex y x ≡ b → (b || stands_in x ys) ≡ true → (i : ℕ) × (up edges i o ≡ Some x)) [
      | true ↦ λ same _. (zero, g.0 ∙ ap Some (same_vertex_exact y x same))
      | false ↦ λ _ rest.
          let found = stands_goes edges (y ∷ passed) (above edges y) ys g.2 x rest in
          (suc found.0, up_first edges o y found.0 g.0 ∙ found.1)
    ] refl is

pub leads_from_reaches : (edges : List Edge) (v x : Vertex) → Reaches edges v x → leads_to edges v x ≡ true
leads_from_reaches edges v x (n, at) =
    let found = within_walk edges v n x at in
    goes_stands edges [] (Some v) (walk edges v) (walk_is edges v) x found.0 found.1 found.2

pub reaches_from_leads : (edges : List Edge) (v x : Vertex) → leads_to edges v x ≡ true → Reaches edges v x
reaches_from_leads edges v x is = stands_goes edges [] (Some v) (walk edges v) (walk_is edges v) x is

pub leads_to_itself : (edges : List Edge) (v : Vertex) → leads_to edges v v ≡ true
leads_to_itself edges v = leads_from_reaches edges v v (reaches_itself edges v)

-- ---- cycles

abbrev pub ComesBack : List Edge → Vertex → Type 0
ComesBack edges v = up edges (walk_len edges v) (Some v) ≡ Some v

pub back_from_cycle : (edges : List Edge) (v : Vertex) → is_on_cycle edges v ≡ true → ComesBack edges v
back_from_cycle edges v is = sym (walk_last edges v) ∙ vertex_of_some v (above_last edges (walk edges v)) is

pub cycle_from_back : (edges : List Edge) (v : Vertex) → ComesBack edges v → is_on_cycle edges v ≡ true
cycle_from_back edges v back = ap (is_vertex_of v) (walk_last edges v ∙ back) ∙ same_vertex_itself v

-- from each vertex above one on a cycle, the way leads back to that one
pub leads_back : (edges : List Edge) (v x : Vertex) → ComesBack edges v → Reaches edges v x → (n : ℕ) × (0 < n) × (up edges n (Some x) ≡ Some v)
leads_back edges v x back (n, at) =
    let found = within_walk edges v n x at in
    let rest : ℕ = walk_len edges v - found.0 in
    let pos : 0 < rest = omega (arith, found.1) in
    let sum : found.0 + rest ≡ walk_len edges v = omega (arith, found.1) in
    (rest, pos, sym (up_through edges v x found.0 rest (walk_len edges v) found.2 sum) ∙ back)

times : (edges : List Edge) (v : Vertex) (n q : ℕ) → up edges n (Some v) ≡ Some v → up edges (q * n) (Some v) ≡ Some v
times edges v n zero back = let e : 0 * n ≡ 0 = omega arith in ap (λ i. up edges i (Some v)) e
times edges v n (suc q) back = let e : n + q * n ≡ suc q * n = omega arith in up_through edges v v n (q * n) (suc q * n) back e ∙ times edges v n q back

pub returns : (edges : List Edge) (v : Vertex) → ComesBack edges v → up edges (suc (walk_len edges v - 1)) (Some v) ≡ Some v
returns edges v back = ap (λ i. up edges i (Some v)) len ∙ back where
  len : suc (walk_len edges v - 1) ≡ walk_len edges v
  len = omega arith

-- where the way leads back, it does not end
pub never_none : (edges : List Edge) (v : Vertex) (n : ℕ) → up edges (suc n) (Some v) ≡ Some v → (k : ℕ) → up edges k (Some v) ≡ None → ⊥
never_none edges v n return k none =
    let far : up edges (suc k * suc n) (Some v) ≡ Some v = times edges v (suc n) (suc k) return in
    let sum : k + (suc k * n + 1) ≡ suc k * suc n = omega arith in
    let further : up edges (k + (suc k * n + 1)) (Some v) ≡ None = up_none_along edges (Some v) k (suc k * n + 1) none in
    let same : up edges (k + (suc k * n + 1)) (Some v) ≡ up edges (suc k * suc n) (Some v) = ap (λ j. up edges j (Some v)) sum in
    cc

-- where the way leads back, the walk does
pub back_from_return : (edges : List Edge) (v : Vertex) (n : ℕ) → up edges (suc n) (Some v) ≡ Some v → ComesBack edges v
back_from_return edges v n return = by_last (up edges (walk_len edges v) (Some v)) refl where
  -- the walk is to lead back to its first vertex alone
  by_place : (i : ℕ) (y : Vertex) → i < walk_len edges v → up edges i (Some v) ≡ Some y → up edges (walk_len edges v) (Some v) ≡ Some y → ComesBack edges v
  by_place zero y lt at last = last ∙ sym at
  by_place (suc i) y lt at last =
      let len : ℕ = walk_len edges v in
      let whole : up edges (suc i * suc n) (Some v) ≡ Some v = times edges v (suc n) (suc i) return in
      let split : suc i + suc i * n ≡ suc i * suc n = omega arith in
      let along : up edges (suc i + suc i * n) (Some v) ≡ up edges (len + suc i * n) (Some v) = up-along edges (Some v) (suc i) len (suc i * n) (at ∙ sym last) in
      let there : up edges (len + suc i * n) (Some v) ≡ Some v = sym along ∙ ap (λ j. up edges j (Some v)) split ∙ whole in
      let sum : suc i * suc n + (len - suc i) ≡ len + suc i * n = omega arith in
      let shorter : up edges (len - suc i) (Some v) ≡ Some v = sym (up_through edges v v (suc i * suc n) (len - suc i) (len + suc i * n) whole sum) ∙ there in
      absurd (walk_apart edges v 0 (len - suc i) (omega arith) (omega arith) (sym shorter))

  by_last : (o : Option Vertex) → up edges (walk_len edges v) (Some v) ≡ o → ComesBack edges v
  by_last None is = absurd (never_none edges v n return (walk_len edges v) is)
  by_last (Some y) is =
      let found = walk_back edges v y is in
      by_place found.0 y found.1 found.2 is

-- ---- roots

-- a root above a vertex is above each vertex above that one
pub root_further : (edges : List Edge) (x y r : Vertex) → is_cycle_root edges r ≡ true → Reaches edges x r → Reaches edges x y → Reaches edges y r
root_further edges x y r root (n, at) (m, there) =
    elim (leb m n) as (λ b. leb m n ≡ b → Reaches edges y r) [
      | true ↦ λ le.
          let sum : m + (n - m) ≡ n = omega (arith, leb-true m n le) in
          (n - m, sym (up_through edges x y m (n - m) n there sum) ∙ at)
      | false ↦ λ gt.
          let sum : n + (m - n) ≡ m = omega (arith, leb-false m n gt) in
          let beyond : up edges (m - n) (Some r) ≡ Some y = sym (up_through edges x r n (m - n) m at sum) ∙ there in
          let found = leads_back edges r y (root_back edges r root) (m - n, beyond) in
          (found.0, found.2)
    ] refl

-- no root is above a vertex from which the way ends
pub no_root_below_none : (edges : List Edge) (x r : Vertex) (n : ℕ) → is_cycle_root edges r ≡ true → Reaches edges x r → up edges n (Some x) ≡ None → ⊥
no_root_below_none edges x r n root (m, at) none =
    elim (leb n m) as (λ b. leb n m ≡ b → ⊥) [
      | true ↦ λ le.
          let sum : n + (m - n) ≡ m = omega (arith, leb-true n m le) in
          let further = up_none_along edges (Some x) n (m - n) none in
          let same = ap (λ j. up edges j (Some x)) sum in
          cc
      | false ↦ λ gt.
          let sum : m + (n - m) ≡ n = omega (arith, leb-false n m gt) in
          never_none edges r (walk_len edges r - 1) (returns edges r (root_back edges r root)) (n - m) (sym (up_through edges x r m (n - m) n at sum) ∙ none)
    ] refl

-- a root is the least of the vertices above it
root_is_least : (edges : List Edge) (r x : Vertex) → is_cycle_root edges r ≡ true → Reaches edges r x → is_gt (vertex_cmp r x) ≡ false
root_is_least edges r x root (n, at) =
    let found = within_walk edges r n x at in
    walk_least edges r (root_least edges r root) found.0 x found.1 found.2

pub root_from_least : (edges : List Edge) (r : Vertex) → ComesBack edges r → ((x : Vertex) → Reaches edges r x → is_gt (vertex_cmp r x) ≡ false) → is_cycle_root edges r ≡ true
root_from_least edges r back least =
    let all : is_least r (walk edges r) ≡ true = walk_least_from edges r (λ i x lt at. least x (i, at)) in
    ap (λ b. b && is_least r (walk edges r)) (cycle_from_back edges r back) ∙ all

equal_from_both : (a b : Ordering) → is_gt a ≡ false → is_gt b ≡ false → b ≡ ordering_reverse a → a ≡ Equal
equal_from_both Less b first second flip = absurd cc
equal_from_both Equal b first second flip = refl
equal_from_both Greater b first second flip = absurd cc

-- at most one root is above a vertex
pub one_root : (edges : List Edge) (x r s : Vertex) → is_cycle_root edges r ≡ true → is_cycle_root edges s ≡ true → Reaches edges x r → Reaches edges x s → r ≡ s
one_root edges x r s root other to_root to_other =
    let there = root_is_least edges r s root (root_further edges x r s other to_other to_root) in
    let back = root_is_least edges s r other (root_further edges x s r root to_root to_other) in
    vertex_cmp_exact r s (equal_from_both (vertex_cmp r s) (vertex_cmp s r) there back (vertex_cmp_total.antisymm s r))

-- ---- the class Cycle

above_some : (edges : List Edge) (v : Vertex) (n : ℕ) → up edges (suc n) (Some v) ≡ Some v → above edges v ≡ None → ⊥
above_some edges v n return none =
    let first : up edges (suc n) (Some v) ≡ up edges n (above edges v) = up_first edges (Some v) v n refl in
    let ends : up edges n None ≡ None = none_above n in
    let same = ap (up edges n) none in
    cc
  where
    none_above : (n : ℕ) → up edges n None ≡ None
    none_above zero = refl
    none_above (suc n) = ap (next_above edges) (none_above n)

pub class_is_cycle : (edges : List Edge) (v : Vertex) → is_same_class (class edges v) Cycle ≡ is_cycle_root edges v
class_is_cycle edges v = by_parents (parents_of v edges) (is_cycle_root edges v) (λ root none. alone root none) where
  alone : is_cycle_root edges v ≡ true → above edges v ≡ None → ⊥
  alone root none = above_some edges v (walk_len edges v - 1) (returns edges v (root_back edges v root)) none

  by_parents : (ps : List Edge) (b : Bool) → (b ≡ true → only_source ps ≡ None → ⊥) → is_same_class (class_by ps b) Cycle ≡ b
  by_parents [] true not_none = absurd (not_none refl refl)
  by_parents [] false not_none = refl
  by_parents (e ∷ []) true not_none = refl
  by_parents (e ∷ []) false not_none = refl
  by_parents (e ∷ f ∷ es) true not_none = absurd (not_none refl refl)
  by_parents (e ∷ f ∷ es) false not_none = refl
