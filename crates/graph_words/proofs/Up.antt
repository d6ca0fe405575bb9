-- The vertices above a vertex, by number, and which of them are on its walk.
use Rattle.std.proofs.Common.{◌≡◌, ℕ, zero, suc, ◌+◌, ◌<◌, true, false, List, [], ◌∷◌, length, refl, sym, ap, ◌∙◌, arith, inl, inr}
use native.Mathlib.Numerals.{unary_clauses}
use Rattle.std.specs.Prelude.{◌||◌, ◌&&◌, ◌⊎◌, not, Option, None, Some}
use Rattle.std.specs.Ordering.{is_gt}
use Rattle.grove_sorts.proofs.Truths.{both_true, not_true, or_true}
use Rattle.grove_edits.specs.declared.vertex.Vertex.{Vertex}
use Rattle.grove_edits.specs.declared.edge.Edge.{Edge}
use Rattle.grove_edits.specs.Vertex.{vertex_cmp, is_same_vertex, stands_in}
use Rattle.graph_words.specs.Walk.{above, above_last, GoesOn, walk}
use Rattle.graph_words.specs.Class.{is_least}
use Rattle.grove_edits.proofs.Vertices.{same_vertex_exact, same_vertex_itself}
use Rattle.graph_words.proofs.Endings.{walk_is}

abbrev pub next_above : List Edge → Option Vertex → Option Vertex
next_above edges None = None
next_above edges (Some v) = above edges v

-- the vertex so many steps up
abbrev pub up : List Edge → ℕ → Option Vertex → Option Vertex
up edges zero o = o
up edges (suc n) o = next_above edges (up edges n o)

pub up-shift : (edges : List Edge) (o : Option Vertex) (n : ℕ) → up edges n (next_above edges o) ≡ up edges (suc n) o
up-shift edges o zero = refl
up-shift edges o (suc n) = ap (next_above edges) (up-shift edges o n)

up_after : (edges : List Edge) (o : Option Vertex) (x : Vertex) (i : ℕ) → o ≡ Some x → up edges i (above edges x) ≡ up edges (suc i) o
up_after edges o x i is = up-shift edges (Some x) i ∙ ap (up edges (suc i)) (sym is)

-- steps from where two numbers lead to the same lead to the same
pub up-along : (edges : List Edge) (o : Option Vertex) (a b t : ℕ) → up edges a o ≡ up edges b o → up edges (a + t) o ≡ up edges (b + t) o
up-along edges o a b zero same = simp unary_clauses same
up-along edges o a b (suc t) same = simp unary_clauses (ap (next_above edges) (up-along edges o a b t same))

-- where no vertex stands so many steps up, none stands further up
pub up_none_along : (edges : List Edge) (o : Option Vertex) (a t : ℕ) → up edges a o ≡ None → up edges (a + t) o ≡ None
up_none_along edges o a zero none = simp unary_clauses none
up_none_along edges o a (suc t) none = simp unary_clauses (ap (next_above edges) (up_none_along edges o a t none))

-- ---- the vertices that a walk adds

goes_none : (edges : List Edge) (passed : List Vertex) (o : Option Vertex) (xs : List Vertex) → GoesOn edges passed o xs → (i : ℕ) → i < length xs → up edges i o ≡ None → ⊥
goes_none edges passed o [] g i lt none = omega arith
goes_none edges passed o (x ∷ xs) g zero lt none = let is = g.0 in cc
goes_none edges passed o (x ∷ xs) g (suc i) lt none =
    goes_none edges (x ∷ passed) (above edges x) xs g.2 i (omega arith) (up_after edges o x i g.0 ∙ none)

-- no vertex that was passed is added
goes_new : (edges : List Edge) (passed : List Vertex) (o : Option Vertex) (xs : List Vertex) → GoesOn edges passed o xs → (y : Vertex) → stands_in y passed ≡ true
    → (j : ℕ) → j < length xs → up edges j o ≡ Some y → ⊥
goes_new edges passed o [] g y was j lt at = omega arith
goes_new edges passed o (x ∷ xs) g y was zero lt at =
    let e : Some x ≡ Some y = sym g.0 ∙ at in
    let one : x ≡ y = cc in
    let new : stands_in y passed ≡ false = ap (λ z. stands_in z passed) (sym one) ∙ g.1 in
    cc
goes_new edges passed o (x ∷ xs) g y was (suc j) lt at =
    goes_new edges (x ∷ passed) (above edges x) xs g.2 y (ap (λ b. is_same_vertex x y || b) was ∙ or_true (is_same_vertex x y)) j (omega arith) (up_after edges o x j g.0 ∙ at)

goes_apart : (edges : List Edge) (passed : List Vertex) (o : Option Vertex) (xs : List Vertex) → GoesOn edges passed o xs → (i j : ℕ) → i < j → j < length xs
    → up edges i o ≡ up edges j o → ⊥
goes_apart edges passed o [] g i j before lt same = omega arith
goes_apart edges passed o (x ∷ xs) g i zero before lt same = omega arith
goes_apart edges passed o (x ∷ xs) g zero (suc j) before lt same =
    goes_new edges (x ∷ passed) (above edges x) xs g.2 x (ap (λ b. b || stands_in x passed) (same_vertex_itself x)) j (omega arith)
    (up_after edges o x j g.0 ∙ sym same ∙ g.0)
goes_apart edges passed o (x ∷ xs) g (suc i) (suc j) before lt same =
    goes_apart edges (x ∷ passed) (above edges x) xs g.2 i j (omega arith) (omega arith)
    (up_after edges o x i g.0 ∙ same ∙ sym (up_after edges o x j g.0))

-- the vertex above the last one was passed, or is one of those that were added
goes_back : (edges : List Edge) (passed : List Vertex) (o : Option Vertex) (xs : List Vertex) → GoesOn edges passed o xs → (y : Vertex) → up edges (length xs) o ≡ Some y
    → ((i : ℕ) × (i < length xs) × (up edges i o ≡ Some y)) ⊎ (stands_in y passed ≡ true)
goes_back edges passed None [] g y at = absurd cc
goes_back edges passed (Some x) [] g y at =
    let one : x ≡ y = cc in
    inr (ap (λ z. stands_in z passed) (sym one) ∙ g)
goes_back edges passed o (x ∷ xs) g y at =
    elim (goes_back edges (x ∷ passed) (above edges x) xs g.2 y (up_after edges o x (length xs) g.0 ∙ at)) [
      | inl found ↦ inl (suc found.0, omega (arith, found.1), sym (up_after edges o x found.0 g.0) ∙ found.2)
      | inr was ↦ elim (is_same_vertex x y) as (λ b. is_same_vertex x y ≡ b → (b || stands_in y passed) ≡ true → ((i : ℕ) × (i < suc (length xs)) × (up edges i o ≡ Some y)) ⊎ (stands_in y passed ≡ true)) [
        | true ↦ λ same _. inl (zero, omega arith, g.0 ∙ ap Some (same_vertex_exact x y same))
        | false ↦ λ _ rest. inr rest
      ] refl was
    ]

goes_last : (edges : List Edge) (passed : List Vertex) (o : Option Vertex) (x : Vertex) (xs : List Vertex) → GoesOn edges passed o (x ∷ xs) → above_last edges (x ∷ xs) ≡ up edges (suc (length xs)) o
goes_last edges passed o x [] g = up_after edges o x zero g.0
goes_last edges passed o x (y ∷ ys) g = goes_last edges (x ∷ passed) (above edges x) y ys g.2 ∙ up_after edges o x (suc (length ys)) g.0

-- ---- the least of the vertices that a walk adds

goes_least : (edges : List Edge) (passed : List Vertex) (o : Option Vertex) (xs : List Vertex) → GoesOn edges passed o xs → (v : Vertex) → is_least v xs ≡ true
    → (i : ℕ) (x : Vertex) → i < length xs → up edges i o ≡ Some x → is_gt (vertex_cmp v x) ≡ false
goes_least edges passed o [] g v least i x lt at = absurd (omega arith)
goes_least edges passed o (y ∷ ys) g v least zero x lt at =
    let e : Some y ≡ Some x = sym g.0 ∙ at in
    let one : y ≡ x = cc in
    ap (λ z. is_gt (vertex_cmp v z)) (sym one) ∙ not_true (is_gt (vertex_cmp v y)) (both_true (not (is_gt (vertex_cmp v y))) (is_least v ys) least).0
goes_least edges passed o (y ∷ ys) g v least (suc i) x lt at =
    goes_least edges (y ∷ passed) (above edges y) ys g.2 v (both_true (not (is_gt (vertex_cmp v y))) (is_least v ys) least).1 i x (omega arith) (up_after edges o y i g.0 ∙ at)

least_from : (edges : List Edge) (passed : List Vertex) (o : Option Vertex) (xs : List Vertex) → GoesOn edges passed o xs → (v : Vertex)
    → ((i : ℕ) (x : Vertex) → i < length xs → up edges i o ≡ Some x → is_gt (vertex_cmp v x) ≡ false) → is_least v xs ≡ true
least_from edges passed o [] g v each = refl
least_from edges passed o (y ∷ ys) g v each =
    let first : is_gt (vertex_cmp v y) ≡ false = each zero y (omega arith) g.0 in
    let rest : is_least v ys ≡ true = least_from edges (y ∷ passed) (above edges y) ys g.2 v (λ i x lt at. each (suc i) x (omega arith) (sym (up_after edges o y i g.0) ∙ at)) in
    ap (λ b. not b && is_least v ys) first ∙ rest

-- ---- of the walk up from a vertex

abbrev pub walk_len : List Edge → Vertex → ℕ
walk_len edges v = length (walk edges v)

pub walk_some : (edges : List Edge) (v : Vertex) (i : ℕ) → i < walk_len edges v → up edges i (Some v) ≡ None → ⊥
walk_some edges v i lt none = goes_none edges [] (Some v) (walk edges v) (walk_is edges v) i lt none

pub walk_apart : (edges : List Edge) (v : Vertex) (i j : ℕ) → i < j → j < walk_len edges v → up edges i (Some v) ≡ up edges j (Some v) → ⊥
walk_apart edges v i j before lt same = goes_apart edges [] (Some v) (walk edges v) (walk_is edges v) i j before lt same

pub walk_back : (edges : List Edge) (v y : Vertex) → up edges (walk_len edges v) (Some v) ≡ Some y → (i : ℕ) × (i < walk_len edges v) × (up edges i (Some v) ≡ Some y)
walk_back edges v y at =
    elim (goes_back edges [] (Some v) (walk edges v) (walk_is edges v) y at) [ inl found ↦ found | inr was ↦ absurd cc ]

pub walk_last : (edges : List Edge) (v : Vertex) → above_last edges (walk edges v) ≡ up edges (walk_len edges v) (Some v)
walk_last edges v = goes_last edges [] (Some v) v _ (walk_is edges v)

pub walk_least : (edges : List Edge) (v : Vertex) → is_least v (walk edges v) ≡ true → (i : ℕ) (x : Vertex) → i < walk_len edges v → up edges i (Some v) ≡ Some x → is_gt (vertex_cmp v x) ≡ false
walk_least edges v least i x lt at = goes_least edges [] (Some v) (walk edges v) (walk_is edges v) v least i x lt at

pub walk_least_from : (edges : List Edge) (v : Vertex) → ((i : ℕ) (x : Vertex) → i < walk_len edges v → up edges i (Some v) ≡ Some x → is_gt (vertex_cmp v x) ≡ false) → is_least v (walk edges v) ≡ true
walk_least_from edges v each = least_from edges [] (Some v) (walk edges v) (walk_is edges v) v each
