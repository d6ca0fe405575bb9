-- Lists with one more element, and what holds of each element.
use Rattle.std.proofs.Common.{◌≡◌, ℕ, ◌+◌, ◌<◌, Bool, true, false, List, [], ◌∷◌, ◌++◌, take, length, get_or, refl, sym, ap, ◌∙◌}
use Rattle.std.specs.Prelude.{◌||◌}
use Rattle.std.proofs.lemmas.List.{take_more}
use Rattle.std.specs.List.{AllByRecursion}
use Rattle.grove_edits.specs.declared.vertex.Vertex.{Vertex}
use Rattle.grove_edits.specs.Vertex.{is_same_vertex, stands_in}
use Rattle.grove_edits.proofs.Vertices.{same_vertex_exact, same_vertex_laws}
use Rattle.kept_records.specs.Change.{StandOnce}
use Rattle.mark_store.specs.Places.{Places, holds}
use Rattle.mark_incremental.specs.Passing.{HoldsThese}

pub all_init : {X : Type 0} (P : X → Type 0) (xs : List X) (x : X) → AllByRecursion P (xs ++ x ∷ []) → AllByRecursion P xs
all_init P [] x all = tt
all_init P (y ∷ ys) x all = (all.0, all_init P ys x all.1)

pub all_last : {X : Type 0} (P : X → Type 0) (xs : List X) (x : X) → AllByRecursion P (xs ++ x ∷ []) → P x
all_last P [] x all = all.0
all_last P (y ∷ ys) x all = all_last P ys x all.1

pub all_push : {X : Type 0} (P : X → Type 0) (xs : List X) (x : X) → AllByRecursion P xs → P x → AllByRecursion P (xs ++ x ∷ [])
all_push P [] x all is = (is, tt)
all_push P (y ∷ ys) x all is = (all.0, all_push P ys x all.1 is)

pub all_gives : {X : Type 0} (P Q : X → Type 0) (xs : List X) → ((x : X) → P x → Q x) → AllByRecursion P xs → AllByRecursion Q xs
all_gives P Q [] gives all = tt
all_gives P Q (x ∷ xs) gives all = (gives x all.0, all_gives P Q xs gives all.1)

pub stands_push : (v x : Vertex) (xs : List Vertex) → stands_in v (xs ++ x ∷ []) ≡ (is_same_vertex x v || stands_in v xs)
stands_push v x [] = refl
stands_push v x (y ∷ ys) = ap (λ b. is_same_vertex y v || b) (stands_push v x ys) ∙ swap (is_same_vertex y v) (is_same_vertex x v) (stands_in v ys) where
  swap : (a b c : Bool) → (a || (b || c)) ≡ (b || (a || c))
  swap true true c = refl
  swap true false c = refl
  swap false true c = refl
  swap false false c = refl

pub once_push : (xs : List Vertex) (x : Vertex) → StandOnce xs → stands_in x xs ≡ false → ((a b : Vertex) → is_same_vertex a b ≡ is_same_vertex b a) → StandOnce (xs ++ x ∷ [])
once_push [] x once apart swapped = (refl, tt)
once_push (y ∷ ys) x once apart swapped =
    (stands_push y x ys ∙ ap (λ b. b || stands_in y ys) (swapped x y ∙ first (is_same_vertex y x) (stands_in x ys) apart) ∙ once.0, once_push ys x once.1 (second (is_same_vertex y x) (stands_in x ys) apart) swapped) where
      first : (a b : Bool) → (a || b) ≡ false → a ≡ false
      first true b h = absurd cc
      first false b h = refl

      second : (a b : Bool) → (a || b) ≡ false → b ≡ false
      second true b h = absurd cc
      second false b h = h

-- ---- sets of vertices

pub held_already : (places : Places Bool) (x v : Vertex) → holds places x ≡ true → holds places v ≡ (is_same_vertex x v || holds places v)
held_already places x v there = by (is_same_vertex x v) refl where
  by : (b : Bool) → is_same_vertex x v ≡ b → holds places v ≡ (is_same_vertex x v || holds places v)
  by true one = ap (holds places) (sym (same_vertex_exact x v one)) ∙ there ∙ sym (ap (λ b. b || holds places v) one)
  by false other = sym (ap (λ b. b || holds places v) other)

pub these_more : (places grown : Places Bool) (x : Vertex) (vertices : List Vertex) → HoldsThese places vertices → holds places x ≡ false
    → ((v : Vertex) → holds grown v ≡ (is_same_vertex x v || holds places v)) → HoldsThese grown (vertices ++ x ∷ [])
these_more places grown x vertices these new entered = record {
  same = λ v. entered v ∙ ap (λ b. is_same_vertex x v || b) (these.same v) ∙ sym (stands_push v x vertices);
  once = once_push vertices x these.once (sym (these.same x) ∙ new) same_vertex_laws.symm;
}

pub stands_more : (v : Vertex) (vertices : List Vertex) (i : ℕ) (d : Vertex) (before : Bool) → i < length vertices
    → (is_same_vertex (get_or vertices i d) v || (stands_in v (take i vertices) || before)) ≡ (stands_in v (take (i + 1) vertices) || before)
stands_more v vertices i d before within =
    grouped (is_same_vertex (get_or vertices i d) v) (stands_in v (take i vertices)) before
    ∙ ap (λ b. b || before) (sym (ap (stands_in v) (take_more vertices i d within) ∙ stands_push v (get_or vertices i d) (take i vertices))) where
      grouped : (a b c : Bool) → (a || (b || c)) ≡ ((a || b) || c)
      grouped true b c = refl
      grouped false b c = refl
