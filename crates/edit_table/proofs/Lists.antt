-- Lists that grow at their end, and what is read of them.
use Rattle.std.proofs.Common.{◌≡◌, ℕ, zero, suc, ◌<◌, Bool, true, false, cond, List, [], ◌∷◌, ◌++◌, length, take, slice_get, Some, append_assoc, refl, sym, ap, subst, ◌∙◌, arith}
use Rattle.std.specs.Prelude.{slice_index_or}
use Rattle.std.specs.List.{AllByRecursion, list_any}
use Rattle.std.proofs.lemmas.List.{append-nil}
use Rattle.indexmap.specs.IndexSet.{insert_key}
use Rattle.edit_table.specs.Keys.{BeginsWith}

-- what holds of each holds of what stands at an index
pub all_at : {X : Type 0} (P : X → Type 0) (xs : List X) (i : ℕ) (x : X) → AllByRecursion P xs → slice_get xs i ≡ Some x → P x
all_at P [] i x all at = absurd cc
all_at P (y ∷ xs) zero x all at =
    let same : y ≡ x = cc in
    subst P same all.0
all_at P (y ∷ xs) (suc i) x all at = all_at P xs i x all.1 at

pub all_pushed : {X : Type 0} (P : X → Type 0) (xs : List X) (x : X) → AllByRecursion P xs → P x → AllByRecursion P (xs ++ x ∷ [])
all_pushed P [] x all one = (one, tt)
all_pushed P (y ∷ xs) x all one = (all.0, all_pushed P xs x all.1 one)

pub begins_itself : {X : Type 0} (xs : List X) → BeginsWith xs xs
begins_itself xs = ([], sym (append-nil xs))

pub begins_alike : {X : Type 0} (after before : List X) → after ≡ before → BeginsWith after before
begins_alike after before is = ([], is ∙ sym (append-nil before))

pub begins_further : {X : Type 0} (after between before : List X) → BeginsWith after between → BeginsWith between before → BeginsWith after before
begins_further after between before late early =
    (early.0 ++ late.0, late.1 ∙ ap (λ xs. xs ++ late.0) early.1 ∙ append_assoc before early.0 late.0)

-- a set begins with its keys before one was inserted
pub begins_inserted : {X : Type 0} (eq : X → X → Bool) (after before : List X) (x : X) → after ≡ insert_key eq before x → BeginsWith after before
begins_inserted eq after before x is = by_test (list_any (eq x) before) is where
  by_test : (b : Bool) → after ≡ cond b before (before ++ x ∷ []) → BeginsWith after before
  by_test true same = begins_alike after before same
  by_test false more = (x ∷ [], more)

pub taken : {X : Type 0} (before more : List X) → take (length before) (before ++ more) ≡ before
taken [] more = refl
taken (x ∷ before) more = ap (λ xs. x ∷ xs) (taken before more)

pub taken_back : {X : Type 0} (after before : List X) → BeginsWith after before → take (length before) after ≡ before
taken_back after before begins = ap (take (length before)) begins.1 ∙ taken before begins.0

-- what stands in a list stands where it begins another
stands : {X : Type 0} (before more : List X) (i : ℕ) (x : X) → slice_get before i ≡ Some x → slice_get (before ++ more) i ≡ Some x
stands [] more i x at = absurd cc
stands (y ∷ before) more zero x at = at
stands (y ∷ before) more (suc i) x at = stands before more i x at

pub still_stands_at : {X : Type 0} (after before : List X) (i : ℕ) (x : X) → BeginsWith after before → slice_get before i ≡ Some x → slice_get after i ≡ Some x
still_stands_at after before i x begins at = ap (λ xs. slice_get xs i) begins.1 ∙ stands before begins.0 i x at

-- a read with a default is that of what stands there
pub read_at : {X : Type 0} (xs : List X) (i : ℕ) (d x : X) → slice_get xs i ≡ Some x → slice_index_or xs i d ≡ x
read_at [] i d x at = absurd cc
read_at (y ∷ xs) zero d x at =
    let same : y ≡ x = cc in
    same
read_at (y ∷ xs) (suc i) d x at = read_at xs i d x at

pub stands_within : {X : Type 0} (xs : List X) (i : ℕ) (d : X) → i < length xs → slice_get xs i ≡ Some (slice_index_or xs i d)
stands_within [] i d within = absurd (omega (arith, within))
stands_within (x ∷ xs) zero d within = refl
stands_within (x ∷ xs) (suc i) d within = stands_within xs i d (omega (arith, within))

pub within_from : {X : Type 0} (xs : List X) (i : ℕ) (x : X) → slice_get xs i ≡ Some x → i < length xs
within_from [] i x at = absurd cc
within_from (y ∷ xs) zero x at = omega arith
within_from (y ∷ xs) (suc i) x at = omega (arith, within_from xs i x at)

-- a read within a list is that of each list which it begins
pub read_stays : {X : Type 0} (after before : List X) (i : ℕ) (d : X) → BeginsWith after before → i < length before → slice_index_or after i d ≡ slice_index_or before i d
read_stays after before i d begins within = read_at after i d (slice_index_or before i d) (still_stands_at after before i (slice_index_or before i d) begins (stands_within before i d within))
