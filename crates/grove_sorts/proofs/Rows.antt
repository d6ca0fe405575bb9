-- Look-ups in the row of a constructor: what they find is an entry of the row, and the first position of a sort stands before each other.
use Rattle.std.proofs.Common.{◌≡◌, ◌≢◌, ℕ, suc, ◌≤◌, length, List, [], ◌∷◌, Bool, true, false, ◌&&◌, not, cond, eqb, nat_eq, nat_le, Option, Some, None, IfSome, IfNone, Contains, ◌⊎◌, ⊎_elim, inl, inr, refl, sym, ap, subst, ◌∙◌, arith, lit≤}
use Rattle.std.proofs.lemmas.Bool.{eqb-true, eq-eqb, both_ways, false≢true}
use Rattle.std.proofs.lemmas.Bool.Decides.{nat_tests}
use Rattle.std.proofs.lemmas.List.Elements.{Contains-append_left, Contains-append_right, Contains-append_cases, Contains-push, Contains-push_cases}
use Rattle.std.specs.List.{AllByRecursion}
use Rattle.grove_sorts.specs.Ctor.{sort_of_ctor, positions, Rises, sort_in, sort_at, first_in, first_position}
use Rattle.grove_sorts.specs.Position.{position_number, is_same_position}
use Rattle.grove_sorts.specs.Sort.{sort_number}
use Rattle.grove_sorts.proofs.Truths.{both_true}
use Rattle.grove_sorts.proofs.Orders.{position_same, other_position}
use Rattle.grove_sorts.specs.declared.sort.Sort.{Sort}
use Rattle.grove_sorts.specs.declared.sort.Sort.TheVariants.{Top, Exp, Pat, Typ}
use Rattle.grove_sorts.specs.declared.position.Position.{Position}
use Rattle.grove_sorts.specs.declared.ctor.Ctor.{Ctor}
use Rattle.grove_sorts.specs.declared.ctor.Ctor.TheVariants.{Root}

-- the test whether the numbers of some positions rise
rise : ℕ → List (Position × Sort) → Bool
rise low [] = true
rise low (entry ∷ entries) = nat_le low (position_number entry.0) && rise (suc (position_number entry.0)) entries

rises_from : (low : ℕ) (entries : List (Position × Sort)) → rise low entries ≡ true → Rises low entries
unfolding rise
rises_from low [] e = tt
rises_from low (entry ∷ entries) e =
    let both = both_true (nat_le low (position_number entry.0)) (rise (suc (position_number entry.0)) entries) e in
    (grind (arith, nat_tests), rises_from (suc (position_number entry.0)) entries both.1)

row_rises : (ctor : Ctor) → rise 0 (positions ctor) ≡ true
unfolding rise
row_rises Root = refl
row_rises _ = refl

pub positions_rise : (ctor : Ctor) → Rises 0 (positions ctor)
positions_rise ctor = rises_from 0 (positions ctor) (row_rises ctor)

-- no row has more than five
pub row_short : (ctor : Ctor) → length (positions ctor) ≤ 5
row_short Root = lit≤ tt
row_short _ = lit≤ tt

-- a look-up answers at the first entry, or in the rest
looked_up : {X : Type 0} (test : Bool) (x y : X) (rest : Option X) → cond test (Some x) rest ≡ Some y → ((test ≡ true) × (x ≡ y)) ⊎ ((test ≡ false) × (rest ≡ Some y))
looked_up true x y rest e = inl (refl, cc)
looked_up false x y rest e = inr (refl, e)

sort_in_above : (low : ℕ) (entries : List (Position × Sort)) → Rises low entries → (other : Position) (sort : Sort) → sort_in entries other ≡ Some sort → low ≤ position_number other
sort_in_above low [] rises other sort e = absurd cc
sort_in_above low (entry ∷ entries) rises other sort e =
    ⊎_elim
    (λ here. omega (arith, eqb-true _ _ here.0, rises.0))
    (λ later. omega (arith, sort_in_above (suc (position_number entry.0)) entries rises.1 other sort later.1, rises.0))
    (looked_up _ entry.1 sort (sort_in entries other) e)

passed_over : {X : Type 0} (test : Bool) (x : X) (rest : Option X) → cond test (Some x) rest ≡ None → (test ≡ false) × (rest ≡ None)
passed_over true x rest e = absurd cc
passed_over false x rest e = (refl, e)

other_sort : (a b : Sort) → nat_eq (sort_number a) (sort_number b) ≡ false → a ≡ b → ⊥
other_sort a b differs e = both_ways _ differs (eq-eqb _ _ (ap sort_number e))

one_sort : (a b : Sort) → nat_eq (sort_number a) (sort_number b) ≡ true → a ≡ b
one_sort Top Top e = refl
one_sort Exp Exp e = refl
one_sort Pat Pat e = refl
one_sort Typ Typ e = refl
one_sort _ _ e = absurd (false≢true e)

-- where no first position is found, no position has the sort
first_in_none : (entries : List (Position × Sort)) (sort : Sort) → first_in entries sort ≡ None → (other : Position) → sort_in entries other ≢ Some sort
first_in_none [] sort none other e = cc
first_in_none (entry ∷ entries) sort none other e =
    let passed = passed_over _ entry.0 (first_in entries sort) none in
    ⊎_elim
    (λ here. other_sort entry.1 sort passed.0 here.1)
    (λ later. first_in_none entries sort passed.1 other later.1)
    (looked_up _ entry.1 sort (sort_in entries other) e)

-- the first position of a sort is no later than any other of the sort
first_in_first : (low : ℕ) (entries : List (Position × Sort)) → Rises low entries → (sort : Sort) (found : Position) → first_in entries sort ≡ Some found → (other : Position) → sort_in entries other ≡ Some sort → position_number found ≤ position_number other
first_in_first low [] rises sort found f other e = absurd cc
first_in_first low (entry ∷ entries) rises sort found f other e =
    let at_other = looked_up _ entry.1 sort (sort_in entries other) e in
    ⊎_elim
    (λ here.
    let same = ap position_number here.1 in
    ⊎_elim
    (λ there. omega (arith, eqb-true _ _ there.0, same))
    (λ later. omega (arith, sort_in_above (suc (position_number entry.0)) entries rises.1 other sort later.1, same))
    at_other)
    (λ further.
    ⊎_elim
    (λ there. absurd (other_sort entry.1 sort further.0 there.1))
    (λ later. first_in_first (suc (position_number entry.0)) entries rises.1 sort found further.1 other later.1)
    at_other)
    (looked_up _ entry.0 found (first_in entries sort) f)

if_some : {X : Type 0} (P : X → Type 0) (answer : Option X) → ((x : X) → answer ≡ Some x → P x) → IfSome answer P
if_some P None h = tt
if_some P (Some x) h = h x refl

if_none : {X : Type 0} (P : Type 0) (answer : Option X) → (answer ≡ None → P) → IfNone answer P
if_none P None h = h refl
if_none P (Some x) h = tt

pub first_position_first : (ctor : Ctor) (sort : Sort) → IfSome (first_position ctor sort) (λ position. (other : Position) → sort_at ctor other ≡ Some sort → position_number position ≤ position_number other)
first_position_first ctor sort =
    if_some (λ position. (other : Position) → sort_at ctor other ≡ Some sort → position_number position ≤ position_number other) (first_position ctor sort)
    (λ found f. first_in_first 0 (positions ctor) (positions_rise ctor) sort found f)

pub first_position_none : (ctor : Ctor) (sort : Sort) → IfNone (first_position ctor sort) ((position : Position) → sort_at ctor position ≢ Some sort)
first_position_none ctor sort =
    if_none ((position : Position) → sort_at ctor position ≢ Some sort) (first_position ctor sort) (first_in_none (positions ctor) sort)

sort_in_found : (entries : List (Position × Sort)) (position : Position) (sort : Sort) → sort_in entries position ≡ Some sort → Contains entries (position, sort)
sort_in_found [] position sort e = absurd cc
sort_in_found (entry ∷ entries) position sort e =
    ⊎_elim
    (λ here.
    let same : entry.0 ≡ position = position_same entry.0 position here.0 in
    let whole : entry ≡ (position, sort) = ap (λ p. (p, entry.1)) same ∙ ap (λ s. (position, s)) here.1 in
    subst (λ first. Contains (first ∷ entries) (position, sort)) (sym whole)
    (Contains-append_left ((position, sort) ∷ []) entries (position, sort) (Contains-push [] (position, sort))))
    (λ later. Contains-append_right (entry ∷ []) entries (position, sort) (sort_in_found entries position sort later.1))
    (looked_up _ entry.1 sort (sort_in entries position) e)

sort_in_none : (entries : List (Position × Sort)) (position : Position) → sort_in entries position ≡ None → (sort : Sort) → ¬ Contains entries (position, sort)
sort_in_none [] position none sort held = absurd (omega (arith, held.1))
sort_in_none (entry ∷ entries) position none sort held =
    let passed = passed_over _ entry.1 (sort_in entries position) none in
    ⊎_elim
    (λ here. ⊎_elim
    (λ nowhere. absurd (omega (arith, nowhere.1)))
    (λ same. both_ways _ passed.0 (eq-eqb _ _ (ap (λ e. position_number e.0) same)))
    (Contains-push_cases [] entry (position, sort) here))
    (λ later. sort_in_none entries position passed.1 sort later)
    (Contains-append_cases (entry ∷ []) entries (position, sort) held)

pub sort_at_found : (ctor : Ctor) (position : Position) → IfSome (sort_at ctor position) (λ sort. Contains (positions ctor) (position, sort))
sort_at_found ctor position =
    if_some (λ sort. Contains (positions ctor) (position, sort)) (sort_at ctor position) (sort_in_found (positions ctor) position)

pub sort_at_none : (ctor : Ctor) (position : Position) → IfNone (sort_at ctor position) ((sort : Sort) → ¬ Contains (positions ctor) (position, sort))
sort_at_none ctor position =
    if_none ((sort : Sort) → ¬ Contains (positions ctor) (position, sort)) (sort_at ctor position) (sort_in_none (positions ctor) position)

-- ---- each place of a row is found in it

-- where all of some positions lie from a number on, those below it are not found
not_below : (low : ℕ) (entries : List (Position × Sort)) → Rises low entries → (p : Position) (sort : Sort) → suc (position_number p) ≤ low → sort_in entries p ≡ Some sort → ⊥
not_below low entries rises p sort below e = absurd (omega (arith, sort_in_above low entries rises p sort e))

-- what is found behind an entry stands at another position
pub other_behind : (entry : Position × Sort) (entries : List (Position × Sort)) (p : Position) (sort : Sort) → Rises (suc (position_number entry.0)) entries → sort_in entries p ≡ Some sort → is_same_position entry.0 p ≡ false
other_behind entry entries p sort rises e =
    let above = sort_in_above (suc (position_number entry.0)) entries rises p sort e in
    other_position entry.0 p (λ same. omega (arith, above, same))

-- what a later entry is found with, it is found with behind an earlier one too
pub found_behind : (entry : Position × Sort) (entries : List (Position × Sort)) (p : Position) (sort : Sort) → Rises (suc (position_number entry.0)) entries → sort_in entries p ≡ Some sort → sort_in (entry ∷ entries) p ≡ Some sort
found_behind entry entries p sort rises e = by_test (eqb (position_number entry.0) (position_number p)) refl where
  by_test : (b : Bool) → eqb (position_number entry.0) (position_number p) ≡ b → cond b (Some entry.1) (sort_in entries p) ≡ Some sort
  by_test true here =
      let same = eqb-true (position_number entry.0) (position_number p) here in
      absurd (not_below (suc (position_number entry.0)) entries rises p sort (omega arith) e)
  by_test false other = e

all_behind : (entry : Position × Sort) (entries some : List (Position × Sort)) → Rises (suc (position_number entry.0)) entries → AllByRecursion (λ place. sort_in entries place.0 ≡ Some place.1) some
    → AllByRecursion (λ place. sort_in (entry ∷ entries) place.0 ≡ Some place.1) some
all_behind entry entries [] rises all = tt
all_behind entry entries (place ∷ places) rises all =
    (found_behind entry entries place.0 place.1 rises all.0, all_behind entry entries places rises all.1)

-- an entry is found first
pub found_first : (entry : Position × Sort) (entries : List (Position × Sort)) → sort_in (entry ∷ entries) entry.0 ≡ Some entry.1
found_first entry entries = ap (λ b. cond b (Some entry.1) (sort_in entries entry.0)) (eq-eqb (position_number entry.0) (position_number entry.0) refl)

all_found : (low : ℕ) (entries : List (Position × Sort)) → Rises low entries → AllByRecursion (λ place. sort_in entries place.0 ≡ Some place.1) entries
all_found low [] rises = tt
all_found low (entry ∷ entries) rises =
    (found_first entry entries, all_behind entry entries entries rises.1 (all_found (suc (position_number entry.0)) entries rises.1))

-- each place of a row is found in it with its sort
pub places_found : (ctor : Ctor) → AllByRecursion (λ place. sort_at ctor place.0 ≡ Some place.1) (positions ctor)
places_found ctor = all_found 0 (positions ctor) (positions_rise ctor)

-- ---- and so is the first position of a sort

first_in_found : (low : ℕ) (entries : List (Position × Sort)) → Rises low entries → (sort : Sort) (found : Position) → first_in entries sort ≡ Some found → sort_in entries found ≡ Some sort
first_in_found low [] rises sort found f = absurd cc
first_in_found low (entry ∷ entries) rises sort found f =
    ⊎_elim
    (λ here.
    let itself : eqb (position_number entry.0) (position_number found) ≡ true = eq-eqb _ _ (ap position_number here.1) in
    ap (λ b. cond b (Some entry.1) (sort_in entries found)) itself ∙ ap Some (one_sort entry.1 sort here.0))
    (λ later. found_behind entry entries found sort rises.1 (first_in_found (suc (position_number entry.0)) entries rises.1 sort found later.1))
    (looked_up _ entry.0 found (first_in entries sort) f)

pub first_position_found : (ctor : Ctor) (sort : Sort) → IfSome (first_position ctor sort) (λ position. sort_at ctor position ≡ Some sort)
first_position_found ctor sort =
    if_some (λ position. sort_at ctor position ≡ Some sort) (first_position ctor sort) (first_in_found 0 (positions ctor) (positions_rise ctor) sort)

-- ---- the children of types and of patterns

is_typ : Sort → Bool
is_typ Top = false
is_typ Exp = false
is_typ Pat = false
is_typ Typ = true

-- the test that types alone stand below a type, and nothing below a pattern
are_below : Sort → List (Position × Sort) → Bool
are_below Top entries = true
are_below Exp entries = true
are_below Pat [] = true
are_below Pat (entry ∷ entries) = false
are_below Typ [] = true
are_below Typ (entry ∷ entries) = is_typ entry.1 && are_below Typ entries

row_below : (ctor : Ctor) → are_below (sort_of_ctor ctor) (positions ctor) ≡ true
unfolding are_below is_typ
row_below Root = refl
row_below _ = refl

typ_from : (s : Sort) → is_typ s ≡ true → s ≡ Typ
unfolding is_typ
typ_from Top is = absurd (false≢true is)
typ_from Exp is = absurd (false≢true is)
typ_from Pat is = absurd (false≢true is)
typ_from Typ is = refl

all_types : (entries : List (Position × Sort)) → are_below Typ entries ≡ true → AllByRecursion (λ place. place.1 ≡ Typ) entries
unfolding are_below
all_types [] are = tt
all_types (entry ∷ entries) are =
    let both = both_true (is_typ entry.1) (are_below Typ entries) are in
    (typ_from entry.1 both.0, all_types entries both.1)

-- the children of a type are types
pub types_below : (ctor : Ctor) → sort_of_ctor ctor ≡ Typ → AllByRecursion (λ place. place.1 ≡ Typ) (positions ctor)
types_below ctor is = all_types (positions ctor) (subst (λ s. are_below s (positions ctor) ≡ true) is (row_below ctor))

no_entries : (entries : List (Position × Sort)) → are_below Pat entries ≡ true → entries ≡ []
unfolding are_below
no_entries [] are = refl
no_entries (entry ∷ entries) are = absurd (false≢true are)

-- a pattern has no children
pub none_below : (ctor : Ctor) → sort_of_ctor ctor ≡ Pat → positions ctor ≡ []
none_below ctor is = no_entries (positions ctor) (subst (λ s. are_below s (positions ctor) ≡ true) is (row_below ctor))

-- ---- no child is a whole program

is_top : Sort → Bool
is_top Top = true
is_top Exp = false
is_top Pat = false
is_top Typ = false

have_no_top : List (Position × Sort) → Bool
have_no_top [] = true
have_no_top (entry ∷ entries) = not (is_top entry.1) && have_no_top entries

row_has_no_top : (ctor : Ctor) → have_no_top (positions ctor) ≡ true
unfolding have_no_top is_top
row_has_no_top Root = refl
row_has_no_top _ = refl

other_than_top : (s : Sort) → not (is_top s) ≡ true → s ≢ Top
unfolding is_top
other_than_top Top not_so e = false≢true not_so
other_than_top Exp not_so e = cc
other_than_top Pat not_so e = cc
other_than_top Typ not_so e = cc

none_is_top : (entries : List (Position × Sort)) → have_no_top entries ≡ true → AllByRecursion (λ place. place.1 ≢ Top) entries
unfolding have_no_top
none_is_top [] are = tt
none_is_top (entry ∷ entries) are =
    let both = both_true (not (is_top entry.1)) (have_no_top entries) are in
    (other_than_top entry.1 both.0, none_is_top entries both.1)

pub no_top_below : (ctor : Ctor) → AllByRecursion (λ place. place.1 ≢ Top) (positions ctor)
no_top_below ctor = none_is_top (positions ctor) (row_has_no_top ctor)
