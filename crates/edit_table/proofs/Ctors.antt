-- Constructors by number: those that carry nothing first, and no constructor twice.
use Rattle.std.proofs.Common.{◌≡◌, ℕ, zero, suc, ◌+◌, ◌<◌, ◌≤◌, Bool, true, false, cond, List, [], ◌∷◌, ◌++◌, length, get_or, take, map, slice_get, Some, add-one, not, ◌&&◌, append_assoc, refl, sym, ap, subst, ◌∙◌, arith}
use Rattle.std.specs.Prelude.{slice_index_or}
use Rattle.std.specs.List.{AllByRecursion, IsDistinct, list_any}
use Rattle.std.proofs.lemmas.List.{append-nil}
use Rattle.std.proofs.lemmas.Map.Keys.{IsDistinct-head, IsDistinct-tail}
use Rattle.indexmap.specs.IndexSet.{insert_key}
use Rattle.grove_sorts.specs.declared.ctor.Ctor.{Ctor}
use Rattle.grove_sorts.specs.declared.ctor.Ctor.TheVariants.{Root}
use Rattle.grove_sorts.specs.declared.plain.Plain.{Plain}
use Rattle.grove_sorts.specs.declared.plain.Plain.TheVariants as plain
use Rattle.grove_sorts.specs.Plain.{plain_ctor, plain_number, plains}
use Rattle.grove_sorts.proofs.Plains.{plain_stands}
use Rattle.grove_sorts.proofs.Truths.{both_true}
use Rattle.edit_table.specs.Keys.{plain_ctors, AreCtors, StandOnce, is_short}
use Rattle.edit_table.proofs.Lists.{all_at, begins_alike, begins_further, begins_inserted, still_stands_at, all_pushed}
use Rattle.edit_table.proofs.KeyEq.{ctor_eq, ctor_exact, ctor_itself}

-- no constructor of a set has two numbers
pub stand_once : (ctors : List Ctor) → IsDistinct ctor_eq ctors → StandOnce ctors
stand_once [] once m n c first second = absurd cc
stand_once (x ∷ ctors) once zero zero c first second = refl
stand_once (x ∷ ctors) once zero (suc n) c first second =
    let is : x ≡ c = cc in
    let apart : ctor_eq x c ≡ false = all_at (λ y. ctor_eq x y ≡ false) ctors n c (IsDistinct-head ctor_eq x ctors once) second in
    let same : ctor_eq x c ≡ true = ap (ctor_eq x) (sym is) ∙ ctor_itself x in
    absurd cc
stand_once (x ∷ ctors) once (suc m) zero c first second =
    let is : x ≡ c = cc in
    let apart : ctor_eq x c ≡ false = all_at (λ y. ctor_eq x y ≡ false) ctors m c (IsDistinct-head ctor_eq x ctors once) first in
    let same : ctor_eq x c ≡ true = ap (ctor_eq x) (sym is) ∙ ctor_itself x in
    absurd cc
stand_once (x ∷ ctors) once (suc m) (suc n) c first second = ap suc (stand_once ctors (IsDistinct-tail ctor_eq x ctors once) m n c first second)

-- with one more constructor they go on
pub ctors_after : (before after : List Ctor) (c : Ctor) → after ≡ insert_key ctor_eq before c → IsDistinct ctor_eq after → is_short c ≡ false → AreCtors before → AreCtors after
ctors_after before after c is once short are = record {
  begin = begins_further after before plain_ctors (begins_inserted ctor_eq after before c is) are.begin;
  once = stand_once after once;
  long = subst (AllByRecursion (λ ctor. is_short ctor ≡ false)) (sym is) (by_test (list_any (ctor_eq c) before));
} where
  by_test : (b : Bool) → AllByRecursion (λ ctor. is_short ctor ≡ false) (cond b before (before ++ c ∷ []))
  by_test true = are.long
  by_test false = all_pushed (λ ctor. is_short ctor ≡ false) before c are.long short

pub ctors_unchanged : (before after : List Ctor) → after ≡ before → AreCtors before → AreCtors after
ctors_unchanged before after is are = subst AreCtors (sym is) are

-- a constructor that the set finds equal is the constructor
pub ctor_found : (ctors : List Ctor) (n m : ℕ) (c k : Ctor) → n ≡ m → slice_get ctors m ≡ Some k → ctor_eq c k ≡ true → slice_get ctors n ≡ Some c
ctor_found ctors n m c k one at same = ap (slice_get ctors) one ∙ at ∙ ap Some (sym (ctor_exact c k same))

-- what stands in a list stands as its constructor among their constructors
mapped_at : (ps : List Plain) (i : ℕ) (p : Plain) → slice_get ps i ≡ Some p → slice_get (map plain_ctor ps) i ≡ Some (plain_ctor p)
mapped_at [] i p at = absurd cc
mapped_at (q ∷ ps) zero p at =
    let same : q ≡ p = cc in
    ap (λ r. Some (plain_ctor r)) same
mapped_at (q ∷ ps) (suc i) p at = mapped_at ps i p at

-- a plain constructor has its number
pub plain_has_number : (ctors : List Ctor) (p : Plain) → AreCtors ctors → slice_get ctors (plain_number p) ≡ Some (plain_ctor p)
plain_has_number ctors p are = still_stands_at ctors plain_ctors (plain_number p) (plain_ctor p) are.begin (mapped_at plains (plain_number p) p (plain_stands p))

-- the root has the first
pub root_stands : (ctors : List Ctor) → AreCtors ctors → slice_get ctors 0 ≡ Some Root
root_stands ctors are = still_stands_at ctors plain_ctors 0 Root are.begin refl

-- ---- the plain constructors are inserted in turn

abbrev pub first_plains : ℕ → List Ctor
first_plains i = take i plain_ctors

abbrev pub plain_at : ℕ → Ctor
plain_at i = slice_index_or plain_ctors i Root

-- the test that of some constructors none stands among those before it
are_new : List Ctor → List Ctor → Bool
are_new before [] = true
are_new before (c ∷ cs) = not (list_any (ctor_eq c) before) && are_new (before ++ c ∷ []) cs

is_new : (before cs : List Ctor) → are_new before cs ≡ true → (i : ℕ) → i < length cs → list_any (ctor_eq (slice_index_or cs i Root)) (before ++ take i cs) ≡ false
unfolding are_new
is_new before [] new i within = absurd (omega (arith, within))
is_new before (c ∷ cs) new zero within =
    let here = (both_true (not (list_any (ctor_eq c) before)) (are_new (before ++ c ∷ []) cs) new).0 in
    ap (λ xs. list_any (ctor_eq c) xs) (append-nil before) ∙ not_so (list_any (ctor_eq c) before) here where
      not_so : (b : Bool) → not b ≡ true → b ≡ false
      not_so true is = absurd cc
      not_so false is = refl
is_new before (c ∷ cs) new (suc i) within =
    let later = (both_true (not (list_any (ctor_eq c) before)) (are_new (before ++ c ∷ []) cs) new).1 in
    ap (λ xs. list_any (ctor_eq (slice_index_or cs i Root)) xs) (sym (append_assoc before (c ∷ []) (take i cs))) ∙ is_new (before ++ c ∷ []) cs later i (omega (arith, within))

plains_are_new : are_new [] plain_ctors ≡ true
unfolding are_new
plains_are_new = refl

take_next : (cs : List Ctor) (i : ℕ) → i < length cs → take i cs ++ slice_index_or cs i Root ∷ [] ≡ take (suc i) cs
take_next [] i within = absurd (omega (arith, within))
take_next (c ∷ cs) zero within = refl
take_next (c ∷ cs) (suc i) within = ap (λ xs. c ∷ xs) (take_next cs i (omega (arith, within)))

next_plain : (i : ℕ) → i < length plain_ctors → insert_key ctor_eq (first_plains i) (plain_at i) ≡ first_plains (suc i)
next_plain i within =
    ap (λ b. cond b (first_plains i) (first_plains i ++ plain_at i ∷ [])) (is_new [] plain_ctors plains_are_new i within) ∙ take_next plain_ctors i within

read_mapped : (ps : List Plain) (i : ℕ) (d : Plain) → i < length ps → plain_ctor (get_or ps i d) ≡ slice_index_or (map plain_ctor ps) i Root
read_mapped [] i d within = absurd (omega (arith, within))
read_mapped (p ∷ ps) zero d within = refl
read_mapped (p ∷ ps) (suc i) d within = read_mapped ps i d (omega (arith, within))

pub plain_read : (ps : List Plain) (i : ℕ) (d : Plain) → ps ≡ plains → i < length ps → plain_ctor (get_or ps i d) ≡ plain_at i
plain_read ps i d are within = read_mapped ps i d within ∙ ap (λ qs. slice_index_or (map plain_ctor qs) i Root) are

pub plains_after : (before after : List Ctor) (i : ℕ) (c : Ctor) (ps : List Plain) → ps ≡ plains → i < length ps → c ≡ plain_at i → before ≡ first_plains i → after ≡ insert_key ctor_eq before c → after ≡ first_plains (i + 1)
plains_after before after i c ps are within is so_far inserted =
    inserted ∙ ap (λ xs. insert_key ctor_eq xs c) so_far ∙ ap (insert_key ctor_eq (first_plains i)) is ∙ next_plain i (omega (arith, within, ap (λ (qs : List Plain). length qs) are)) ∙ ap first_plains (sym (add-one i))

pub no_plains : (ctors : List Ctor) → ctors ≡ [] → (ctors ≡ first_plains 0) × StandOnce ctors
no_plains ctors none = (none, subst StandOnce (sym none) (λ m n c first second. absurd cc))

plain_long : (p : Plain) → is_short (plain_ctor p) ≡ false
plain_long plain.Root = refl
plain_long _ = refl

all_long : (ps : List Plain) → AllByRecursion (λ ctor. is_short ctor ≡ false) (map plain_ctor ps)
all_long [] = tt
all_long (p ∷ ps) = (plain_long p, all_long ps)

-- where all of them were inserted
pub all_plains : (ctors : List Ctor) (i : ℕ) (ps : List Plain) → ps ≡ plains → length ps ≤ i → i ≤ length ps → ctors ≡ first_plains i → StandOnce ctors → AreCtors ctors
all_plains ctors i ps are past within is once =
    let last : i ≡ length plains = omega (arith, past, within, ap (λ (qs : List Plain). length qs) are) in
    let all : ctors ≡ plain_ctors = is ∙ ap first_plains last in
    record { begin = begins_alike ctors plain_ctors all; once = once; long = subst (AllByRecursion (λ ctor. is_short ctor ≡ false)) (sym all) (all_long plains) }
