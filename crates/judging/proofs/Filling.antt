-- A position is filled.
use Rattle.std.proofs.Common.{◌≡◌, ℕ, zero, suc, ◌+◌, ◌<◌, ◌≤◌, List, [], ◌∷◌, ◌++◌, length, set, take, map, Option, Some, None, IfSome, refl, sym, ap, subst, ◌∙◌, arith}
use Rattle.std.specs.Prelude.{slice_get}
use Rattle.std.specs.Option.{option_map}
use Rattle.std.specs.List.{slice_index_or}
use Rattle.std.proofs.lemmas.List.{map-append}
use Rattle.std.proofs.lemmas.Option.{slice_get-get_or}
use Rattle.grove_sorts.specs.Ctor.{positions}
use Rattle.grove_sorts.proofs.Rows.{row_short}
use Rattle.type_core.specs.declared.type_id.TypeId.{TypeId}
use Rattle.type_core.specs.Typ.{Typ}
use Rattle.ctx_table.specs.Context.{Context}
use Rattle.mark_step.specs.Node.{demanded_at}
use Rattle.judging.specs.declared.frame.Given.{Given}
use Rattle.judging.specs.declared.frame.GivenRow.{GivenRow}
use Rattle.judging.specs.declared.frame.OpenVertex.{OpenVertex}
use Rattle.judging.specs.Frames.{given_at, givens, with_given, given_before, opened_at, filled_with, IsGivenOf, IsFilledOf, IsOpenOf}
use Rattle.judging.specs.Machine as machine

-- ---- what a list has at its places once one is set

take-set : (gs : List Given) (n : ℕ) (g : Given) → n < length gs → take (suc n) (set gs n g) ≡ take n gs ++ g ∷ []
take-set [] n g lt = absurd (omega (arith, lt))
take-set (x ∷ gs) zero g lt = refl
take-set (x ∷ gs) (suc n) g lt = ap (λ (xs : List Given). x ∷ xs) (take-set gs n g (omega (arith, lt)))

set-all : (P : Given → Type 0) (gs : List Given) (n : ℕ) (g : Given) → P g → ((i : ℕ) → IfSome (slice_get gs i) P) → (i : ℕ) → IfSome (slice_get (set gs n g) i) P
set-all P [] n g is all i = all i
set-all P (x ∷ gs) zero g is all zero = is
set-all P (x ∷ gs) zero g is all (suc i) = all (suc i)
set-all P (x ∷ gs) (suc n) g is all zero = all 0
set-all P (x ∷ gs) (suc n) g is all (suc i) = set-all P gs n g is (λ j. all (suc j)) i

set-rest : (P : Given → Type 0) (gs : List Given) (n : ℕ) (g : Given) → ((i : ℕ) → n ≤ i → IfSome (slice_get gs i) P) → (i : ℕ) → n + 1 ≤ i → IfSome (slice_get (set gs n g) i) P
set-rest P [] n g all i le = all i (omega (arith, le))
set-rest P (x ∷ gs) zero g all zero le = absurd (omega (arith, le))
set-rest P (x ∷ gs) zero g all (suc i) le = all (suc i) (omega arith)
set-rest P (x ∷ gs) (suc n) g all zero le = absurd (omega (arith, le))
set-rest P (x ∷ gs) (suc n) g all (suc i) le = set-rest P gs n g (λ j more. all (suc j) (omega (arith, more))) i (omega (arith, le))

-- ---- a row

pub five : (r : GivenRow) → length (givens r) ≡ 5
five r = refl

pub givens-with : (r : GivenRow) (n : ℕ) (g : Given) → givens (with_given r n g) ≡ set (givens r) n g
givens-with r zero g = refl
givens-with r (suc zero) g = refl
givens-with r (suc (suc zero)) g = refl
givens-with r (suc (suc (suc zero))) g = refl
givens-with r (suc (suc (suc (suc zero)))) g = refl
givens-with r (suc (suc (suc (suc (suc n))))) g = refl

-- what holds of each part of a row holds at each index
pub each_given : (P : Given → Type 0) (r : GivenRow) → P r.first → P r.second → P r.third → P r.fourth → P r.fifth → (i : ℕ) → IfSome (slice_get (givens r) i) P
each_given P r a b c d e zero = a
each_given P r a b c d e (suc zero) = b
each_given P r a b c d e (suc (suc zero)) = c
each_given P r a b c d e (suc (suc (suc zero))) = d
each_given P r a b c d e (suc (suc (suc (suc zero)))) = e
each_given P r a b c d e (suc (suc (suc (suc (suc n))))) = tt

-- past the last index the row stays
pub none_given : (r : GivenRow) (n : ℕ) (g : Given) → (n ≡ 0 → ⊥) → (n ≡ 1 → ⊥) → (n ≡ 2 → ⊥) → (n ≡ 3 → ⊥) → (n ≡ 4 → ⊥) → r ≡ with_given r n g
none_given r zero g a b c d e = absurd (a refl)
none_given r (suc zero) g a b c d e = absurd (b refl)
none_given r (suc (suc zero)) g a b c d e = absurd (c refl)
none_given r (suc (suc (suc zero))) g a b c d e = absurd (d refl)
none_given r (suc (suc (suc (suc zero)))) g a b c d e = absurd (e refl)
none_given r (suc (suc (suc (suc (suc n))))) g a b c d e = refl

-- ---- the vertex after its next position gave something

module _ (types : List Typ) (ctxs : List Context) (g : Given) (o : OpenVertex) (is : IsOpenOf types ctxs o) (some : o.next < length (positions o.ctor.now)) where
  short : o.next < length (givens o.given)
  short = omega (arith, some, row_short o.ctor.now, five o.given)

  next_one : o.next + 1 ≡ suc o.next
  next_one = omega arith

  pub opened_filled : opened_at types ctxs (filled_with g o) ≡ machine.filled (given_at types g) (opened_at types ctxs o)
  opened_filled =
      ap (λ (gs : List machine.Given). record { ctor = o.ctor.now; demanded = demanded_at types ctxs o.demand; given = gs })
      (ap (λ (gs : List Given). map (given_at types) (take (o.next + 1) gs)) (givens-with o.given o.next g) ∙ ap (λ n. map (given_at types) (take n (set (givens o.given) o.next g))) next_one ∙ ap (map (given_at types)) (take-set (givens o.given) o.next g short) ∙ map-append (given_at types) (given_before o) (g ∷ []))

  pub is_filled : IsGivenOf types g → IsOpenOf types ctxs (filled_with g o)
  is_filled given = record {
    demand = is.demand;
    filled = record {
      numbers = subst (λ (gs : List Given). (i : ℕ) → IfSome (slice_get gs i) (IsGivenOf types)) (sym (givens-with o.given o.next g)) (set-all (IsGivenOf types) (givens o.given) o.next g given is.filled.numbers);
      rest = subst (λ (gs : List Given). (i : ℕ) → o.next + 1 ≤ i → IfSome (slice_get gs i) (λ x. given_at types x ≡ machine.nothing)) (sym (givens-with o.given o.next g))
          (set-rest (λ x. given_at types x ≡ machine.nothing) (givens o.given) o.next g is.filled.rest);
      within = omega (arith, some);
    };
  }

-- ---- what a position gave, and where it is read

-- an index of the vertex is read for what the position gave, or for nothing where it has not yet
gave_before : (types : List Typ) (gs : List Given) (n i : ℕ) (d : Given) → i < length gs → ((j : ℕ) → n ≤ j → IfSome (slice_get gs j) (λ g. given_at types g ≡ machine.nothing))
    → machine.gave (map (given_at types) (take n gs)) i ≡ given_at types (slice_index_or gs i d)
gave_before types [] n i d lt rest = absurd (omega (arith, lt))
gave_before types (x ∷ gs) zero i d lt rest =
    sym (subst (λ (o : Option Given). IfSome o (λ g. given_at types g ≡ machine.nothing)) (slice_get-get_or (x ∷ gs) i d lt) (rest i (omega arith)))
gave_before types (x ∷ gs) (suc n) zero d lt rest = refl
gave_before types (x ∷ gs) (suc n) (suc i) d lt rest = gave_before types gs n i d (omega (arith, lt)) (λ j le. rest (suc j) (omega (arith, le)))

pub gave_is : (types : List Typ) (o : OpenVertex) (i : ℕ) (d : Given) → IsFilledOf types o → i < 5 → machine.gave (map (given_at types) (given_before o)) i ≡ given_at types (slice_index_or (givens o.given) i d)
gave_is types o i d is lt = gave_before types (givens o.given) o.next i d (omega (arith, lt, five o.given)) is.rest

pub gave_number : (types : List Typ) (o : OpenVertex) (i : ℕ) (d : Given) → IsFilledOf types o → i < 5 → IsGivenOf types (slice_index_or (givens o.given) i d)
gave_number types o i d is lt = subst (λ (x : Option Given). IfSome x (IsGivenOf types)) (slice_get-get_or (givens o.given) i d (omega (arith, lt, five o.given))) (is.numbers i)

pub made_is : (types : List Typ) (o : OpenVertex) → IsFilledOf types o
    → machine.made_of o.ctor.now (map (given_at types) (given_before o)) ≡ machine.made o.ctor.now (given_at types o.given.first).typ (given_at types o.given.second).typ
made_is types o is =
    ap (λ (g : machine.Given). machine.made o.ctor.now g.typ (machine.gave (map (given_at types) (given_before o)) 1).typ) (gave_is types o 0 o.given.first is (omega arith))
    ∙ ap (λ (g : machine.Given). machine.made o.ctor.now (given_at types o.given.first).typ g.typ) (gave_is types o 1 o.given.first is (omega arith))

-- ---- the types so far, by index

none_before : (gs : List Given) (i : ℕ) → slice_get (take 0 gs) i ≡ None
none_before gs zero = refl
none_before gs (suc i) = refl

-- a list has the types of the first of these
abbrev pub HasTypesOf : List Given → List (Option TypeId) → Type 0
HasTypesOf gs types = (i : ℕ) → slice_index_or types i None ≡ option_map (λ g. g.typ) (slice_get gs i)

-- the type of what the position with an index gave, where it comes before the next one
abbrev pub IsTypeBefore : ℕ → ℕ → Given → Option TypeId → Type 0
IsTypeBefore next i g o = (i < next → o ≡ Some g.typ) × (next ≤ i → o ≡ None)

type_before : (gs : List Given) (next i : ℕ) (g : Given) (o : Option TypeId) → slice_get gs i ≡ Some g → IsTypeBefore next i g o → o ≡ option_map (λ x. x.typ) (slice_get (take next gs) i)
type_before gs zero i g o here is = is.1 (omega arith) ∙ ap (option_map (λ (x : Given). x.typ)) (sym (none_before gs i))
type_before [] (suc next) i g o here is = absurd cc
type_before (x ∷ gs) (suc next) zero g o here is = is.0 (omega arith) ∙ ap (option_map (λ (y : Given). y.typ)) (sym here)
type_before (x ∷ gs) (suc next) (suc i) g o here is =
    type_before gs next i g o here ((λ lt. is.0 (omega (arith, lt))), (λ le. is.1 (omega (arith, le))))

past_all : (gs : List Given) (next i : ℕ) → length gs ≤ i → slice_get (take next gs) i ≡ None
past_all gs zero i le = none_before gs i
past_all [] (suc next) i le = none_before [] i
past_all (x ∷ gs) (suc next) zero le = absurd (omega (arith, le))
past_all (x ∷ gs) (suc next) (suc i) le = past_all gs next i (omega (arith, le))

pub types_of_row : (r : GivenRow) (next : ℕ) (a b c d e : Option TypeId) → IsTypeBefore next 0 r.first a → IsTypeBefore next 1 r.second b → IsTypeBefore next 2 r.third c → IsTypeBefore next 3 r.fourth d
    → IsTypeBefore next 4 r.fifth e → HasTypesOf (take next (givens r)) (a ∷ b ∷ c ∷ d ∷ e ∷ [])
types_of_row r next a b c d e first second third fourth fifth zero = type_before (givens r) next 0 r.first a refl first
types_of_row r next a b c d e first second third fourth fifth (suc zero) = type_before (givens r) next 1 r.second b refl second
types_of_row r next a b c d e first second third fourth fifth (suc (suc zero)) = type_before (givens r) next 2 r.third c refl third
types_of_row r next a b c d e first second third fourth fifth (suc (suc (suc zero))) = type_before (givens r) next 3 r.fourth d refl fourth
types_of_row r next a b c d e first second third fourth fifth (suc (suc (suc (suc zero)))) = type_before (givens r) next 4 r.fifth e refl fifth
types_of_row r next a b c d e first second third fourth fifth (suc (suc (suc (suc (suc i))))) =
    ap (option_map (λ (g : Given). g.typ)) (sym (past_all (givens r) next (suc (suc (suc (suc (suc i))))) (omega (arith, five r))))
