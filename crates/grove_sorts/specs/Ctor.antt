-- What the table of constructors says: their texts, their sorts, their positions and their order.
-- The promise of the commands rests on these definitions.
use Rattle.std.specs.Prelude.{ℕ, suc, ◌<◌, ◌≤◌, ◌^◌, ◌==◌, if◌then◌else◌, List, [], ◌∷◌, ◌++◌, Option, Some, None, decimal}
use Rattle.std.specs.declared.cmp.Ordering.{Ordering}
use Rattle.std.specs.Ordering.{nat_cmp, ordering_then}
use Rattle.std.specs.Cmp.Lexicographic.{slice_cmp}
use Rattle.grove_sorts.specs.declared.sort.Sort.{Sort}
use Rattle.grove_sorts.specs.declared.position.Position.{Position}
use Rattle.grove_sorts.specs.declared.ctor.Ctor.{Ctor}
use Rattle.grove_sorts.specs.declared.ctor.Ctor.TheVariants.{Var, Num, PVar}
use Rattle.grove_sorts.specs.Ident.{ident_bytes}
use Rattle.grove_sorts.specs.Row.{row}
use Rattle.grove_sorts.specs.Position.{position_number}
use Rattle.grove_sorts.specs.Sort.{sort_number}

-- a literal lies in its range, as that of every constructor of the program does
abbrev pub InRange : Ctor → Type 0
InRange (Num n) = n < 2 ^ 64
InRange _ = Unit {0}

-- the word that the text of a constructor begins with: all of it, for a plain one
abbrev pub keyword : Ctor → List ℕ
keyword ctor = (row ctor).word

abbrev pub ctor_text : Ctor → List ℕ
ctor_text (Var x) = keyword (Var x) ++ ident_bytes x
ctor_text (Num n) = keyword (Num n) ++ decimal n
ctor_text (PVar x) = keyword (PVar x) ++ ident_bytes x
ctor_text ctor = keyword ctor

-- a constructor with neither an identifier nor a literal
abbrev pub IsPlain : Ctor → Type 0
IsPlain (Var x) = ⊥
IsPlain (Num n) = ⊥
IsPlain (PVar x) = ⊥
IsPlain _ = Unit {0}

-- what stands after that word
abbrev pub payload_text : Ctor → List ℕ
payload_text (Var x) = ident_bytes x
payload_text (Num n) = decimal n
payload_text (PVar x) = ident_bytes x
payload_text _ = []

abbrev pub sort_of_ctor : Ctor → Sort
sort_of_ctor ctor = (row ctor).sort

-- the positions of a constructor in table order, each with the sort of its children
abbrev pub positions : Ctor → List (Position × Sort)
positions ctor = (row ctor).positions

-- the numbers of a row's positions rise, each at least a number, so no position stands twice
abbrev pub Rises : ℕ → List (Position × Sort) → Type 0
Rises low [] = Unit {0}
Rises low (entry ∷ entries) = (low ≤ position_number entry.0) × Rises (suc (position_number entry.0)) entries

abbrev pub sort_in : List (Position × Sort) → Position → Option Sort
sort_in [] position = None
sort_in (entry ∷ entries) position =
    if position_number entry.0 == position_number position then Some entry.1 else sort_in entries position

-- the sort of the children at a position, if the constructor has it
abbrev pub sort_at : Ctor → Position → Option Sort
sort_at ctor position = sort_in (positions ctor) position

abbrev pub first_in : List (Position × Sort) → Sort → Option Position
first_in [] sort = None
first_in (entry ∷ entries) sort =
    if sort_number entry.1 == sort_number sort then Some entry.0 else first_in entries sort

-- the first position in table order whose children have a sort, if there is one
abbrev pub first_position : Ctor → Sort → Option Position
first_position ctor sort = first_in (positions ctor) sort

abbrev pub ctor_number : Ctor → ℕ
ctor_number ctor = (row ctor).number

-- what a constructor carries beside its number: an identifier's bytes, or a literal
abbrev pub payload : Ctor → List ℕ
payload (Var x) = ident_bytes x
payload (Num n) = n ∷ []
payload (PVar x) = ident_bytes x
payload _ = []

-- constructors are ordered by number, then payload: identifiers by their bytes, literals by value
abbrev pub ctor_cmp : Ctor → Ctor → Ordering
ctor_cmp a b = ordering_then (nat_cmp (ctor_number a) (ctor_number b)) (slice_cmp nat_cmp (payload a) (payload b))
