-- Inner model, which no public contract cites: the ranks of constructors, in whose order they are compared.
use Rattle.std.specs.Prelude.{◌≡◌, ℕ, suc, ◌<◌, List, [], ◌∷◌, Some, length, slice_get}
use Rattle.std.specs.Ordering.{nat_cmp}
use Rattle.grove_sorts.specs.declared.ctor.Ctor.{Ctor}
use Rattle.grove_sorts.specs.Ctor.{ctor_cmp}
use Rattle.edit_table.specs.declared.ranking.NumberedCtor.{NumberedCtor}
use Rattle.edit_table.specs.Keys.{ctor_at}

-- the ranks at two numbers are ordered as the constructors with these numbers
abbrev pub AreRanks : List Ctor → List ℕ → Type 0
AreRanks ctors ranks = (m n p q : ℕ) → slice_get ranks m ≡ Some p → slice_get ranks n ≡ Some q → nat_cmp p q ≡ ctor_cmp (ctor_at ctors m) (ctor_at ctors n)

-- the rank is that of a constructor
abbrev pub IsRankOf : List Ctor → List ℕ → ℕ → Ctor → Type 0
IsRankOf ctors ranks rank ctor = (n : ℕ) × (slice_get ranks n ≡ Some rank) × (ctor_at ctors n ≡ ctor)

-- constructors beside their numbers, the first of which is this
abbrev pub numbered_from : ℕ → List Ctor → List NumberedCtor
numbered_from n [] = []
numbered_from n (ctor ∷ ctors) = record { ctor = ctor; number = n } ∷ numbered_from (suc n) ctors

-- the rank at a number is an index at which the number stands
abbrev pub HasIndex : List NumberedCtor → List ℕ → ℕ → Type 0
HasIndex sorted ranks number = (rank : ℕ) × (x : NumberedCtor) × (slice_get ranks number ≡ Some rank) × (slice_get sorted rank ≡ Some x) × (x.number ≡ number)

-- the numbers that stand below an index have theirs
abbrev pub HaveIndices : List NumberedCtor → List ℕ → ℕ → Type 0
HaveIndices sorted ranks count = (j : ℕ) (x : NumberedCtor) → j < count → slice_get sorted j ≡ Some x → HasIndex sorted ranks x.number

-- all numbers have
pub record AreIndices (sorted : List NumberedCtor) (ranks : List ℕ) : Type 0 where
  pub long : length ranks ≡ length sorted
  pub there : HaveIndices sorted ranks (length sorted)
