-- Children have the sorts that their positions want.
use Rattle.std.proofs.Common.{◌≡◌, ◌⊎◌, inl, inr, Bool, true, false, cond, List, [], ◌∷◌, refl, subst}
use Rattle.std.specs.Prelude.{◌==◌, Some}
use Rattle.std.specs.List.{AllByRecursion}
use Rattle.grove_sorts.specs.declared.position.Position.{Position}
use Rattle.grove_sorts.specs.declared.position.Position.TheVariants.{Annot}
use Rattle.grove_sorts.specs.declared.sort.Sort.{Sort}
use Rattle.grove_sorts.specs.declared.sort.Sort.TheVariants.{Top, Exp, Typ as TypeSort}
use Rattle.grove_sorts.specs.declared.ctor.Ctor.{Ctor}
use Rattle.grove_sorts.specs.declared.ctor.Ctor.TheVariants.{Root, Lam, PVar, TNum, TBool, TArrow, TProd, TSum}
use Rattle.marking.proofs.ByRows.{no_top_in}
use Rattle.grove_sorts.specs.Position.{position_number}
use Rattle.grove_sorts.specs.Ctor.{positions, sort_in, sort_at, sort_of_ctor}

-- ---- the sorts in the table

some_sort : (s t : Sort) → Some s ≡ Some t → s ≡ t
some_sort s t e = cc

sort_in_all : (P : Sort → Type 0) (ps : List (Position × Sort)) → AllByRecursion (λ q. P q.1) ps → (p : Position) (s : Sort) → sort_in ps p ≡ Some s → P s
sort_in_all P [] all p s is = absurd cc
sort_in_all P (q ∷ qs) all p s is = by_test (position_number q.0 == position_number p) is (sort_in_all P qs all.1 p s) where
  by_test : (b : Bool) → cond b (Some q.1) (sort_in qs p) ≡ Some s → (sort_in qs p ≡ Some s → P s) → P s
  by_test true is later = subst P (some_sort q.1 s is) all.0
  by_test false is later = later is

-- no position wants a root
pub never_top : (c : Ctor) (p : Position) → sort_at c p ≡ Some Top → ⊥
never_top c p is = sort_in_all (λ s. s ≡ Top → ⊥) (positions c) (no_top_in c) p Top is refl

-- a vertex that is judged as an expression is, the root included
abbrev pub IsJudged : Ctor → Type 0
IsJudged c = (sort_of_ctor c ≡ Exp) ⊎ (sort_of_ctor c ≡ Top)

-- expressions stand below expressions and below the root
pub above_expression : (c : Ctor) (p : Position) → sort_at c p ≡ Some Exp → IsJudged c
above_expression Root p is = inr refl
above_expression (PVar x) p is = absurd cc
above_expression TNum p is = absurd cc
above_expression TBool p is = absurd cc
above_expression TArrow p is = absurd (sort_in_all (λ s. s ≡ Exp → ⊥) (positions TArrow) (λ e. cc, (λ e. cc, tt)) p Exp is refl)
above_expression TProd p is = absurd (sort_in_all (λ s. s ≡ Exp → ⊥) (positions TProd) (λ e. cc, (λ e. cc, tt)) p Exp is refl)
above_expression TSum p is = absurd (sort_in_all (λ s. s ≡ Exp → ⊥) (positions TSum) (λ e. cc, (λ e. cc, tt)) p Exp is refl)
above_expression _ p is = inl refl

-- what stands at a position for a type is a type
pub at_annotation : (c : Ctor) (s : Sort) → sort_at c Annot ≡ Some s → s ≡ TypeSort
at_annotation Lam s is = cc
at_annotation _ s is = absurd cc
