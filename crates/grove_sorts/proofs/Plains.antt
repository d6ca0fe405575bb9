-- The constructors that carry nothing: each is a plain one, and they are ordered as their constructors.
use Rattle.std.proofs.Common.{◌≡◌, is_some, true, slice_get, Some, refl, sym, ap, ◌∙◌}
use Rattle.std.proofs.lemmas.Bool.{false≢true}
use Rattle.grove_sorts.specs.Ctor.{IsPlain, ctor_cmp, sort_at}
use Rattle.grove_sorts.specs.Plain.{plain_ctor, plain_of, plain_number, plains}
use Rattle.grove_sorts.specs.declared.ctor.Ctor.{Ctor}
use Rattle.grove_sorts.specs.declared.ctor.Ctor.TheVariants.{Var, Num, PVar}
use Rattle.grove_sorts.specs.declared.plain.Plain.{Plain}
use Rattle.grove_sorts.specs.declared.plain.Plain.TheVariants.{Root}
use Rattle.grove_sorts.specs.declared.position.Position.{Position}
use Rattle.grove_sorts.specs.contracts.plain.PlainOrd.TheImpl as plain_impl

-- the comparison of the code is that of the constructors
pub cmp_is_plain_cmp : (a b : Plain) → plain_impl.ghosts.cmp a b ≡ ctor_cmp (plain_ctor a) (plain_ctor b)
cmp_is_plain_cmp Root Root = refl
cmp_is_plain_cmp _ Root = refl
cmp_is_plain_cmp _ _ = refl

-- a plain constructor is found by its constructor
found_again : (p : Plain) → plain_of (plain_ctor p) ≡ p
unfolding plain_of
found_again Root = refl
found_again _ = refl

-- those of one constructor are one
pub one_plain : (a b : Plain) → plain_ctor a ≡ plain_ctor b → a ≡ b
one_plain a b is = sym (found_again a) ∙ ap plain_of is ∙ found_again b

-- a constructor that carries nothing is a plain one
pub is_plain : (ctor : Ctor) → IsPlain ctor → plain_ctor (plain_of ctor) ≡ ctor
unfolding plain_of
is_plain (Var x) is = absurd is
is_plain (Num n) is = absurd is
is_plain (PVar x) is = absurd is
is_plain _ is = refl

-- and so is one that has a position
pub has_plain : (ctor : Ctor) (p : Position) → is_some (sort_at ctor p) ≡ true → plain_ctor (plain_of ctor) ≡ ctor
has_plain (Var x) p has = absurd (false≢true has)
has_plain (Num n) p has = absurd (false≢true has)
has_plain (PVar x) p has = absurd (false≢true has)
has_plain ctor p has = is_plain ctor tt

-- each stands among all at its number
pub plain_stands : (a : Plain) → slice_get plains (plain_number a) ≡ Some a
unfolding plain_number
plain_stands Root = refl
plain_stands _ = refl
