-- The constructors that carry neither an identifier nor a literal.
use Rattle.std.specs.Prelude.{ℕ, suc, ◌==◌, List, [], ◌∷◌, if◌then◌else◌}
use Rattle.grove_sorts.specs.declared.ctor.Ctor.{Ctor}
use Rattle.grove_sorts.specs.declared.ctor.Ctor.TheVariants as ctor
use Rattle.grove_sorts.specs.declared.plain.Plain.{Plain}
use Rattle.grove_sorts.specs.declared.plain.Plain.TheVariants.{Root, Lam, Ap, Plus, LitTrue, LitFalse, Choose, Pair, Fst, Snd, TNum, TBool, TArrow, TProd, Let, Inl, Inr, Case, TSum}
use Rattle.grove_sorts.specs.Ctor.{ctor_number}

abbrev pub plain_ctor : Plain → Ctor
plain_ctor Root = ctor.Root
plain_ctor Lam = ctor.Lam
plain_ctor Ap = ctor.Ap
plain_ctor Plus = ctor.Plus
plain_ctor LitTrue = ctor.LitTrue
plain_ctor LitFalse = ctor.LitFalse
plain_ctor Choose = ctor.Choose
plain_ctor Pair = ctor.Pair
plain_ctor Fst = ctor.Fst
plain_ctor Snd = ctor.Snd
plain_ctor TNum = ctor.TNum
plain_ctor TBool = ctor.TBool
plain_ctor TArrow = ctor.TArrow
plain_ctor TProd = ctor.TProd
plain_ctor Let = ctor.Let
plain_ctor Inl = ctor.Inl
plain_ctor Inr = ctor.Inr
plain_ctor Case = ctor.Case
plain_ctor TSum = ctor.TSum

-- all of them, in the order of the table
abbrev pub plains : List Plain
plains =
    Root ∷ Lam ∷ Ap ∷ Plus ∷ LitTrue ∷ LitFalse ∷ Choose ∷ Pair ∷ Fst ∷ Snd ∷ TNum ∷ TBool ∷ TArrow ∷ TProd ∷ Let ∷ Inl ∷ Inr ∷ Case ∷ TSum
    ∷ []

-- the one among some whose constructor has a number; where there is none, the root
abbrev pub plain_among : List Plain → ℕ → Plain
plain_among [] n = Root
plain_among (p ∷ ps) n = if ctor_number (plain_ctor p) == n then p else plain_among ps n

-- how many of some stand before the one whose constructor has a number
abbrev pub count_before : List Plain → ℕ → ℕ
count_before [] n = 0
count_before (p ∷ ps) n = if ctor_number (plain_ctor p) == n then 0 else suc (count_before ps n)

-- the plain constructor that a constructor is; one that carries something is none, and is told as the root's here
unfoldable pub plain_of : Ctor → Plain
plain_of c = plain_among plains (ctor_number c)

-- at what index it stands among all
unfoldable pub plain_number : Plain → ℕ
plain_number p = count_before plains (ctor_number (plain_ctor p))
