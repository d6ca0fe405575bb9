-- Identifiers, constructors and positions are the same where their orders find no difference.
use Rattle.std.proofs.Common.{◌≡◌, ℕ, List, Bool, true, false, IsTrue, nat_eq, refl, ap, sym, ◌∙◌, arith}
use Rattle.std.proofs.lemmas.Slice.Eq.{bytes_eq-Decides}
use Rattle.std.proofs.lemmas.Map.Text.{is_eq-slice_cmp}
use Rattle.std.proofs.lemmas.Cmp.{on_total, then_total, nat_cmp_total, nat_list_cmp_total}
use Rattle.std.proofs.lemmas.Bool.{false≢true}
use Rattle.std.proofs.lemmas.Bool.Decides.{nat_tests}
use Rattle.std.specs.declared.cmp.Ordering.{Ordering}
use Rattle.std.specs.declared.cmp.Ordering.TheVariants.{Less, Equal, Greater}
use Rattle.std.specs.Ordering.{nat_cmp, ordering_then, is_eq}
use Rattle.std.specs.Cmp.{IsTotalOrder, IsEquivalence, eq_by_cmp_equiv}
use Rattle.std.specs.Cmp.Lexicographic.{slice_cmp}
use Rattle.grove_sorts.specs.Ctor.{ctor_number, payload, ctor_cmp}
use Rattle.grove_sorts.specs.Position.{position_number, position_cmp, is_same_position}
use Rattle.grove_sorts.specs.declared.position.Position.{Position}
use Rattle.grove_sorts.specs.declared.position.Position.TheVariants.{Main, Param, Annot, Def, Body, Fun, Arg, Left, Right, Test, WhenTrue, WhenFalse, First, Second, Operand, Dom, Cod, On, LeftParam, LeftBody, RightParam, RightBody}
use Rattle.grove_sorts.specs.declared.ctor.Ctor.{Ctor}
use Rattle.grove_sorts.specs.declared.ctor.Ctor.TheVariants.{Root, Var, Num, PVar}
use Rattle.grove_sorts.specs.contracts.ctor.CtorOrd.TheImpl as ctor_impl
use Rattle.grove_sorts.specs.contracts.position.PositionOrd.TheImpl as position_impl
use Rattle.grove_sorts.proofs.Identifiers.{ident_exact}
use Rattle.grove_sorts.specs.Ident.{ident_bytes, ident_cmp}
use Rattle.grove_sorts.specs.declared.ident.Ident.{Ident}

pub equal_from_test : (o : Ordering) → is_eq o ≡ true → o ≡ Equal
equal_from_test Less e = absurd cc
equal_from_test Equal e = refl
equal_from_test Greater e = absurd cc

ordering_then_equal : (p q : Ordering) → ordering_then p q ≡ Equal → (p ≡ Equal) × (q ≡ Equal)
ordering_then_equal Less q e = cc
ordering_then_equal Equal q e = (refl, e)
ordering_then_equal Greater q e = cc

nat_cmp_equal : (m n : ℕ) → nat_cmp m n ≡ Equal → IsTrue (nat_eq m n)
nat_cmp_equal m n e = grind (arith, nat_tests)

slice_cmp_equal : (xs ys : List ℕ) → slice_cmp nat_cmp xs ys ≡ Equal → xs ≡ ys
slice_cmp_equal xs ys e = (bytes_eq-Decides xs ys).0 (sym (is_eq-slice_cmp xs ys) ∙ ap is_eq e)

pub ident_cmp_total : IsTotalOrder ident_cmp
ident_cmp_total = on_total ident_bytes nat_list_cmp_total

-- identifiers that the order finds equal are one
pub ident_cmp_exact : (a b : Ident) → ident_cmp a b ≡ Equal → a ≡ b
ident_cmp_exact a b e = ident_exact a b (slice_cmp_equal _ _ e)

-- constructors of one number and one payload are one
ctor_same : (a b : Ctor) → IsTrue (nat_eq (ctor_number a) (ctor_number b)) → payload a ≡ payload b → a ≡ b
ctor_same (Var x) (Var y) t e = ap Var (ident_exact x y e)
ctor_same (Num m) (Num n) t e = let h : m ≡ n = cc in ap Num h
ctor_same (PVar x) (PVar y) t e = ap PVar (ident_exact x y e)
ctor_same _ Root t e = cc
ctor_same _ _ t e = cc

-- constructors that the order finds equal are one
pub ctor_cmp_exact : (a b : Ctor) → ctor_cmp a b ≡ Equal → a ≡ b
ctor_cmp_exact a b e =
    let parts = ordering_then_equal _ _ e in
    ctor_same a b (nat_cmp_equal _ _ parts.0) (slice_cmp_equal _ _ parts.1)

pub ctor_cmp_total : IsTotalOrder ctor_cmp
ctor_cmp_total = then_total (on_total ctor_number nat_cmp_total) (on_total payload nat_list_cmp_total)

nat_cmp_alone : (m n : ℕ) → nat_cmp m n ≡ ordering_then (nat_cmp m n) Equal
nat_cmp_alone m n = elim (nat_cmp m n) as (λ o. o ≡ ordering_then o Equal) [ Less ↦ refl | Equal ↦ refl | Greater ↦ refl ]

-- the comparison of the code is the order of the table
pub cmp_is_ctor_cmp : (a b : Ctor) → ctor_impl.ghosts.cmp a b ≡ ctor_cmp a b
cmp_is_ctor_cmp (Num m) (Num n) = nat_cmp_alone m n
cmp_is_ctor_cmp _ Root = refl
cmp_is_ctor_cmp _ _ = refl

-- positions of one number are one
pub position_same : (a b : Position) → IsTrue (nat_eq (position_number a) (position_number b)) → a ≡ b
position_same Main Main t = refl
position_same Param Param t = refl
position_same Annot Annot t = refl
position_same Def Def t = refl
position_same Body Body t = refl
position_same Fun Fun t = refl
position_same Arg Arg t = refl
position_same Left Left t = refl
position_same Right Right t = refl
position_same Test Test t = refl
position_same WhenTrue WhenTrue t = refl
position_same WhenFalse WhenFalse t = refl
position_same First First t = refl
position_same Second Second t = refl
position_same Operand Operand t = refl
position_same Dom Dom t = refl
position_same Cod Cod t = refl
position_same On On t = refl
position_same LeftParam LeftParam t = refl
position_same LeftBody LeftBody t = refl
position_same RightParam RightParam t = refl
position_same RightBody RightBody t = refl
position_same _ _ t = absurd (false≢true t)

-- positions that the order finds equal are one
pub position_cmp_exact : (a b : Position) → position_cmp a b ≡ Equal → a ≡ b
position_cmp_exact a b e = position_same a b (nat_cmp_equal _ _ e)

pub position_cmp_total : IsTotalOrder position_cmp
position_cmp_total = on_total position_number nat_cmp_total

-- ---- the test of positions

pub same_position_laws : IsEquivalence is_same_position
same_position_laws = eq_by_cmp_equiv position_cmp_total

-- positions that the test finds the same are one
pub one_position : (p q : Position) → is_same_position p q ≡ true → p ≡ q
one_position p q same = position_cmp_exact p q (equal_from_test (position_cmp p q) same)

-- positions of different numbers differ
pub other_position : (p q : Position) → (position_number p ≡ position_number q → ⊥) → is_same_position p q ≡ false
other_position p q differ = by_test (is_same_position p q) refl where
  by_test : (b : Bool) → is_same_position p q ≡ b → is_same_position p q ≡ false
  by_test true same = absurd (differ (ap position_number (one_position p q same)))
  by_test false other = other

-- the comparison of the code is the order of the table
pub cmp_is_position_cmp : (a b : Position) → position_impl.ghosts.cmp a b ≡ position_cmp a b
cmp_is_position_cmp Main Main = refl
cmp_is_position_cmp Param Param = refl
cmp_is_position_cmp Annot Annot = refl
cmp_is_position_cmp Def Def = refl
cmp_is_position_cmp Body Body = refl
cmp_is_position_cmp Fun Fun = refl
cmp_is_position_cmp Arg Arg = refl
cmp_is_position_cmp Left Left = refl
cmp_is_position_cmp Right Right = refl
cmp_is_position_cmp Test Test = refl
cmp_is_position_cmp WhenTrue WhenTrue = refl
cmp_is_position_cmp WhenFalse WhenFalse = refl
cmp_is_position_cmp First First = refl
cmp_is_position_cmp Second Second = refl
cmp_is_position_cmp Operand Operand = refl
cmp_is_position_cmp Dom Dom = refl
cmp_is_position_cmp Cod Cod = refl
cmp_is_position_cmp On On = refl
cmp_is_position_cmp LeftParam LeftParam = refl
cmp_is_position_cmp LeftBody LeftBody = refl
cmp_is_position_cmp RightParam RightParam = refl
cmp_is_position_cmp RightBody RightBody = refl
cmp_is_position_cmp _ _ = refl
