-- Laws of consistency, meet and precision.
use Rattle.std.proofs.Common.{◌≡◌, Bool, true, false, ◌&&◌, Option, None, Some, is_some, ◌⊎◌, inl, inr, refl, sym, ap, ◌∙◌, subst, true≢false, if◌then◌else◌, option_and_then, IfSome}
use Rattle.std.proofs.lemmas.Bool.{cases_Bool, false≢true}
use Rattle.std.specs.Option.{IsSomeAnd}
use Rattle.type_core.specs.declared.former.Former.{Former}
use Rattle.type_core.specs.declared.former.Former.TheVariants.{Arrow, Product, Sum}
use Rattle.type_core.specs.Typ.{Typ, Unknown, Num, Boolean, Pair, is_same_former, is_consistent, pair_both, meet, is_below}

pub is_same_former-same : (f : Former) → is_same_former f f ≡ true
is_same_former-same Arrow = refl
is_same_former-same Product = refl
is_same_former-same Sum = refl

is_same_former-sym : (f g : Former) → is_same_former f g ≡ is_same_former g f
is_same_former-sym Arrow Arrow = refl
is_same_former-sym Product Product = refl
is_same_former-sym Sum Sum = refl
is_same_former-sym _ _ = refl

former_from_same : (f g : Former) → is_same_former f g ≡ true → f ≡ g
former_from_same Arrow Arrow h = refl
former_from_same Product Product h = refl
former_from_same Sum Sum h = refl
former_from_same _ _ h = absurd (false≢true h)

pub is_consistent-same : (t : Typ) → is_consistent t t ≡ true
is_consistent-same Unknown = refl
is_consistent-same Num = refl
is_consistent-same Boolean = refl
is_consistent-same (Pair f a b) =
    let e = is_same_former-same f in
    let x = is_consistent-same a in
    let y = is_consistent-same b in cc

is_consistent-unknown : (s : Typ) → is_consistent s Unknown ≡ true
is_consistent-unknown Unknown = refl
is_consistent-unknown Num = refl
is_consistent-unknown Boolean = refl
is_consistent-unknown (Pair f a b) = refl

pub is_consistent-sym : (s t : Typ) → is_consistent s t ≡ is_consistent t s
is_consistent-sym (Pair f a b) (Pair g c d) =
    let e = is_same_former-sym f g in
    let x = is_consistent-sym a c in
    let y = is_consistent-sym b d in cc
is_consistent-sym Unknown t = sym (is_consistent-unknown t)
is_consistent-sym s Unknown = is_consistent-unknown s
is_consistent-sym _ _ = refl

pub meet-same : (t : Typ) → meet t t ≡ Some t
meet-same Unknown = refl
meet-same Num = refl
meet-same Boolean = refl
meet-same (Pair f a b) =
    let e = is_same_former-same f in
    let x = meet-same a in
    let y = meet-same b in
    ap (λ c. if c then pair_both f (meet a a) (meet b b) else None) e ∙ ap (λ o. pair_both f o (meet b b)) x ∙ ap (pair_both f (Some a)) y

is_some-pair_both : (f : Former) (o p : Option Typ) → is_some (pair_both f o p) ≡ (is_some o && is_some p)
is_some-pair_both f None p = refl
is_some-pair_both f (Some a) None = refl
is_some-pair_both f (Some a) (Some b) = refl

is_some-if : (same : Bool) (f : Former) (o p : Option Typ) → is_some (if same then pair_both f o p else None) ≡ (same && is_some o && is_some p)
is_some-if false f o p = refl
is_some-if true f o p = is_some-pair_both f o p

-- the meet is there exactly where the types are consistent
pub is_some-meet : (s t : Typ) → is_some (meet s t) ≡ is_consistent s t
is_some-meet (Pair f a b) (Pair g c d) =
    let e = is_some-if (is_same_former f g) f (meet a c) (meet b d) in
    let x = is_some-meet a c in
    let y = is_some-meet b d in cc
is_some-meet Unknown t = refl
is_some-meet s Unknown = by s
  where
    by : (s : Typ) → is_some (meet s Unknown) ≡ is_consistent s Unknown
    by Unknown = refl
    by Num = refl
    by Boolean = refl
    by (Pair f a b) = refl
is_some-meet _ _ = refl

none_from_is_some : (o : Option Typ) → is_some o ≡ false → o ≡ None
none_from_is_some None h = refl
none_from_is_some (Some t) h = absurd (true≢false h)

pub meet-inconsistent : (s t : Typ) → is_consistent s t ≡ false → meet s t ≡ None
meet-inconsistent s t h = none_from_is_some (meet s t) (is_some-meet s t ∙ h)

meet-unknown : (t : Typ) → meet t Unknown ≡ Some t
meet-unknown Unknown = refl
meet-unknown Num = refl
meet-unknown Boolean = refl
meet-unknown (Pair f a b) = refl

-- the meet of two types with parts, from the meets of their parts
abbrev meet_pairs : Former → Former → Option Typ → Option Typ → Option Typ
meet_pairs f g o p = if is_same_former f g then pair_both f o p else None

meet_pairs-comm : (f g : Former) (o p : Option Typ) → meet_pairs f g o p ≡ meet_pairs g f o p
meet_pairs-comm Arrow Arrow o p = refl
meet_pairs-comm Product Product o p = refl
meet_pairs-comm Sum Sum o p = refl
meet_pairs-comm _ _ o p = refl

pub meet-comm : (s t : Typ) → meet s t ≡ meet t s
meet-comm (Pair f a b) (Pair g c d) =
    meet_pairs-comm f g (meet a c) (meet b d) ∙ ap (λ o. meet_pairs g f o (meet b d)) (meet-comm a c) ∙ ap (meet_pairs g f (meet c a)) (meet-comm b d)
meet-comm Unknown t = sym (meet-unknown t)
meet-comm s Unknown = meet-unknown s
meet-comm _ _ = refl

and_then-some : (o : Option Typ) → option_and_then (λ (t : Typ). Some t) o ≡ o
and_then-some None = refl
and_then-some (Some t) = refl

and_then-unknown : (o : Option Typ) → option_and_then (λ t. meet t Unknown) o ≡ o
and_then-unknown None = refl
and_then-unknown (Some t) = meet-unknown t

-- nothing comes of types with parts where nothing comes of each
and_then-pairs : (k : Typ → Option Typ) → ((f : Former) (a b : Typ) → k (Pair f a b) ≡ None) → (f g : Former) (o p : Option Typ) → option_and_then k (meet_pairs f g o p) ≡ None
and_then-pairs k none f g o p = by (is_same_former f g) o p
  where
    by : (same : Bool) (o p : Option Typ) → option_and_then k (if same then pair_both f o p else None) ≡ None
    by false o p = refl
    by true None p = refl
    by true (Some a) None = refl
    by true (Some a) (Some b) = none f a b

pair_both-none : (f : Former) (o : Option Typ) → pair_both f o None ≡ None
pair_both-none f None = refl
pair_both-none f (Some a) = refl

-- the meet goes through the parts, on either side
and_then-parts : (f : Former) (o p : Option Typ) (x y : Typ)
    → option_and_then (λ t. meet t (Pair f x y)) (pair_both f o p) ≡ pair_both f (option_and_then (λ t. meet t x) o) (option_and_then (λ t. meet t y) p)
and_then-parts f None p x y = refl
and_then-parts f (Some a) None x y = sym (pair_both-none f (meet a x))
and_then-parts f (Some a) (Some b) x y = ap (λ same. if same then pair_both f (meet a x) (meet b y) else None) (is_same_former-same f)

then_parts : (f : Former) (o p : Option Typ) (a b : Typ)
    → option_and_then (meet (Pair f a b)) (pair_both f o p) ≡ pair_both f (option_and_then (meet a) o) (option_and_then (meet b) p)
then_parts f None p a b = refl
then_parts f (Some x) None a b = sym (pair_both-none f (meet a x))
then_parts f (Some x) (Some y) a b = ap (λ same. if same then pair_both f (meet a x) (meet b y) else None) (is_same_former-same f)

abbrev meet_left : Typ → Typ → Typ → Option Typ
meet_left s t u = option_and_then (λ m. meet m u) (meet s t)

abbrev meet_right : Typ → Typ → Typ → Option Typ
meet_right s t u = option_and_then (λ m. meet s m) (meet t u)

same_parts-assoc : (f : Former) (a b c d x y : Typ) → meet_left a c x ≡ meet_right a c x → meet_left b d y ≡ meet_right b d y
    → option_and_then (λ m. meet m (Pair f x y)) (pair_both f (meet a c) (meet b d)) ≡ option_and_then (meet (Pair f a b)) (pair_both f (meet c x) (meet d y))
same_parts-assoc f a b c d x y p q =
    and_then-parts f (meet a c) (meet b d) x y ∙ ap (λ o. pair_both f o (meet_left b d y)) p ∙ ap (pair_both f (meet_right a c x)) q
    ∙ sym (then_parts f (meet c x) (meet d y) a b)

-- a type of one form has no meet with one of another
other_form_right : (f h : Former) (o p : Option Typ) (x y : Typ) → is_same_former f h ≡ false → option_and_then (λ m. meet m (Pair h x y)) (pair_both f o p) ≡ None
other_form_right f h None p x y e = refl
other_form_right f h (Some s) None x y e = refl
other_form_right f h (Some s) (Some t) x y e = ap (λ same. if same then pair_both f (meet s x) (meet t y) else None) e

other_form_left : (f g : Former) (o p : Option Typ) (a b : Typ) → is_same_former f g ≡ false → option_and_then (meet (Pair f a b)) (pair_both g o p) ≡ None
other_form_left f g None p a b e = refl
other_form_left f g (Some s) None a b e = refl
other_form_left f g (Some s) (Some t) a b e = ap (λ same. if same then pair_both f (meet a s) (meet b t) else None) e

module _ (f g h : Former) (a b c d x y : Typ) where
  -- both sides, by whether the forms agree
  abbrev left : Bool → Option Typ
  left same = option_and_then (λ m. meet m (Pair h x y)) (if same then pair_both f (meet a c) (meet b d) else None)

  abbrev right : Bool → Option Typ
  right same = option_and_then (meet (Pair f a b)) (if same then pair_both g (meet c x) (meet d y) else None)

  none_right : (same : Bool) → is_same_former f g ≡ false → right same ≡ None
  none_right true e = other_form_left f g (meet c x) (meet d y) a b e
  none_right false e = refl

  pairs-assoc : meet_left a c x ≡ meet_right a c x → meet_left b d y ≡ meet_right b d y
      → meet_left (Pair f a b) (Pair g c d) (Pair h x y) ≡ meet_right (Pair f a b) (Pair g c d) (Pair h x y)
  pairs-assoc p q = by (cases_Bool (is_same_former f g)) (cases_Bool (is_same_former g h))
    where
      all_same : f ≡ g → g ≡ h → left true ≡ right true
      all_same e i =
          subst (λ k. option_and_then (λ m. meet m (Pair k x y)) (pair_both f (meet a c) (meet b d)) ≡ option_and_then (meet (Pair f a b)) (pair_both g (meet c x) (meet d y))) i
          (subst (λ k. option_and_then (λ m. meet m (Pair k x y)) (pair_both f (meet a c) (meet b d)) ≡ option_and_then (meet (Pair f a b)) (pair_both k (meet c x) (meet d y))) e
          (same_parts-assoc f a b c d x y p q))

      by : (is_same_former f g ≡ true) ⊎ (is_same_former f g ≡ false) → (is_same_former g h ≡ true) ⊎ (is_same_former g h ≡ false)
          → left (is_same_former f g) ≡ right (is_same_former g h)
      by (inl e) (inl i) = ap left e ∙ all_same (former_from_same f g e) (former_from_same g h i) ∙ sym (ap right i)
      by (inl e) (inr i) =
          ap left e ∙ other_form_right f h (meet a c) (meet b d) x y (ap (λ k. is_same_former k h) (former_from_same f g e) ∙ i) ∙ sym (ap right i)
      by (inr e) _ = ap left e ∙ sym (none_right (is_same_former g h) e)

pub meet-assoc : (s t u : Typ) → option_and_then (λ m. meet m u) (meet s t) ≡ option_and_then (λ m. meet s m) (meet t u)
meet-assoc (Pair f a b) (Pair g c d) (Pair h x y) =
    pairs-assoc f g h a b c d x y (meet-assoc a c x) (meet-assoc b d y)
meet-assoc Unknown t u = sym (and_then-some (meet t u))
meet-assoc s t Unknown =
    and_then-unknown (meet s t) ∙ sym (ap (λ o. option_and_then (λ m. meet s m) o) (meet-unknown t))
meet-assoc s Unknown u = ap (λ o. option_and_then (λ m. meet m u) o) (meet-unknown s)
meet-assoc (Pair f a b) (Pair g c d) Num = and_then-pairs (λ m. meet m Num) (λ f a b. refl) f g (meet a c) (meet b d)
meet-assoc (Pair f a b) (Pair g c d) Boolean = and_then-pairs (λ m. meet m Boolean) (λ f a b. refl) f g (meet a c) (meet b d)
meet-assoc Num (Pair g c d) (Pair h x y) = sym (and_then-pairs (meet Num) (λ f a b. refl) g h (meet c x) (meet d y))
meet-assoc Boolean (Pair g c d) (Pair h x y) = sym (and_then-pairs (meet Boolean) (λ f a b. refl) g h (meet c x) (meet d y))
meet-assoc _ _ _ = refl

is_below-unknown : (t : Typ) → is_below t Unknown ≡ true
is_below-unknown Unknown = refl
is_below-unknown Num = refl
is_below-unknown Boolean = refl
is_below-unknown (Pair f a b) = refl

pub is_below-same : (t : Typ) → is_below t t ≡ true
is_below-same Unknown = refl
is_below-same Num = refl
is_below-same Boolean = refl
is_below-same (Pair f a b) =
    let e = is_same_former-same f in
    let x = is_below-same a in
    let y = is_below-same b in cc

-- m is below both
abbrev IsBelowBoth : Typ → Typ → Typ → Type 0
IsBelowBoth s t m = (is_below m s ≡ true) × (is_below m t ≡ true)

is_below-pairs : (f : Former) (m n a b : Typ) → is_below m a ≡ true → is_below n b ≡ true → is_below (Pair f m n) (Pair f a b) ≡ true
is_below-pairs f m n a b x y = let e = is_same_former-same f in cc

pairs_below : (f : Former) (o p : Option Typ) (a b c d : Typ) → IfSome o (IsBelowBoth a c) → IfSome p (IsBelowBoth b d)
    → IfSome (pair_both f o p) (IsBelowBoth (Pair f a b) (Pair f c d))
pairs_below f None p a b c d x y = tt
pairs_below f (Some m) None a b c d x y = tt
pairs_below f (Some m) (Some n) a b c d x y = (is_below-pairs f m n a b x.0 y.0, is_below-pairs f m n c d x.1 y.1)

meet_pairs_below : (f g : Former) (o p : Option Typ) (a b c d : Typ) → IfSome o (IsBelowBoth a c) → IfSome p (IsBelowBoth b d)
    → IfSome (meet_pairs f g o p) (IsBelowBoth (Pair f a b) (Pair g c d))
meet_pairs_below f g o p a b c d x y = by (cases_Bool (is_same_former f g))
  where
    by : (is_same_former f g ≡ true) ⊎ (is_same_former f g ≡ false) → IfSome (meet_pairs f g o p) (IsBelowBoth (Pair f a b) (Pair g c d))
    by (inl e) =
        subst (λ same. IfSome (if same then pair_both f o p else None) (IsBelowBoth (Pair f a b) (Pair g c d))) (sym e)
        (subst (λ k. IfSome (pair_both f o p) (IsBelowBoth (Pair f a b) (Pair k c d))) (former_from_same f g e) (pairs_below f o p a b c d x y))
    by (inr e) = subst (λ same. IfSome (if same then pair_both f o p else None) (IsBelowBoth (Pair f a b) (Pair g c d))) (sym e) tt

pub meet-below : (s t : Typ) → IfSome (meet s t) (IsBelowBoth s t)
meet-below (Pair f a b) (Pair g c d) = meet_pairs_below f g (meet a c) (meet b d) a b c d (meet-below a c) (meet-below b d)
meet-below Unknown t = (is_below-unknown t, is_below-same t)
meet-below Num Unknown = (refl, refl)
meet-below Boolean Unknown = (refl, refl)
meet-below (Pair f a b) Unknown = (is_below-same (Pair f a b), refl)
meet-below Num Num = (refl, refl)
meet-below Boolean Boolean = (refl, refl)
meet-below _ _ = tt

both_left : (x y z : Bool) → (x && y && z) ≡ true → x ≡ true
both_left true y z h = refl
both_left false y z h = h

both_mid : (x y z : Bool) → (x && y && z) ≡ true → y ≡ true
both_mid true true z h = refl
both_mid true false z h = h
both_mid false y z h = absurd (false≢true h)

both_right : (x y z : Bool) → (x && y && z) ≡ true → z ≡ true
both_right true true z h = h
both_right true false z h = absurd (false≢true h)
both_right false y z h = absurd (false≢true h)

-- what is below a type is its meet with it
pub meet-from_below : (s t : Typ) → is_below s t ≡ true → meet s t ≡ Some s
meet-from_below (Pair f a b) (Pair g c d) h =
    ap (λ same. if same then pair_both f (meet a c) (meet b d) else None) (both_left (is_same_former f g) (is_below a c) (is_below b d) h)
    ∙ ap (λ o. pair_both f o (meet b d)) (meet-from_below a c (both_mid (is_same_former f g) (is_below a c) (is_below b d) h))
    ∙ ap (pair_both f (Some a)) (meet-from_below b d (both_right (is_same_former f g) (is_below a c) (is_below b d) h))
meet-from_below s Unknown h = meet-unknown s
meet-from_below Num Num h = refl
meet-from_below Boolean Boolean h = refl
meet-from_below _ _ h = absurd (false≢true h)

pub below_from_meet : (s t : Typ) → meet s t ≡ Some s → is_below s t ≡ true
below_from_meet s t e = (subst (λ o. IfSome o (IsBelowBoth s t)) e (meet-below s t)).1

some_typ : (s t : Typ) → Some s ≡ Some t → s ≡ t
some_typ s t e = cc

pub is_below-trans : (s t u : Typ) → is_below s t ≡ true → is_below t u ≡ true → is_below s u ≡ true
is_below-trans s t u h k =
    let p = meet-from_below s t h in
    let q = meet-from_below t u k in
    below_from_meet s u (sym (ap (λ o. option_and_then (λ m. meet m u) o) p) ∙ meet-assoc s t u ∙ ap (λ o. option_and_then (λ m. meet s m) o) q ∙ p)

pub is_below-antisym : (s t : Typ) → is_below s t ≡ true → is_below t s ≡ true → s ≡ t
is_below-antisym s t h k = some_typ s t (sym (meet-from_below s t h) ∙ meet-comm s t ∙ meet-from_below t s k)

-- whatever is below both types is below their meet, which is there
pub meet-greatest : (s t u : Typ) → is_below u s ≡ true → is_below u t ≡ true → IsSomeAnd (meet s t) (λ m. is_below u m ≡ true)
meet-greatest s t u h k =
    by (meet s t) (sym (meet-assoc u s t) ∙ ap (λ o. option_and_then (λ m. meet m t) o) (meet-from_below u s h) ∙ meet-from_below u t k)
  where
    by : (o : Option Typ) → option_and_then (λ m. meet u m) o ≡ Some u → IsSomeAnd o (λ m. is_below u m ≡ true)
    by None e = absurd (nothing e)
      where
        nothing : None ≡ Some u → ⊥
        nothing e = cc
    by (Some m) e = below_from_meet u m e

-- a type is consistent with what is below it
pub consistent_from_below : (s t : Typ) → is_below s t ≡ true → is_consistent s t ≡ true
consistent_from_below s t h = sym (is_some-meet s t) ∙ ap is_some (meet-from_below s t h)

pub meet-consistent : (s t : Typ) → IfSome (meet s t) (λ m. (is_consistent m s ≡ true) × (is_consistent m t ≡ true))
meet-consistent s t = by (meet s t) (meet-below s t)
  where
    by : (o : Option Typ) → IfSome o (IsBelowBoth s t) → IfSome o (λ m. (is_consistent m s ≡ true) × (is_consistent m t ≡ true))
    by None h = tt
    by (Some m) h = (consistent_from_below m s h.0, consistent_from_below m t h.1)
