-- The texts of constructors and positions: each has one, and none has a byte below the digits.
use Rattle.std.proofs.Common.{◌≡◌, ◌≢◌, ℕ, ◌+◌, ◌*◌, ◌<◌, List, [], ◌∷◌, length, Bool, true, ◌&&◌, codes, decimal, nat_eq, nat_le, get_or, refl, ap, inl, arith}
use Rattle.std.specs.List.{list_all}
use Rattle.std.proofs.lemmas.Bool.{false≢true}
use Rattle.std.proofs.lemmas.Bool.Decides.{nat_tests}
use Rattle.std.proofs.lemmas.Fmt.{decimal_injective}
use Rattle.text_parts.specs.Separated.{Lacks}
use Rattle.text_parts.proofs.Numbers.{Lacks-decimal}
use Rattle.text_parts.proofs.Parts.{Lacks-append}
use Rattle.grove_sorts.proofs.Truths.{both_true}
use Rattle.grove_sorts.specs.declared.version.Version.TheVariants.{Two}
use Rattle.grove_sorts.specs.Identifier.{is_lowercase_letter, is_inner_byte, IsIdentifier}
use Rattle.grove_sorts.specs.Ident.{ident_bytes}
use Rattle.grove_sorts.specs.Ctor.{InRange, ctor_text}
use Rattle.grove_sorts.specs.Position.{position_text}
use Rattle.grove_sorts.specs.declared.ident.Ident.{Ident}
use Rattle.grove_sorts.specs.declared.ctor.Ctor.{Ctor}
use Rattle.grove_sorts.specs.declared.ctor.Ctor.TheVariants.{Root, Var, Num, PVar}
use Rattle.grove_sorts.specs.declared.position.Position.{Position}
use Rattle.grove_sorts.specs.declared.position.Position.TheVariants.{Main, Param, Annot, Def, Body, Fun, Arg, Left, Right, Test, WhenTrue, WhenFalse, First, Second, Operand, Dom, Cod, On, LeftParam, LeftBody, RightParam, RightBody}
use Rattle.grove_sorts.proofs.Identifiers.{ident_exact}

-- the first three bytes of a text, by which it is known
abbrev text_key : List ℕ → ℕ
text_key text = (get_or text 0 0 * 256 + get_or text 1 0) * 256 + get_or text 2 0

-- one text has one key
one_key : (a b : Ctor) → ctor_text a ≡ ctor_text b → nat_eq (text_key (ctor_text a)) (text_key (ctor_text a)) ≡ nat_eq (text_key (ctor_text a)) (text_key (ctor_text b))
one_key a b e = ap (λ text. nat_eq (text_key (ctor_text a)) (text_key text)) e

-- a constructor is its text
pub ctor_text_injective : (a b : Ctor) → InRange a → InRange b → ctor_text a ≡ ctor_text b → a ≡ b
ctor_text_injective (Var x) (Var y) i j e = ap Var (ident_exact x y cc)
ctor_text_injective (Num m) (Num n) i j e = ap Num (decimal_injective m n i j cc)
ctor_text_injective (PVar x) (PVar y) i j e = ap PVar (ident_exact x y cc)
ctor_text_injective a Root i j e = let key = one_key a Root e in cc
ctor_text_injective a b i j e = let key = one_key a b e in cc

-- a position is its word
pub position_text_injective : (a b : Position) → position_text a ≡ position_text b → a ≡ b
position_text_injective Main Main e = refl
position_text_injective Param Param e = refl
position_text_injective Annot Annot e = refl
position_text_injective Def Def e = refl
position_text_injective Body Body e = refl
position_text_injective Fun Fun e = refl
position_text_injective Arg Arg e = refl
position_text_injective Left Left e = refl
position_text_injective Right Right e = refl
position_text_injective Test Test e = refl
position_text_injective WhenTrue WhenTrue e = refl
position_text_injective WhenFalse WhenFalse e = refl
position_text_injective First First e = refl
position_text_injective Second Second e = refl
position_text_injective Operand Operand e = refl
position_text_injective Dom Dom e = refl
position_text_injective Cod Cod e = refl
position_text_injective On On e = refl
position_text_injective LeftParam LeftParam e = refl
position_text_injective LeftBody LeftBody e = refl
position_text_injective RightParam RightParam e = refl
position_text_injective RightBody RightBody e = refl
position_text_injective _ b e = absurd (false≢true (ap (λ text. nat_eq (text_key text) (text_key (position_text b))) e))

inner_byte_above : (byte c : ℕ) → is_inner_byte byte ≡ true → c < 48 → byte ≢ c
inner_byte_above byte c inner low e = grind (arith, nat_tests)

letter_above : (byte c : ℕ) → is_lowercase_letter byte ≡ true → c < 48 → byte ≢ c
letter_above byte c letter low e = grind (arith, nat_tests)

Lacks-inner : (c : ℕ) (bytes : List ℕ) → c < 48 → list_all is_inner_byte bytes ≡ true → Lacks c bytes
Lacks-inner c [] low inner = tt
Lacks-inner c (byte ∷ bytes) low inner =
    let parts = both_true (is_inner_byte byte) (list_all is_inner_byte bytes) inner in
    (inner_byte_above byte c parts.0 low, Lacks-inner c bytes low parts.1)

Lacks-identifier : (c : ℕ) (bytes : List ℕ) → c < 48 → IsIdentifier Two bytes → Lacks c bytes
Lacks-identifier c [] low h = tt
Lacks-identifier c (byte ∷ bytes) low h =
    let parts = both_true (is_lowercase_letter byte && list_all is_inner_byte bytes) (nat_le (length (byte ∷ bytes)) 64) h in
    let bytes_inner = both_true (is_lowercase_letter byte) (list_all is_inner_byte bytes) parts.0 in
    (letter_above byte c bytes_inner.0 low, Lacks-inner c bytes low bytes_inner.1)

-- an identifier has no byte below the digits, as a space or a line feed is
pub Lacks-ident_bytes : (c : ℕ) (x : Ident) → c < 48 → Lacks c (ident_bytes x)
Lacks-ident_bytes c x low = Lacks-identifier c (ident_bytes x) low x.spelled

-- every byte is at least 48
abbrev are_above : List ℕ → Bool
are_above = list_all (nat_le 48)

Lacks-above : (c : ℕ) (bytes : List ℕ) → c < 48 → are_above bytes ≡ true → Lacks c bytes
Lacks-above c [] low above = tt
Lacks-above c (byte ∷ bytes) low above =
    let parts = both_true (nat_le 48 byte) (are_above bytes) above in
    let apart : byte ≢ c = λ e. absurd (grind (arith, nat_tests)) in
    (apart, Lacks-above c bytes low parts.1)

-- no constructor's text has such a byte
pub Lacks-ctor_text : (c : ℕ) (ctor : Ctor) → c < 48 → InRange ctor → Lacks c (ctor_text ctor)
Lacks-ctor_text c (Var x) low i = Lacks-append c (codes "var:") (ident_bytes x) (Lacks-above c (codes "var:") low refl) (Lacks-ident_bytes c x low)
Lacks-ctor_text c (Num n) low i = Lacks-append c (codes "num:") (decimal n) (Lacks-above c (codes "num:") low refl) (Lacks-decimal c n i (inl low))
Lacks-ctor_text c (PVar x) low i = Lacks-append c (codes "pvar:") (ident_bytes x) (Lacks-above c (codes "pvar:") low refl) (Lacks-ident_bytes c x low)
Lacks-ctor_text c ctor low i = Lacks-above c (ctor_text ctor) low refl

-- no position's word has such a byte
pub Lacks-position_text : (c : ℕ) (position : Position) → c < 48 → Lacks c (position_text position)
Lacks-position_text c Main low = Lacks-above c (position_text Main) low refl
Lacks-position_text c Param low = Lacks-above c (position_text Param) low refl
Lacks-position_text c Annot low = Lacks-above c (position_text Annot) low refl
Lacks-position_text c Def low = Lacks-above c (position_text Def) low refl
Lacks-position_text c Body low = Lacks-above c (position_text Body) low refl
Lacks-position_text c Fun low = Lacks-above c (position_text Fun) low refl
Lacks-position_text c Arg low = Lacks-above c (position_text Arg) low refl
Lacks-position_text c Left low = Lacks-above c (position_text Left) low refl
Lacks-position_text c Right low = Lacks-above c (position_text Right) low refl
Lacks-position_text c Test low = Lacks-above c (position_text Test) low refl
Lacks-position_text c WhenTrue low = Lacks-above c (position_text WhenTrue) low refl
Lacks-position_text c WhenFalse low = Lacks-above c (position_text WhenFalse) low refl
Lacks-position_text c First low = Lacks-above c (position_text First) low refl
Lacks-position_text c Second low = Lacks-above c (position_text Second) low refl
Lacks-position_text c Operand low = Lacks-above c (position_text Operand) low refl
Lacks-position_text c Dom low = Lacks-above c (position_text Dom) low refl
Lacks-position_text c Cod low = Lacks-above c (position_text Cod) low refl
Lacks-position_text c On low = Lacks-above c (position_text On) low refl
Lacks-position_text c LeftParam low = Lacks-above c (position_text LeftParam) low refl
Lacks-position_text c LeftBody low = Lacks-above c (position_text LeftBody) low refl
Lacks-position_text c RightParam low = Lacks-above c (position_text RightParam) low refl
Lacks-position_text c RightBody low = Lacks-above c (position_text RightBody) low refl
