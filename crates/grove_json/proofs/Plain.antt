-- The columns of the print text are of plain bytes, which are ASCII and stand in JSON as they are.
use Rattle.std.proofs.Common.{◌≡◌, ℕ, zero, suc, ◌+◌, ◌-◌, ◌<◌, ◌≤◌, ◌/◌, ◌%◌, Bool, true, false, cond, List, [], ◌∷◌, ◌++◌, take, ◌⊎◌, inl, inr, lit<, refl, ap, ◌∙◌, arith}
use Rattle.std.specs.Prelude.{◌&&◌, ◌||◌, ◌==◌, nat_lt, nat_le, codes, decimal, Option, None, Some}
use Rattle.std.specs.Fmt.{digits, digits_onto, digit_glyph}
use Rattle.std.specs.List.{list_all}
use Rattle.std.specs.Str.{IsAscii}
use Rattle.std.proofs.lemmas.Bool.{leb-true, le-leb, lt-ltb, le-ltb, eqb-true, ne_eqb}
use Rattle.std.proofs.lemmas.List.Folds.{list_all-append}
use Rattle.std.proofs.lemmas.List.Concat.{flat_map-cons}
use Rattle.std.proofs.lemmas.Nat.{mod_below}
use Rattle.std.proofs.lemmas.Str.Ascii.{IsAscii-nil, IsAscii-cons}
use Rattle.json.specs.Print.{escape_byte, escape}
use Rattle.grove_names.specs.declared.name.Name.{Name}
use Rattle.grove_names.specs.Name.{name_text}
use Rattle.grove_sorts.specs.declared.ident.Ident.{Ident}
use Rattle.grove_sorts.specs.declared.version.Version.TheVariants.{Two}
use Rattle.grove_sorts.specs.declared.position.Position.{Position}
use Rattle.grove_sorts.specs.declared.position.Position.TheVariants as position
use Rattle.grove_sorts.specs.declared.sort.Sort.{Sort}
use Rattle.grove_sorts.specs.declared.sort.Sort.TheVariants as sort
use Rattle.grove_sorts.specs.declared.ctor.Ctor.{Ctor}
use Rattle.grove_sorts.specs.declared.ctor.Ctor.TheVariants as ctor
use Rattle.grove_sorts.specs.Identifier.{is_identifier, is_inner_byte, is_lowercase_letter}
use Rattle.grove_sorts.specs.Ident.{ident_bytes}
use Rattle.grove_sorts.specs.Position.{position_text}
use Rattle.grove_sorts.specs.Sort.{sort_text}
use Rattle.grove_sorts.specs.Ctor.{ctor_text}
use Rattle.grove_sorts.proofs.Truths.{both_true, or_left, or_right}
use Rattle.grove_edits.specs.declared.edge.Edge.{Edge}
use Rattle.grove_terms.specs.declared.node.What.{What}
use Rattle.grove_terms.specs.declared.node.What.TheVariants.{Vertex, Hole, Conflict, MultiRef, CycleRef}
use Rattle.type_core.specs.declared.former.Former.{Former}
use Rattle.type_core.specs.declared.former.Former.TheVariants.{Arrow, Product, Sum}
use Rattle.type_core.specs.Typ.{Typ, Unknown, Num, Boolean, Pair, type_text, sign}
use Rattle.mark_step.specs.declared.node.Mark.{Mark}
use Rattle.mark_step.specs.declared.node.Mark.TheVariants as mark
use Rattle.mark_step.specs.Expression.{Wanted, Synthesise, Analyse}
use Rattle.grove_printer.specs.Print.{dash, position_column, edge_column, vertex_column, what_column, mode_column, type_column, mark_text}

-- ---- bytes

-- from an opening parenthesis to a question mark, or from an underscore to the last letter
abbrev pub is_plain : ℕ → Bool
is_plain b = (nat_le 40 b && nat_le b 63) || (nat_le 95 b && nat_le b 122)

abbrev pub IsPlain : List ℕ → Type 0
IsPlain bs = list_all is_plain bs ≡ true

-- the byte lies in one of the two ranges
pub data LiesIn (b : ℕ) : Type 0 where
  in_low : 40 ≤ b → b ≤ 63 → LiesIn b
  in_high : 95 ≤ b → b ≤ 122 → LiesIn b

ranges : (b : ℕ) → is_plain b ≡ true → LiesIn b
ranges b h = by_low (nat_le 40 b && nat_le b 63) refl h where
  by_low : (low : Bool) → (nat_le 40 b && nat_le b 63) ≡ low → (low || (nat_le 95 b && nat_le b 122)) ≡ true → LiesIn b
  by_low true is h2 = let parts = both_true (nat_le 40 b) (nat_le b 63) is in in_low (leb-true 40 b parts.0) (leb-true b 63 parts.1)
  by_low false is h2 = let parts = both_true (nat_le 95 b) (nat_le b 122) h2 in in_high (leb-true 95 b parts.0) (leb-true b 122 parts.1)

both : (a b : Bool) → a ≡ true → b ≡ true → (a && b) ≡ true
both true b ha hb = hb
both false b ha hb = ha

low_plain : (b : ℕ) → 40 ≤ b → b ≤ 63 → is_plain b ≡ true
low_plain b from to = or_left (nat_le 40 b && nat_le b 63) (nat_le 95 b && nat_le b 122) (both (nat_le 40 b) (nat_le b 63) (le-leb 40 b from) (le-leb b 63 to))

high_plain : (b : ℕ) → 95 ≤ b → b ≤ 122 → is_plain b ≡ true
high_plain b from to = or_right (nat_le 40 b && nat_le b 63) (nat_le 95 b && nat_le b 122) (both (nat_le 95 b) (nat_le b 122) (le-leb 95 b from) (le-leb b 122 to))

plain_append : (a b : List ℕ) → IsPlain a → IsPlain b → IsPlain (a ++ b)
plain_append a b of_a of_b = list_all-append is_plain a b ∙ both (list_all is_plain a) (list_all is_plain b) of_a of_b

plain_cons : (b : ℕ) (bs : List ℕ) → is_plain b ≡ true → IsPlain bs → IsPlain (b ∷ bs)
plain_cons b bs first rest = both (is_plain b) (list_all is_plain bs) first rest

-- ---- what plain bytes are

below_ascii : (b : ℕ) → LiesIn b → b < 128
below_ascii b (in_low from to) = omega (arith, to)
below_ascii b (in_high from to) = omega (arith, to)

pub plain_ascii : (bs : List ℕ) → IsPlain bs → IsAscii bs
plain_ascii [] h = IsAscii-nil
plain_ascii (b ∷ bs) h = let parts = both_true (is_plain b) (list_all is_plain bs) h in IsAscii-cons b bs (below_ascii b (ranges b parts.0)) (plain_ascii bs parts.1)

not_quote : (b k : ℕ) → LiesIn b → (k < 40) ⊎ ((63 < k) × (k < 95)) → (b == k) ≡ false
not_quote b k (in_low from to) (inl under) = ne_eqb b k (λ same. omega (arith, from, under, same))
not_quote b k (in_high from to) (inl under) = ne_eqb b k (λ same. omega (arith, from, under, same))
not_quote b k (in_low from to) (inr between) = ne_eqb b k (λ same. omega (arith, to, between.0, same))
not_quote b k (in_high from to) (inr between) = ne_eqb b k (λ same. omega (arith, from, between.1, same))

not_control : (b : ℕ) → LiesIn b → nat_lt b 32 ≡ false
not_control b (in_low from to) = le-ltb b 32 (omega (arith, from))
not_control b (in_high from to) = le-ltb b 32 (omega (arith, from))

byte_stays : (b : ℕ) → LiesIn b → escape_byte b ≡ b ∷ []
unfolding escape_byte
byte_stays b in_range =
    let quote : (b == 34) ≡ false = not_quote b 34 in_range (inl (lit< tt)) in
    let backslash : (b == 92) ≡ false = not_quote b 92 in_range (inr (lit< tt, lit< tt)) in
    let e8 : (b == 8) ≡ false = not_quote b 8 in_range (inl (lit< tt)) in
    let e9 : (b == 9) ≡ false = not_quote b 9 in_range (inl (lit< tt)) in
    let e10 : (b == 10) ≡ false = not_quote b 10 in_range (inl (lit< tt)) in
    let e12 : (b == 12) ≡ false = not_quote b 12 in_range (inl (lit< tt)) in
    let e13 : (b == 13) ≡ false = not_quote b 13 in_range (inl (lit< tt)) in
    let control : nat_lt b 32 ≡ false = not_control b in_range in
    simp (quote, backslash, e8, e9, e10, e12, e13, control)

pub plain_stays : (bs : List ℕ) → IsPlain bs → escape bs ≡ bs
plain_stays [] h = refl
plain_stays (b ∷ bs) h =
    let parts = both_true (is_plain b) (list_all is_plain bs) h in
    flat_map-cons escape_byte b bs ∙ ap (λ xs. xs ++ escape bs) (byte_stays b (ranges b parts.0)) ∙ ap (λ xs. b ∷ xs) (plain_stays bs parts.1)

-- ---- numbers

glyph_plain : (d : ℕ) → d < 10 → is_plain (digit_glyph false d) ≡ true
glyph_plain d lt = let glyph : digit_glyph false d ≡ 48 + d = ap (λ b. cond b (48 + d) (87 + d)) (lt-ltb d 10 lt) in low_plain (digit_glyph false d) (omega (arith, glyph, lt)) (omega (arith, glyph, lt))

onto_plain : (k n : ℕ) (acc : List ℕ) → IsPlain acc → IsPlain (digits_onto k 10 false n acc)
onto_plain zero n acc h = h
onto_plain (suc k) n acc h =
    let glyph = digit_glyph false (n % 10) in
    let more : IsPlain (glyph ∷ acc) = plain_cons glyph acc (glyph_plain (n % 10) (mod_below n 10 (omega arith))) h in
    elim (n / 10 == 0) as (λ b. IsPlain (cond b (glyph ∷ acc) (digits_onto k 10 false (n / 10) (glyph ∷ acc)))) [ true ↦ more | false ↦ onto_plain k (n / 10) (glyph ∷ acc) more ]

decimal_plain : (n : ℕ) → IsPlain (decimal n)
unfolding digits
decimal_plain n = onto_plain 64 n [] refl

name_plain : (n : Name) → IsPlain (name_text n)
name_plain n = plain_append (decimal n.author) (46 ∷ decimal n.counter) (decimal_plain n.author) (plain_cons 46 (decimal n.counter) refl (decimal_plain n.counter))

-- ---- identifiers

letter_plain : (b : ℕ) → is_lowercase_letter b ≡ true → is_plain b ≡ true
letter_plain b h = let parts = both_true (nat_le 97 b) (nat_le b 122) h in let from = leb-true 97 b parts.0 in high_plain b (omega (arith, from)) (leb-true b 122 parts.1)

inner_plain : (b : ℕ) → is_inner_byte b ≡ true → is_plain b ≡ true
inner_plain b h = by_letter (is_lowercase_letter b) refl (nat_le 48 b && nat_le b 57) refl h where
  by_letter : (s : Bool) → is_lowercase_letter b ≡ s → (t : Bool) → (nat_le 48 b && nat_le b 57) ≡ t → (s || t || (b == 95)) ≡ true → is_plain b ≡ true
  by_letter true letter t digit is = letter_plain b letter
  by_letter false letter true digit is =
      let parts = both_true (nat_le 48 b) (nat_le b 57) digit in
      let from = leb-true 48 b parts.0 in
      let to = leb-true b 57 parts.1 in
      low_plain b (omega (arith, from)) (omega (arith, to))
  by_letter false letter false digit is = let same = eqb-true b 95 is in high_plain b (omega (arith, same)) (omega (arith, same))

inners_plain : (bs : List ℕ) → list_all is_inner_byte bs ≡ true → IsPlain bs
inners_plain [] h = refl
inners_plain (b ∷ bs) h = let parts = both_true (is_inner_byte b) (list_all is_inner_byte bs) h in plain_cons b bs (inner_plain b parts.0) (inners_plain bs parts.1)

identifier_plain : (bs : List ℕ) → is_identifier Two bs ≡ true → IsPlain bs
identifier_plain [] h = absurd cc
identifier_plain (b ∷ bs) h =
    let first = both_true (is_lowercase_letter b && list_all is_inner_byte bs) _ h in
    let parts = both_true (is_lowercase_letter b) (list_all is_inner_byte bs) first.0 in
    plain_cons b bs (letter_plain b parts.0) (inners_plain bs parts.1)

ident_plain : (x : Ident) → IsPlain (ident_bytes x)
ident_plain x = identifier_plain (take x.len x.bytes) x.spelled

-- ---- words

position_text_plain : (p : Position) → IsPlain (position_text p)
position_text_plain position.Main = refl
position_text_plain _ = refl

sort_plain : (s : Sort) → IsPlain (sort_text s)
sort_plain sort.Top = refl
sort_plain sort.Exp = refl
sort_plain sort.Pat = refl
sort_plain sort.Typ = refl

dash_plain : IsPlain dash
dash_plain = refl

ctor_plain : (c : Ctor) → IsPlain (ctor_text c)
ctor_plain (ctor.Var x) = plain_append (codes "var:") (ident_bytes x) refl (ident_plain x)
ctor_plain (ctor.PVar x) = plain_append (codes "pvar:") (ident_bytes x) refl (ident_plain x)
ctor_plain (ctor.Num n) = plain_append (codes "num:") (decimal n) refl (decimal_plain n)
ctor_plain _ = refl

sign_plain : (f : Former) → IsPlain (sign f)
sign_plain Arrow = refl
sign_plain Product = refl
sign_plain Sum = refl

type_plain : (levels : ℕ) (t : Typ) → IsPlain (type_text levels t)
type_plain levels Unknown = refl
type_plain levels Num = refl
type_plain levels Boolean = refl
type_plain levels (Pair f a b) =
    let first = type_text (levels - 1) a in
    let second = type_text (levels - 1) b in
    let open_a = plain_append (codes "(") first refl (type_plain (levels - 1) a) in
    let signed = plain_append (codes "(" ++ first) (sign f) open_a (sign_plain f) in
    let both = plain_append (codes "(" ++ first ++ sign f) second signed (type_plain (levels - 1) b) in
    let whole = plain_append (codes "(" ++ first ++ sign f ++ second) (codes ")") both refl in
    elim (levels == 0) as (λ e. IsPlain (cond e (codes "..") (codes "(" ++ first ++ sign f ++ second ++ codes ")"))) [ true ↦ refl | false ↦ whole ]

-- ---- the columns

pub position_plain : (p : Option Position) → IsPlain (position_column p)
position_plain None = dash_plain
position_plain (Some p) = position_text_plain p

pub edge_plain : (e : Option Edge) → IsPlain (edge_column e)
edge_plain None = dash_plain
edge_plain (Some e) = name_plain e.name

pub vertex_plain : (w : What) → IsPlain (vertex_column w)
vertex_plain (Vertex v) = name_plain v.name
vertex_plain (MultiRef v) = name_plain v.name
vertex_plain (CycleRef v) = name_plain v.name
vertex_plain (Hole s) = dash_plain
vertex_plain (Conflict s count) = dash_plain

pub what_plain : (w : What) → IsPlain (what_column w)
what_plain (Vertex v) = ctor_plain v.ctor
what_plain (Hole s) = refl
what_plain (Conflict s count) = plain_append (codes "conflict:") (decimal count) refl (decimal_plain count)
what_plain (MultiRef v) = plain_append (codes "multi:") (ctor_text v.ctor) refl (ctor_plain v.ctor)
what_plain (CycleRef v) = plain_append (codes "cycle:") (ctor_text v.ctor) refl (ctor_plain v.ctor)

pub mode_plain : (s : Sort) (w : Option Wanted) → IsPlain (mode_column s w)
mode_plain s None = sort_plain s
mode_plain s (Some Synthesise) = refl
mode_plain s (Some (Analyse t)) = plain_append (codes "ana:") (type_text 8 t) refl (type_plain 8 t)

pub type_column_plain : (t : Option Typ) → IsPlain (type_column t)
type_column_plain None = dash_plain
type_column_plain (Some t) = type_plain 8 t

pub mark_plain : (m : Mark) → IsPlain (mark_text m)
mark_plain mark.None = dash_plain
mark_plain mark.Free = refl
mark_plain mark.NotArrow = refl
mark_plain mark.NotProduct = refl
mark_plain mark.Branches = refl
mark_plain mark.LamAgainst = refl
mark_plain mark.Ascription = refl
mark_plain mark.PairAgainst = refl
mark_plain mark.Inconsistent = refl
mark_plain mark.NotSum = refl
mark_plain mark.InjAgainst = refl
