-- The text of names.
use Rattle.std.proofs.Common.{Result, Ok, Err, IfOk, IsErr, refl, ◌≡◌, ◌≢◌, ℕ, ◌<◌, ◌≤◌, ◌^◌, ◌⊎◌, List, ◌∷◌, ◌++◌, length, decimal, ap, sym, ◌∙◌, inl, arith, length-append}
use Rattle.std.specs.Str.Parse.{digits_value}
use Rattle.std.proofs.lemmas.Fmt.{decimal_injective, length-decimal-le}
use Rattle.text_parts.specs.Number.{IsNumberText}
use Rattle.text_parts.specs.Separated.{Lacks}
use Rattle.text_parts.proofs.Numbers.{Lacks-decimal, decimal_from_IsNumberText}
use Rattle.text_parts.proofs.Parts.{Lacks-append, first_part}
use Rattle.grove_names.specs.declared.name.Name.{Name}
use Rattle.grove_names.specs.Name.{InRange, name_text}

-- a number's text has no dot
pub Lacks_dot-decimal : (n : ℕ) → n < 2 ^ 64 → Lacks 46 (decimal n)
Lacks_dot-decimal n small = Lacks-decimal 46 n small (inl (omega arith))

-- names of the same numbers are one
pub name_from_fields : (a b : Name) → a.author ≡ b.author → a.counter ≡ b.counter → a ≡ b
name_from_fields a b author counter =
    ap (λ (n : ℕ). record a { author = n }) author ∙ ap (λ (n : ℕ). record b { counter = n }) counter

-- what stands before the first dot of a name's text, and after it
pub name_text-parts : (name : Name) → InRange name → (author counter : List ℕ) → Lacks 46 author → author ++ 46 ∷ counter ≡ name_text name → (author ≡ decimal name.author) × (counter ≡ decimal name.counter)
name_text-parts name in_range author counter none same =
    first_part 46 author (decimal name.author) counter (decimal name.counter) none (Lacks_dot-decimal name.author (omega arith)) same

-- each name has a text of its own
pub name_text_injective : (a b : Name) → InRange a → InRange b → name_text a ≡ name_text b → a ≡ b
name_text_injective a b in_a in_b same =
    let parts = name_text-parts b in_b (decimal a.author) (decimal a.counter) (Lacks_dot-decimal a.author (omega arith)) same in
    name_from_fields a b
    (decimal_injective a.author b.author (omega arith) (omega arith) parts.0)
    (decimal_injective a.counter b.counter (omega arith) (omega arith) parts.1)

-- a name's text lacks what is neither a digit nor the dot
pub Lacks-name_text : (c : ℕ) (name : Name) → InRange name → c ≢ 46 → (c < 48) ⊎ (57 < c) → Lacks c (name_text name)
Lacks-name_text c name in_range not_dot other =
    Lacks-append c (decimal name.author) (46 ∷ decimal name.counter)
    (Lacks-decimal c name.author (omega arith) other)
    ((λ same. not_dot (sym same)), Lacks-decimal c name.counter (omega arith) other)

-- it is not empty, and has at most 31 bytes
pub length-name_text : (name : Name) → InRange name → (0 < length (name_text name)) × (length (name_text name) ≤ 31)
length-name_text name in_range =
    let author = length-decimal-le 10 name.author (omega arith) (omega arith) (omega arith) in
    let counter = length-decimal-le 20 name.counter (omega arith) (omega arith) (omega arith) in
    let whole = length-append (decimal name.author) (46 ∷ decimal name.counter) in
    (omega arith, omega arith)

-- the two numbers' texts with a dot between them are a name's
pub name_text_from_parts : (author counter : List ℕ) → IsNumberText author → IsNumberText counter → digits_value 10 author < 2 ^ 32 → digits_value 10 counter < 2 ^ 64 → author ++ 46 ∷ counter ≡ name_text (record { author = digits_value 10 author; counter = digits_value 10 counter })
name_text_from_parts author counter spelled also small fits =
    ap (λ a. a ++ 46 ∷ counter) (decimal_from_IsNumberText author spelled (omega arith))
    ∙ ap (λ b. decimal (digits_value 10 author) ++ 46 ∷ b) (decimal_from_IsNumberText counter also fits)

-- what answers as reading does gives the name that a text spells
pub read_name_gives : {E : Type 0} (bytes : List ℕ) (r : Result Name E) → IfOk r (λ name. bytes ≡ name_text name) → IfOk r InRange → (IsErr r → (name : Name) → InRange name → bytes ≢ name_text name) → (name : Name) → InRange name → bytes ≡ name_text name → r ≡ Ok name
read_name_gives bytes (Ok other) found in_range refused name in_name same = ap Ok (name_text_injective other name in_range in_name (sym found ∙ same))
read_name_gives bytes (Err e) found in_range refused name in_name same = absurd (refused refl name in_name same)
