-- Identifiers: what their fields keep, and that an identifier is its bytes.
use Rattle.std.proofs.Common.{◌≡◌, ℕ, ◌-◌, ◌≤◌, ◌++◌, List, length, take, drop, replicate, refl, ap, sym, subst, ◌∙◌, arith}
use Rattle.std.proofs.Props.{props}
use Rattle.std.proofs.lemmas.List.{take-append-drop, length-take}
use Rattle.std.proofs.Math.Seq.{take-append_seam}
use Rattle.grove_sorts.specs.declared.version.Version.TheVariants.{Two}
use Rattle.grove_sorts.specs.Identifier.{IsIdentifier}
use Rattle.grove_sorts.specs.Ident.{ident_bytes}
use Rattle.grove_sorts.specs.Padded.{Kept}
use Rattle.grove_sorts.specs.Spelled.{ident_of}
use Rattle.grove_sorts.specs.declared.ident.Ident.{Ident}

Kept-prop : (bytes : List ℕ) (len : ℕ) → IsProp (Kept bytes len)
Kept-prop bytes len = hlevel props

abbrev made : (bytes : List ℕ) (len : ℕ) → Kept bytes len → Ident
made bytes len kept = record { bytes = bytes; len = len; whole = kept.0; short = kept.1; spelled = kept.2; padded = kept.3 }

-- identifiers with the same bytes and length are one, whatever proofs they hold
made_same : (bytes : List ℕ) (len : ℕ) (kept : Kept bytes len) (others : List ℕ) (n : ℕ) → bytes ≡ others → len ≡ n → (held : Kept others n) → made bytes len kept ≡ made others n held
made_same bytes len kept others n same_bytes same_len =
    subst (λ xs. (held : Kept xs n) → made bytes len kept ≡ made xs n held) same_bytes
    (subst (λ k. (held : Kept bytes k) → made bytes len kept ≡ made bytes k held) same_len
    (λ held. ap (made bytes len) (Kept-prop bytes len kept held)))

same_length : (xs ys : List ℕ) (m n : ℕ) → length xs ≡ 64 → length ys ≡ 64 → m ≤ 64 → n ≤ 64 → take m xs ≡ take n ys → m ≡ n
same_length xs ys m n p q r s e =
    omega (arith, simp length-take at (ap length e))

same_padded : (xs ys : List ℕ) (m n : ℕ) → m ≡ n → take m xs ≡ take n ys → drop m xs ≡ replicate (64 - m) 0 → drop n ys ≡ replicate (64 - n) 0 → xs ≡ ys
same_padded xs ys m n e t p q =
    sym (take-append-drop m xs) ∙ (let d : drop m xs ≡ drop n ys = p ∙ ap (λ k. replicate (64 - k) 0) e ∙ sym q in
    ap (λ zs. zs ++ drop m xs) t ∙ ap (λ zs. take n ys ++ zs) d) ∙ take-append-drop n ys

pub identifier_spelled : (x : Ident) → IsIdentifier Two (ident_bytes x)
identifier_spelled x = x.spelled

-- an identifier is its bytes
pub ident_exact : (a b : Ident) → ident_bytes a ≡ ident_bytes b → a ≡ b
ident_exact a b e =
    let same_len : a.len ≡ b.len = same_length a.bytes b.bytes a.len b.len a.whole b.whole a.short b.short e in
    made_same a.bytes a.len (a.whole, a.short, a.spelled, a.padded) b.bytes b.len
    (same_padded a.bytes b.bytes a.len b.len same_len e a.padded b.padded)
    same_len
    (b.whole, b.short, b.spelled, b.padded)

-- bytes that spell an identifier are its bytes
pub spelled_bytes : (bytes : List ℕ) (is : IsIdentifier Two bytes) → ident_bytes (ident_of bytes is) ≡ bytes
unfolding ident_of
spelled_bytes bytes is = rw take-append_seam refl

-- an identifier is the one that its bytes spell
pub spelled_again : (ident : Ident) (is : IsIdentifier Two (ident_bytes ident)) → ident_of (ident_bytes ident) is ≡ ident
spelled_again ident is = ident_exact (ident_of (ident_bytes ident) is) ident (spelled_bytes (ident_bytes ident) is)
