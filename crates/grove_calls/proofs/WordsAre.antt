-- The one word of a command.
use Rattle.std.specs.declared.alloc.Global.{Global}
use Rattle.std.proofs.Common.{◌≡◌, ℕ, ◌<◌, ◌≤◌, Bool, false, List, [], ◌∷◌, length, get_or, map, IsTrue, nat_eq, sym, ap, ◌∙◌, arith}
use Rattle.std.specs.Prelude.{String, string_bytes}
use Rattle.std.proofs.lemmas.Bool.{false≢true}
use lib.Pointwise.{pointwise}
use Rattle.std.proofs.lemmas.Slice.Eq.{bytes_eq-Decides}

abbrev Words : Type 0
Words = List (String Global)

abbrev texts : Words → List (List ℕ)
texts words = map string_bytes words

only_of : (x y : List ℕ) → x ∷ [] ≡ y ∷ [] → x ≡ y
only_of x y e = cc

-- a list of one word has the text of that word
pub one_word : (words : Words) (word : String Global) (bytes text : List ℕ) (r : Bool) → 1 ≤ length words → length words < 2 → word ≡ get_or words 0 word
    → bytes ≡ string_bytes word → r ≡ pointwise nat_eq bytes text → (IsTrue r → texts words ≡ text ∷ []) × (texts words ≡ text ∷ [] → IsTrue r)
one_word [] word bytes text r some few is same test = absurd (omega arith)
one_word (x ∷ []) word bytes text r some few is same test =
    let decided = bytes_eq-Decides bytes text in
    let of_x : bytes ≡ string_bytes x = same ∙ ap string_bytes is in (
      λ holds. ap (λ (b : List ℕ). b ∷ []) (sym of_x ∙ decided.0 (sym test ∙ holds)),
      λ e. test ∙ decided.1 (of_x ∙ only_of (string_bytes x) text e),
    )
one_word (x ∷ y ∷ zs) word bytes text r some few is same test = absurd (omega arith)

-- a test that failed does not hold
pub no_at_false : (b : Bool) → b ≡ false → IsTrue b → ⊥
no_at_false b no_such holds = false≢true (sym no_such ∙ holds)
