-- What stands after the word that a text begins with.
use Rattle.std.proofs.Common.{◌≡◌, ◌≢◌, ℕ, ◌+◌, ◌++◌, List, length, take, drop, Option, Some, None, MatchOption, IfSome, IfNone, true, false, nat_eq}
use Rattle.std.proofs.lemmas.Slice.Eq.{strip_prefix_is}
use Rattle.std.proofs.lemmas.Bool.Decides.{Decides-eqb}
use Rattle.std.specs.Cmp.Lexicographic.{pointwise}
use Rattle.std.specs.Borrow.{Bor}

-- what the removal of a word from the front of a text answers
abbrev Stripped : List ℕ → List ℕ → Option (Bor (List ℕ)) → Type 0
Stripped bytes word r =
    MatchOption r (pointwise nat_eq (take (length word) bytes) word ≡ false) (λ x. (pointwise nat_eq (take (length word) bytes) word ≡ true) × (x.now ≡ drop (length word) bytes) × (length x.now + length word ≡ length bytes))

pub after_word_found : (bytes word : List ℕ) (r : Option (Bor (List ℕ))) → Stripped bytes word r → IfSome r (λ rest. bytes ≡ word ++ rest.now)
after_word_found bytes word None h = tt
after_word_found bytes word (Some x) h = strip_prefix_is Decides-eqb bytes word (Some x) h

pub after_word_none : (bytes word : List ℕ) (r : Option (Bor (List ℕ))) → Stripped bytes word r → IfNone r ((rest : List ℕ) → bytes ≢ word ++ rest)
after_word_none bytes word None h = strip_prefix_is Decides-eqb bytes word None h
after_word_none bytes word (Some x) h = tt
