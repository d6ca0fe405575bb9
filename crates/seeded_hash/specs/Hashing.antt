-- What a seeded hasher computes.
use Rattle.std.specs.Prelude.{ℕ, ◌*◌, ◌/◌, ◌-◌, ◌^◌, ◌==◌, List, length, if◌then◌else◌, fold, bit_and, bit_xor}
use Rattle.std.specs.Int.{w32, w64, from_le_bytes}
use Rattle.seeded_hash.specs.declared.hasher.SeededHasher.{SeededHasher}
use Rattle.seeded_hash.specs.declared.seed.HashSeed.{HashSeed}

-- the two halves of the 128 bits of a * b, joined by exclusive or
unfoldable pub folded_product : ℕ → ℕ → ℕ
folded_product a b = bit_xor (bit_and (a * b) (2 ^ 64 - 1)) (a * b / 2 ^ 64)

-- the hasher after one more word
unfoldable pub with_word : SeededHasher → ℕ → SeededHasher
with_word h word = record h { state = folded_product (bit_xor h.state word) h.factor }

-- the hasher after some more bytes: eight or four of them are one word, the lowest first, and of others each is a word
unfoldable pub with_bytes : SeededHasher → List ℕ → SeededHasher
with_bytes h bytes =
    if length bytes == 8 then with_word h (from_le_bytes w64 bytes)
    else (if length bytes == 4 then with_word h (from_le_bytes w32 bytes) else fold with_word h bytes)

-- the hasher before the first word
abbrev pub first_hasher : HashSeed → SeededHasher
first_hasher seed = record { state = seed.state; factor = seed.factor }
