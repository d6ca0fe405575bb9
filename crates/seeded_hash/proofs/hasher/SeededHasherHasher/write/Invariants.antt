use Rattle.std.proofs.Common.{◌≡◌, take, fold}
use Rattle.seeded_hash.specs.Hashing.{with_word}
use Rattle.seeded_hash.proofs.hasher.SeededHasherHasher.write.Given as goal

abbrev pub invariant-loop-byte : goal.invariant-loop-byte
invariant-loop-byte l = l.self ≡ fold with_word l.fn.self (take l.byte-index l.bytes)
