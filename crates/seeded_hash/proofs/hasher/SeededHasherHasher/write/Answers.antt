use Rattle.std.proofs.Common.{take_all, rules}
use Rattle.std.proofs.hash.Loops.{byte_more}
use Rattle.seeded_hash.specs.Hashing.{with_bytes}
use Rattle.seeded_hash.proofs.hasher.SeededHasherHasher.write.Goals as goal

pub loop-byte-preserved : goal.loop-byte-preserved
loop-byte-preserved c = search (rules, byte_more)

pub returns-then-bytes-eq8 : goal.returns-then-bytes-eq8
unfolding with_bytes
returns-then-bytes-eq8 c = rw (c.if-bytes-eq8.true, ← c.word_of_eight.ensures, ← c.add.ensures)

pub returns-then-bytes-eq4 : goal.returns-then-bytes-eq4
unfolding with_bytes
returns-then-bytes-eq4 c = rw (c.if-bytes-eq4.true, ← c.word_of_four.ensures, ← c.add-then-bytes-eq4.ensures)

pub returns-after-loop-byte : goal.returns-after-loop-byte
unfolding with_bytes
returns-after-loop-byte c = search (rules, take_all)
