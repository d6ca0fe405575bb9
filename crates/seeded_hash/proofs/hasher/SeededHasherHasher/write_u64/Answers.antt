use Rattle.std.proofs.Common.{sym, ap, ◌∙◌}
use Rattle.std.specs.Hash.{le_bytes}
use Rattle.std.proofs.lemmas.Nat.{from_le_bytes-to_le_bytes_8}
use Rattle.seeded_hash.specs.Hashing.{with_word, with_bytes}
use Rattle.seeded_hash.proofs.hasher.SeededHasherHasher.write_u64.Goals as goal

pub returns : goal.returns
unfolding with_bytes le_bytes
returns c = c.add.ensures ∙ ap (with_word c.args.self.now) (sym (from_le_bytes-to_le_bytes_8 c.args.i c.ranges.i.fits))
