use Rattle.seeded_hash.specs.Hashing.{with_word}
use Rattle.seeded_hash.proofs.hasher.SeededHasher.add.Goals as goal

pub returns : goal.returns
unfolding with_word
returns c = rw c.folded_product-self.ensures
