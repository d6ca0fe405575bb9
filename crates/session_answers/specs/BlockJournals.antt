-- The journals of one block.
use Rattle.std.specs.Prelude.{ℕ, ◌+◌, List, [], ◌∷◌}
use Rattle.session_report.specs.Journal.{Entries}
use Rattle.session_report.specs.Taken.{Journals}

module _ {M : Type 0} where
  -- the journals of a block of the replicas from a number on, with these entries each
  abbrev pub block_journals : ℕ → ℕ → List (Entries M) → Journals M
  block_journals block replica [] = []
  block_journals block replica (entries ∷ more) = record { block = block; replica = replica; journal = entries } ∷ block_journals block (replica + 1) more
