use Rattle.std.proofs.Common.{◌≡◌, ◌≤◌, length, take}
use Rattle.std.specs.Prelude.{vec_capacity}
use Rattle.edit_runs.specs.Runs.{AreCut}
use Rattle.edit_runs.proofs.relaying.cut_all.Given as goal

-- the lists so far were cut
pub record Cut (l : goal.Live-loop-list) : Type 0 where
  pub cut : AreCut (take l.list-index l.lists) l.cuts.items
  pub many : length l.cuts.items ≡ l.list-index
  pub room : length l.lists ≤ vec_capacity l.cuts

abbrev pub invariant-loop-list : goal.invariant-loop-list
invariant-loop-list l = Cut l
