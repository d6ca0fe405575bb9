-- Lists of edits in runs.
use Rattle.std.specs.Prelude.{◌≡◌, ℕ, ◌+◌, ◌≤◌, List, [], ◌∷◌, length, map, slice_get, Some}
use Rattle.std.specs.List.{AllByRecursion, flat_map}
use Rattle.grove_edits.specs.declared.edit.Edit.{Edit}
use Rattle.grove_edits.specs.declared.actor.Actor.TheVariants.{Send}
use Rattle.shared_replica.specs.declared.journal.Entry.{Entry}
use Rattle.live_relay.specs.Parcels.{IsNumber}
use Rattle.live_relay.specs.Flow.{commands_by}
use Rattle.edit_runs.specs.declared.piece.Piece.{Piece}
use Rattle.edit_runs.specs.declared.stretch.Stretch.{Stretch}
use Rattle.edit_runs.specs.Stretch.{edits_in}

-- runs one after the other
abbrev pub joined : List (List Edit) → List Edit
joined runs = flat_map (λ run. run) runs

-- a run has some edits, and at most so many
abbrev pub IsShort : List Edit → Type 0
IsShort run = (1 ≤ length run) × (length run ≤ 64)

-- the stretches are the runs of a list, in order
pub record AreRunsOf (list : List Edit) (stretches : List Stretch) : Type 0 where
  pub whole : joined (map edits_in stretches) ≡ list
  pub short : AllByRecursion IsShort (map edits_in stretches)

-- each list was cut into runs
abbrev pub AreCut : List (List Edit) → List (List Stretch) → Type 0
AreCut [] [] = Unit {0}
AreCut [] (cut ∷ cuts) = ⊥
AreCut (list ∷ lists) [] = ⊥
AreCut (list ∷ lists) (cut ∷ cuts) = AreRunsOf list cut × AreCut lists cuts

-- the pieces that hand on runs, of which the first has this place
abbrev pub pieces_from : ℕ → List (List Edit) → List Piece
pieces_from place [] = []
pieces_from place (run ∷ runs) = record { place = place; edits = run } ∷ pieces_from (place + 1) runs

-- the pieces hand on the list: each edit once and in order, in short runs, and nothing else
pub record HandOn (list : List Edit) (pieces : List Piece) : Type 0 where
  pub runs : List (List Edit)
  pub whole : joined runs ≡ list
  pub short : AllByRecursion IsShort runs
  pub are : pieces ≡ pieces_from 1 runs

-- the entries hand on the lists, of which the first is of sender 1, and there are no others
pub record AreEntriesInRuns {M E R : Type 0} (lists : List (List Edit)) (journal : List (Entry M Piece E R)) : Type 0 where
  pub each : (index : ℕ) (list : List Edit) → slice_get lists index ≡ Some list → HandOn list (commands_by (Send (index + 1)) journal)
  pub no_other : AllByRecursion (λ entry. (number : ℕ) × IsNumber (length lists) number × (entry.actor ≡ Send number)) journal
