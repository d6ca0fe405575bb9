-- Calls whose entries stand next to each other.
use Rattle.std.specs.Prelude.{◌≡◌, ◌≢◌, List, [], ◌∷◌, ◌++◌, map}
use Rattle.std.specs.List.{AllByRecursion}
use Rattle.grove_edits.specs.declared.actor.Actor.{Actor}
use Rattle.shared_replica.specs.declared.journal.Entry.{Entry}
use Rattle.shared_replica.specs.Passes.{Call, call_of, AreBy}

module _ {M C E R : Type 0} where
  -- The runs of calls stand in the list as entries of this actor, the calls of a run in order and next to each other, and each run in what
  -- is left behind the one before it
  abbrev pub StandInOrder : Actor → List (Entry M C E R) → List (List (Call C R)) → Type 0
  StandInOrder actor journal [] = Unit {0}
  StandInOrder actor journal (calls ∷ runs) =
      (earlier entries later : List (Entry M C E R)) × (journal ≡ earlier ++ (entries ++ later)) × (map call_of entries ≡ calls) × AreBy actor entries × StandInOrder actor later runs

  -- no entry is of this actor
  abbrev pub AreOfOthers : Actor → List (Entry M C E R) → Type 0
  AreOfOthers actor entries = AllByRecursion (λ entry. entry.actor ≢ actor) entries

  -- The same, and the actor has no other entry: between two runs there are entries of others alone
  abbrev pub AreRunsOf : Actor → List (Entry M C E R) → List (List (Call C R)) → Type 0
  AreRunsOf actor journal [] = AreOfOthers actor journal
  AreRunsOf actor journal (calls ∷ runs) =
      (earlier entries later : List (Entry M C E R)) × (journal ≡ earlier ++ (entries ++ later)) × AreOfOthers actor earlier × (map call_of entries ≡ calls) × AreBy actor entries × AreRunsOf actor later runs
