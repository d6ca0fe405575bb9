-- What contracts see of a machine with its journal.
use Rattle.std.specs.Prelude.{◌≡◌, ℕ, List, [], ◌∷◌, ◌++◌}
use Rattle.grove_edits.specs.declared.actor.Actor.{Actor}
use Rattle.shared_replica.specs.declared.journal.Entry.{Entry}
use Rattle.shared_replica.specs.Replays.{machine_after, AreSteps, entry_of}

-- A machine, and the entries of its journal, of which there are at most `calls`
pub record Journaled (M C E R : Type 0) : Type 0 where
  pub machine : M
  pub journal : List (Entry M C E R)
  pub calls : ℕ

module _ {M C E R : Type 0} (after : M → Actor → C → M) (effect : M → Actor → C → E) (reply : M → Actor → C → R) where
  -- with one step more
  abbrev pub with_step : Journaled M C E R → Actor → C → Journaled M C E R
  with_step solo actor command =
      record solo { machine = after solo.machine actor command; journal = solo.journal ++ entry_of effect reply solo.machine actor command ∷ [] }

  -- with a step for each command, in order
  abbrev pub with_steps : Journaled M C E R → Actor → List C → Journaled M C E R
  with_steps solo actor [] = solo
  with_steps solo actor (c ∷ cs) = with_steps (with_step solo actor c) actor cs

  -- the journal leads from the machine that it began with to the present one
  pub record Replays (first : M) (journal : List (Entry M C E R)) (machine : M) : Type 0 where
    pub steps : AreSteps after effect reply first journal
    pub is : machine ≡ machine_after after first journal
