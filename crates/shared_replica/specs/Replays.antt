-- The journal of a machine. A step of the machine is given by three functions of the machine, the actor and the command: the machine after it, what it did, and what it answered.
use Rattle.std.specs.Prelude.{◌≡◌, List, [], ◌∷◌}
use Rattle.grove_edits.specs.declared.actor.Actor.{Actor}
use Rattle.shared_replica.specs.declared.journal.Entry.{Entry}

module _ {M C E R : Type 0} where
  -- the machine after these entries
  abbrev pub machine_after : (M → Actor → C → M) → M → List (Entry M C E R) → M
  machine_after after machine [] = machine
  machine_after after machine (e ∷ es) = machine_after after (after machine e.actor e.command) es

  -- each entry has what the machine's step did and answered there
  abbrev pub AreSteps : (M → Actor → C → M) → (M → Actor → C → E) → (M → Actor → C → R) → M → List (Entry M C E R) → Type 0
  AreSteps after effect reply machine [] = Unit {0}
  AreSteps after effect reply machine (e ∷ es) =
      (e.effect ≡ effect machine e.actor e.command) × (e.reply ≡ reply machine e.actor e.command) × AreSteps after effect reply (after machine e.actor e.command) es

  -- the entry of a step
  abbrev pub entry_of : (M → Actor → C → E) → (M → Actor → C → R) → M → Actor → C → Entry M C E R
  entry_of effect reply machine actor command = record { actor = actor; command = command; effect = effect machine actor command; reply = reply machine actor command }
