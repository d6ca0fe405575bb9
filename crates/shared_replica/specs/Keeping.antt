-- How a machine with its journal is the state of a turn.
use Rattle.std.specs.Prelude.{◌≡◌, []}
use Rattle.std.proofs.Common.{refl, sym, subst}
use Rattle.grove_edits.specs.declared.actor.Actor.{Actor}
use Rattle.shared_replica.specs.declared.kept.Opening.{Opening}
use Rattle.shared_replica.specs.Solos.{Journaled, Replays}

module _ {M C E R : Type 0} where
  -- the model data, and the number of calls
  abbrev pub opening_of : Journaled M C E R → Opening M
  opening_of solo = record { machine = solo.machine; calls = solo.calls }

  module _ (after : M → Actor → C → M) (effect : M → Actor → C → E) (reply : M → Actor → C → R) where
    -- the journal leads from these data to the present machine, and the number of calls stayed
    abbrev pub Leads : Opening M → Journaled M C E R → Type 0
    Leads first solo = (solo.calls ≡ first.calls) × Replays after effect reply first.machine solo.journal solo.machine

    -- an empty journal leads from the present machine to itself
    pub Leads-self : (solo : Journaled M C E R) → solo.journal ≡ [] → Leads (opening_of solo) solo
    Leads-self solo empty = (refl, subst (λ es. Replays after effect reply solo.machine es solo.machine) (sym empty) record { steps = tt; is = refl })
