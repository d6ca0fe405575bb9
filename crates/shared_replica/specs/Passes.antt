-- What contracts see of a pass, and what its calls do.
use Rattle.std.specs.Prelude.{◌≡◌, ◌≢◌, ◌⊎◌, ℕ, ◌+◌, ◌-◌, Bool, true, false, List, [], ◌∷◌, ◌++◌, map, length, nat_eq, if◌then◌else◌}
use mathlib.Core.List.{IsPrefix}
use Rattle.grove_edits.specs.declared.actor.Actor.{Actor}
use Rattle.grove_edits.specs.declared.actor.Actor.TheVariants.{Host, Author, Send}
use Rattle.turn_lock.specs.Seats.{TurnOf}
use Rattle.turn_lock.specs.Places.{longer}
use Rattle.shared_replica.specs.declared.journal.Entry.{Entry}
use Rattle.shared_replica.specs.declared.kept.Opening.{Opening}

-- a command, and what was answered
pub record Call (C R : Type 0) : Type 0 where
  pub command : C
  pub reply : R

abbrev pub call_of : {M C E R : Type 0} → Entry M C E R → Call C R
call_of e = record { command = e.command; reply = e.reply }

abbrev pub same_actor : Actor → Actor → Bool
same_actor Host Host = true
same_actor (Author a) (Author b) = nat_eq a b
same_actor (Send j) (Send k) = nat_eq j k
same_actor _ _ = false

-- A pass. `made` are its own calls, and `joined` has those of each pass that was joined to it, with that pass's actor
pub record Passing (M C E R : Type 0) : Type 0 where
  pub shared : TurnOf (Opening M)
  pub actor : Actor
  pub parts : ℕ
  pub calls : ℕ
  pub seen : List (Entry M C E R)
  pub made : List (Call C R)
  pub joined : List (Actor × List (Call C R))

module _ {C R : Type 0} where
  -- the actor stands here
  abbrev pub IsNamed : Actor → List (Actor × List (Call C R)) → Type 0
  IsNamed actor [] = ⊥
  IsNamed actor (t ∷ ts) = (actor ≡ t.0) ⊎ IsNamed actor ts

  -- the calls of all turns, one after the other
  abbrev pub all_calls : List (List (Call C R)) → List (Call C R)
  all_calls [] = []
  all_calls (calls ∷ turns) = calls ++ all_calls turns

  -- the actor stands here once, with these calls
  abbrev pub StandsOnce : Actor → List (Call C R) → List (Actor × List (Call C R)) → Type 0
  StandsOnce actor calls [] = ⊥
  StandsOnce actor calls (t ∷ ts) = ((t.0 ≡ actor) × (t.1 ≡ calls) × ¬ (IsNamed actor ts)) ⊎ ((t.0 ≢ actor) × StandsOnce actor calls ts)

module _ {M C E R : Type 0} where
  -- the calls of this actor, in order
  abbrev pub calls_by : Actor → List (Entry M C E R) → List (Call C R)
  calls_by actor [] = []
  calls_by actor (e ∷ es) = if same_actor e.actor actor then call_of e ∷ calls_by actor es else calls_by actor es

  abbrev pub AreBy : Actor → List (Entry M C E R) → Type 0
  AreBy actor [] = Unit {0}
  AreBy actor (e ∷ es) = (e.actor ≡ actor) × AreBy actor es

  -- a pass and those joined to it, each with its actor and its calls
  abbrev pub all_made : Passing M C E R → List (Actor × List (Call C R))
  all_made pass = (pass.actor, pass.made) ∷ pass.joined

  -- the actor of each entry stands there
  abbrev pub AreNamed : List (Entry M C E R) → List (Actor × List (Call C R)) → Type 0
  AreNamed [] all = Unit {0}
  AreNamed (e ∷ es) all = IsNamed e.actor all × AreNamed es all

  -- the first pass of a machine
  abbrev pub first_pass : TurnOf (Opening M) → Passing M C E R
  first_pass shared = record { shared = shared; actor = Host; parts = shared.parts; calls = shared.calls; seen = []; made = []; joined = [] }

  -- what stays with a pass that hands over so many calls, and one part
  abbrev pub kept_pass : Passing M C E R → ℕ → Passing M C E R
  kept_pass pass calls = record pass { parts = pass.parts - 1; calls = pass.calls - calls }

  -- the pass that they are handed to
  abbrev pub given_pass : Passing M C E R → Actor → ℕ → Passing M C E R
  given_pass pass actor calls = record pass { actor = actor; parts = 1; calls = calls; made = []; joined = [] }

  -- a pass with what another one had
  abbrev pub joined_pass : Passing M C E R → Passing M C E R → Passing M C E R
  joined_pass pass other =
      record pass { parts = pass.parts + other.parts; calls = pass.calls + other.calls; seen = longer pass.seen other.seen; joined = pass.joined ++ (other.joined ++ (other.actor, other.made) ∷ []) }

  -- One turn of the pass entered these calls, and no others. They stand at the end of what the pass has then seen, next to each other
  pub record Enters (before after : Passing M C E R) (calls : List (Call C R)) : Type 0 where
    pub earlier : List (Entry M C E R)
    pub entries : List (Entry M C E R)
    pub later : IsPrefix before.seen earlier
    pub seen : after.seen ≡ earlier ++ entries
    pub are : map call_of entries ≡ calls
    pub by : AreBy before.actor entries
    pub made : after.made ≡ before.made ++ calls
    pub left : after.calls + length calls ≡ before.calls
    pub same : (after.shared ≡ before.shared) × (after.actor ≡ before.actor) × (after.parts ≡ before.parts) × (after.joined ≡ before.joined)

  -- the same of calls of these commands
  abbrev pub EntersAll : Passing M C E R → Passing M C E R → List C → Type 0
  EntersAll before after commands = (calls : List (Call C R)) × (map (λ c. c.command) calls ≡ commands) × Enters before after calls

  -- One turn of the pass after the other, each of which entered these calls and no others
  abbrev pub EntersInTurns : Passing M C E R → Passing M C E R → List (List (Call C R)) → Type 0
  EntersInTurns before after [] = before ≡ after
  EntersInTurns before after (calls ∷ turns) = (between : Passing M C E R) × Enters before between calls × EntersInTurns between after turns
