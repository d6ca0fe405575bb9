-- Calls at places of a journal, and how a pass is seen through its seat. A seat's tag names the actor.
use Rattle.std.specs.Prelude.{◌≡◌, ℕ, zero, suc, ◌+◌, ◌*◌, ◌≤◌, false, List, [], ◌∷◌, map, slice_get, Option, Some, None}
use Rattle.grove_edits.specs.declared.actor.Actor.{Actor}
use Rattle.grove_edits.specs.declared.actor.Actor.TheVariants.{Host, Author, Send}
use Rattle.turn_lock.specs.Seats.{TurnStanding}
use Rattle.shared_replica.specs.declared.journal.Entry.{Entry}
use Rattle.shared_replica.specs.declared.kept.Opening.{Opening}
use Rattle.shared_replica.specs.Passes.{Call, call_of, Passing}

abbrev pub tag_of : Actor → ℕ
tag_of Host = 0
tag_of (Author a) = 1 + 2 * a
tag_of (Send k) = 2 + 2 * k

-- the actor that is counted so many tags on
abbrev pub next_actor : Actor → Actor
next_actor Host = Author 0
next_actor (Author a) = Send a
next_actor (Send k) = Author (k + 1)

abbrev pub actor_of : ℕ → Actor
actor_of zero = Host
actor_of (suc n) = next_actor (actor_of n)

module _ {M C E R : Type 0} where
  abbrev pub and_call : Option (Entry M C E R) → List (Call C R) → List (Call C R)
  and_call None calls = calls
  and_call (Some e) calls = call_of e ∷ calls

  -- the calls at these places
  abbrev pub calls_at : List (Entry M C E R) → List ℕ → List (Call C R)
  calls_at es [] = []
  calls_at es (p ∷ ps) = and_call (slice_get es p) (calls_at es ps)

  abbrev pub HasActor : List (Entry M C E R) → ℕ → Actor → Type 0
  HasActor es p actor = (e : Entry M C E R) × (slice_get es p ≡ Some e) × (e.actor ≡ actor)

  -- places that rise from `low` on, each with an entry of this actor
  abbrev pub ArePlaces : List (Entry M C E R) → ℕ → Actor → List ℕ → Type 0
  ArePlaces es low actor [] = Unit {0}
  ArePlaces es low actor (p ∷ ps) = (low ≤ p) × HasActor es p actor × ArePlaces es (p + 1) actor ps

  abbrev pub ArePlacesByTag : List (Entry M C E R) → List (ℕ × List ℕ) → Type 0
  ArePlacesByTag es [] = Unit {0}
  ArePlacesByTag es (t ∷ ts) = ArePlaces es 0 (actor_of t.0) t.1 × ArePlacesByTag es ts

  -- the calls stand in the list, each once and in their order, in entries of this actor
  abbrev pub StandIn : List (Entry M C E R) → Actor → List (Call C R) → Type 0
  StandIn es actor calls = (places : List ℕ) × ArePlaces es 0 actor places × (calls_at es places ≡ calls)

  abbrev pub joined_of : List (Entry M C E R) → List (ℕ × List ℕ) → List (Actor × List (Call C R))
  joined_of es ts = map (λ t. (actor_of t.0, calls_at es t.1)) ts

  -- a seat, as a pass of this actor
  abbrev pub passing : TurnStanding (Entry M C E R) (Opening M) → Actor → Passing M C E R
  passing seat actor =
      record { shared = seat.turn; actor = actor; parts = seat.parts; calls = seat.calls; seen = seat.seen; made = calls_at seat.seen seat.put; joined = joined_of seat.seen seat.joined }

  -- the seat rests, and the places that it knows are those of its actors
  pub record IsPassOf (seat : TurnStanding (Entry M C E R) (Opening M)) (actor : Actor) : Type 0 where
    pub tag : seat.tag ≡ tag_of actor
    pub rests : seat.begun ≡ false
    pub put : ArePlaces seat.seen 0 actor seat.put
    pub joined : ArePlacesByTag seat.seen seat.joined
