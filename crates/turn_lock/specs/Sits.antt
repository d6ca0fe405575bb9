-- How a seat's place at the table is seen by contracts.
use Rattle.std.specs.Prelude.{◌≡◌, ℕ, ◌+◌, ◌<◌, ◌^◌, true, false, [], ◌∷◌, Option, Some, None}
use Rattle.std.specs.Option.{is_some}
use Rattle.std.proofs.lemmas.Bool.{false≢true}
use Rattle.atomic_table.specs.Seated.{TableId}
use Rattle.turn_lock.specs.declared.known.Known.{Known}
use Rattle.turn_lock.specs.declared.known.Opening.{Opening}
use Rattle.turn_lock.specs.Seats.{TurnOf, TurnStanding}
use Rattle.turn_lock.specs.Rule.{Place}

abbrev pub turn_of : {F : Type 0} → TableId → Opening F → TurnOf F
turn_of table o = record { table = table; calls = o.calls; parts = o.parts; first = o.first }

-- what is there
abbrev pub from_some : {A : Type 0} (o : Option A) → is_some o ≡ true → A
from_some None e = absurd (false≢true e)
from_some (Some x) e = x

abbrev pub standing : {E F : Type 0} → TableId → (v : Known E F) → is_some v.opening ≡ true → TurnStanding E F
standing table v opened =
    record { turn = turn_of table (from_some v.opening opened); parts = v.parts; calls = v.calls; tag = v.tag; seen = v.seen; put = v.put; joined = v.joined; begun = v.turn }

-- A seat is at rest, or it has the turn and the state is out with it
pub record Sits {S E F : Type 0} (me : Place S E F) (number : ℕ) : Type 0 where
  pub some_part : 0 < me.0.parts
  pub told : me.0.told ≡ []
  pub rests : me.0.turn ≡ false → (me.0.ticket ≡ None) × (me.1 ≡ [])
  pub acts : me.0.turn ≡ true → (me.0.ticket ≡ Some number) × (number + 1 < 2 ^ 64) × (me.1 ≡ (0, None) ∷ [])
