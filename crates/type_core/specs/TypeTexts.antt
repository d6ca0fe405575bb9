-- The texts of types that a printer keeps, one behind another.
use Rattle.std.specs.Prelude.{◌≡◌, ℕ, ◌≤◌, List, ◌++◌, length, Option, Some, slice_range}
use Rattle.std.specs.Map.{lookup}
use Rattle.type_core.specs.declared.type_id.TypeId.{TypeId}
use Rattle.type_core.specs.declared.type_printer.Place.{Place}
use Rattle.type_core.specs.declared.type_printer.TheConstants.{KEPT_LEVELS}
use Rattle.type_core.specs.contracts.type_id.TypeIdPartialEq.TheImpl as type_id_eq
use Rattle.type_core.specs.Typ.{Typ, type_text}
use Rattle.type_core.specs.TypeTable.{type_at}

-- where the text of a type is kept
abbrev pub place_in : List (TypeId × Place) → TypeId → Option Place
place_in places t = lookup (type_id_eq.eq-value.it t) places

-- the text of the type with this number stands in the range
pub record HasTextOf (table : List Typ) (texts : List ℕ) (t : TypeId) (place : Place) : Type 0 where
  pub ordered : place.start ≤ place.end
  pub within : place.end ≤ length texts
  pub text : slice_range texts place.start place.end ≡ type_text KEPT_LEVELS (type_at table t)

-- in each range that is kept stands the text of its type
abbrev pub AreKept : List Typ → List (TypeId × Place) → List ℕ → Type 0
AreKept table places texts = (t : TypeId) (place : Place) → place_in places t ≡ Some place → HasTextOf table texts t place

-- new is old with more behind it
pub record Lengthens (old new : List ℕ) : Type 0 where
  pub more : List ℕ
  pub longer : new ≡ old ++ more
