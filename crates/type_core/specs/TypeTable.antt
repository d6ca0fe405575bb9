-- What the contracts of a table say: it is the list of its types, and a type's number is its index there.
use Rattle.std.specs.Prelude.{◌≡◌, ◌<◌, ◌≤◌, ◌⊎◌, List, [], ◌∷◌, ◌++◌, length}
use Rattle.std.specs.List.{slice_index_or}
use Rattle.type_core.specs.declared.type_id.TypeId.{TypeId}
use Rattle.type_core.specs.Typ.{Typ, Unknown, Num, Boolean}

-- id is a number of the table
abbrev pub IsTypeOf : List Typ → TypeId → Type 0
IsTypeOf table id = id.0 < length table

-- the type with this number
abbrev pub type_at : List Typ → TypeId → Typ
type_at table id = slice_index_or table id.0 Unknown

-- the types of a new table
abbrev pub base_types : List Typ
base_types = Unknown ∷ Num ∷ Boolean ∷ []

-- each number of old is one of new, with the type that it had
pub record KeepsTypes (old new : List Typ) : Type 0 where
  pub longer : length old ≤ length new
  pub types : (id : TypeId) → IsTypeOf old id → type_at new id ≡ type_at old id

-- new is old, or old with t as its last type
abbrev pub HasAdded : Typ → List Typ → List Typ → Type 0
HasAdded t old new = (new ≡ old) ⊎ (new ≡ old ++ t ∷ [])

-- two numbers of the table are one where their types are
abbrev pub AreDistinct : List Typ → Type 0
AreDistinct table = (a b : TypeId) → IsTypeOf table a → IsTypeOf table b → type_at table a ≡ type_at table b → a ≡ b
