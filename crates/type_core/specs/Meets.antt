-- The meet of two types by number.
use Rattle.std.specs.Prelude.{◌≡◌, List, Some}
use Rattle.type_core.specs.declared.heads.Pairing.{Pairing}
use Rattle.type_core.specs.declared.type_id.TypeId.{TypeId}
use Rattle.type_core.specs.Typ.{Typ}
use Rattle.type_core.specs.TypeTable.{IsTypeOf, type_at}
use Rattle.type_core.specs.Heads.{IsPairingOf, meet_of}

-- m is the number of the meet of the two types
pub record IsMeetOf (table : List Typ) (p : Pairing) (m : TypeId) : Type 0 where
  pub within : IsPairingOf table p
  pub number : IsTypeOf table m
  pub meet : meet_of table p ≡ Some (type_at table m)
