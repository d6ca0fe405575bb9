-- Two types by number, and what their outermost forms tell of their meet.
use Rattle.std.specs.Prelude.{◌≡◌, ◌≢◌, List, Option, None, Some}
use Rattle.type_core.specs.declared.former.Former.{Former}
use Rattle.type_core.specs.declared.heads.Heads.{Heads}
use Rattle.type_core.specs.declared.heads.Heads.TheVariants.{Met, Clash, Parts}
use Rattle.type_core.specs.declared.heads.Pairing.{Pairing}
use Rattle.type_core.specs.Typ.{Typ, Pair, meet}
use Rattle.type_core.specs.TypeTable.{IsTypeOf, type_at}

-- both are numbers of the table
abbrev pub IsPairingOf : List Typ → Pairing → Type 0
IsPairingOf table p = IsTypeOf table p.left × IsTypeOf table p.right

-- the meet of the two types
abbrev pub meet_of : List Typ → Pairing → Option Typ
meet_of table p = meet (type_at table p.left) (type_at table p.right)

-- the two types have this form, and first and second pair their parts
pub record HaveParts (table : List Typ) (p : Pairing) (f : Former) (first second : Pairing) : Type 0 where
  pub left : type_at table p.left ≡ Pair f (type_at table first.left) (type_at table second.left)
  pub right : type_at table p.right ≡ Pair f (type_at table first.right) (type_at table second.right)
  pub first_within : IsPairingOf table first
  pub second_within : IsPairingOf table second
  pub differ : p.left ≢ p.right

abbrev pub TellOf : List Typ → Pairing → Heads → Type 0
TellOf table p (Met m) = IsTypeOf table m × (meet_of table p ≡ Some (type_at table m))
TellOf table p Clash = meet_of table p ≡ None
TellOf table p (Parts f first second) = HaveParts table p f first second
