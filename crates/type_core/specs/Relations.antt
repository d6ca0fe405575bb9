-- What was found of pairs of types, as a table keeps it.
use Rattle.std.specs.Prelude.{◌≡◌, true, false, List, Option, Some}
use Rattle.std.specs.Map.{lookup}
use Rattle.type_core.specs.declared.heads.Pairing.{Pairing}
use Rattle.type_core.specs.declared.node.Node.{Node}
use Rattle.type_core.specs.declared.relations.Relation.{Relation}
use Rattle.type_core.specs.declared.relations.Relation.TheVariants.{Apart, Consistent, Meets}
use Rattle.type_core.specs.contracts.heads.PairingPartialEq.TheImpl as pairing_eq
use Rattle.type_core.specs.Typ.{Typ}
use Rattle.type_core.specs.TypeTable.{IsTypeOf, type_at}
use Rattle.type_core.specs.Heads.{IsPairingOf, meet_of}
use Rattle.type_core.specs.Pairings.{is_consistent_pairing}
use Rattle.type_core.specs.Nodes.{types_of, IsTable}

-- what is kept of a pairing
abbrev pub relation_in : List (Pairing × Relation) → Pairing → Option Relation
relation_in relations p = lookup (pairing_eq.eq-value.it p) relations

-- the relation is that of the two types
abbrev pub IsRelationOf : List Typ → Pairing → Relation → Type 0
IsRelationOf table p Apart = is_consistent_pairing table p ≡ false
IsRelationOf table p Consistent = is_consistent_pairing table p ≡ true
IsRelationOf table p (Meets m) = IsTypeOf table m × (meet_of table p ≡ Some (type_at table m))

-- each relation that is kept is that of its pairing
pub record AreRelations (table : List Typ) (relations : List (Pairing × Relation)) : Type 0 where
  pub within : (p : Pairing) (r : Relation) → relation_in relations p ≡ Some r → IsPairingOf table p
  pub right : (p : Pairing) (r : Relation) → relation_in relations p ≡ Some r → IsRelationOf table p r

-- the nodes are a table's, and what is kept of its types is right
pub record IsWhole (nodes : List Node) (relations : List (Pairing × Relation)) : Type 0 where
  pub table : IsTable nodes
  pub right : AreRelations (types_of nodes) relations
