-- What pairings of types tell.
use Rattle.std.proofs.Common.{◌≡◌, Some, List, subst, get_or}
use Rattle.type_core.specs.declared.heads.Pairing.{Pairing}
use Rattle.type_core.specs.Typ.{Typ, Unknown, meet}
use Rattle.type_core.specs.TypeTable.{type_at}
use Rattle.type_core.specs.Heads.{meet_of}
use Rattle.type_core.proofs.TypLemmas.{meet-same}

pub meet_of-same : (table : List Typ) (p : Pairing) → p.left.0 ≡ p.right.0 → meet_of table p ≡ Some (type_at table p.left)
meet_of-same table p e =
    subst (λ i. meet (get_or table p.left.0 Unknown) (get_or table i Unknown) ≡ Some (get_or table p.left.0 Unknown)) e (meet-same (type_at table p.left))
