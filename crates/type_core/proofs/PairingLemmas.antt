-- What the meet of two types tells of their consistency.
use Rattle.std.proofs.Common.{◌≡◌, true, false, None, Some, List, sym, ap, ◌∙◌, is_some}
use Rattle.type_core.specs.declared.heads.Pairing.{Pairing}
use Rattle.type_core.specs.Typ.{Typ}
use Rattle.type_core.specs.TypeTable.{type_at}
use Rattle.type_core.specs.Heads.{meet_of}
use Rattle.type_core.specs.Pairings.{is_consistent_pairing}
use Rattle.type_core.proofs.TypLemmas.{is_some-meet}

pub consistent_from_met : (table : List Typ) (p : Pairing) (t : Typ) → meet_of table p ≡ Some t → is_consistent_pairing table p ≡ true
consistent_from_met table p t e = sym (is_some-meet (type_at table p.left) (type_at table p.right)) ∙ ap is_some e

pub inconsistent_from_clash : (table : List Typ) (p : Pairing) → meet_of table p ≡ None → is_consistent_pairing table p ≡ false
inconsistent_from_clash table p e = sym (is_some-meet (type_at table p.left) (type_at table p.right)) ∙ ap is_some e
