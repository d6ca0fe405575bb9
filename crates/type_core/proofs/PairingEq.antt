-- The comparison of pairings is equality.
use Rattle.std.proofs.Common.{◌≡◌, true, rules}
use Rattle.type_core.specs.declared.heads.Pairing.{Pairing}
use Rattle.type_core.specs.contracts.heads.PairingPartialEq.TheImpl as pairing_eq

pub reflexive : (p : Pairing) → pairing_eq.eq-value.it p p ≡ true
reflexive p = search rules

pub sound : (p q : Pairing) → pairing_eq.eq-value.it p q ≡ true → p ≡ q
sound p q h = search rules
