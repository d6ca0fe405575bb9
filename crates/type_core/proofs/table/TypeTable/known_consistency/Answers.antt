use Rattle.std.proofs.Common.{sym, subst}
use Rattle.type_core.specs.Relations.{IsRelationOf}
use Rattle.type_core.proofs.PairingLemmas.{consistent_from_met}
use Rattle.type_core.proofs.table.TypeTable.known_consistency.Goals as goal

pub returns-in-Meets : goal.returns-in-Meets
returns-in-Meets c =
    let met = subst (IsRelationOf c.args.self.now c.args.pairing) c.in-Meets.is c.in_ok-known.ensures.right in
    sym (consistent_from_met c.args.self.now c.args.pairing _ met.1)
