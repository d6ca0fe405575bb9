use Rattle.std.proofs.Common.{sym}
use Rattle.type_core.proofs.PairingLemmas.{consistent_from_met, inconsistent_from_clash}
use Rattle.type_core.proofs.table.TypeTable.verdict.Goals as goal

pub returns-in-Met : goal.returns-in-Met
returns-in-Met c = sym (consistent_from_met c.args.self.now c.args.pairing _ c.in-Met.ensures.1)

pub returns-in-Clash : goal.returns-in-Clash
returns-in-Clash c = sym (inconsistent_from_clash c.args.self.now c.args.pairing c.in-Clash.ensures)
