use Rattle.std.proofs.Common.{sym}
use Rattle.type_core.proofs.PairingLemmas.{consistent_from_met, inconsistent_from_clash}
use Rattle.type_core.proofs.table.TypeTable.relate.Goals as goal

pub returns-in-Met-clause-consistent : goal.returns-in-Met-clause-consistent
returns-in-Met-clause-consistent c =
    sym (consistent_from_met c.args.self.now (record { left = c.args.a; right = c.args.b }) _ (c.in-Met.ensures).1)

pub returns-in-Clash-clause-consistent : goal.returns-in-Clash-clause-consistent
returns-in-Clash-clause-consistent c =
    sym (inconsistent_from_clash c.args.self.now (record { left = c.args.a; right = c.args.b }) c.in-Clash.ensures)
