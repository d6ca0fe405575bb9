use Rattle.std.proofs.Common.{sym, ◌∙◌}
use Rattle.type_core.specs.TypeTable.{type_at}
use Rattle.type_core.proofs.TypLemmas.{meet-inconsistent}
use Rattle.type_core.proofs.PairingLemmas.{consistent_from_met, inconsistent_from_clash}
use Rattle.type_core.proofs.table.TypeTable.meet.Goals as goal

pub returns-in-Met-clause-defined : goal.returns-in-Met-clause-defined
returns-in-Met-clause-defined c =
    sym (consistent_from_met c.args.self.now (record { left = c.args.a; right = c.args.b }) _ (c.in-Met.ensures).1)

pub returns-in-Clash-clause-defined : goal.returns-in-Clash-clause-defined
returns-in-Clash-clause-defined c =
    sym (inconsistent_from_clash c.args.self.now (record { left = c.args.a; right = c.args.b }) c.in-Clash.ensures)

pub returns-then-not-branch-clause-meet : goal.returns-then-not-branch-clause-meet
returns-then-not-branch-clause-meet c =
    sym (meet-inconsistent (type_at c.args.self.now c.args.a) (type_at c.args.self.now c.args.b) (sym c.in_ok-relate_parts-in-Parts.ensures.consistent ∙ c.if-not-branch.true))
