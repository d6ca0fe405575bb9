use Rattle.std.proofs.Common.{arith}
use Rattle.type_core.proofs.NodeLemmas.{base_within, base_type}
use Rattle.type_core.proofs.table.TypeTable.boolean.Goals as goal

pub returns-clause-number : goal.returns-clause-number
returns-clause-number c = base_within _ _ c.self.view_is c.self.invariant.table 2 (omega arith)

pub returns-clause-typ : goal.returns-clause-typ
returns-clause-typ c = base_type _ _ c.self.view_is c.self.invariant.table 2 (omega arith) _ c.self.invariant.table.boolean
