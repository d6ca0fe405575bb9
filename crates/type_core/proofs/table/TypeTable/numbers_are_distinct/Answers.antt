use Rattle.type_core.proofs.NodeLemmas.{AreDistinct-types_of}
use Rattle.type_core.proofs.table.TypeTable.numbers_are_distinct.Goals as goal

pub returns : goal.returns
returns c = AreDistinct-types_of _ c.self.invariant.table _ c.self.view_is
