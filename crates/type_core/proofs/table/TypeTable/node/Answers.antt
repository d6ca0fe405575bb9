use Rattle.std.proofs.Common.{arith, length, ap}
use Rattle.type_core.proofs.NodeLemmas.{length-types_of, type_at-read}
use Rattle.type_core.proofs.table.TypeTable.node.Goals as goal

pub offset_bounds-as_slice-id : goal.offset_bounds-as_slice-id
offset_bounds-as_slice-id c =
    omega (arith, c.requires, ap length c.self.view_is, ap length c.as_slice.ensures.keys, length-types_of c.self.inside.nodes.keys, c.as_slice.type_inv.1)

pub bounds-as_slice-id : goal.bounds-as_slice-id
bounds-as_slice-id c =
    omega (arith, c.requires, ap length c.self.view_is, ap length c.as_slice.ensures.keys, length-types_of c.self.inside.nodes.keys)

pub returns-clause-typ : goal.returns-clause-typ
returns-clause-typ c = type_at-read _ _ _ c.self.view_is c.as_slice.ensures.keys c.self.invariant.table _ c.requires
