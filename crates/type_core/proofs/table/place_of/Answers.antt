use Rattle.std.proofs.Common.{sym, ◌∙◌}
use Rattle.std.proofs.lemmas.Option.{get_or_from_slice_get}
use Rattle.type_core.specs.declared.node.Node.TheVariants.{Unknown}
use Rattle.type_core.proofs.NodeEq.{reflexive, sound}
use Rattle.type_core.proofs.NodeLemmas.{StandOnce-from_distinct}
use Rattle.type_core.proofs.table.place_of.Goals as goal

pub returns-then-len-clause-once : goal.returns-then-len-clause-once
returns-then-len-clause-once c = StandOnce-from_distinct _ reflexive _ c.len.ensures.unique

pub returns-in_err-place-clause-once : goal.returns-in_err-place-clause-once
returns-in_err-place-clause-once c = StandOnce-from_distinct _ reflexive _ c.in_err-place.ensures.unique

pub returns-clause-node : goal.returns-clause-node
returns-clause-node c =
    let found = c.in_ok-place.ensures.stored in
    get_or_from_slice_get c.insert_full.new.self.keys c.in_ok-place.place _ Unknown found.1 ∙ sym (sound _ _ found.2)

pub returns-clause-once : goal.returns-clause-once
returns-clause-once c = StandOnce-from_distinct _ reflexive _ c.in_ok-place.ensures.unique
