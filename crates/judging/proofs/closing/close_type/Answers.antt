use Rattle.std.proofs.Common.{ap, sym, ◌∙◌}
use Rattle.judging.specs.Machine.{of_type, type_added}
use Rattle.judging.proofs.Filling.{made_is}
use Rattle.judging.proofs.closing.close_type.Goals as goal

pub type_of-requires-clause-first : goal.type_of-requires-clause-first
type_of-requires-clause-first c = c.requires.numbers 0

pub type_of-requires-clause-second : goal.type_of-requires-clause-second
type_of-requires-clause-second c = c.requires.numbers 1

pub returns-clause-added : goal.returns-clause-added
returns-clause-added c = ap type_added (c.in_ok-typ.ensures.made ∙ sym (made_is c.args.types.now c.args.vertex.now c.requires))

pub returns-clause-given : goal.returns-clause-given
returns-clause-given c = ap of_type (c.in_ok-typ.ensures.made ∙ sym (made_is c.args.types.now c.args.vertex.now c.requires))
