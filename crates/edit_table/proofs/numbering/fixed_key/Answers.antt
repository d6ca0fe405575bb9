use Rattle.std.proofs.Common.{subst, sym}
use Rattle.grove_sorts.specs.Spelled.{spelled_ctor}
use Rattle.edit_table.specs.Keys.{IsCtorKeyOf}
use Rattle.edit_table.specs.declared.vertex_key.CtorKey.TheVariants.{At}
use Rattle.edit_table.proofs.Keys.{plain_is_met}
use Rattle.edit_table.proofs.numbering.fixed_key.Goals as goal

pub returns-in-Plain-clause-key : goal.returns-in-Plain-clause-key
returns-in-Plain-clause-key c = λ ctors are.
    subst (λ ctor. IsCtorKeyOf ctors (At c.number.result) (spelled_ctor ctor)) (sym c.in-Plain.is) (plain_is_met ctors c.number.result c.in-Plain.plain c.number.ensures are)
