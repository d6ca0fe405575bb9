use Rattle.std.proofs.Common.{sym, ap, ◌∙◌}
use Rattle.grove_sorts.specs.Ctor.{ctor_text}
use Rattle.grove_sorts.specs.Plain.{plain_of}
use Rattle.grove_sorts.proofs.Plains.{is_plain}
use Rattle.grove_sorts.proofs.read.read_plain_ctor.Goals as goal

pub returns-in_err-plain-clause-none : goal.returns-in_err-plain-clause-none
returns-in_err-plain-clause-none c = rw c.from_residual.ensures (λ ctor is e.
    c.in_err-plain.ensures.none (plain_of ctor) (e ∙ ap ctor_text (sym (is_plain ctor is))))
