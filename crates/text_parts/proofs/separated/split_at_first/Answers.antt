use Rattle.std.proofs.Common.{arith, length, subst, eq-eqb}
use Rattle.std.proofs.lemmas.List.{take_all}
use Rattle.text_parts.specs.Separated.{Lacks}
use Rattle.text_parts.proofs.Parts.{Lacks-take}
use Rattle.text_parts.proofs.separated.split_at_first.Goals as goal

pub returns-in_err-at-clause-none : goal.returns-in_err-at-clause-none
returns-in_err-at-clause-none c = rw c.from_residual.ensures (
    let bytes = c.args.bytes.now in
    subst (Lacks c.args.separator) (take_all (length bytes) bytes (omega arith))
    (Lacks-take c.args.separator bytes (length bytes) (λ k below same. c.in_err-at.ensures k (omega arith) below (eq-eqb _ _ same))))

pub returns-clause-first : goal.returns-clause-first
returns-clause-first c = rw c.split_at.ensures.front (
    Lacks-take c.args.separator c.args.bytes.now c.in_ok-at.at (λ k below same. c.in_ok-at.ensures.0.before k (omega arith) below (eq-eqb _ _ same)))
