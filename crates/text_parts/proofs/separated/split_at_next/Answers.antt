use Rattle.std.proofs.Common.{length, subst, arith}
use Rattle.std.proofs.lemmas.List.{take_all}
use Rattle.text_parts.specs.Separated.{Lacks}
use Rattle.text_parts.proofs.Parts.{Lacks-take}
use Rattle.text_parts.proofs.separated.split_at_next.Goals as goal

pub returns-then-bytes-at-clause-first : goal.returns-then-bytes-at-clause-first
returns-then-bytes-at-clause-first c = rw c.split_at.ensures.front (Lacks-take c.args.separator c.args.bytes.now c.loop-at.at c.loop-at.invariant)

pub returns-clause-none : goal.returns-clause-none
returns-clause-none c =
    let bytes = c.args.bytes.now in
    subst (Lacks c.args.separator) (take_all (length bytes) bytes (omega arith))
    (Lacks-take c.args.separator bytes (length bytes) (λ k below. c.loop-at.invariant k (omega arith)))
