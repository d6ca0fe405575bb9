use Rattle.std.proofs.Common.{[], length, decimal, ap, sym, ◌∙◌, refl, arith}
use Rattle.std.proofs.lemmas.Bool.Decides.{nat_tests}
use Rattle.std.proofs.lemmas.List.{append-nil}
use Rattle.text_parts.proofs.number.read_number.Goals as goal

pub returns-in_err-number-clause-none : goal.returns-in_err-number-clause-none
returns-in_err-number-clause-none c = rw c.from_residual.ensures (λ n small same.
    c.in_err-number.ensures.only n [] small refl (same ∙ sym (append-nil (decimal n))))

pub returns-else-is_empty-clause-none : goal.returns-else-is_empty-clause-none
returns-else-is_empty-clause-none c = λ n small same.
    let one = c.in_ok-number.ensures.only n [] small refl (same ∙ sym (append-nil (decimal n))) in
    grind (arith, nat_tests, ap length one.1)
