use Rattle.std.proofs.Common.{arith}
use Rattle.std.proofs.lemmas.List.{at_drop_all}
use Rattle.text_parts.specs.Number.{begins_with_digit}
use Rattle.text_parts.proofs.Leading.{AllDigits-more, digits_value-next, no_digit_at, no_number_so_great, no_number_so_long}
use Rattle.text_parts.proofs.number.with_last_digit.Goals as goal
use Rattle.text_parts.proofs.number.with_last_digit.Goals.{else-len-bytes-via-then-len-bytes+else-is_ascii_digit, else-len-bytes-via-else-len-bytes}

pub returns-in_err-checked_mul-clause-none : goal.returns-in_err-checked_mul-clause-none
returns-in_err-checked_mul-clause-none c = rw c.from_residual.ensures (λ n rest small ended same.
    no_number_so_great c.args.bytes.now 19 n rest c.requires.more c.requires.read_digits c.in-Some.ensures.digit.0 (omega arith) small ended same)

pub returns-in_err-number-clause-none : goal.returns-in_err-number-clause-none
returns-in_err-number-clause-none c = rw c.from_residual-in_err-number.ensures (λ n rest small ended same.
    no_number_so_great c.args.bytes.now 19 n rest c.requires.more c.requires.read_digits c.in-Some.ensures.digit.0 (omega (arith, c.in-Some.ensures.digit.1)) small ended same)

pub returns-then-is_ascii_digit-clause-none : goal.returns-then-is_ascii_digit-clause-none
returns-then-is_ascii_digit-clause-none c = λ n rest small ended same.
    let bytes = c.args.bytes.now in
    let read = AllDigits-more bytes 19 c.requires.more c.requires.read_digits c.in-Some.ensures.digit.0 in
    let more = AllDigits-more bytes 20 c.if-len-bytes.true read c.if-is_ascii_digit.ensures.cases in
    no_number_so_long bytes 21 n rest (omega arith) (omega arith) more small ended same

pub returns-clause-digits : goal.returns-clause-digits
returns-clause-digits c = AllDigits-more c.args.bytes.now 19 c.requires.more c.requires.read_digits c.in-Some.ensures.digit.0

pub returns-clause-all : goal.returns-clause-all
returns-clause-all c = elim c.else-len-bytes.branch [
  | else-len-bytes-via-then-len-bytes+else-is_ascii_digit w ↦ no_digit_at c.args.bytes.now 20 (λ digit. omega (arith, w.if-is_ascii_digit.ensures.cases))
  | else-len-bytes-via-else-len-bytes w ↦ at_drop_all begins_with_digit c.args.bytes.now 20 (omega arith)
]

pub returns-clause-value : goal.returns-clause-value
returns-clause-value c = omega (arith, c.in-Some.ensures.digit.1, c.requires.read_value, digits_value-next c.args.bytes.now 19 c.requires.more c.in-Some.ensures.digit.0)
