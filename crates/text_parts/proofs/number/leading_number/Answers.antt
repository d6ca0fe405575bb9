use Rattle.std.proofs.Common.{◌≡◌, length, take, ap, subst, ◌∙◌, arith}
use Rattle.std.specs.Str.Parse.{AllDigits, digits_value}
use Rattle.std.proofs.lemmas.Bool.Decides.{nat_tests}
use Rattle.std.proofs.lemmas.List.{get_or_past}
use Rattle.text_parts.proofs.Leading.{AllDigits-more, digits_value-below, digits_value-next, no_number_in_front}
use Rattle.text_parts.proofs.number.leading_number.Goals as goal

pub returns-then-is_empty-clause-none : goal.returns-then-is_empty-clause-none
returns-then-is_empty-clause-none c = λ n rest small ended same.
    let empty : length c.args.bytes.now ≡ 0 = grind (arith, nat_tests) in
    no_number_in_front c.args.bytes.now n rest (λ digit. omega (arith, get_or_past c.args.bytes.now 0 0 (omega arith))) small ended same

pub returns-in_err-value-clause-none : goal.returns-in_err-value-clause-none
returns-in_err-value-clause-none c = rw c.from_residual.ensures (λ n rest small ended same.
    no_number_in_front c.args.bytes.now n rest c.in_err-value.ensures.none small ended same)

pub overflow_mul-value : goal.overflow_mul-value
overflow_mul-value c =
    omega (arith, c.min-short.ensures, c.loop-i.invariant.value, digits_value-below c.args.bytes.now c.loop-i.i 18 (omega (arith, c.min-short.ensures)) c.loop-i.invariant.digits)

pub overflow_add-value : goal.overflow_add-value
overflow_add-value c =
    omega (arith, c.in-Some.ensures.digit, c.loop-i.invariant.value, digits_value-below c.args.bytes.now c.loop-i.i 18 (omega (arith, c.min-short.ensures)) c.loop-i.invariant.digits)

pub loop-i-preserved : goal.loop-i-preserved
loop-i-preserved c =
    let bytes = c.args.bytes.now in
    let digit = c.in-Some.ensures.digit in
    record {
      digits = AllDigits-more bytes c.loop-i.i (omega (arith, c.min-short.ensures)) c.loop-i.invariant.digits digit.0;
      value = omega (arith, digit.1, digits_value-next bytes c.loop-i.i (omega (arith, c.min-short.ensures)) digit.0, c.loop-i.invariant.value);
    }

pub with_last_digit-requires-clause-read_digits : goal.with_last_digit-requires-clause-read_digits
with_last_digit-requires-clause-read_digits c =
    let read : c.loop-i.i ≡ 19 = omega (arith, c.min-short.ensures, c.if-short-bytes.false) in
    subst (λ k. AllDigits 10 (take k c.args.bytes.now)) read c.loop-i.invariant.digits

pub with_last_digit-requires-clause-read_value : goal.with_last_digit-requires-clause-read_value
with_last_digit-requires-clause-read_value c =
    let read : c.loop-i.i ≡ 19 = omega (arith, c.min-short.ensures, c.if-short-bytes.false) in
    c.loop-i.invariant.value ∙ ap (λ k. digits_value 10 (take k c.args.bytes.now)) read
