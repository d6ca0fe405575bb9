use Rattle.std.proofs.Common.{◌≡◌, ◌≤◌, get_or, ap, ◌∙◌, arith}
use Rattle.std.specs.Str.Parse.{digits_value}
use Rattle.std.proofs.lemmas.List.{take_rest}
use Rattle.std.proofs.lemmas.Fmt.{decimal_is_IsNumeral}
use Rattle.text_parts.proofs.Leading.{leading_digits, no_number_behind_zero, leading_decimal}
use Rattle.text_parts.proofs.number.take_number.Goals as goal
use Rattle.text_parts.proofs.number.take_number.Goals.{else-bytes-eq48-via-then-bytes-eq48+else-len-gt1, else-bytes-eq48-via-else-bytes-eq48}

pub returns-then-len-gt1-clause-only : goal.returns-then-len-gt1-clause-only
returns-then-len-gt1-clause-only c = λ n rest small ended same.
    let read = c.in_ok-number.ensures in
    let parts = leading_digits c.args.bytes.now c.in_ok-number.len n rest read.digits read.all small ended same in
    no_number_behind_zero c.args.bytes.now c.in_ok-number.len n read.within c.if-len-gt1.true c.if-bytes-eq48.true parts.0 small

pub returns-clause-found : goal.returns-clause-found
returns-clause-found c =
    let read = c.in_ok-number.ensures in
    let plain : get_or c.args.bytes.now 0 0 ≡ 48 → c.in_ok-number.len ≤ 1 = λ zero_first.
    elim c.else-bytes-eq48.branch [ else-bytes-eq48-via-then-bytes-eq48+else-len-gt1 w ↦ omega arith | else-bytes-eq48-via-else-bytes-eq48 w ↦ omega arith ] in
    leading_decimal c.args.bytes.now c.in_ok-number.len c.in_ok-number.number read.within read.some plain read.digits read.value (omega arith)

pub returns-clause-only : goal.returns-clause-only
returns-clause-only c = λ n rest small ended same.
    let read = c.in_ok-number.ensures in
    let parts = leading_digits c.args.bytes.now c.in_ok-number.len n rest read.digits read.all small ended same in
    (read.value ∙ ap (digits_value 10) parts.0 ∙ (decimal_is_IsNumeral n small).1, take_rest c.args.bytes.now c.in_ok-number.len ∙ parts.1)
