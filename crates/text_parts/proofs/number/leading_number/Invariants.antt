use Rattle.std.proofs.Common.{◌≡◌, take}
use Rattle.std.specs.Str.Parse.{AllDigits, digits_value}
use Rattle.text_parts.proofs.number.leading_number.Given as goal

-- the bytes so far are digits, and their value was read
abbrev pub invariant-loop-i : goal.invariant-loop-i
invariant-loop-i l = record {
  digits : AllDigits 10 (take l.i l.bytes);
  value : l.value ≡ digits_value 10 (take l.i l.bytes);
}
