-- What holds of outcomes.
use Rattle.std.specs.Prelude.{Result, Ok, Err, OnOk}

pub on_ok_three : {X E P Q R S : Type 0} (r : Result X E) → (P → Q → R → S) → OnOk r P → OnOk r Q → OnOk r R → OnOk r S
on_ok_three (Ok x) gives first second third = gives first second third
on_ok_three (Err e) gives first second third = tt
