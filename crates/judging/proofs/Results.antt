-- What a result is one step further.
use Rattle.std.proofs.Common.{◌≡◌, ◌∙◌, Option, Some, None, IfSome, sym, subst}
use Rattle.std.specs.Option.{option_map}
use Rattle.std.specs.Prelude.{Result, Ok, Err, IfOk, OnOk}

-- a value that is one by a result is what that is
pub if_ok_then : {T E X : Type 0} (r : Result T E) (of : T → X) (x y : X) → IfOk r (λ t. of t ≡ x) → x ≡ y → IfOk r (λ t. of t ≡ y)
if_ok_then (Ok t) of x y is same = is ∙ same
if_ok_then (Err e) of x y is same = tt

pub on_ok_then : {T E X : Type 0} (r : Result T E) (x y z : X) → OnOk r (x ≡ y) → y ≡ z → OnOk r (x ≡ z)
on_ok_then (Ok t) x y z is same = is ∙ same
on_ok_then (Err e) x y z is same = tt

-- what holds of what an option stands for holds of the option
pub if_some_of : {X Y : Type 0} (f : X → Y) (P : Y → Type 0) (x : Option X) (y : Option Y) → option_map f x ≡ y → IfSome y P → IfSome x (λ v. P (f v))
if_some_of f P None y is h = tt
if_some_of f P (Some v) y is h = subst (λ o. IfSome o P) (sym is) h
