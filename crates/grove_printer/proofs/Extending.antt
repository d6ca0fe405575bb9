-- Bytes that begin with earlier ones.
use Rattle.std.proofs.Common.{◌≡◌, ℕ, List, ◌++◌, ap, ◌∙◌, append_assoc, Result, Ok, Err, OnErr}
use Rattle.grove_printer.specs.Print.{Extends}

pub extends_further : (a b c : List ℕ) → Extends a b → Extends b c → Extends a c
extends_further a b c x y = (x.0 ++ y.0, y.1 ∙ ap (λ bytes. bytes ++ y.0) x.1 ∙ append_assoc a x.0 y.0)

pub extends_appended : (a b c more : List ℕ) → Extends a b → c ≡ b ++ more → Extends a c
extends_appended a b c more x is = extends_further a b c x (more, is)

-- what was written before an error stays the beginning
pub extends_on_error : {T E : Type 0} (r : Result T E) (a b c : List ℕ) → Extends a b → OnErr r (Extends b c) → OnErr r (Extends a c)
extends_on_error (Ok x) a b c before part = tt
extends_on_error (Err e) a b c before part = extends_further a b c before part
