-- Vectors that are one have one list.
use Rattle.std.proofs.Common.{◌≡◌, Vec, Global, ap}

pub items_of : {X : Type 0} {a b : Vec X Global} → a ≡ b → a.items ≡ b.items
items_of {X} e = ap (λ (x : Vec X Global). x.items) e
