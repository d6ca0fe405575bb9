-- How long the texts of constructors and positions are.
use Rattle.std.proofs.Common.{◌≡◌, ℕ, ◌+◌, ◌≤◌, length, refl, length-append, lit≤}
use Rattle.grove_sorts.specs.declared.ctor.Ctor.{Ctor}
use Rattle.grove_sorts.specs.declared.ctor.Ctor.TheVariants.{Root, Var, Num, PVar}
use Rattle.grove_sorts.specs.declared.position.Position.{Position}
use Rattle.grove_sorts.specs.declared.position.Position.TheVariants.{Main}
use Rattle.grove_sorts.specs.Ctor.{ctor_text, keyword, payload_text}
use Rattle.grove_sorts.specs.Position.{position_text}

-- a constructor's text is its word and what it carries
pub text_length : (c : Ctor) → length (ctor_text c) ≡ length (keyword c) + length (payload_text c)
text_length (Var x) = length-append (keyword (Var x)) (payload_text (Var x))
text_length (Num n) = length-append (keyword (Num n)) (payload_text (Num n))
text_length (PVar x) = length-append (keyword (PVar x)) (payload_text (PVar x))
text_length _ = refl

-- no word of a constructor is longer than six bytes
pub keyword_short : (c : Ctor) → length (keyword c) ≤ 6
keyword_short Root = lit≤ tt
keyword_short _ = lit≤ tt

-- nor is one of a position
pub position_short : (p : Position) → length (position_text p) ≤ 6
position_short Main = lit≤ tt
position_short _ = lit≤ tt
