-- The bytes of an identifier.
-- The promise of the commands rests on these definitions.
use Rattle.std.specs.Prelude.{ℕ, List, take}
use Rattle.std.specs.declared.cmp.Ordering.{Ordering}
use Rattle.std.specs.Ordering.{nat_cmp}
use Rattle.std.specs.Cmp.Lexicographic.{slice_cmp}
use Rattle.grove_sorts.specs.declared.ident.Ident.{Ident}

abbrev pub ident_bytes : Ident → List ℕ
ident_bytes ident = take ident.len ident.bytes

-- identifiers are ordered by their bytes, and a proper prefix comes first
abbrev pub ident_cmp : Ident → Ident → Ordering
ident_cmp a b = slice_cmp nat_cmp (ident_bytes a) (ident_bytes b)
