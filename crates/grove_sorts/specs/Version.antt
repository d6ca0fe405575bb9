-- What each version of the text knows.
-- The promise of the commands rests on these definitions.
use Rattle.std.specs.Prelude.{ℕ, Bool, true, false, ◌&&◌, nat_le, List, [], length, IsTrue}
use Rattle.grove_sorts.specs.declared.version.Version.{Version}
use Rattle.grove_sorts.specs.declared.version.Version.TheVariants.{One, Two}
use Rattle.grove_sorts.specs.declared.position.Position.{Position}
use Rattle.grove_sorts.specs.declared.position.Position.TheVariants.{Def}
use Rattle.grove_sorts.specs.declared.ctor.Ctor.{Ctor}
use Rattle.grove_sorts.specs.declared.ctor.Ctor.TheVariants.{Var, PVar}
use Rattle.grove_sorts.specs.Ident.{ident_bytes}
use Rattle.grove_sorts.specs.Identifier.{longest}
use Rattle.grove_sorts.specs.Row.{row}
use Rattle.grove_sorts.specs.Position.{position_number}

abbrev is_one : Version → Bool
is_one One = true
is_one Two = false

abbrev identifier_of : Ctor → List ℕ
identifier_of (Var x) = ident_bytes x
identifier_of (PVar x) = ident_bytes x
identifier_of _ = []

-- version one has the constructors whose rows say so, and identifiers of up to 32 bytes; version two has all
abbrev pub knows_ctor : Version → Ctor → Bool
knows_ctor One ctor = is_one (row ctor).first && nat_le (length (identifier_of ctor)) (longest One)
knows_ctor Two ctor = true

-- version one has the first 17 positions but for `def`, version two has all
abbrev pub knows_position : Version → Position → Bool
knows_position One Def = false
knows_position One position = nat_le (position_number position) 16
knows_position Two position = true

abbrev pub IsCtorOf : Version → Ctor → Type 0
IsCtorOf version ctor = IsTrue (knows_ctor version ctor)

abbrev pub IsPositionOf : Version → Position → Type 0
IsPositionOf version position = IsTrue (knows_position version position)
