-- Which bytes are an identifier.
-- The promise of the commands rests on these definitions.
use Rattle.std.specs.Prelude.{ℕ, Bool, false, ◌&&◌, ◌||◌, nat_le, ◌==◌, List, [], ◌∷◌, length, IsTrue}
use Rattle.std.specs.List.{list_all}
use Rattle.grove_sorts.specs.declared.version.Version.{Version}
use Rattle.grove_sorts.specs.declared.version.Version.TheVariants.{One, Two}

abbrev pub is_lowercase_letter : ℕ → Bool
is_lowercase_letter byte = nat_le 97 byte && nat_le byte 122

-- a lower-case letter, a digit or an underscore
abbrev pub is_inner_byte : ℕ → Bool
is_inner_byte byte = is_lowercase_letter byte || (nat_le 48 byte && nat_le byte 57) || (byte == 95)

-- how many bytes an identifier may have
abbrev pub longest : Version → ℕ
longest One = 32
longest Two = 64

-- a lower-case letter, then lower-case letters, digits and underscores, and no more bytes than the version allows
abbrev pub is_identifier : Version → List ℕ → Bool
is_identifier version [] = false
is_identifier version (byte ∷ bytes) = is_lowercase_letter byte && list_all is_inner_byte bytes && nat_le (length (byte ∷ bytes)) (longest version)

abbrev pub IsIdentifier : Version → List ℕ → Type 0
IsIdentifier version bytes = IsTrue (is_identifier version bytes)
