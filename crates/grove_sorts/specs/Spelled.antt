-- The identifiers and constructors that are spelled, and not whole.
use Rattle.std.specs.Prelude.{ℕ, List, ◌++◌, length, drop, replicate, refl}
use Rattle.grove_sorts.specs.declared.version.Version.TheVariants.{Two}
use Rattle.grove_sorts.specs.declared.ident.Ident.{Ident}
use Rattle.grove_sorts.specs.declared.ctor.Ctor.{Ctor}
use Rattle.grove_sorts.specs.declared.ctor.Ctor.TheVariants as ctor
use Rattle.grove_sorts.specs.declared.spelled.Spelling.{Spelling}
use Rattle.grove_sorts.specs.declared.spelled.SpelledCtor.{SpelledCtor}
use Rattle.grove_sorts.specs.declared.spelled.SpelledCtor.TheVariants.{Plain, Num, Var, PVar}
use Rattle.grove_sorts.specs.Identifier.{IsIdentifier}
use Rattle.grove_sorts.specs.Plain.{plain_ctor}
use Rattle.grove_sorts.specs.Padded.{padded_kept}

-- the identifier that bytes spell
unfoldable pub ident_of : (bytes : List ℕ) → IsIdentifier Two bytes → Ident
ident_of bytes is =
    let kept = padded_kept bytes bytes (replicate 64 0) refl refl is in
    record {
      bytes = bytes ++ drop (length bytes) (replicate 64 0);
      len = length bytes;
      whole = kept.0;
      short = kept.1;
      spelled = kept.2;
      padded = kept.3;
    }

-- the identifier that is spelled
abbrev pub spelled_ident : Spelling → Ident
spelled_ident spelling = ident_of spelling.bytes.now spelling.spelled

-- the constructor that is spelled
abbrev pub spelled_ctor : SpelledCtor → Ctor
spelled_ctor (Plain plain) = plain_ctor plain
spelled_ctor (Num n) = ctor.Num n
spelled_ctor (Var spelling) = ctor.Var (spelled_ident spelling)
spelled_ctor (PVar spelling) = ctor.PVar (spelled_ident spelling)
