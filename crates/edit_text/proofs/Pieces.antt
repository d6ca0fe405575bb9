-- The parts of a line: their ranges, and that they hold no space.
use Rattle.std.proofs.Common.{inl, arith}
use Rattle.text_parts.specs.Separated.{Lacks}
use Rattle.grove_names.specs.declared.name.Name.{Name}
use Rattle.grove_names.specs.Name.{name_text, InRange}
use Rattle.grove_names.proofs.Texts.{Lacks-name_text}

pub no_space_in_name : (name : Name) → InRange name → Lacks 32 (name_text name)
no_space_in_name name r = Lacks-name_text 32 name r (λ e. absurd (omega arith)) (inl (omega arith))
