-- Lines of a text in two parts, each named by itself.
use Rattle.std.specs.Prelude.{◌≡◌, ◌⊎◌, ℕ, ◌+◌}
use Rattle.edit_text.specs.declared.text_fault.TextFault.{TextFault}
use Rattle.edit_text.specs.declared.text_fault.TextFault.TheVariants.{Malformed, Rest, NoMemory}
use Rattle.edit_merge.specs.declared.named_line.NamedLine.{NamedLine}

-- the line so many bytes further on
abbrev pub moved : ℕ → NamedLine → NamedLine
moved by line = record line { start = line.start + by; end = line.end + by }

-- the fault behind so many lines, or want of memory
abbrev pub IsBehind : ℕ → TextFault → TextFault → Type 0
IsBehind lines (Malformed line fault) behind = (behind ≡ NoMemory) ⊎ (behind ≡ Malformed (line + lines) fault)
IsBehind lines (Rest line) behind = (behind ≡ NoMemory) ⊎ (behind ≡ Rest (line + lines))
IsBehind lines NoMemory behind = behind ≡ NoMemory
