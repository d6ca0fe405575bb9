-- The one text of each summary, and where a text that is none goes wrong.
use Rattle.std.specs.Prelude.{◌≡◌, ◌≢◌, ℕ, ◌+◌, ◌==◌, true, false, List, [], ◌∷◌, ◌++◌, length, decimal, if◌then◌else◌}
use Rattle.std.specs.List.{flat_map}
use Rattle.text_parts.specs.Separated.{Lacks}
use Rattle.grove_names.specs.Name.{name_text}
use Rattle.edit_ranges.specs.declared.told.Told.{Told}
use Rattle.edit_ranges.specs.declared.told.Told.TheVariants.{Named, Deleted}
use Rattle.edit_ranges.specs.declared.name_range.NameRange.{NameRange}
use Rattle.edit_ranges.specs.declared.fault.RangeFault.{RangeFault}
use Rattle.edit_ranges.specs.declared.fault.RangeFault.TheVariants.{Syntax, OutOfOrder, Unended}
use Rattle.edit_ranges.specs.declared.fault.SummaryFault.{SummaryFault}
use Rattle.edit_ranges.specs.declared.fault.SummaryFault.TheVariants.{Malformed, NoMemory}
use Rattle.edit_ranges.specs.Ranges.{is_range, are_ranges}

-- `+` for names that the graph has, and `-` for those of deleted edges
abbrev pub sign : Told → ℕ
sign Named = 43
sign Deleted = 45

-- a dash and the last counter, and nothing where that is the first
abbrev pub last_text : ℕ → ℕ → List ℕ
last_text first last = if first == last then [] else (45 ∷ decimal last)

-- the line of a range, without its LF: the sign, the first name and the last counter
abbrev pub range_text : NameRange → List ℕ
range_text r = sign r.told ∷ (name_text (record { author = r.author; counter = r.first }) ++ last_text r.first r.last)

abbrev pub range_line : NameRange → List ℕ
range_line r = range_text r ++ 10 ∷ []

-- the lines of the ranges, one after the other
abbrev pub summary_text : List NameRange → List ℕ
summary_text ranges = flat_map range_line ranges

-- what is wrong with the bytes behind the lines of ranges in order: their first line is that of no range, or of one that may not stand
-- there, or no LF ends them
abbrev pub HasRangeFault : List NameRange → List ℕ → RangeFault → Type 0
HasRangeFault before rest Syntax =
    (bad : List ℕ) × (after : List ℕ) × (rest ≡ bad ++ 10 ∷ after) × Lacks 10 bad × ((r : NameRange) → is_range r ≡ true → bad ≢ range_text r)
HasRangeFault before rest OutOfOrder =
    (r : NameRange) × (after : List ℕ) × (rest ≡ range_text r ++ 10 ∷ after) × (is_range r ≡ true) × (are_ranges (before ++ r ∷ []) ≡ false)
HasRangeFault before rest Unended = Lacks 10 rest × (rest ≢ [])

-- the first bad line and its fault: behind the lines of ranges in order
pub record IsMalformed (text : List ℕ) (line : ℕ) (fault : RangeFault) : Type 0 where
  pub before : List NameRange
  pub in_order : are_ranges before ≡ true
  pub rest : List ℕ
  pub parts : text ≡ summary_text before ++ rest
  pub has_fault : HasRangeFault before rest fault
  pub number : line ≡ length before + 1

-- why a text was not read; want of memory says nothing of it
abbrev pub HasSummaryFault : List ℕ → SummaryFault → Type 0
HasSummaryFault text (Malformed line fault) = IsMalformed text line fault
HasSummaryFault text NoMemory = Unit {0}
