-- The numbers of lines are no greater than the numbers of bytes.
use Rattle.std.proofs.Common.{ℕ, ◌+◌, ◌≤◌, List, length, ap, arith, length-append}
use Rattle.grove_sorts.specs.declared.version.Version.{Version}
use Rattle.grove_sorts.specs.declared.version.Version.TheVariants.{One, Two}
use Rattle.edit_text.specs.declared.line_fault.LineFault.{LineFault}
use Rattle.edit_text.specs.Text.{IsMalformed, HasRest}
use Rattle.edit_text.specs.Whole.{header, header_lines, HasVersion}
use Rattle.edit_text.proofs.TextsOfEdits.{malformed_short, rest_short}

header_short : (version : Version) → header_lines version ≤ length (header version)
header_short One = omega arith
header_short Two = omega arith

-- lines behind those that tell the version
all_short : (version : Version) (text lines : List ℕ) (line : ℕ) → HasVersion text version lines → line ≤ length lines → header_lines version + line ≤ length text
all_short version text lines line of short =
    let before = header_short version in
    omega (arith, ap length of.parts, length-append (header version) lines)

pub malformed_within : (version : Version) (text lines : List ℕ) (line : ℕ) (fault : LineFault) → HasVersion text version lines → IsMalformed version lines line fault → header_lines version + line ≤ length text
malformed_within version text lines line fault of bad = all_short version text lines line of (malformed_short version lines line fault bad)

pub rest_within : (version : Version) (text lines : List ℕ) (line : ℕ) → HasVersion text version lines → HasRest version lines line → header_lines version + line ≤ length text
rest_within version text lines line of rest = all_short version text lines line of (rest_short version lines line rest)
