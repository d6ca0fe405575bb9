-- Lines before those of edits are few.
use Rattle.std.proofs.Common.{◌≤◌, arith}
use Rattle.grove_sorts.specs.declared.version.Version.{Version}
use Rattle.grove_sorts.specs.declared.version.Version.TheVariants.{One, Two}
use Rattle.edit_text.specs.Whole.{header_lines}

pub header_short : (version : Version) → header_lines version ≤ 1
header_short One = omega arith
header_short Two = omega arith
