use Rattle.std.proofs.Common.{◌+◌, take}
use Rattle.grove_sorts.specs.declared.version.Version.{Version}
use Rattle.edit_merge.specs.Named.{DoStand}
use Rattle.edit_merge.proofs.OneEdge.{IsChosen}
use Rattle.edit_merge.proofs.writing.line_to_copy.Given as goal

abbrev pub invariant-loop-line : goal.invariant-loop-line
invariant-loop-line l = (version : Version) → DoStand version l.text l.group → IsChosen version l.text l.first (take (l.line-index + 1) l.group) l.chosen
