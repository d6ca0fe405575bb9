use Rattle.std.proofs.Common.{◌≡◌, ◌++◌, length}
use Rattle.edit_text.specs.Text.{text_of, AreOf}
use Rattle.edit_stream.proofs.reading.read_more_lines.Given as goal

abbrev pub invariant-loop-line : goal.invariant-loop-line
invariant-loop-line l = record {
  parts : text_of l.fn.edits ++ l.fn.text ≡ text_of l.edits ++ l.rest;
  of_version : AreOf l.version l.edits;
}

abbrev pub decreases-loop-line : goal.decreases-loop-line
decreases-loop-line l = length l.rest
