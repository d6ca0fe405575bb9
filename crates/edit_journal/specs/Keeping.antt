-- What is kept in a log on a disk in memory.
use Rattle.std.specs.Prelude.{ℕ}

-- how many bytes the text of edits has at most
abbrev pub most_kept : ℕ
most_kept = 16777216
