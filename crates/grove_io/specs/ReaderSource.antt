-- What a source over a reader shows.
use Rattle.std.specs.Prelude.{ℕ}
use Rattle.grove_io.specs.declared.reader_source.ReaderSource.{ReaderSource}

abbrev pub reader_of : {R : Type 0} → ReaderSource R → R
reader_of source = source.reader

-- how often the reader has answered an error
abbrev pub errors_of : {R : Type 0} → ReaderSource R → ℕ
errors_of source = source.faults
