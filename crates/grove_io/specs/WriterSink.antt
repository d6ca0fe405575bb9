-- What a sink over a writer shows.
use Rattle.std.specs.Prelude.{ℕ}
use Rattle.grove_io.specs.declared.writer_sink.WriterSink.{WriterSink}

abbrev pub writer_of : {W : Type 0} → WriterSink W → W
writer_of sink = sink.writer

-- how often the writer has answered an error, or taken nothing of a piece that was not empty
abbrev pub errors_of : {W : Type 0} → WriterSink W → ℕ
errors_of sink = sink.faults
