-- What a call of a source or of a sink makes of the answers of the reader or writer below it.
use Rattle.std.specs.Prelude.{◌≡◌, ◌≢◌, ◌<◌, ◌-◌, ◌⊎◌, ◌^◌, ℕ, List, length, Result, Ok, Err}
use Rattle.std.specs.IoError.{error_kind}
use Rattle.std.specs.declared.io.Error.{Error}
use Rattle.std.specs.declared.io.ErrorKind.TheVariants.{Interrupted}
use Rattle.grove_io.specs.declared.fault.Failed.{Failed}
use Rattle.grove_io.specs.Outside.{counted_once_more}

-- an error ends the call: any but an interruption, and that too where the count has come to its last value
abbrev pub IsLast : ℕ → Error → Type 0
IsLast faults e = (error_kind e ≢ Interrupted) ⊎ (counted_once_more faults ≡ 2 ^ 64 - 1)

-- none of some bytes was taken
abbrev pub TakesNothing : List ℕ → ℕ → Type 0
TakesNothing piece count = (0 < length piece) × (count ≡ 0)

-- From a reader and a count of faults to a result, and the reader and the count after it. `answers` says what one call of the reader
-- answers, and `stalls` which counts of bytes are a fault. Each fault is counted once, and no success is; after an interruption alone
-- the reader is called again.
pub data Tries {R : Type 0} (answers : R → Result ℕ Error → R → Type 0) (stalls : ℕ → Type 0) : R → ℕ → Result ℕ Failed → R → ℕ → Type 0 where
  succeeds : {before after : R} {faults count : ℕ} → answers before (Ok count) after → ¬ stalls count
      → Tries answers stalls before faults (Ok count) after faults
  stalls_once : {before after : R} {faults count : ℕ} {failed : Failed} → answers before (Ok count) after → stalls count
      → Tries answers stalls before faults (Err failed) after (counted_once_more faults)
  fails : {before after : R} {faults : ℕ} {e : Error} {failed : Failed} → answers before (Err e) after → IsLast faults e
      → Tries answers stalls before faults (Err failed) after (counted_once_more faults)
  tries_again : {before between after : R} {faults last : ℕ} {e : Error} {result : Result ℕ Failed} → answers before (Err e) between
      → error_kind e ≡ Interrupted → Tries answers stalls between (counted_once_more faults) result after last
      → Tries answers stalls before faults result after last
