-- The tries of one call: those so far, and one more.
use Rattle.std.proofs.Common.{◌≡◌, ℕ, Result, Ok, Err}
use Rattle.std.specs.IoError.{error_kind}
use Rattle.std.specs.declared.io.Error.{Error}
use Rattle.std.specs.declared.io.ErrorKind.TheVariants.{Interrupted}
use Rattle.grove_io.specs.declared.fault.Failed.{Failed}
use Rattle.grove_io.specs.Outside.{counted_once_more}
use Rattle.grove_io.specs.Tries.{Tries, IsLast, succeeds, stalls_once, fails, tries_again}

module _ {R : Type 0} (answers : R → Result ℕ Error → R → Type 0) (stalls : ℕ → Type 0) where
  -- what the tries from the second state come to, those from the first come to
  abbrev pub LeadsTo : R → ℕ → R → ℕ → Type 0
  LeadsTo start faults now counted =
      (result : Result ℕ Failed) (after : R) (last : ℕ) → Tries answers stalls now counted result after last → Tries answers stalls start faults result after last

  pub no_try : (start : R) (faults : ℕ) → LeadsTo start faults start faults
  no_try start faults result after last tried = tried

  pub one_more : (start now next : R) (faults counted : ℕ) (e : Error) → LeadsTo start faults now counted → answers now (Err e) next → error_kind e ≡ Interrupted
      → LeadsTo start faults next (counted_once_more counted)
  one_more start now next faults counted e so_far answered kind result after last tried = so_far result after last (tries_again answered kind tried)

  pub then_succeeds : (start now next : R) (faults counted count : ℕ) → LeadsTo start faults now counted → answers now (Ok count) next → ¬ stalls count
      → Tries answers stalls start faults (Ok count) next counted
  then_succeeds start now next faults counted count so_far answered moves = so_far (Ok count) next counted (succeeds answered moves)

  pub then_stalls : (start now next : R) (faults counted count : ℕ) (failed : Failed) → LeadsTo start faults now counted → answers now (Ok count) next → stalls count
      → Tries answers stalls start faults (Err failed) next (counted_once_more counted)
  then_stalls start now next faults counted count failed so_far answered none = so_far (Err failed) next (counted_once_more counted) (stalls_once answered none)

  pub then_fails : (start now next : R) (faults counted : ℕ) (e : Error) (failed : Failed) → LeadsTo start faults now counted → answers now (Err e) next → IsLast counted e
      → Tries answers stalls start faults (Err failed) next (counted_once_more counted)
  then_fails start now next faults counted e failed so_far answered last = so_far (Err failed) next (counted_once_more counted) (fails answered last)
