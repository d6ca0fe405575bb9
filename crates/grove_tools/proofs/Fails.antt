-- Want of memory is refused without a claim on the text.
use Rattle.std.proofs.Common.{◌≡◌, ℕ, List, Result, Ok, Err, subst, sym}
use Rattle.std.specs.Prelude.{IfErr, IsErrAnd}
use Rattle.grove_calls.specs.declared.refusal.Refusal.{Refusal}
use Rattle.grove_calls.specs.declared.refusal.Refusal.TheVariants.{NoMemory}
use Rattle.grove_calls.specs.Due.{IsRefusal}
use Rattle.grove_tools.specs.declared.tool.Tool.{Tool}
use Rattle.grove_tools.specs.Due.{tool_rules}

pub no_memory_refused : {T : Type 0} (tool : Tool) (text : List ℕ) (r : Result T Refusal) → IsErrAnd r (λ refusal. refusal ≡ NoMemory) → IfErr r (IsRefusal tool_rules tool text)
no_memory_refused tool text (Ok x) h = absurd h
no_memory_refused tool text (Err e) h = subst (IsRefusal tool_rules tool text) (sym h) tt
