-- What a call of the editor did, at the values that the held editor has.
use Rattle.std.proofs.Common.{◌≡◌, ℕ, sym, subst}
use Rattle.std.specs.Prelude.{Result, OnOk}
use Rattle.grove_editor.specs.State.{State}

pub passed : {E : Type 0} (r : Result (Unit {0}) E) (P : ℕ → State → State → Type 0) (a b : ℕ) (was old new left : State) → a ≡ b → was ≡ old → left ≡ new → OnOk r (P a was new) → OnOk r (P b old left)
passed r P a b was old new left author before after is =
    subst (λ (s : State). OnOk r (P b old s)) (sym after) (subst (λ (s : State). OnOk r (P b s new)) before (subst (λ (n : ℕ). OnOk r (P n was new)) author is))
