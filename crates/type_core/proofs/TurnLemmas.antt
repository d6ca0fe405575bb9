-- Items on a stack that have their turns one after the other.
use Rattle.std.proofs.Common.{◌≡◌, List, [], ◌∷◌, ◌++◌, refl, sym, ap, subst}
use Rattle.type_core.specs.Turns.{outcome, EachFits}

module _ {A V : Type 0} (turn : A → V → V) where
  -- one more has its turn before the others
  pub outcome-push : (items : List A) (a : A) (v : V) → outcome turn (items ++ a ∷ []) v ≡ outcome turn items (turn a v)
  outcome-push [] a v = refl
  outcome-push (b ∷ items) a v = ap (turn b) (outcome-push items a v)

  module _ (Fits : A → V → Type 0) where
    pub EachFits-push : (items : List A) (a : A) (v : V) → EachFits turn Fits items (turn a v) → Fits a v → EachFits turn Fits (items ++ a ∷ []) v
    EachFits-push [] a v each fits = (fits, tt)
    EachFits-push (b ∷ items) a v each fits = (subst (Fits b) (sym (outcome-push items a v)) each.0, EachFits-push items a v each.1 fits)

    pub EachFits-pop : (items : List A) (a : A) (v : V) → EachFits turn Fits (items ++ a ∷ []) v → EachFits turn Fits items (turn a v) × Fits a v
    EachFits-pop [] a v each = (tt, each.0)
    EachFits-pop (b ∷ items) a v each =
        let rest = EachFits-pop items a v each.1 in ((subst (Fits b) (outcome-push items a v) each.0, rest.0), rest.1)
