-- A type written as a list of numbers, its parts first, and read back from it.
use Rattle.std.specs.Prelude.{◌≡◌, ℕ, suc, zero, List, [], ◌∷◌, ◌++◌, refl}
use Rattle.std.specs.Coded.{Coded, code_by, coded_ℕ, coded_list}
use Rattle.std.proofs.Common.{sym, ap, ◌∙◌, append_assoc, append-nil}
use Rattle.type_core.specs.declared.former.Former.{Former}
use Rattle.type_core.specs.declared.former.Former.TheVariants.{Arrow, Product, Sum}
use Rattle.type_core.specs.Typ.{Typ, Unknown, Num, Boolean, Pair}

abbrev pub former_number : Former → ℕ
former_number Arrow = 3
former_number Product = 4
former_number Sum = 5

abbrev pub written : Typ → List ℕ
written Unknown = 0 ∷ []
written Num = 1 ∷ []
written Boolean = 2 ∷ []
written (Pair f a b) = written a ++ (written b ++ former_number f ∷ [])

abbrev pub pair_top : Former → List Typ → List Typ
pair_top f (b ∷ (a ∷ stack)) = Pair f a b ∷ stack
pair_top f stack = stack

abbrev pub step : ℕ → List Typ → List Typ
step zero stack = Unknown ∷ stack
step (suc zero) stack = Num ∷ stack
step (suc (suc zero)) stack = Boolean ∷ stack
step (suc (suc (suc zero))) stack = pair_top Arrow stack
step (suc (suc (suc (suc zero)))) stack = pair_top Product stack
step (suc (suc (suc (suc (suc _))))) stack = pair_top Sum stack

abbrev pub run : List ℕ → List Typ → List Typ
run [] stack = stack
run (x ∷ xs) stack = run xs (step x stack)

abbrev pub first : List Typ → Typ
first [] = Unknown
first (t ∷ _) = t

run-former : (f : Former) (a b : Typ) (rest : List ℕ) (stack : List Typ) → run (former_number f ∷ rest) (b ∷ (a ∷ stack)) ≡ run rest (Pair f a b ∷ stack)
run-former Arrow a b rest stack = refl
run-former Product a b rest stack = refl
run-former Sum a b rest stack = refl

run-written : (t : Typ) (rest : List ℕ) (stack : List Typ) → run (written t ++ rest) stack ≡ run rest (t ∷ stack)
run-written Unknown rest stack = refl
run-written Num rest stack = refl
run-written Boolean rest stack = refl
run-written (Pair f a b) rest stack =
    ap (λ xs. run xs stack) (append_assoc (written a) (written b ++ former_number f ∷ []) rest)
    ∙ run-written a ((written b ++ former_number f ∷ []) ++ rest) stack
    ∙ ap (λ xs. run xs (a ∷ stack)) (append_assoc (written b) (former_number f ∷ []) rest)
    ∙ run-written b (former_number f ∷ rest) (a ∷ stack)
    ∙ run-former f a b rest stack

pub first-run-written : (t : Typ) → first (run (written t) []) ≡ t
first-run-written t =
    ap (λ xs. first (run xs [])) (sym (append-nil (written t))) ∙ ap first (run-written t [] [])

abbrev pub typ_code : Coded Typ
typ_code = code_by (List ℕ) (coded_list coded_ℕ) written (λ xs. first (run xs [])) first-run-written
