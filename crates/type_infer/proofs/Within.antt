-- The variables of names are those of the list.
use Rattle.std.proofs.Common.{◌≡◌, ℕ, zero, suc, ◌+◌, ◌<◌, Bool, true, false, List, [], ◌∷◌, ◌++◌, length, reverse, replicate, Option, None, Some, IfSome, sym, subst, arith, if◌then◌else◌}
use Rattle.std.specs.Prelude.{◌==◌}
use Rattle.std.specs.Cmp.Lexicographic.{pointwise}
use Rattle.std.specs.List.{AllByRecursion}
use Rattle.std.proofs.lemmas.List.{reverse-append, reverse-reverse}
use Rattle.grove_sorts.specs.declared.ident.Ident.{Ident}
use Rattle.grove_sorts.specs.declared.ctor.Ctor.{Ctor}
use Rattle.grove_sorts.specs.declared.ctor.Ctor.TheVariants as ctor
use Rattle.grove_sorts.specs.Ctor.{positions}
use Rattle.grove_sorts.specs.Ident.{ident_bytes}
use Rattle.type_infer.specs.TreeEquations.{Names, variable_of, binder_of}
use Rattle.type_infer.specs.declared.rows.Places.{Places}
use Rattle.type_infer.specs.declared.tree.Place.{Place}
use Rattle.type_infer.specs.declared.tree.Place.TheVariants.{Plain}
use Rattle.type_infer.specs.Rows.{place_list, ArePlacesOf}
use Rattle.type_infer.specs.Walking.{at_position, form_places}
use Rattle.type_infer.specs.Positions.{IsPlaceWithin, ArePlacesWithin, AreNamesWithin}
use Rattle.type_infer.proofs.Findings.{AllByRecursion-append}

some_if : (variables : ℕ) (b : Bool) (v : ℕ) (found : Option ℕ) → v < variables → IfSome found (λ w. w < variables) → IfSome (if b then Some v else found) (λ w. w < variables)
some_if variables true v found here later = here
some_if variables false v found here later = later

variable_within : (variables : ℕ) (names : Names) (name : Ident) → AreNamesWithin variables names → IfSome (variable_of names name) (λ v. v < variables)
variable_within variables [] name within = tt
variable_within variables (b ∷ bs) name within =
    some_if variables (pointwise ◌==◌ (ident_bytes b.0) (ident_bytes name)) b.1 (variable_of bs name) within.0 (variable_within variables bs name within.1)

pub binder_within : (variables : ℕ) (names : Names) (c : Ctor) → AreNamesWithin variables names → IfSome (binder_of names c) (λ v. v < variables)
binder_within variables names (ctor.Var name) within = variable_within variables names name within
binder_within variables names _ within = tt

all_reverse : {X : Type 0} (P : X → Type 0) (xs : List X) → AllByRecursion P xs → AllByRecursion P (reverse xs)
all_reverse P [] h = tt
all_reverse P (x ∷ xs) h = subst (AllByRecursion P) (sym (reverse-append (x ∷ []) xs)) (AllByRecursion-append P (reverse xs) (x ∷ []) (all_reverse P xs h.1) (h.0, tt))

-- places that come first, read from the end
pub pushed_within : (variables : ℕ) (old new more : List Place) → reverse new ≡ more ++ reverse old → ArePlacesWithin variables more → ArePlacesWithin variables old → ArePlacesWithin variables new
pushed_within variables old new more is within others =
    let P : Place → Type 0 = IsPlaceWithin variables in
    subst (AllByRecursion P) (reverse-reverse new)
    (all_reverse P (reverse new) (subst (AllByRecursion P) (sym is) (AllByRecursion-append P more (reverse old) within (all_reverse P old others))))

pub plain_within : (variables n : ℕ) → ArePlacesWithin variables (replicate n Plain)
plain_within variables zero = tt
plain_within variables (suc n) = (tt, plain_within variables n)

pub form_within : (variables : ℕ) (c : Ctor) (at : Places) (x : ℕ) → x + 2 < variables → ArePlacesOf variables at → ArePlacesWithin variables (form_places c (at_position (positions c) (place_list at)) x)
form_within variables ctor.Lam at x h within = (tt, (tt, (within.second, tt)))
form_within variables ctor.Let at x h within = (tt, (tt, (within.second, tt)))
form_within variables ctor.Case at x h within = (tt, (tt, (omega (arith, h), (tt, (h, tt)))))
form_within variables c at x h within = plain_within variables (length (positions c))
