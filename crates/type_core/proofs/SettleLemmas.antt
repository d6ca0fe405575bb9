-- The tasks that tell whether two types are consistent.
use Rattle.std.proofs.Common.{◌≡◌, ℕ, ◌+◌, ◌<◌, Bool, true, false, ◌&&◌, ◌⊎◌, inl, inr, List, [], ◌∷◌, ◌++◌, All, sum_by, refl, sym, ap, subst, ◌∙◌, arith}
use Rattle.std.proofs.lemmas.List.Elements.{All-nil, All-cons}
use Rattle.std.proofs.lemmas.List.Sums.{sum_by-append}
use Rattle.type_core.specs.declared.consistency.Task.{Task}
use Rattle.type_core.specs.declared.consistency.Task.TheVariants.{Ask, Keep}
use Rattle.type_core.specs.declared.consistency.Verdict.TheVariants.{Parts}
use Rattle.type_core.specs.declared.heads.Pairing.{Pairing}
use Rattle.type_core.specs.Typ.{Typ, Unknown, Num, Boolean, Pair}
use Rattle.type_core.specs.TypeTable.{type_at}
use Rattle.type_core.specs.Heads.{IsPairingOf}
use Rattle.type_core.specs.Pairings.{is_consistent_pairing, type_size, pairing_size, VerdictOf, with_task, TaskFits, AreTasks}
use Rattle.type_core.specs.Turns.{outcome}
use Rattle.type_core.proofs.TurnLemmas.{outcome-push, EachFits-push, EachFits-pop}

abbrev pub task_size : List Typ → Task → ℕ
task_size table (Ask p) = pairing_size table p
task_size table (Keep p) = 1

abbrev pub tasks_size : List Typ → List Task → ℕ
tasks_size table tasks = sum_by (task_size table) tasks

pub tasks_size-push : (table : List Typ) (tasks : List Task) (t : Task) → tasks_size table (tasks ++ t ∷ []) ≡ tasks_size table tasks + task_size table t
tasks_size-push table tasks t = let e = sum_by-append (task_size table) tasks (t ∷ []) in omega (arith, e)

pub type_size-positive : (t : Typ) → 0 < type_size t
type_size-positive Unknown = omega arith
type_size-positive Num = omega arith
type_size-positive Boolean = omega arith
type_size-positive (Pair f a b) = omega arith

-- a task that is done leaves less to do
pub tasks_size-pop : (table : List Typ) (tasks rest : List Task) (t : Task) → tasks ≡ rest ++ t ∷ [] → tasks_size table rest < tasks_size table tasks
tasks_size-pop table tasks rest (Ask p) is =
    let pushed = tasks_size-push table rest (Ask p) in
    let same = ap (tasks_size table) is in
    let some = type_size-positive (type_at table p.left) in
    omega (arith, pushed, same, some)
tasks_size-pop table tasks rest (Keep p) is =
    let pushed = tasks_size-push table rest (Keep p) in
    let same = ap (tasks_size table) is in
    omega (arith, pushed, same)

-- the tasks tell whether the types of root are consistent, where `found` comes of the last of them
pub record IsSettling (table : List Typ) (root : Pairing) (tasks : List Task) (found : Bool) : Type 0 where
  pub each : AreTasks table tasks found
  pub root_found : is_consistent_pairing table root ≡ outcome (with_task table) tasks found

and-true : (a : Bool) → a && true ≡ a
and-true true = refl
and-true false = refl

and-false : (a : Bool) → a && false ≡ false
and-false true = refl
and-false false = refl

in_turn : (a b : Bool) → a && b ≡ b && (a && true)
in_turn true true = refl
in_turn true false = refl
in_turn false true = refl
in_turn false false = refl

module _ (table : List Typ) (root : Pairing) where
  pub IsSettling-push : (tasks : List Task) (t : Task) (found : Bool) → IsSettling table root tasks (with_task table t found) → TaskFits table t found → IsSettling table root (tasks ++ t ∷ []) found
  IsSettling-push tasks t found walk fits = record {
    each = EachFits-push (with_task table) (TaskFits table) tasks t found walk.each fits;
    root_found = walk.root_found ∙ sym (outcome-push (with_task table) tasks t found);
  }

  pub IsSettling-pop : (tasks : List Task) (t : Task) (found : Bool) → IsSettling table root (tasks ++ t ∷ []) found → IsSettling table root tasks (with_task table t found) × TaskFits table t found
  IsSettling-pop tasks t found walk =
      let popped = EachFits-pop (with_task table) (TaskFits table) tasks t found walk.each in
      (record { each = popped.0; root_found = walk.root_found ∙ outcome-push (with_task table) tasks t found }, popped.1)

  -- at first both types are asked, and it is kept what is found
  pub IsSettling-begun : IsPairingOf table root → IsSettling table root (Keep root ∷ Ask root ∷ []) true
  IsSettling-begun within = record {
    each = ((within, sym (and-true (is_consistent_pairing table root))), (within, tt));
    root_found = sym (and-true (is_consistent_pairing table root));
  }

  -- t was the last task
  module _ (tasks rest : List Task) (t : Task) (popped : tasks ≡ rest ++ t ∷ []) (walk : IsSettling table root tasks true) where
    IsSettling-rest : (u : Task) → t ≡ u → IsSettling table root rest (with_task table u true) × TaskFits table u true
    IsSettling-rest u is = IsSettling-pop rest u true (subst (λ ts. IsSettling table root ts true) (popped ∙ ap (λ x. rest ++ x ∷ []) is) walk)

    module _ (p : Pairing) (is : t ≡ Keep p) where
      pub keep_fits : TaskFits table (Keep p) true
      keep_fits = (IsSettling-rest (Keep p) is).1

      pub IsSettling-kept : IsSettling table root rest true
      IsSettling-kept = (IsSettling-rest (Keep p) is).0

    module _ (p : Pairing) (is : t ≡ Ask p) where
      pub asked_within : IsPairingOf table p
      asked_within = (IsSettling-rest (Ask p) is).1

      asked : IsSettling table root rest (is_consistent_pairing table p)
      asked = subst (IsSettling table root rest) (and-true (is_consistent_pairing table p)) (IsSettling-rest (Ask p) is).0

      pub IsSettling-known : (answer : Bool) → answer ≡ is_consistent_pairing table p → IsSettling table root rest answer
      IsSettling-known answer e = subst (IsSettling table root rest) (sym e) asked

      -- its parts are asked in its place, and it may be kept what they tell
      module _ (first second : Pairing) (parts : VerdictOf table p (Parts first second)) where
        abbrev found : Bool
        found = with_task table (Ask second) (with_task table (Ask first) true)

        both : is_consistent_pairing table p ≡ found
        both = parts.2 ∙ in_turn (is_consistent_pairing table first) (is_consistent_pairing table second)

        before_parts : (ts : List Task) → (ts ≡ rest) ⊎ (ts ≡ rest ++ Keep p ∷ []) → IsSettling table root ts found
        before_parts ts (inl e) = subst (λ us. IsSettling table root us found) (sym e) (subst (IsSettling table root rest) both asked)
        before_parts ts (inr e) =
            subst (λ us. IsSettling table root us found) (sym e) (IsSettling-push rest (Keep p) found (subst (IsSettling table root rest) both asked) (asked_within, both))

        pub IsSettling-parts : (ts : List Task) → (ts ≡ rest) ⊎ (ts ≡ rest ++ Keep p ∷ []) → IsSettling table root ((ts ++ Ask second ∷ []) ++ Ask first ∷ []) true
        IsSettling-parts ts kept =
            IsSettling-push (ts ++ Ask second ∷ []) (Ask first) true (IsSettling-push ts (Ask second) (with_task table (Ask first) true) (before_parts ts kept) parts.1) parts.0

-- where one is not consistent, so is none of those that waited for it
pub outcome-false : (table : List Typ) (tasks : List Task) → outcome (with_task table) tasks false ≡ false
outcome-false table [] = refl
outcome-false table (Ask p ∷ ts) = ap (λ b. is_consistent_pairing table p && b) (outcome-false table ts) ∙ and-false (is_consistent_pairing table p)
outcome-false table (Keep p ∷ ts) = outcome-false table ts

abbrev pub IsApart : List Typ → Task → Type 0
IsApart table (Ask p) = Unit {0}
IsApart table (Keep p) = IsPairingOf table p × (is_consistent_pairing table p ≡ false)

pub all_apart : (table : List Typ) (tasks : List Task) → AreTasks table tasks false → All (IsApart table) tasks
all_apart table [] each = All-nil (IsApart table)
all_apart table (Ask p ∷ ts) each = All-cons (IsApart table) (Ask p) ts tt (all_apart table ts each.1)
all_apart table (Keep p ∷ ts) each = All-cons (IsApart table) (Keep p) ts (each.0.0, each.0.1 ∙ outcome-false table ts) (all_apart table ts each.1)
