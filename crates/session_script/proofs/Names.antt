-- The numbers of replicas and their names.
use Rattle.std.proofs.Common.{◌≡◌, ℕ, zero, suc, ◌<◌, true, ◌||◌, List, [], ◌∷◌, Option, Some, length, slice_get, refl, sym, ap, subst, ◌∙◌, arith}
use Rattle.std.specs.Cmp.{eq_by_cmp_equiv}
use Rattle.std.specs.List.{list_any, AllByRecursion}
use Rattle.std.specs.Option.{option_map_or}
use Rattle.grove_sorts.specs.declared.ident.Ident.{Ident}
use Rattle.grove_sorts.specs.Ident.{ident_bytes, ident_cmp}
use Rattle.grove_sorts.specs.declared.version.Version.{Version}
use Rattle.grove_sorts.proofs.Truths.{or_right}
use Rattle.grove_sorts.proofs.Orders.{ident_cmp_total, ident_cmp_exact, equal_from_test}
use Rattle.session_script.specs.Statement.{IsReplicaOf}
use Rattle.session_script.specs.Order.{is_same_ident}
use Rattle.session_script.specs.Session.{replica_name, AllDiffer}

-- each number of a replica has a name
pub named : (replicas : List Ident) (number : ℕ) → number < length replicas → (replica : Ident) × (slice_get replicas number ≡ Some replica)
named [] number within = absurd (omega arith)
named (r ∷ replicas) zero within = (r, refl)
named (r ∷ replicas) (suc number) within = named replicas number (omega arith)

pub name_is : (replicas : List Ident) (number : ℕ) (replica : Ident) → slice_get replicas number ≡ Some replica → replica_name replicas number ≡ ident_bytes replica
name_is replicas number replica is = ap (λ (o : Option Ident). option_map_or ident_bytes o []) is

pub same_ident_itself : (a : Ident) → is_same_ident a a ≡ true
same_ident_itself a = (eq_by_cmp_equiv ident_cmp_total).refl a

pub same_ident_exact : (a b : Ident) → is_same_ident a b ≡ true → a ≡ b
same_ident_exact a b e = ident_cmp_exact a b (equal_from_test (ident_cmp a b) e)

-- a replica with a number is declared
pub declared_name : (replicas : List Ident) (number : ℕ) (replica : Ident) → slice_get replicas number ≡ Some replica → list_any (is_same_ident replica) replicas ≡ true
declared_name [] number replica is = absurd cc
declared_name (r ∷ replicas) zero replica is =
    let same : r ≡ replica = cc in
    ap (λ b. b || list_any (is_same_ident replica) replicas) (ap (is_same_ident replica) same ∙ same_ident_itself replica)
declared_name (r ∷ replicas) (suc number) replica is =
    ap (λ b. is_same_ident replica r || b) (declared_name replicas number replica is) ∙ or_right (is_same_ident replica r) true refl

-- a replica with a number is of the version
pub name_known : (version : Version) (replicas : List Ident) (number : ℕ) (replica : Ident) → AllByRecursion (IsReplicaOf version) replicas → slice_get replicas number ≡ Some replica → IsReplicaOf version replica
name_known version [] number replica h is = absurd cc
name_known version (r ∷ replicas) zero replica h is = let same : r ≡ replica = cc in subst (IsReplicaOf version) same h.0
name_known version (r ∷ replicas) (suc number) replica h is = name_known version replicas number replica h.1 is

name_differs : (r : Ident) (replicas : List Ident) (j : ℕ) → AllByRecursion (λ y. r ≡ y → ⊥) replicas → slice_get replicas j ≡ Some r → ⊥
name_differs r [] j differ is = cc
name_differs r (s ∷ replicas) zero differ is = differ.0 (let same : s ≡ r = cc in sym same)
name_differs r (s ∷ replicas) (suc j) differ is = name_differs r replicas j differ.1 is

-- a name is that of one replica
one_number : (replicas : List Ident) (i j : ℕ) (r : Ident) → AllDiffer replicas → slice_get replicas i ≡ Some r → slice_get replicas j ≡ Some r → i ≡ j
one_number [] i j r differ h k = cc
one_number (s ∷ replicas) zero zero r differ h k = refl
one_number (s ∷ replicas) zero (suc j) r differ h k =
    let same : s ≡ r = cc in absurd (name_differs s replicas j differ.0 (k ∙ ap Some (sym same)))
one_number (s ∷ replicas) (suc i) zero r differ h k =
    let same : s ≡ r = cc in absurd (name_differs s replicas i differ.0 (h ∙ ap Some (sym same)))
one_number (s ∷ replicas) (suc i) (suc j) r differ h k = ap suc (one_number replicas i j r differ.1 h k)

-- the same of two names that are one
pub same_number : (replicas : List Ident) (i j : ℕ) (r s : Ident) → AllDiffer replicas → r ≡ s → slice_get replicas i ≡ Some r → slice_get replicas j ≡ Some s → i ≡ j
same_number replicas i j r s differ same h k = one_number replicas i j s differ (h ∙ ap Some same) k
