-- Whether two types are consistent, and what is still to be asked to tell it.
use Rattle.std.specs.Prelude.{◌≡◌, ℕ, ◌+◌, ◌<◌, Bool, ◌&&◌, List}
use Rattle.type_core.specs.declared.consistency.Task.{Task}
use Rattle.type_core.specs.declared.consistency.Task.TheVariants.{Ask, Keep}
use Rattle.type_core.specs.declared.consistency.Verdict.{Verdict}
use Rattle.type_core.specs.declared.consistency.Verdict.TheVariants.{Known, Parts}
use Rattle.type_core.specs.declared.heads.Pairing.{Pairing}
use Rattle.type_core.specs.Typ.{Typ, Pair, is_consistent}
use Rattle.type_core.specs.TypeTable.{type_at}
use Rattle.type_core.specs.Heads.{IsPairingOf}
use Rattle.type_core.specs.Turns.{EachFits}

-- whether the two types are consistent
abbrev pub is_consistent_pairing : List Typ → Pairing → Bool
is_consistent_pairing table p = is_consistent (type_at table p.left) (type_at table p.right)

-- more than the parts of a type have together, as a tree
abbrev pub type_size : Typ → ℕ
type_size (Pair f a b) = type_size a + type_size b + 3
type_size _ = 1

abbrev pub pairing_size : List Typ → Pairing → ℕ
pairing_size table p = type_size (type_at table p.left)

-- what is known of p
abbrev pub VerdictOf : List Typ → Pairing → Verdict → Type 0
VerdictOf table p (Known answer) = answer ≡ is_consistent_pairing table p
VerdictOf table p (Parts first second) = IsPairingOf table first × IsPairingOf table second
    × (is_consistent_pairing table p ≡ is_consistent_pairing table first && is_consistent_pairing table second)
    × (pairing_size table first + pairing_size table second + 1 < pairing_size table p)

-- what is asked together with what the tasks after it found
abbrev pub with_task : List Typ → Task → Bool → Bool
with_task table (Ask p) found = is_consistent_pairing table p && found
with_task table (Keep p) found = found

-- the tasks after it find out of p whether its types are consistent
abbrev pub TaskFits : List Typ → Task → Bool → Type 0
TaskFits table (Ask p) found = IsPairingOf table p
TaskFits table (Keep p) found = IsPairingOf table p × (is_consistent_pairing table p ≡ found)

-- each task fits what those after it find, where `found` comes of the last
abbrev pub AreTasks : List Typ → List Task → Bool → Type 0
AreTasks table tasks found = EachFits (with_task table) (TaskFits table) tasks found
