-- The places of open vertices among the nodes so far, as nodes are added and marked.
use Rattle.std.proofs.Common.{◌≡◌, ◌↔◌, ℕ, zero, suc, ◌<◌, ◌≤◌, false, List, [], ◌∷◌, ◌++◌, length, refl, ap, arith}
use Rattle.grove_sorts.specs.declared.position.Position.{Position}
use Rattle.grove_sorts.specs.declared.sort.Sort.{Sort}
use Rattle.mark_step.specs.Expression.{has_mark}
use Rattle.marking.specs.Marking.{MarkedNode, HasNoMark}
use Rattle.judging.specs.Machine as machine
use Rattle.judging.specs.Machine.{Of, Several}
use Rattle.judging.specs.Frames.{frame_of}
use Rattle.plain_typing.specs.Walking.{IsUnmarkedAt, AreUnsettled}
use Rattle.plain_typing.proofs.Unmarked.{no_mark-join, no_mark-first}

-- ---- one place

pub unmarked-push : (ms xs : List MarkedNode) (i : ℕ) → IsUnmarkedAt ms i → IsUnmarkedAt (ms ++ xs) i
unmarked-push [] xs i is = absurd is
unmarked-push (m ∷ ms) xs zero is = is
unmarked-push (m ∷ ms) xs (suc i) is = unmarked-push ms xs i is

pub unmarked-last : (ms : List MarkedNode) (m : MarkedNode) → has_mark m.mark ≡ false → IsUnmarkedAt (ms ++ m ∷ []) (length ms)
unmarked-last [] m is = is
unmarked-last (x ∷ xs) m is = unmarked-last xs m is

pub unmarked-added : (ms : List MarkedNode) (i j : ℕ) (a : machine.Added) → i < j → IsUnmarkedAt ms i → IsUnmarkedAt (machine.add_at a ms j) i
unmarked-added [] i j a lt is = absurd is
unmarked-added (x ∷ xs) i zero a lt is = absurd (omega (arith, lt))
unmarked-added (x ∷ xs) zero (suc j) a lt is = is
unmarked-added (x ∷ xs) (suc i) (suc j) a lt is = unmarked-added xs i j a (omega (arith, lt)) is

pub unmarked-within : (ms : List MarkedNode) (i : ℕ) → IsUnmarkedAt ms i → i < length ms
unmarked-within [] i is = absurd is
unmarked-within (m ∷ ms) zero is = omega arith
unmarked-within (m ∷ ms) (suc i) is = omega (arith, unmarked-within ms i is)

-- a node that had no mark gets what it is marked with
pub no_mark-added : (ms : List MarkedNode) (i : ℕ) (a : machine.Added) → IsUnmarkedAt ms i → HasNoMark ms × (has_mark a.mark ≡ false) ↔ HasNoMark (machine.add_at a ms i)
no_mark-added [] i a is = absurd is
no_mark-added (x ∷ xs) zero a is = (λ h. (h.1, h.0.1), λ h. ((is, h.1), h.0))
no_mark-added (x ∷ xs) (suc i) a is =
    let later = no_mark-added xs i a is in
    (λ h. (h.0.0, later.0 (h.0.1, h.1)), λ h. ((h.0, (later.1 h.1).0), (later.1 h.1).1))

pub no_mark-push : (ms : List MarkedNode) (m : MarkedNode) → has_mark m.mark ≡ false → HasNoMark ms ↔ HasNoMark (ms ++ m ∷ [])
no_mark-push ms m is = (λ h. no_mark-join ms (m ∷ []) h (is, tt), λ h. no_mark-first ms (m ∷ []) h)

pub length-added : (ms : List MarkedNode) (i : ℕ) (a : machine.Added) → length (machine.add_at a ms i) ≡ length ms
length-added [] i a = refl
length-added (m ∷ ms) zero a = refl
length-added (m ∷ ms) (suc i) a = ap suc (length-added ms i a)

-- ---- those of all open vertices

pub unsettled-more : (low high : ℕ) (fs : List machine.Frame) (ms : List MarkedNode) → low ≤ high → AreUnsettled low fs ms → AreUnsettled high fs ms
unsettled-more low high [] ms le are = tt
unsettled-more low high (Of place v p ps ∷ fs) ms le are = (omega (arith, are.0), are.1, are.2)
unsettled-more low high (Several d n ∷ fs) ms le are = unsettled-more low high fs ms le are

pub unsettled-push : (below : ℕ) (fs : List machine.Frame) (ms xs : List MarkedNode) → AreUnsettled below fs ms → AreUnsettled below fs (ms ++ xs)
unsettled-push below [] ms xs are = tt
unsettled-push below (Of place v p ps ∷ fs) ms xs are = (are.0, unmarked-push ms xs place are.1, unsettled-push place fs ms xs are.2)
unsettled-push below (Several d n ∷ fs) ms xs are = unsettled-push below fs ms xs are

pub unsettled-added : (below : ℕ) (fs : List machine.Frame) (ms : List MarkedNode) (j : ℕ) (a : machine.Added) → below ≤ j → AreUnsettled below fs ms → AreUnsettled below fs (machine.add_at a ms j)
unsettled-added below [] ms j a le are = tt
unsettled-added below (Of place v p ps ∷ fs) ms j a le are =
    (are.0, unmarked-added ms place j a (omega (arith, le, are.0)) are.1, unsettled-added place fs ms j a (omega (arith, le, are.0)) are.2)
unsettled-added below (Several d n ∷ fs) ms j a le are = unsettled-added below fs ms j a le are

-- one more vertex is open
pub unsettled-open : (place : ℕ) (v : machine.Opened) (ps : List (Position × Sort)) (below : ℕ) (fs : List machine.Frame) (ms : List MarkedNode) → place < below → IsUnmarkedAt ms place
    → AreUnsettled place fs ms → AreUnsettled below (frame_of place v ps ∷ fs) ms
unsettled-open place v [] below fs ms lt is are = unsettled-more place below fs ms (omega (arith, lt)) are
unsettled-open place v (p ∷ ps) below fs ms lt is are = (lt, is, are)

-- the innermost is open
pub unsettled-first : (place : ℕ) (v : machine.Opened) (ps : List (Position × Sort)) (below : ℕ) (fs : List machine.Frame) (ms : List MarkedNode) → (ps ≡ [] → ⊥)
    → AreUnsettled below (frame_of place v ps ∷ fs) ms → IsUnmarkedAt ms place × AreUnsettled place fs ms
unsettled-first place v [] below fs ms some are = absurd (some refl)
unsettled-first place v (p ∷ ps) below fs ms some are = (are.1, are.2)
