-- The hare and the tortoise: where they stand after some rounds, and what that says of the walk.
use Rattle.std.proofs.Common.{◌≡◌, ℕ, zero, suc, ◌+◌, ◌-◌, ◌*◌, ◌/◌, ◌%◌, ◌<◌, ◌≤◌, true, false, length, refl, sym, ap, subst, ◌∙◌, arith}
use Rattle.std.specs.Prelude.{leb, List, Option, None, Some}
use Rattle.std.proofs.lemmas.Bool.{leb-true, leb-false}
use Rattle.std.specs.declared.cmp.Ordering.{Ordering}
use Rattle.std.specs.declared.cmp.Ordering.TheVariants.{Less, Equal, Greater}
use Rattle.std.specs.Ordering.{is_gt}
use Rattle.grove_edits.specs.declared.vertex.Vertex.{Vertex}
use Rattle.grove_edits.specs.declared.edge.Edge.{Edge}
use Rattle.grove_edits.specs.Vertex.{vertex_cmp, is_same_vertex}
use Rattle.grove_edits.proofs.Orders.{vertex_cmp_exact}
use Rattle.graph_words.specs.Walk.{above, walk}
use Rattle.graph_words.specs.Class.{is_cycle_root}
use Rattle.grove_edits.proofs.Vertices.{vertex_cmp_itself, same_vertex_itself, same_vertex_exact}
use Rattle.graph_words.proofs.Up.{up, up-along, up_none_along, walk_len, walk_some, walk_apart, walk_back, walk_least}
use Rattle.graph_words.proofs.Returns.{AllGreater, some_same, walk_len_pos, not_itself, up_from, root_from_back}
use Rattle.unicycle_roots.specs.declared.step_up.StepUp.TheVariants.{ToGreater, Back, ToNoCycle}
use Rattle.unicycle_roots.specs.StepUp.{found, found_by}
use Rattle.graph_words.proofs.Roots.{root_back, root_least}
use Rattle.grove_sorts.proofs.Truths.{false_from}

-- the tortoise has gone k steps and the hare twice as many, and they have not met
pub record IsRound (edges : List Edge) (v hare tortoise : Vertex) (k : ℕ) : Type 0 where
  pub hare_at : up edges (k + k) (Some v) ≡ Some hare
  pub tortoise_at : up edges k (Some v) ≡ Some tortoise
  pub greater : AllGreater edges v (k + k)
  pub apart : (i : ℕ) → 0 < i → i ≤ k → up edges i (Some v) ≡ up edges (i + i) (Some v) → ⊥

-- ---- the walk does not come back

-- the walk of a cycle's root is longer than the steps up that led to greater vertices alone
root_beyond : (edges : List Edge) (v : Vertex) (n : ℕ) → is_cycle_root edges v ≡ true → AllGreater edges v n → walk_len edges v ≤ n → ⊥
root_beyond edges v n is greater within = not_itself edges v n (walk_len edges v) greater (walk_len_pos edges v) within (root_back edges v is)

no_root_from_none : (edges : List Edge) (v : Vertex) (n : ℕ) → up edges (suc n) (Some v) ≡ None → AllGreater edges v n → is_cycle_root edges v ≡ true → ⊥
no_root_from_none edges v n none greater is =
    let not_within : walk_len edges v ≤ n → ⊥ = root_beyond edges v n is greater in
    let not_there : walk_len edges v ≡ suc n → ⊥ = λ e. let back = root_back edges v is in let there = ap (λ i. up edges i (Some v)) e in cc in
    let not_beyond : suc n < walk_len edges v → ⊥ = λ lt. walk_some edges v (suc n) lt none in
    omega (arith, not_within, not_there, not_beyond)

no_root_from_lesser : (edges : List Edge) (v x : Vertex) (n : ℕ) → up edges (suc n) (Some v) ≡ Some x → vertex_cmp v x ≡ Greater → AllGreater edges v n → is_cycle_root edges v ≡ true → ⊥
no_root_from_lesser edges v x n at lesser greater is =
    let not_within : walk_len edges v ≤ n → ⊥ = root_beyond edges v n is greater in
    let not_there : walk_len edges v ≡ suc n → ⊥ = λ e.
    let same : v ≡ x = some_same v x (sym (root_back edges v is) ∙ ap (λ i. up edges i (Some v)) e ∙ at) in
    let equal : vertex_cmp v x ≡ Equal = ap (vertex_cmp v) (sym same) ∙ vertex_cmp_itself v in
    cc in
    let not_beyond : suc n < walk_len edges v → ⊥ = λ lt.
    let least = walk_least edges v (root_least edges v is) (suc n) x lt at in
    let not_least : is_gt (vertex_cmp v x) ≡ true = ap is_gt lesser in
    cc in
    omega (arith, not_within, not_there, not_beyond)

pub no_root_from_no_cycle : (edges : List Edge) (v from : Vertex) (n : ℕ) → up edges n (Some v) ≡ Some from → found v (above edges from) ≡ ToNoCycle → AllGreater edges v n → is_cycle_root edges v ≡ false
no_root_from_no_cycle edges v from n at is greater =
    false_from (is_cycle_root edges v) (by_next (above edges from) refl is) where
      by_order : (x : Vertex) (o : Ordering) → above edges from ≡ Some x → vertex_cmp v x ≡ o → found_by o x ≡ ToNoCycle → is_cycle_root edges v ≡ true → ⊥
      by_order x Less next order is root = cc
      by_order x Equal next order is root = cc
      by_order x Greater next order is root = no_root_from_lesser edges v x n (up_from edges v from n (Some x) at next) order greater root

      by_next : (o : Option Vertex) → above edges from ≡ o → found v o ≡ ToNoCycle → is_cycle_root edges v ≡ true → ⊥
      by_next None next is root = no_root_from_none edges v n (up_from edges v from n None at next) greater root
      by_next (Some x) next is root = by_order x (vertex_cmp v x) next refl is root

pub root_from_found_back : (edges : List Edge) (v from : Vertex) (n : ℕ) → up edges n (Some v) ≡ Some from → found v (above edges from) ≡ Back → AllGreater edges v n → is_cycle_root edges v ≡ true
root_from_found_back edges v from n at is greater = by_next (above edges from) refl is where
  by_order : (x : Vertex) (o : Ordering) → above edges from ≡ Some x → vertex_cmp v x ≡ o → found_by o x ≡ Back → is_cycle_root edges v ≡ true
  by_order x Less next order is = absurd cc
  by_order x Equal next order is = root_from_back edges v from n at (next ∙ ap Some (sym (vertex_cmp_exact v x order))) greater
  by_order x Greater next order is = absurd cc

  by_next : (o : Option Vertex) → above edges from ≡ o → found v o ≡ Back → is_cycle_root edges v ≡ true
  by_next None next is = absurd cc
  by_next (Some x) next is = by_order x (vertex_cmp v x) next refl is

-- what a step to a greater vertex says
greater_found : (v y : Vertex) (o : Option Vertex) → found v o ≡ ToGreater y → (o ≡ Some y) × (vertex_cmp v y ≡ Less)
greater_found v y None is = absurd cc
greater_found v y (Some x) is = by_order (vertex_cmp v x) refl is where
  by_order : (o : Ordering) → vertex_cmp v x ≡ o → found_by o x ≡ ToGreater y → (Some x ≡ Some y) × (vertex_cmp v y ≡ Less)
  by_order Less order is = let one : x ≡ y = cc in (ap Some one, ap (vertex_cmp v) (sym one) ∙ order)
  by_order Equal order is = absurd cc
  by_order Greater order is = absurd cc

-- the walk after a step to a greater vertex
pub record IsStep (edges : List Edge) (v y : Vertex) (n : ℕ) : Type 0 where
  pub at : up edges n (Some v) ≡ Some y
  pub greater : AllGreater edges v n

more_greater : (edges : List Edge) (v y : Vertex) (n : ℕ) → AllGreater edges v n → up edges (suc n) (Some v) ≡ Some y → vertex_cmp v y ≡ Less
    → AllGreater edges v (suc n)
more_greater edges v y n greater at less i x pos within there =
    elim (leb i n) as (λ b. leb i n ≡ b → vertex_cmp v x ≡ Less) [
      | true ↦ λ le. greater i x pos (leb-true i n le) there
      | false ↦ λ gt.
          let e : i ≡ suc n = omega (arith, leb-false i n gt) in
          let one : y ≡ x = some_same y x (sym at ∙ ap (λ j. up edges j (Some v)) (sym e) ∙ there) in
          ap (vertex_cmp v) (sym one) ∙ less
    ] refl

pub step_from_greater : (edges : List Edge) (v from y : Vertex) (n : ℕ) → up edges n (Some v) ≡ Some from → found v (above edges from) ≡ ToGreater y → AllGreater edges v n → IsStep edges v y (suc n)
step_from_greater edges v from y n at is greater =
    let parts = greater_found v y (above edges from) is in
    let there = up_from edges v from n (Some y) at parts.0 in
    record { at = there; greater = more_greater edges v y n greater there parts.1 }

-- ---- they meet, and only on a cycle that the vertex is not on

pub no_root_from_met : (edges : List Edge) (v : Vertex) (k n : ℕ) → 0 < k → k < n → up edges k (Some v) ≡ up edges n (Some v) → AllGreater edges v n → is_cycle_root edges v ≡ false
no_root_from_met edges v k n pos before same greater =
    false_from (is_cycle_root edges v) (λ is.
    let not_within : walk_len edges v ≤ n → ⊥ = root_beyond edges v n is greater in
    let not_beyond : n < walk_len edges v → ⊥ = λ lt. walk_apart edges v k n before lt same in
    omega (arith, not_within, not_beyond))

-- the tortoise finds a vertex above, since the hare did
pub not_none_below : (edges : List Edge) (v y : Vertex) (a n : ℕ) → a ≤ n → up edges n (Some v) ≡ Some y → up edges a (Some v) ≡ None → ⊥
not_none_below edges v y a n below at none =
    let further = up_none_along edges (Some v) a (n - a) none in
    let e : a + (n - a) ≡ n = omega arith in
    let there = ap (λ i. up edges i (Some v)) e in
    cc

period : (edges : List Edge) (o : Option Vertex) (m l s : ℕ) → up edges m o ≡ up edges (m + l) o → up edges (m + s) o ≡ up edges (m + s + l) o
period edges o m l s same =
    let e : m + l + s ≡ m + s + l = omega arith in
    up-along edges o m (m + l) s same ∙ ap (λ i. up edges i o) e

periods : (edges : List Edge) (o : Option Vertex) (m l s q : ℕ) → up edges m o ≡ up edges (m + l) o → up edges (m + s) o ≡ up edges (m + s + q * l) o
periods edges o m l s zero same = let e : m + s ≡ m + s + 0 * l = omega arith in ap (λ i. up edges i o) e
periods edges o m l s (suc q) same =
    let e : m + (s + q * l) + l ≡ m + s + suc q * l = omega arith in
    let f : m + s + q * l ≡ m + (s + q * l) = omega arith in
    periods edges o m l s q same ∙ ap (λ i. up edges i o) f ∙ period edges o m l (s + q * l) same ∙ ap (λ i. up edges i o) e

met_within : (edges : List Edge) (v : Vertex) (k m : ℕ) → walk_len edges v ≤ k → m < walk_len edges v → up edges m (Some v) ≡ up edges (walk_len edges v) (Some v)
    → ((i : ℕ) → 0 < i → i ≤ k → up edges i (Some v) ≡ up edges (i + i) (Some v) → ⊥) → ⊥
met_within edges v k m within before same apart = inner (walk_len edges v - m) (omega arith) (omega arith) where
  inner : (l : ℕ) → 0 < l → m + l ≡ walk_len edges v → ⊥
  inner l pos sum =
      let w : ℕ = walk_len edges v in
      let q : ℕ = w / l in
      let i : ℕ = q * l in
      let rest : l * q + w % l ≡ w = omega arith in
      let small : w % l < l = omega arith in
      let swap : q * l ≡ l * q = omega arith in
      let past : m < i = omega arith in
      let up_to : i ≤ w = omega arith in
      let e : m + (i - m) ≡ i = omega arith in
      let f : m + (i - m) + q * l ≡ i + i = omega arith in
      let round : up edges m (Some v) ≡ up edges (m + l) (Some v) = same ∙ ap (λ j. up edges j (Some v)) (sym sum) in
      apart i (omega arith) (omega arith)
      (ap (λ j. up edges j (Some v)) (sym e) ∙ periods edges (Some v) m l (i - m) q round ∙ ap (λ j. up edges j (Some v)) f)

-- the tortoise does not reach the end of the walk
pub round_within : (edges : List Edge) (v hare tortoise : Vertex) (k : ℕ) → IsRound edges v hare tortoise k → k < walk_len edges v
round_within edges v hare tortoise k round =
    let no_more : walk_len edges v ≤ k → ⊥ = λ within.
    elim (up edges (walk_len edges v) (Some v)) as (λ o. up edges (walk_len edges v) (Some v) ≡ o → ⊥) [
      | None ↦ λ is. not_none_below edges v hare (walk_len edges v) (k + k) (omega arith) round.hare_at is
      | Some y ↦ λ is. let was = walk_back edges v y is in met_within edges v k was.0 within was.1 (was.2 ∙ sym is) round.apart
    ] refl in
    omega (arith, no_more)

-- where some number of rounds has led, each of which ticked six times
pub record IsAfterRounds (edges : List Edge) (v hare tortoise : Vertex) (start now : ℕ) : Type 0 where
  pub k : ℕ
  pub round : IsRound edges v hare tortoise k
  pub counted : now ≡ start + 6 * k
  pub within : k < length (walk edges v)

-- before the first round
pub no_rounds : (edges : List Edge) (v : Vertex) (start : ℕ) → IsAfterRounds edges v v v start start
no_rounds edges v start = record {
  k = 0;
  round = record { hare_at = refl; tortoise_at = refl; greater = λ i x pos within. absurd (omega arith); apart = λ i pos within. absurd (omega arith) };
  counted = omega arith;
  within = walk_len_pos edges v;
}

-- a round's two steps of the hare, both to greater vertices
pub two_steps : (edges : List Edge) (v hare tortoise one two : Vertex) (k : ℕ) → IsRound edges v hare tortoise k → found v (above edges hare) ≡ ToGreater one → found v (above edges one) ≡ ToGreater two
    → IsStep edges v two (suc (suc (k + k)))
two_steps edges v hare tortoise one two k round first second =
    let s = step_from_greater edges v hare one (k + k) round.hare_at first round.greater in
    step_from_greater edges v one two (suc (k + k)) s.at second s.greater

-- after the hare's two steps the tortoise finds a vertex above
pub tortoise_goes : (edges : List Edge) (v hare tortoise one two : Vertex) (k : ℕ) → IsRound edges v hare tortoise k → found v (above edges hare) ≡ ToGreater one → found v (above edges one) ≡ ToGreater two
    → above edges tortoise ≡ None → ⊥
tortoise_goes edges v hare tortoise one two k round first second none =
    let s = two_steps edges v hare tortoise one two k round first second in
    not_none_below edges v two (suc k) (suc (suc (k + k))) (omega arith) s.at (up_from edges v tortoise k None round.tortoise_at none)

-- where the tortoise then meets the hare, the vertex is no root
pub no_root_from_same : (edges : List Edge) (v hare tortoise one two three : Vertex) (k : ℕ) → IsRound edges v hare tortoise k → found v (above edges hare) ≡ ToGreater one → found v (above edges one) ≡ ToGreater two
    → above edges tortoise ≡ Some three → is_same_vertex three two ≡ true → is_cycle_root edges v ≡ false
no_root_from_same edges v hare tortoise one two three k round first second third same =
    let s = two_steps edges v hare tortoise one two k round first second in
    let there = up_from edges v tortoise k (Some three) round.tortoise_at third in
    let met = there ∙ ap Some (same_vertex_exact three two same) ∙ sym s.at in
    no_root_from_met edges v (suc k) (suc (suc (k + k))) (omega arith) (omega arith) met s.greater

pub after_round : (edges : List Edge) (v hare tortoise one two three : Vertex) (start now then : ℕ) → IsAfterRounds edges v hare tortoise start now
    → found v (above edges hare) ≡ ToGreater one → found v (above edges one) ≡ ToGreater two → above edges tortoise ≡ Some three → is_same_vertex three two ≡ false → then ≡ now + 6
    → IsAfterRounds edges v two three start then
after_round edges v hare tortoise one two three start now then after first second third other ticks =
    let k : ℕ = after.k in
    let s = two_steps edges v hare tortoise one two k after.round first second in
    let there = up_from edges v tortoise k (Some three) after.round.tortoise_at third in
    let e : suc (suc (k + k)) ≡ suc k + suc k = omega arith in
    let hare_there : up edges (suc k + suc k) (Some v) ≡ Some two = ap (λ i. up edges i (Some v)) (sym e) ∙ s.at in
    let not_now : up edges (suc k) (Some v) ≡ up edges (suc k + suc k) (Some v) → ⊥ = λ met.
    let one_vertex : three ≡ two = some_same three two (sym there ∙ met ∙ hare_there) in
    let is : is_same_vertex three two ≡ true = ap (is_same_vertex three) (sym one_vertex) ∙ same_vertex_itself three in
    cc in
    let round : IsRound edges v two three (suc k) = record {
      hare_at = hare_there;
      tortoise_at = there;
      greater = λ i x pos within at. s.greater i x pos (omega arith) at;
      apart = λ i pos within met.
          elim (leb i k) as (λ b. leb i k ≡ b → ⊥) [
            | true ↦ λ le. after.round.apart i pos (leb-true i k le) met
            | false ↦ λ gt.
                let last : i ≡ suc k = omega (arith, leb-false i k gt) in
                not_now (subst (λ j. up edges j (Some v) ≡ up edges (j + j) (Some v)) last met)
          ] refl;
    } in
    let counted = after.counted in
    record { k = suc k; round = round; counted = omega arith; within = round_within edges v two three (suc k) round }
