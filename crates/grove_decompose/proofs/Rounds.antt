-- Once round a cycle by numbers.
use Rattle.std.proofs.Common.{◌≡◌, ℕ, zero, suc, ◌+◌, ◌-◌, ◌<◌, true, false, cond, List, Option, Some, None, refl, sym, ap, subst, ◌∙◌, arith}
use Rattle.std.specs.List.{IsDistinct}
use Rattle.std.specs.Ordering.{is_gt}
use Rattle.grove_edits.specs.declared.vertex.Vertex.{Vertex}
use Rattle.grove_edits.specs.declared.edge.Edge.{Edge}
use Rattle.grove_edits.specs.Vertex.{vertex_cmp, is_same_vertex}
use Rattle.grove_edits.proofs.Vertices.{same_vertex_itself}
use Rattle.graph_words.specs.Walk.{above}
use Rattle.graph_words.specs.Class.{is_cycle_root}
use Rattle.graph_words.proofs.Up.{up, next_above, up-shift, walk_len}
use Rattle.graph_words.proofs.Returns.{some_same}
use Rattle.graph_words.specs.Cycle.{is_on_cycle, leads_to}
use Rattle.graph_words.proofs.Cycles.{up_through, back_from_cycle}
use Rattle.graph_words.proofs.Around.{IsAround, around_first, around_next, root_from_around, above_from_around, around_ends}
use Rattle.graph_table.specs.Table.{Table, live, vertex_at, IsNumber}
use Rattle.grove_decompose.proofs.Marks.{numbers_apart}
use Rattle.grove_decompose.proofs.Walking.{vertex_read}

-- ---- how far the way up is

-- how many steps up lead to a vertex, at most so many
abbrev pub way_to : ℕ → List Edge → Vertex → Option Vertex → ℕ
way_to zero edges goal o = 0
way_to (suc most) edges goal None = 0
way_to (suc most) edges goal (Some x) = cond (is_same_vertex x goal) 0 (suc (way_to most edges goal (above edges x)))

-- where it is found, more steps lead to it no later
enough : (edges : List Edge) (goal : Vertex) (most k : ℕ) (o : Option Vertex) → k < most → up edges k o ≡ Some goal → way_to most edges goal o ≡ way_to (suc most) edges goal o
enough edges goal zero k o lt at = absurd (omega arith)
enough edges goal (suc most) k None lt at = refl
enough edges goal (suc most) zero (Some x) lt at =
    let here : is_same_vertex x goal ≡ true = ap (λ z. is_same_vertex z goal) (some_same x goal at) ∙ same_vertex_itself goal in
    ap (λ b. cond b 0 (suc (way_to most edges goal (above edges x)))) here ∙ sym (ap (λ b. cond b 0 (suc (way_to (suc most) edges goal (above edges x)))) here)
enough edges goal (suc most) (suc k) (Some x) lt at =
    ap (λ n. cond (is_same_vertex x goal) 0 (suc n)) (enough edges goal most k (above edges x) (omega arith) (up-shift edges (Some x) k ∙ at))

-- one step nearer
nearer : (edges : List Edge) (goal x : Vertex) (most k : ℕ) → is_same_vertex x goal ≡ false → k + 1 < most → up edges k (above edges x) ≡ Some goal
    → way_to most edges goal (above edges x) < way_to most edges goal (Some x)
nearer edges goal x zero k other lt at = absurd (omega arith)
nearer edges goal x (suc most) k other lt at =
    let same = enough edges goal most k (above edges x) (omega arith) at in
    let is : way_to (suc most) edges goal (Some x) ≡ suc (way_to most edges goal (above edges x)) = ap (λ b. cond b 0 (suc (way_to most edges goal (above edges x)))) other in
    omega arith

way_less : (edges : List Edge) (v x : Vertex) (n : ℕ) → is_on_cycle edges v ≡ true → up edges (suc n) (Some v) ≡ Some x → suc n < walk_len edges v → is_same_vertex x v ≡ false
    → way_to (walk_len edges v) edges v (above edges x) < way_to (walk_len edges v) edges v (Some x)
way_less edges v x n on there within other =
    let len : ℕ = walk_len edges v in
    let k : ℕ = len - n - 2 in
    let sum : suc n + suc k ≡ len = omega arith in
    let back : up edges (suc k) (Some x) ≡ Some v = sym (up_through edges v x (suc n) (suc k) len there sum) ∙ back_from_cycle edges v on in
    nearer edges v x len k other (omega arith) (up-shift edges (Some x) k ∙ back)

-- the way has not come back before it is whole
not_yet_back : (edges : List Edge) (v x : Vertex) (n : ℕ) → n < walk_len edges v → is_on_cycle edges v ≡ true → up edges (suc n) (Some v) ≡ Some x → is_same_vertex x v ≡ false → suc n < walk_len edges v
not_yet_back edges v x n within on there other =
    let not_there : walk_len edges v ≡ suc n → ⊥ = λ e.
    let one : x ≡ v = some_same x v (sym there ∙ ap (λ i. up edges i (Some v)) (sym e) ∙ back_from_cycle edges v on) in
    let same : is_same_vertex x v ≡ true = ap (λ z. is_same_vertex z v) one ∙ same_vertex_itself v in
    cc in
    omega (arith, not_there)

-- ---- the round

-- the way round from one number is at another one, and has found a least one
pub record IsRounding (table : Table) (entry at least : ℕ) : Type 0 where
  pub number : IsNumber table at
  pub least_number : IsNumber table least
  pub steps : ℕ
  pub around : IsAround (live table) (vertex_at table entry) (vertex_at table at) (vertex_at table least) 0 steps

pub round_begun : (table : Table) (entry : ℕ) → IsNumber table entry → IsRounding table entry entry entry
round_begun table entry number = record { number = number; least_number = number; steps = 0; around = around_first (live table) (vertex_at table entry) 0 }

-- how far the way still is
abbrev pub way_left : Table → ℕ → ℕ → ℕ
way_left table entry at = way_to (walk_len (live table) (vertex_at table entry)) (live table) (vertex_at table entry) (above (live table) (vertex_at table at))

module _ (table : Table) (once : IsDistinct is_same_vertex table.vertices) (entry at least : ℕ) (first : IsNumber table entry) (on : is_on_cycle (live table) (vertex_at table entry) ≡ true)
    (rounding : IsRounding table entry at least) where
  other_vertex : (x : ℕ) → IsNumber table x → (x ≡ entry → ⊥) → is_same_vertex (vertex_at table x) (vertex_at table entry) ≡ false
  other_vertex x number other = numbers_apart table.vertices once x entry (vertex_at table x) (vertex_at table entry) (vertex_read table x number) (vertex_read table entry first) other

  pub round_goes_on : (x lesser : ℕ) → IsNumber table x → above (live table) (vertex_at table at) ≡ Some (vertex_at table x) → (x ≡ entry → ⊥) → IsNumber table lesser
      → vertex_at table lesser ≡ cond (is_gt (vertex_cmp (vertex_at table least) (vertex_at table x))) (vertex_at table x) (vertex_at table least) → IsRounding table entry x lesser
  round_goes_on x lesser number next other lesser_number is = record {
    number = number;
    least_number = lesser_number;
    steps = rounding.steps + 2;
    around = subst (λ v. IsAround (live table) (vertex_at table entry) (vertex_at table x) v 0 (rounding.steps + 2)) (sym is)
        (around_next (live table) (vertex_at table entry) (vertex_at table at) (vertex_at table least) (vertex_at table x) 0 rounding.steps (rounding.steps + 2) on rounding.around next (other_vertex x number other) refl);
  }

  pub way_shrinks : (x : ℕ) → IsNumber table x → above (live table) (vertex_at table at) ≡ Some (vertex_at table x) → (x ≡ entry → ⊥) → way_left table entry x < way_left table entry at
  way_shrinks x number next other =
      let apart = other_vertex x number other in
      let n : ℕ = rounding.around.n in
      let there : up (live table) (suc n) (Some (vertex_at table entry)) ≡ Some (vertex_at table x) = ap (next_above (live table)) rounding.around.there ∙ next in
      let within : suc n < walk_len (live table) (vertex_at table entry) = not_yet_back (live table) (vertex_at table entry) (vertex_at table x) n rounding.around.within on there apart in
      subst (λ (o : Option Vertex). way_left table entry x < way_to (walk_len (live table) (vertex_at table entry)) (live table) (vertex_at table entry) o) (sym next)
      (way_less (live table) (vertex_at table entry) (vertex_at table x) n on there within apart)

  pub least_is_root : (x : ℕ) → above (live table) (vertex_at table at) ≡ Some (vertex_at table x) → x ≡ entry → is_cycle_root (live table) (vertex_at table least) ≡ true
  least_is_root x next same =
      root_from_around (live table) (vertex_at table entry) (vertex_at table at) (vertex_at table least) (vertex_at table x) 0 rounding.steps on rounding.around next
      (ap (λ (n : ℕ). is_same_vertex (vertex_at table n) (vertex_at table entry)) same ∙ same_vertex_itself (vertex_at table entry))

  pub least_is_above : leads_to (live table) (vertex_at table entry) (vertex_at table least) ≡ true
  least_is_above = above_from_around (live table) (vertex_at table entry) (vertex_at table at) (vertex_at table least) 0 rounding.steps rounding.around

  pub never_ends : above (live table) (vertex_at table at) ≡ None → ⊥
  never_ends none = around_ends (live table) (vertex_at table entry) (vertex_at table at) (vertex_at table least) 0 rounding.steps on rounding.around none
