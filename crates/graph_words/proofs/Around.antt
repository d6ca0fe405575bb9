-- Once round a cycle, for its least vertex.
use Rattle.std.proofs.Common.{◌≡◌, ℕ, suc, ◌+◌, ◌-◌, ◌*◌, ◌<◌, ◌≤◌, true, false, cond, refl, sym, ap, ◌∙◌, arith}
use Rattle.std.specs.Prelude.{leb, List, None, Some}
use Rattle.std.proofs.lemmas.Bool.{leb-true, leb-false}
use Rattle.std.specs.declared.cmp.Ordering.{Ordering}
use Rattle.std.specs.declared.cmp.Ordering.TheVariants.{Less, Equal, Greater}
use Rattle.std.specs.Ordering.{is_gt, ordering_reverse}
use Rattle.grove_edits.specs.declared.vertex.Vertex.{Vertex}
use Rattle.grove_edits.specs.declared.edge.Edge.{Edge}
use Rattle.grove_edits.specs.Vertex.{vertex_cmp, is_same_vertex}
use Rattle.grove_edits.proofs.Orders.{vertex_cmp_exact, vertex_cmp_total}
use Rattle.graph_words.specs.Walk.{above}
use Rattle.graph_words.specs.Class.{is_cycle_root}
use Rattle.grove_edits.proofs.Vertices.{vertex_cmp_itself, same_vertex_itself, same_vertex_exact}
use Rattle.graph_words.proofs.Up.{up, walk_len, walk_apart}
use Rattle.graph_words.specs.Cycle.{leads_to, is_on_cycle}
use Rattle.graph_words.proofs.Returns.{some_same, up_from}
use Rattle.graph_words.proofs.Cycles.{Reaches, ComesBack, up_through, within_walk, leads_from_reaches, back_from_cycle, leads_back, back_from_return, returns, never_none, root_from_least}

-- n steps up from v no vertex was less than one that was passed
pub record IsAround (edges : List Edge) (v at least : Vertex) (start now : ℕ) : Type 0 where
  pub n : ℕ
  pub there : up edges n (Some v) ≡ Some at
  pub passed : Reaches edges v least
  pub none_less : (i : ℕ) (x : Vertex) → i ≤ n → up edges i (Some v) ≡ Some x → is_gt (vertex_cmp least x) ≡ false
  pub within : n < walk_len edges v
  pub counted : now ≡ start + 2 * n

pub around_first : (edges : List Edge) (v : Vertex) (start : ℕ) → IsAround edges v v v start start
around_first edges v start =
    record {
      n = 0;
      there = refl;
      passed = (0, refl);
      none_less = λ i x le at.
          let e : i ≡ 0 = omega arith in
          let one : v ≡ x = some_same v x (ap (λ j. up edges j (Some v)) (sym e) ∙ at) in
          ap (λ z. is_gt (vertex_cmp v z)) (sym one) ∙ ap is_gt (vertex_cmp_itself v);
      within = omega arith;
      counted = omega arith;
    }

-- ---- the lesser of two

abbrev lesser : Vertex → Vertex → Vertex
lesser a b = cond (is_gt (vertex_cmp a b)) b a

pub gt_false_from : (o p : Ordering) → o ≡ ordering_reverse p → is_gt p ≡ true → is_gt o ≡ false
gt_false_from Less p flip gt = refl
gt_false_from Equal p flip gt = refl
gt_false_from Greater Less flip gt = absurd cc
gt_false_from Greater Equal flip gt = absurd cc
gt_false_from Greater Greater flip gt = absurd cc

-- what is not greater than a vertex is not greater than a greater one
pub le_through : (a b c : Vertex) → is_gt (vertex_cmp a b) ≡ false → is_gt (vertex_cmp b c) ≡ false → is_gt (vertex_cmp a c) ≡ false
le_through a b c first second = by_orders (vertex_cmp a b) (vertex_cmp b c) refl refl first second where
  by_orders : (o p : Ordering) → vertex_cmp a b ≡ o → vertex_cmp b c ≡ p → is_gt o ≡ false → is_gt p ≡ false → is_gt (vertex_cmp a c) ≡ false
  by_orders Less Less is further first second = ap is_gt (vertex_cmp_total.trans a b c is further)
  by_orders Less Equal is further first second = ap (λ z. is_gt (vertex_cmp a z)) (sym (vertex_cmp_exact b c further)) ∙ ap is_gt is
  by_orders Less Greater is further first second = absurd cc
  by_orders Equal p is further first second = ap (λ z. is_gt (vertex_cmp z c)) (vertex_cmp_exact a b is) ∙ ap is_gt further ∙ second
  by_orders Greater p is further first second = absurd cc

lesser_first : (a b : Vertex) → is_gt (vertex_cmp (lesser a b) a) ≡ false
lesser_first a b =
    elim (is_gt (vertex_cmp a b)) as (λ t. is_gt (vertex_cmp a b) ≡ t → is_gt (vertex_cmp (cond t b a) a) ≡ false) [
      | true ↦ λ gt. gt_false_from (vertex_cmp b a) (vertex_cmp a b) (vertex_cmp_total.antisymm b a) gt
      | false ↦ λ _. ap is_gt (vertex_cmp_itself a)
    ] refl

lesser_second : (a b : Vertex) → is_gt (vertex_cmp (lesser a b) b) ≡ false
lesser_second a b =
    elim (is_gt (vertex_cmp a b)) as (λ t. is_gt (vertex_cmp a b) ≡ t → is_gt (vertex_cmp (cond t b a) b) ≡ false) [
      | true ↦ λ _. ap is_gt (vertex_cmp_itself b)
      | false ↦ λ le. le
    ] refl

lesser_reached : (edges : List Edge) (v a b : Vertex) → Reaches edges v a → Reaches edges v b → Reaches edges v (lesser a b)
lesser_reached edges v a b first second =
    elim (is_gt (vertex_cmp a b)) as (λ t. Reaches edges v (cond t b a)) [ true ↦ second | false ↦ first ]

-- ---- a step round

-- the walk ends where the way comes back first
not_yet : (edges : List Edge) (v x : Vertex) (n : ℕ) → ComesBack edges v → up edges (suc n) (Some v) ≡ Some x → is_same_vertex x v ≡ false → n < walk_len edges v → suc n < walk_len edges v
not_yet edges v x n back at other within =
    let not_there : walk_len edges v ≡ suc n → ⊥ = λ e.
    let one : x ≡ v = some_same x v (sym at ∙ ap (λ i. up edges i (Some v)) (sym e) ∙ back) in
    let same : is_same_vertex x v ≡ true = ap (λ z. is_same_vertex z v) one ∙ same_vertex_itself v in
    cc in
    omega (arith, not_there)

pub around_next : (edges : List Edge) (v at least x : Vertex) (start now then : ℕ) → is_on_cycle edges v ≡ true → IsAround edges v at least start now
    → above edges at ≡ Some x → is_same_vertex x v ≡ false → then ≡ now + 2 → IsAround edges v x (lesser least x) start then
around_next edges v at least x start now then on around next other ticks =
    let n : ℕ = around.n in
    let further = up_from edges v at n (Some x) around.there next in
    let counted = around.counted in
    record {
      n = suc n;
      there = further;
      passed = lesser_reached edges v least x around.passed (suc n, further);
      none_less = λ i y le found.
          elim (leb i n) as (λ b. leb i n ≡ b → is_gt (vertex_cmp (lesser least x) y) ≡ false) [
            | true ↦ λ before. le_through (lesser least x) least y (lesser_first least x) (around.none_less i y (leb-true i n before) found)
            | false ↦ λ last.
                let e : i ≡ suc n = omega (arith, leb-false i n last) in
                let one : x ≡ y = some_same x y (sym further ∙ ap (λ j. up edges j (Some v)) (sym e) ∙ found) in
                ap (λ z. is_gt (vertex_cmp (lesser least x) z)) (sym one) ∙ lesser_second least x
          ] refl;
      within = not_yet edges v x n (back_from_cycle edges v on) further other around.within;
      counted = omega arith;
    }

-- ---- the way round is done

-- where the way is back, it has passed the whole walk
whole_passed : (edges : List Edge) (v : Vertex) (n : ℕ) → up edges (suc n) (Some v) ≡ Some v → n < walk_len edges v → walk_len edges v ≡ suc n
whole_passed edges v n return within =
    let not_more : suc n < walk_len edges v → ⊥ = λ lt. walk_apart edges v 0 (suc n) (omega arith) lt (sym return) in
    omega (arith, not_more)

comes_back : (edges : List Edge) (v x : Vertex) → ComesBack edges v → Reaches edges v x → ComesBack edges x
comes_back edges v x back (m, at) =
    let rest = leads_back edges v x back (m, at) in
    let pos = rest.1 in
    let sum : rest.0 + m ≡ suc (rest.0 + m - 1) = omega arith in
    back_from_return edges x (rest.0 + m - 1) (up_through edges x v rest.0 m (suc (rest.0 + m - 1)) rest.2 sum ∙ at)

pub root_from_around : (edges : List Edge) (v at least x : Vertex) (start now : ℕ) → is_on_cycle edges v ≡ true → IsAround edges v at least start now
    → above edges at ≡ Some x → is_same_vertex x v ≡ true → is_cycle_root edges least ≡ true
root_from_around edges v at least x start now on around next same =
    let n : ℕ = around.n in
    let return : up edges (suc n) (Some v) ≡ Some v = up_from edges v at n (Some x) around.there next ∙ ap Some (same_vertex_exact x v same) in
    let len = whole_passed edges v n return around.within in
    root_from_least edges least (comes_back edges v least (back_from_cycle edges v on) around.passed) (λ y (k, found).
    let from = around.passed in
    let place = within_walk edges v (from.0 + k) y (up_through edges v least from.0 k (from.0 + k) from.1 refl ∙ found) in
    around.none_less place.0 y (omega (arith, place.1, len)) place.2)

pub above_from_around : (edges : List Edge) (v at least : Vertex) (start now : ℕ) → IsAround edges v at least start now → leads_to edges v least ≡ true
above_from_around edges v at least start now around = leads_from_reaches edges v least around.passed

-- on a cycle the way does not end
pub around_ends : (edges : List Edge) (v at least : Vertex) (start now : ℕ) → is_on_cycle edges v ≡ true → IsAround edges v at least start now → above edges at ≡ None → ⊥
around_ends edges v at least start now on around none =
    never_none edges v (walk_len edges v - 1) (returns edges v (back_from_cycle edges v on)) (suc around.n) (up_from edges v at around.n None around.there none)
