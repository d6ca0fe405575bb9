-- Going up from a vertex leads to one that heads a tree.
use Rattle.std.proofs.Common.{◌≡◌, ℕ, zero, suc, ◌+◌, ◌-◌, ◌<◌, ◌≤◌, Bool, true, false, List, [], ◌∷◌, refl, sym, ap, ◌∙◌, arith, inl, inr, ◌⊎◌}
use native.Mathlib.Numerals.{unary_clauses}
use Rattle.std.specs.Prelude.{Option, None, Some}
use Rattle.std.specs.declared.cmp.Ordering.{Ordering}
use Rattle.std.specs.declared.cmp.Ordering.TheVariants.{Less, Equal, Greater}
use Rattle.std.specs.Ordering.{is_gt, ordering_reverse}
use Rattle.std.proofs.lemmas.Cmp.{upto}
use Rattle.std.proofs.lemmas.Bool.{cases_eq, cases_lt, cases_order}
use Rattle.grove_edits.specs.declared.vertex.Vertex.{Vertex}
use Rattle.grove_edits.specs.declared.edge.Edge.{Edge}
use Rattle.grove_edits.specs.Vertex.{vertex_cmp}
use Rattle.grove_edits.proofs.Orders.{vertex_cmp_total, vertex_cmp_exact}
use Rattle.graph_words.specs.declared.class.Class.TheVariants.{Inner}
use Rattle.graph_words.specs.Live.{parents_of}
use Rattle.graph_words.specs.Walk.{only_source, above}
use Rattle.graph_words.specs.Class.{class_by, class, is_cycle_root}
use Rattle.grove_edits.proofs.Vertices.{vertex_cmp_itself}
use Rattle.graph_words.proofs.Up.{up, next_above, up-along, walk_len, walk_some, walk_apart, walk_back}
use Rattle.graph_words.proofs.Returns.{AllGreater, some_same, walk_len_pos, root_from_return}

-- ---- classes

none_not_inner : (edges : List Edge) (v : Vertex) → above edges v ≡ None → class edges v ≡ Inner → ⊥
none_not_inner edges v none = by_parents (parents_of v edges) (is_cycle_root edges v) none where
  by_parents : (parents : List Edge) (is_root : Bool) → only_source parents ≡ None → class_by parents is_root ≡ Inner → ⊥
  by_parents [] is_root none is = cc
  by_parents (e ∷ []) is_root none is = cc
  by_parents (e ∷ f ∷ more) is_root none is = cc

root_not_inner : (edges : List Edge) (v : Vertex) → is_cycle_root edges v ≡ true → class edges v ≡ Inner → ⊥
root_not_inner edges v root is = by_parents (parents_of v edges) (sym (ap (class_by (parents_of v edges)) root) ∙ is) where
  by_parents : (parents : List Edge) → class_by parents true ≡ Inner → ⊥
  by_parents [] is = cc
  by_parents (e ∷ []) is = cc
  by_parents (e ∷ f ∷ more) is = cc

-- ---- the least of some vertices one above the other

-- steps up from where some steps led
up_on : (edges : List Edge) (o p : Option Vertex) (s t : ℕ) → up edges s o ≡ p → up edges t p ≡ up edges (s + t) o
up_on edges o p s zero at = simp unary_clauses (sym at)
up_on edges o p s (suc t) at = simp unary_clauses (ap (next_above edges) (up_on edges o p s t at))

pub record IsLeastOf (edges : List Edge) (v : Vertex) (from count : ℕ) : Type 0 where
  pub step : ℕ
  pub vertex : Vertex
  pub within : step < count
  pub at : up edges (from + step) (Some v) ≡ Some vertex
  pub least : (i : ℕ) (x : Vertex) → i < count → up edges (from + i) (Some v) ≡ Some x → is_gt (vertex_cmp vertex x) ≡ false

not_above : (m x y : Vertex) → is_gt (vertex_cmp m x) ≡ true → is_gt (vertex_cmp m y) ≡ false → is_gt (vertex_cmp x y) ≡ false
not_above m x y gt le = upto vertex_cmp_total x m y (by_order (vertex_cmp m x) gt (vertex_cmp_total.antisymm x m)) le where
  by_order : (o : Ordering) → is_gt o ≡ true → vertex_cmp x m ≡ ordering_reverse o → is_gt (vertex_cmp x m) ≡ false
  by_order Less gt is = absurd cc
  by_order Equal gt is = absurd cc
  by_order Greater gt is = ap is_gt is

not_above_itself : (x y : Vertex) → Some x ≡ Some y → is_gt (vertex_cmp x y) ≡ false
not_above_itself x y same = ap (λ z. is_gt (vertex_cmp x z)) (sym (some_same x y same)) ∙ ap is_gt (vertex_cmp_itself x)

least_of : (edges : List Edge) (v : Vertex) (from n : ℕ) → ((i : ℕ) → i < suc n → up edges (from + i) (Some v) ≡ None → ⊥) → IsLeastOf edges v from (suc n)
least_of edges v from zero some = by_vertex (up edges (from + 0) (Some v)) refl where
  by_vertex : (o : Option Vertex) → up edges (from + 0) (Some v) ≡ o → IsLeastOf edges v from 1
  by_vertex None none = absurd (some 0 (omega arith) none)
  by_vertex (Some x) at = record {
    step = 0;
    vertex = x;
    within = omega arith;
    at = at;
    least = λ i y lt there.
        let e : 0 ≡ i = omega arith in
        not_above_itself x y (sym at ∙ ap (λ j. up edges (from + j) (Some v)) e ∙ there);
  }
least_of edges v from (suc n) some = by_vertex (up edges (from + suc n) (Some v)) refl (least_of edges v from n (λ i lt. some i (omega arith))) where
  by_test : (x : Vertex) → up edges (from + suc n) (Some v) ≡ Some x → (before : IsLeastOf edges v from (suc n)) → (b : Bool) → is_gt (vertex_cmp before.vertex x) ≡ b → IsLeastOf edges v from (suc (suc n))
  by_test x at before true gt = record {
    step = suc n;
    vertex = x;
    within = omega arith;
    at = at;
    least = λ i y lt there.
        by_place i y there (cases_eq i (suc n)) lt;
  } where
    by_place : (i : ℕ) (y : Vertex) → up edges (from + i) (Some v) ≡ Some y → (i ≡ suc n) ⊎ (i ≡ suc n → ⊥) → i < suc (suc n) → is_gt (vertex_cmp x y) ≡ false
    by_place i y there (inl last) lt = not_above_itself x y (sym at ∙ ap (λ j. up edges (from + j) (Some v)) (sym last) ∙ there)
    by_place i y there (inr earlier) lt = not_above before.vertex x y gt (before.least i y (omega (arith, earlier)) there)
  by_test x at before false le = record {
    step = before.step;
    vertex = before.vertex;
    within = let lt = before.within in omega arith;
    at = before.at;
    least = λ i y lt there. by_place i y there (cases_eq i (suc n)) lt;
  } where
    by_place : (i : ℕ) (y : Vertex) → up edges (from + i) (Some v) ≡ Some y → (i ≡ suc n) ⊎ (i ≡ suc n → ⊥) → i < suc (suc n) → is_gt (vertex_cmp before.vertex y) ≡ false
    by_place i y there (inl last) lt =
        ap (λ z. is_gt (vertex_cmp before.vertex z)) (some_same y x (sym there ∙ ap (λ j. up edges (from + j) (Some v)) last ∙ at)) ∙ le
    by_place i y there (inr earlier) lt = before.least i y (omega (arith, earlier)) there

  by_vertex : (o : Option Vertex) → up edges (from + suc n) (Some v) ≡ o → IsLeastOf edges v from (suc n) → IsLeastOf edges v from (suc (suc n))
  by_vertex None none before = absurd (some (suc n) (omega arith) none)
  by_vertex (Some x) at before = by_test x at before (is_gt (vertex_cmp before.vertex x)) refl

-- ---- the least vertex of a cycle is its root

less_from_tests : (o : Ordering) → is_gt o ≡ false → (o ≡ Equal → ⊥) → o ≡ Less
less_from_tests Less le other = refl
less_from_tests Equal le other = absurd (other refl)
less_from_tests Greater le other = absurd cc

-- a walk that comes back after n and one more steps to the vertex so many steps up
module _ (edges : List Edge) (v : Vertex) (from n : ℕ) (long : from + suc n ≡ walk_len edges v) (back : up edges from (Some v) ≡ up edges (from + suc n) (Some v)) where
  -- so many steps from there lead to a vertex that was met within one round
  round : (t : ℕ) → up edges (from + t) (Some v) ≡ up edges (from + suc n + t) (Some v)
  round t = up-along edges (Some v) from (from + suc n) t back

  least_is_root : (l : IsLeastOf edges v from (suc n)) → is_cycle_root edges l.vertex ≡ true
  least_is_root l = root_from_return edges l.vertex n returns greater where
    there : (t : ℕ) → up edges t (Some l.vertex) ≡ up edges (from + l.step + t) (Some v)
    there t = up_on edges (Some v) (Some l.vertex) (from + l.step) t l.at

    returns : up edges (suc n) (Some l.vertex) ≡ Some l.vertex
    returns =
        let e : from + l.step + suc n ≡ from + suc n + l.step = omega arith in
        there (suc n) ∙ ap (λ i. up edges i (Some v)) e ∙ sym (round l.step) ∙ l.at

    not_twice : (r : ℕ) → r < suc n → (r ≡ l.step → ⊥) → up edges (from + r) (Some v) ≡ Some l.vertex → ⊥
    not_twice r within other at = by_order (cases_order r l.step) where
      by_order : (r ≡ l.step) ⊎ ((r < l.step) ⊎ (l.step < r)) → ⊥
      by_order (inl same) = other same
      by_order (inr (inl before)) = let w = l.within in walk_apart edges v (from + r) (from + l.step) (omega arith) (omega arith) (at ∙ sym l.at)
      by_order (inr (inr after)) = walk_apart edges v (from + l.step) (from + r) (omega arith) (omega arith) (l.at ∙ sym at)

    less : (r : ℕ) (x : Vertex) → r < suc n → (r ≡ l.step → ⊥) → up edges (from + r) (Some v) ≡ Some x → vertex_cmp l.vertex x ≡ Less
    less r x within other at =
        less_from_tests (vertex_cmp l.vertex x) (l.least r x within at)
        (λ equal. not_twice r within other (at ∙ ap Some (sym (vertex_cmp_exact l.vertex x equal))))

    greater : AllGreater edges l.vertex n
    greater i x pos within at = by_place (cases_lt (l.step + i) (suc n)) where
      here : up edges (from + l.step + i) (Some v) ≡ Some x
      here = sym (there i) ∙ at

      by_place : (l.step + i < suc n) ⊎ (suc n ≤ l.step + i) → vertex_cmp l.vertex x ≡ Less
      by_place (inl before) =
          let e : from + (l.step + i) ≡ from + l.step + i = omega arith in
          less (l.step + i) x before (λ same. omega arith) (ap (λ j. up edges j (Some v)) e ∙ here)
      by_place (inr past) =
          let w = l.within in
          let e : from + suc n + (l.step + i - suc n) ≡ from + l.step + i = omega arith in
          less (l.step + i - suc n) x (omega arith) (λ same. omega arith) (round (l.step + i - suc n) ∙ ap (λ j. up edges j (Some v)) e ∙ here)

-- ---- a vertex up there heads a tree

pub record HasTop (edges : List Edge) (v : Vertex) : Type 0 where
  pub steps : ℕ
  pub top : Vertex
  pub at : up edges steps (Some v) ≡ Some top
  pub heads : class edges top ≡ Inner → ⊥

pub has_top : (edges : List Edge) (v : Vertex) → HasTop edges v
has_top edges v = by_end (up edges (walk_len edges v) (Some v)) refl where
  last_is : (n : ℕ) → suc n ≡ walk_len edges v → up edges (walk_len edges v) (Some v) ≡ None → (o : Option Vertex) → up edges n (Some v) ≡ o → HasTop edges v
  last_is n long none None at = absurd (walk_some edges v n (omega arith) at)
  last_is n long none (Some x) at =
      let end : above edges x ≡ None = ap (next_above edges) (sym at) ∙ ap (λ i. up edges i (Some v)) long ∙ none in
      record { steps = n; top = x; at = at; heads = none_not_inner edges x end }

  on_cycle : (from n : ℕ) → from + suc n ≡ walk_len edges v → up edges from (Some v) ≡ up edges (from + suc n) (Some v) → HasTop edges v
  on_cycle from n long back =
      let l = least_of edges v from n (λ i lt. walk_some edges v (from + i) (omega arith)) in
      record { steps = from + l.step; top = l.vertex; at = l.at; heads = root_not_inner edges l.vertex (least_is_root edges v from n long back l) }

  by_end : (o : Option Vertex) → up edges (walk_len edges v) (Some v) ≡ o → HasTop edges v
  by_end None none =
      let pos = walk_len_pos edges v in
      last_is (walk_len edges v - 1) (omega arith) none (up edges (walk_len edges v - 1) (Some v)) refl
  by_end (Some y) at =
      let was = walk_back edges v y at in
      let before = was.1 in
      let long : was.0 + suc (walk_len edges v - was.0 - 1) ≡ walk_len edges v = omega arith in
      on_cycle was.0 (walk_len edges v - was.0 - 1) long (was.2 ∙ sym at ∙ ap (λ i. up edges i (Some v)) (sym long))
