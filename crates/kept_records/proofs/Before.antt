-- The types of the expressions before a position are those at the positions that come before it in the row.
use Rattle.std.proofs.Common.{◌≡◌, ℕ, zero, suc, ◌+◌, ◌<◌, ◌≤◌, Bool, true, false, cond, List, [], ◌∷◌, ◌++◌, drop, take, length, refl, sym, ap, subst, ◌∙◌, arith}
use Rattle.std.specs.Prelude.{if◌then◌else◌}
use Rattle.std.specs.List.{AllByRecursion}
use Rattle.grove_sorts.specs.declared.position.Position.{Position}
use Rattle.grove_sorts.specs.declared.sort.Sort.{Sort}
use Rattle.grove_sorts.specs.declared.ctor.Ctor.{Ctor}
use Rattle.grove_sorts.specs.Position.{position_number, is_same_position}
use Rattle.grove_sorts.specs.Ctor.{positions, Rises}
use Rattle.grove_sorts.proofs.Orders.{same_position_laws, one_position, other_position}
use Rattle.grove_sorts.proofs.Rows.{positions_rise}
use Rattle.grove_edits.specs.declared.vertex.Vertex.{Vertex}
use Rattle.grove_edits.specs.declared.edge.Edge.{Edge}
use Rattle.graph_words.specs.Live.{children_of}
use Rattle.grove_terms.specs.Forest.{Forest, child_edges, edges_from, edges_under}
use Rattle.grove_terms.specs.Nodes.{count_at}
use Rattle.grove_terms.proofs.InLive.{IsFromPlace, children_lead}
use Rattle.type_core.specs.Typ.{Typ}
use Rattle.mark_step.specs.Expression.{Expression, Demanded}
use Rattle.mark_step.specs.Step.{demand}
use Rattle.mark_step.specs.Rows.{is_exp}
use Rattle.marking.specs.Marking.{types_at}
use Rattle.kept_records.specs.Kept.{types_before}
use Rattle.kept_records.specs.Local.{edges_at}
use Rattle.kept_records.proofs.Agreement.{edges_at-child_edges}

-- what comes later in a row has a number that is not less
later_rises : (low : ℕ) (row : List (Position × Sort)) (n : ℕ) (p : Position × Sort) (ps : List (Position × Sort)) → Rises low row → drop n row ≡ p ∷ ps → low ≤ position_number p.0
later_rises low [] zero p ps rises at = absurd cc
later_rises low [] (suc n) p ps rises at = absurd cc
later_rises low (q ∷ row) zero p ps rises at = let one : q ≡ p = cc in subst (λ (x : Position × Sort). low ≤ position_number x.0) one rises.0
later_rises low (q ∷ row) (suc n) p ps rises at = let rest = later_rises (suc (position_number q.0)) row n p ps rises.1 at in omega (arith, rest, rises.0)

module _ (x : Expression) (judge : Position → Demanded → Typ) where
  before_at : (low : ℕ) (row : List (Position × Sort)) → Rises low row → (n : ℕ) (p : Position × Sort) (ps : List (Position × Sort)) → drop n row ≡ p ∷ ps → (before : List Typ)
      → types_before x judge p.0 row before ≡ types_at x judge (take n row) before
  before_at low [] rises zero p ps at before = absurd cc
  before_at low [] rises (suc n) p ps at before = absurd cc
  before_at low (q ∷ row) rises zero p ps at before =
      let one : p ≡ q = cc in
      let same : is_same_position q.0 p.0 ≡ true = ap (λ (y : Position × Sort). is_same_position q.0 y.0) one ∙ same_position_laws.refl q.0 in
      ap (λ b. cond b before (types_before x judge p.0 row (if is_exp q.1 then (before ++ judge q.0 (demand x before) ∷ []) else before))) same
  before_at low (q ∷ row) rises (suc n) p ps at before =
      let less = later_rises (suc (position_number q.0)) row n p ps rises.1 at in
      let other : is_same_position q.0 p.0 ≡ false = other_position q.0 p.0 (λ e. omega (arith, less, e)) in
      ap (λ b. cond b before (types_before x judge p.0 row (if is_exp q.1 then (before ++ judge q.0 (demand x before) ∷ []) else before))) other
      ∙ by_sort (is_exp q.1) (before_at (suc (position_number q.0)) row rises.1 n p ps at) where
        by_sort : (b : Bool) → ((now : List Typ) → types_before x judge p.0 row now ≡ types_at x judge (take n row) now)
            → types_before x judge p.0 row (cond b (before ++ judge q.0 (demand x before) ∷ []) before)
            ≡ cond b (types_at x judge (take n row) (before ++ judge q.0 (demand x before) ∷ [])) (types_at x judge (take n row) before)
        by_sort true rest = rest (before ++ judge q.0 (demand x before) ∷ [])
        by_sort false rest = rest before

  -- so it is in the row of a constructor
  pub types_before_row : (c : Ctor) (n : ℕ) (p : Position × Sort) (ps : List (Position × Sort)) → drop n (positions c) ≡ p ∷ ps
      → types_before x judge p.0 (positions c) [] ≡ types_at x judge (take n (positions c)) []
  types_before_row c n p ps at = before_at 0 (positions c) (positions_rise c) n p ps at []

-- ---- how many children stand at a position of the row

edges_at-append : (xs ys : List Edge) (p : Position) → edges_at (xs ++ ys) p ≡ edges_at xs p + edges_at ys p
edges_at-append [] ys p = omega arith
edges_at-append (x ∷ xs) ys p = by_test (is_same_position x.position p) (edges_at-append xs ys p) where
  by_test : (b : Bool) → edges_at (xs ++ ys) p ≡ edges_at xs p + edges_at ys p → cond b (suc (edges_at (xs ++ ys) p)) (edges_at (xs ++ ys) p) ≡ cond b (suc (edges_at xs p)) (edges_at xs p) + edges_at ys p
  by_test true rest = omega (arith, rest)
  by_test false rest = rest

-- edges that all lead from one position
edges_at_there : (q p : Position) (es : List Edge) → AllByRecursion (λ e. e.position ≡ q) es → is_same_position q p ≡ true → edges_at es p ≡ length es
edges_at_there q p [] all same = refl
edges_at_there q p (e ∷ es) all same =
    ap (λ b. cond b (suc (edges_at es p)) (edges_at es p)) (ap (λ x. is_same_position x p) all.0 ∙ same) ∙ ap suc (edges_at_there q p es all.1 same)

edges_at_elsewhere : (q p : Position) (es : List Edge) → AllByRecursion (λ e. e.position ≡ q) es → is_same_position q p ≡ false → edges_at es p ≡ 0
edges_at_elsewhere q p [] all other = refl
edges_at_elsewhere q p (e ∷ es) all other =
    ap (λ b. cond b (suc (edges_at es p)) (edges_at es p)) (ap (λ x. is_same_position x p) all.0 ∙ other) ∙ edges_at_elsewhere q p es all.1 other

module _ (live : List Edge) (v : Vertex) where
  from_place : (q : Position) (es : List Edge) → AllByRecursion (IsFromPlace live v q) es → AllByRecursion (λ e. e.position ≡ q) es
  from_place q [] all = tt
  from_place q (e ∷ es) all = (one_position e.position q all.0.position, from_place q es all.1)

  at_position : (q : Position) → AllByRecursion (λ e. e.position ≡ q) (children_of v q live)
  at_position q = from_place q (children_of v q live) (children_lead live v q)

  none_later : (p : Position) (row : List (Position × Sort)) → Rises (suc (position_number p)) row → edges_at (edges_from live v row) p ≡ 0
  none_later p row rises = go (suc (position_number p)) row rises (omega arith) where
    go : (low : ℕ) (row : List (Position × Sort)) → Rises low row → position_number p < low → edges_at (edges_from live v row) p ≡ 0
    go low [] rises above = refl
    go low (q ∷ row) rises above =
        let more = rises.0 in
        let other : is_same_position q.0 p ≡ false = other_position q.0 p (λ e. omega (arith, more, above, e)) in
        let here = edges_at_elsewhere q.0 p (children_of v q.0 live) (at_position q.0) other in
        let later = go (suc (position_number q.0)) row rises.1 (omega (arith, more, above)) in
        let both = edges_at-append (children_of v q.0 live) (edges_from live v row) p in
        omega (arith, here, later, both)

  count_at_row : (low : ℕ) (row : List (Position × Sort)) → Rises low row → (n : ℕ) (p : Position × Sort) (ps : List (Position × Sort)) → drop n row ≡ p ∷ ps
      → edges_at (edges_from live v row) p.0 ≡ length (children_of v p.0 live)
  count_at_row low [] rises zero p ps at = absurd cc
  count_at_row low [] rises (suc n) p ps at = absurd cc
  count_at_row low (q ∷ row) rises zero p ps at =
      let one : q ≡ p = cc in
      let here = edges_at_there q.0 q.0 (children_of v q.0 live) (at_position q.0) (same_position_laws.refl q.0) in
      let later = none_later q.0 row rises.1 in
      let both = edges_at-append (children_of v q.0 live) (edges_from live v row) q.0 in
      let whole : edges_at (edges_from live v (q ∷ row)) q.0 ≡ length (children_of v q.0 live) = omega (arith, here, later, both) in
      subst (λ (x : Position × Sort). edges_at (edges_from live v (q ∷ row)) x.0 ≡ length (children_of v x.0 live)) one whole
  count_at_row low (q ∷ row) rises (suc n) p ps at =
      let less = later_rises (suc (position_number q.0)) row n p ps rises.1 at in
      let other : is_same_position q.0 p.0 ≡ false = other_position q.0 p.0 (λ e. omega (arith, less, e)) in
      let here = edges_at_elsewhere q.0 p.0 (children_of v q.0 live) (at_position q.0) other in
      let later = count_at_row (suc (position_number q.0)) row rises.1 n p ps at in
      let both = edges_at-append (children_of v q.0 live) (edges_from live v row) p.0 in
      omega (arith, here, later, both)

  -- as many children as edges lead from the position
  pub count_at_position : (f : Forest) → child_edges f ≡ edges_under live v → (n : ℕ) (p : Position × Sort) (ps : List (Position × Sort)) → drop n (positions v.ctor) ≡ p ∷ ps
      → count_at f p.0 ≡ length (children_of v p.0 live)
  count_at_position f edges n p ps at =
      sym (edges_at-child_edges f p.0) ∙ ap (λ es. edges_at es p.0) edges ∙ count_at_row 0 (positions v.ctor) (positions_rise v.ctor) n p ps at
