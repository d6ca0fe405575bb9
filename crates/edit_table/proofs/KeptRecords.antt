-- The last record of each run of records with one edge is that of the canonical list.
use Rattle.std.proofs.Common.{◌≡◌, ℕ, zero, suc, ◌+◌, ◌-◌, ◌<◌, ◌≤◌, Bool, true, false, List, [], ◌∷◌, length, get_or, set, take, drop, slice_get, Some, refl, sym, ap, subst, ◌∙◌, arith}
use Rattle.std.specs.Prelude.{◌↔◌, IsTrue, slice_index_or}
use Rattle.std.specs.List.{All, AllByRecursion, IsDistinct}
use Rattle.std.specs.Ordering.{is_lt, nat_cmp, ordering_then}
use Rattle.std.specs.List.Sorted.{IsSorted, IsPermutation}
use Rattle.std.proofs.lemmas.List.{get_or-map, take-map, drop-map, map-set, length-map, length-set, get_or_default}
use Rattle.std.proofs.lemmas.List.Sorted.{All-permutation}
use Rattle.std.proofs.lemmas.Map.Keys.{IsDistinct-head, IsDistinct-tail}
use Rattle.grove_edits.specs.declared.vertex.Vertex.{Vertex}
use Rattle.grove_edits.specs.declared.edge.Edge.{Edge}
use Rattle.grove_edits.specs.contracts.edit.EditOrd.TheImpl as edit_impl
use Rattle.grove_edits.specs.Edge.{edge_cmp}
use Rattle.grove_edits.specs.Edit.{edit_edge, kind_number}
use Rattle.grove_edits.specs.Graph.{begins_with, graph, is_same_edge, IsCanonical}
use Rattle.grove_edits.specs.Vertex.{root, is_same_vertex}
use Rattle.grove_edits.proofs.CanonicalLists.{AreCompacted, compacted_first, compacted_skipped, compacted_pushed, compacted_all}
use Rattle.grove_edits.proofs.Orders.{cmp_is_edit_cmp, edge_from_fields, one_edge, same_edge_laws}
use Rattle.grove_edits.proofs.Vertices.{same_vertex_itself}
use Rattle.edit_table.specs.declared.record.Record.{Record}
use Rattle.edit_table.specs.Records.{edge_of, edit_of, edits_of, numbered, record_cmp, AreInOrder, AreOf, HaveSameParts, IsRecord}
use Rattle.edit_table.proofs.Lists.{all_at, stands_within}
use Rattle.edit_table.proofs.Made.{made-edge, made-kind}
use Rattle.grove_sorts.proofs.Truths.{same_tests}

-- ---- one number for each vertex

pub numbered_once : (vs : List Vertex) → IsDistinct is_same_vertex vs → (m n : ℕ) (v : Vertex) → slice_get vs m ≡ Some v → slice_get vs n ≡ Some v → m ≡ n
numbered_once [] once m n v first second = absurd cc
numbered_once (x ∷ vs) once zero zero v first second = refl
numbered_once (x ∷ vs) once zero (suc n) v first second =
    let is : x ≡ v = cc in
    let apart : is_same_vertex x v ≡ false = all_at (λ y. is_same_vertex x y ≡ false) vs n v (IsDistinct-head is_same_vertex x vs once) second in
    let same : is_same_vertex x v ≡ true = ap (is_same_vertex x) (sym is) ∙ same_vertex_itself x in
    absurd cc
numbered_once (x ∷ vs) once (suc m) zero v first second =
    let is : x ≡ v = cc in
    let apart : is_same_vertex x v ≡ false = all_at (λ y. is_same_vertex x y ≡ false) vs m v (IsDistinct-head is_same_vertex x vs once) first in
    let same : is_same_vertex x v ≡ true = ap (is_same_vertex x) (sym is) ∙ same_vertex_itself x in
    absurd cc
numbered_once (x ∷ vs) once (suc m) (suc n) v first second = ap suc (numbered_once vs (IsDistinct-tail is_same_vertex x vs once) m n v first second)

one_number : (vs : List Vertex) → IsDistinct is_same_vertex vs → (m n : ℕ) → m < length vs → n < length vs → numbered vs m ≡ numbered vs n → m ≡ n
one_number vs once m n first second same =
    numbered_once vs once m n (numbered vs n) (stands_within vs m root first ∙ ap (λ (v : Vertex). Some v) same) (stands_within vs n root second)

-- ---- records of one edge

module _ (vs : List Vertex) (a b : Record) (once : IsDistinct is_same_vertex vs) (a_is : IsRecord vs a) (b_is : IsRecord vs b) where
  parts_give : HaveSameParts a b → is_same_edge (edge_of vs a) (edge_of vs b) ≡ true
  parts_give same =
      let edge : edge_of vs a ≡ edge_of vs b = edge_from_fields (edge_of vs a) (edge_of vs b) same.0 (ap (numbered vs) same.1) same.2 (ap (numbered vs) same.3) in
      ap (is_same_edge (edge_of vs a)) (sym edge) ∙ same_edge_laws.refl (edge_of vs a)

  edge_gives : is_same_edge (edge_of vs a) (edge_of vs b) ≡ true → HaveSameParts a b
  edge_gives test =
      let same = one_edge (edge_of vs a) (edge_of vs b) test in (
        ap (λ (e : Edge). e.name) same,
        one_number vs once a.source b.source a_is.source_is b_is.source_is (ap (λ (e : Edge). e.source) same),
        ap (λ (e : Edge). e.position) same,
        one_number vs once a.target b.target a_is.target_is b_is.target_is (ap (λ (e : Edge). e.target) same),
      )

  parts_tell : (t : Bool) → (IsTrue t ↔ HaveSameParts a b) → t ≡ is_same_edge (edge_of vs a) (edge_of vs b)
  parts_tell t told = same_tests t (is_same_edge (edge_of vs a) (edge_of vs b)) (λ is. parts_give (told.0 is)) (λ is. told.1 (edge_gives is))

pub edit_edge_of : (vs : List Vertex) (r : Record) → IsRecord vs r → edit_edge (edit_of vs r) ≡ edge_of vs r
edit_edge_of vs r is = made-edge r.kind (edge_of vs r) is.good

-- the test of the first record
pub begins_first : (r first : Record) (records : List Record) (t : Bool) → (IsTrue t ↔ HaveSameParts r first) → slice_get records 0 ≡ Some first
    → (vs : List Vertex) → AreOf vs (r ∷ records) → t ≡ begins_with (edge_of vs r) (edits_of vs records)
begins_first r first [] t told at vs are = absurd cc
begins_first r first (x ∷ records) t told at vs are =
    let is : x ≡ first = cc in
    let here : IsTrue t ↔ HaveSameParts r x = subst (λ y. IsTrue t ↔ HaveSameParts r y) (sym is) told in
    parts_tell vs r x are.once are.each.0 are.each.1.0 t here ∙ ap (is_same_edge (edge_of vs r)) (sym (edit_edge_of vs x are.each.1.0))

-- ---- records of some vertices, in part

all_taken : {X : Type 0} (P : X → Type 0) (n : ℕ) (xs : List X) → AllByRecursion P xs → AllByRecursion P (take n xs)
all_taken P zero [] all = tt
all_taken P zero (x ∷ xs) all = tt
all_taken P (suc n) [] all = tt
all_taken P (suc n) (x ∷ xs) all = (all.0, all_taken P n xs all.1)

all_dropped : {X : Type 0} (P : X → Type 0) (n : ℕ) (xs : List X) → AllByRecursion P xs → AllByRecursion P (drop n xs)
all_dropped P zero [] all = all
all_dropped P zero (x ∷ xs) all = all
all_dropped P (suc n) [] all = tt
all_dropped P (suc n) (x ∷ xs) all = all_dropped P n xs all.1

all_set : {X : Type 0} (P : X → Type 0) (xs : List X) (i : ℕ) (x : X) → AllByRecursion P xs → P x → AllByRecursion P (set xs i x)
all_set P [] i x all one = tt
all_set P (y ∷ xs) zero x all one = (one, all.1)
all_set P (y ∷ xs) (suc i) x all one = (all.0, all_set P xs i x all.1 one)

to_all : {X : Type 0} (P : X → Type 0) (xs : List X) → AllByRecursion P xs → All P xs
to_all P xs all k d within = all_at P xs k (slice_index_or xs k d) all (stands_within xs k d within)

from_all : {X : Type 0} (P : X → Type 0) (xs : List X) → All P xs → AllByRecursion P xs
from_all P [] all = tt
from_all P (x ∷ xs) all = (all 0 x (omega arith), from_all P xs (λ k d within. all (suc k) d (omega (arith, within))))

all_moved : {X : Type 0} (P : X → Type 0) (xs ys : List X) → IsPermutation xs ys → AllByRecursion P xs → AllByRecursion P ys
all_moved P xs ys moved all = from_all P ys (All-permutation P xs ys moved (to_all P xs all))

-- ---- the loop

-- a list after its first i records were gone over
pub record AreKept (old now : List Record) (len i : ℕ) : Type 0 where
  pub below : len ≤ i
  pub long : length now ≡ length old
  pub kept : (vs : List Vertex) → AreInOrder vs old → AreCompacted (edits_of vs old) (edits_of vs now) len i × AllByRecursion (IsRecord vs) now

pub kept_first : (old : List Record) → AreKept old old 0 0
kept_first old = record { below = omega arith; long = refl; kept = λ vs are. (compacted_first (edits_of vs old), are.0.each) }

module _ (old now lent : List Record) (len i : ℕ) (r : Record) (within : i < length now) (read : r ≡ get_or now i r) (lent_is : lent ≡ now) (so_far : AreKept old now len i) where
  record_read : (vs : List Vertex) → edit_of vs r ≡ get_or (edits_of vs now) i (edit_of vs r)
  record_read vs = ap (edit_of vs) read ∙ sym (get_or-map (edit_of vs) now i r (edit_of vs r) within)

  record_is : (vs : List Vertex) → AreInOrder vs old → IsRecord vs r
  record_is vs are = all_at (IsRecord vs) now i r (so_far.kept vs are).1 (stands_within now i r within ∙ ap (λ (x : Record). Some x) (sym read))

  behind_is : (vs : List Vertex) → edits_of vs (take (length lent - (i + 1)) (drop (i + 1) lent)) ≡ take (length (edits_of vs lent) - (i + 1)) (drop (i + 1) (edits_of vs lent))
  behind_is vs =
      sym (take-map (edit_of vs) (length lent - (i + 1)) (drop (i + 1) lent)) ∙ ap (take (length lent - (i + 1))) (sym (drop-map (edit_of vs) (i + 1) lent))
      ∙ ap (λ n. take (n - (i + 1)) (drop (i + 1) (edits_of vs lent))) (sym (length-map lent (edit_of vs)))

  behind_are : (vs : List Vertex) → AreInOrder vs old → AreOf vs (r ∷ take (length lent - (i + 1)) (drop (i + 1) lent))
  behind_are vs are = record {
    once = are.0.once;
    each = (
      record_is vs are,
      all_taken (IsRecord vs) (length lent - (i + 1)) (drop (i + 1) lent) (all_dropped (IsRecord vs) (i + 1) lent (subst (AllByRecursion (IsRecord vs)) (sym lent_is) (so_far.kept vs are).1)),
    );
  }

  module _ (t : Bool) (told : (vs : List Vertex) → AreOf vs (r ∷ take (length lent - (i + 1)) (drop (i + 1) lent)) → t ≡ begins_with (edge_of vs r) (edits_of vs (take (length lent - (i + 1)) (drop (i + 1) lent)))) where
    test : (vs : List Vertex) → AreInOrder vs old → t ≡ begins_with (edit_edge (edit_of vs r)) (take (length (edits_of vs lent) - (i + 1)) (drop (i + 1) (edits_of vs lent)))
    test vs are =
        told vs (behind_are vs are) ∙ ap (begins_with (edge_of vs r)) (behind_is vs)
        ∙ ap (λ e. begins_with e (take (length (edits_of vs lent) - (i + 1)) (drop (i + 1) (edits_of vs lent)))) (sym (edit_edge_of vs r (record_is vs are)))

  inside : (vs : List Vertex) → i < length (edits_of vs now)
  inside vs = omega (arith, length-map now (edit_of vs), within)

  pub kept_skipped : ((vs : List Vertex) → AreOf vs (r ∷ take (length lent - (i + 1)) (drop (i + 1) lent)) → true ≡ begins_with (edge_of vs r) (edits_of vs (take (length lent - (i + 1)) (drop (i + 1) lent))))
      → AreKept old now len (i + 1)
  kept_skipped told =
      let below = so_far.below in
      record {
        below = omega (arith, below);
        long = so_far.long;
        kept = λ vs are. (
          compacted_skipped (edits_of vs old) (edits_of vs now) len i (edit_of vs r) (inside vs) (record_read vs) (edits_of vs lent) (ap (edits_of vs) lent_is) (test true told vs are) (so_far.kept vs are).0,
          (so_far.kept vs are).1,
        );
      }

  pub kept_pushed : (s : Record) → s ≡ get_or now i s
      → ((vs : List Vertex) → AreOf vs (r ∷ take (length lent - (i + 1)) (drop (i + 1) lent)) → false ≡ begins_with (edge_of vs r) (edits_of vs (take (length lent - (i + 1)) (drop (i + 1) lent))))
      → AreKept old (set now len s) (len + 1) (i + 1)
  kept_pushed s again told =
      let below = so_far.below in
      let one : s ≡ r = again ∙ get_or_default now i s r within ∙ sym read in
      record {
        below = omega (arith, below);
        long = length-set now len s ∙ so_far.long;
        kept = λ vs are. (
          subst (λ es. AreCompacted (edits_of vs old) es (len + 1) (i + 1)) (sym (map-set (edit_of vs) now len s))
              (compacted_pushed (edits_of vs old) (edits_of vs now) len i (edit_of vs r) (edit_of vs s) (inside vs) (record_read vs)
              (ap (edit_of vs) again ∙ sym (get_or-map (edit_of vs) now i s (edit_of vs s) within)) (edits_of vs lent) (ap (edits_of vs) lent_is) (test false told vs are) (so_far.kept vs are).0),
          all_set (IsRecord vs) now len s (so_far.kept vs are).1 (subst (IsRecord vs) (sym one) (record_is vs are)),
        );
      }

-- ---- what the loop leaves

same_order : (vs : List Vertex) (a b : Record) → IsRecord vs a → IsRecord vs b → edit_impl.ghosts.cmp (edit_of vs a) (edit_of vs b) ≡ record_cmp vs a b
same_order vs a b a_is b_is =
    cmp_is_edit_cmp (edit_of vs a) (edit_of vs b)
    ∙ (λ j. ordering_then (edge_cmp (edit_edge_of vs a a_is j) (edit_edge_of vs b b_is j))
    (nat_cmp (kind_number (made-kind a.kind (edge_of vs a) a_is.good j)) (kind_number (made-kind b.kind (edge_of vs b) b_is.good j))))

edits_sorted : (vs : List Vertex) (old : List Record) → AreInOrder vs old → IsSorted edit_impl.ghosts.cmp (edits_of vs old)
edits_sorted vs old are k d low high =
    let long : k + 1 < length old = omega (arith, high, length-map old (edit_of vs)) in
    let first : Record = slice_index_or old k (some_record old (omega (arith, long))) in
    let here : slice_get old k ≡ Some (get_or old k first) = stands_within old k first (omega (arith, long)) in
    let there : slice_get old (k + 1) ≡ Some (get_or old (k + 1) first) = stands_within old (k + 1) first long in
    ap is_lt ((λ j. edit_impl.ghosts.cmp (get_or-map (edit_of vs) old (k + 1) first d long j) (get_or-map (edit_of vs) old k first d (omega (arith, long)) j))
    ∙ same_order vs (get_or old (k + 1) first) (get_or old k first) (all_at (IsRecord vs) old (k + 1) _ are.0.each there) (all_at (IsRecord vs) old k _ are.0.each here))
    ∙ are.1 k first low long where
      some_record : (xs : List Record) → 0 < length xs → Record
      some_record [] some = absurd (omega (arith, some))
      some_record (x ∷ xs) some = x

length_taken : {X : Type 0} (n : ℕ) (xs : List X) → length (take n xs) ≤ length xs
length_taken zero xs = omega arith
length_taken (suc n) [] = omega arith
length_taken (suc n) (x ∷ xs) = omega (arith, length_taken n xs)

module _ (old now new : List Record) (len i : ℕ) (past : length old ≤ i) (new_is : new ≡ take len now) (kept : AreKept old now len i) where
  pub kept_canonical : (vs : List Vertex) → AreInOrder vs old → IsCanonical (graph (edits_of vs old)) (edits_of vs new)
  kept_canonical vs are =
      let over : length (edits_of vs old) ≤ i = omega (arith, past, length-map old (edit_of vs)) in
      subst (IsCanonical (graph (edits_of vs old))) (take-map (edit_of vs) len now ∙ ap (edits_of vs) (sym new_is))
      (compacted_all (edits_of vs old) (edits_of vs now) len i over (edits_sorted vs old are) (kept.kept vs are).0)

  pub kept_records : (vs : List Vertex) → AreInOrder vs old → AreOf vs new
  kept_records vs are = record { once = are.0.once; each = subst (AllByRecursion (IsRecord vs)) (sym new_is) (all_taken (IsRecord vs) len now (kept.kept vs are).1) }

  pub kept_fewer : length new ≤ length old
  kept_fewer =
      let long = ap length new_is in
      let whole = kept.long in
      omega (arith, long, length_taken len now, whole)

-- ---- the table of what is kept

pub records_moved : (vs : List Vertex) (old sorted : List Record) → IsPermutation old sorted → AreOf vs old → AreOf vs sorted
records_moved vs old sorted moved are = record { once = are.once; each = all_moved (IsRecord vs) old sorted moved are.each }
