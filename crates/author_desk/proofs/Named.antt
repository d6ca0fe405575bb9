-- The edges of a name in a list in edge order stand next to each other.
use Rattle.std.proofs.Common.{◌≡◌, ℕ, zero, suc, ◌+◌, ◌<◌, ◌≤◌, Bool, true, false, cond, List, [], ◌∷◌, length, get_or, refl, sym, ap, ap₂, ◌∙◌, arith}
use Rattle.std.specs.Prelude.{nat_lt, ◌||◌}
use Rattle.std.specs.List.{AllByRecursion, list_any, range_with_len}
use Rattle.std.specs.List.Sorted.{IsPartitionedBy, IsPartitionPoint}
use Rattle.std.specs.declared.cmp.Ordering.{Ordering}
use Rattle.std.specs.declared.cmp.Ordering.TheVariants.{Less, Equal, Greater}
use Rattle.std.specs.Ordering.{is_lt, is_le, is_eq, ordering_then}
use Rattle.std.proofs.lemmas.Cmp.{alike_right}
use Rattle.grove_names.specs.declared.name.Name.{Name}
use Rattle.grove_names.specs.Name.{name_cmp}
use Rattle.grove_names.proofs.Orders.{name_cmp_total}
use Rattle.grove_sorts.specs.Position.{position_cmp}
use Rattle.grove_edits.specs.declared.edge.Edge.{Edge}
use Rattle.grove_edits.specs.declared.edit.Edit.{Edit}
use Rattle.grove_edits.specs.Vertex.{vertex_cmp}
use Rattle.grove_edits.specs.Edge.{edge_cmp}
use Rattle.grove_edits.specs.Edit.{edit_edge}
use Rattle.grove_edits.specs.Graph.{Ascends}
use Rattle.author_desk.specs.Lines.{has_name, is_before, is_up_to, slots_from}
use Rattle.grove_sorts.proofs.Truths.{less_from_test}

le_from_then : (o p : Ordering) → ordering_then o p ≡ Less → is_le o ≡ true
le_from_then Less p lt = refl
le_from_then Equal p lt = refl
le_from_then Greater p lt = absurd cc

names_rise : (a b : Edge) → edge_cmp a b ≡ Less → is_le (name_cmp a.name b.name) ≡ true
names_rise a b lt =
    le_from_then (name_cmp a.name b.name)
    (ordering_then (vertex_cmp a.source b.source) (ordering_then (position_cmp a.position b.position) (vertex_cmp a.target b.target))) lt

lt_after_le : (n a b : Name) → is_le (name_cmp a b) ≡ true → is_lt (name_cmp b n) ≡ true → is_lt (name_cmp a n) ≡ true
lt_after_le n a b le lt = by_order (name_cmp a b) refl le where
  by_order : (o : Ordering) → name_cmp a b ≡ o → is_le o ≡ true → is_lt (name_cmp a n) ≡ true
  by_order Less is h = ap is_lt (name_cmp_total.trans a b n is (less_from_test (name_cmp b n) lt))
  by_order Equal is h = ap is_lt (name_cmp_total.congr a b n is) ∙ lt
  by_order Greater is h = absurd cc

le_after_le : (n a b : Name) → is_le (name_cmp a b) ≡ true → is_le (name_cmp b n) ≡ true → is_le (name_cmp a n) ≡ true
le_after_le n a b le le' = by_orders (name_cmp a b) (name_cmp b n) refl refl le le' where
  by_orders : (o p : Ordering) → name_cmp a b ≡ o → name_cmp b n ≡ p → is_le o ≡ true → is_le p ≡ true → is_le (name_cmp a n) ≡ true
  by_orders Less Less is is' h h' = ap is_le (name_cmp_total.trans a b n is is')
  by_orders Less Equal is is' h h' = ap is_le (sym (alike_right name_cmp_total b n a is') ∙ is)
  by_orders Less Greater is is' h h' = absurd cc
  by_orders Equal p is is' h h' = ap is_le (name_cmp_total.congr a b n is) ∙ le'
  by_orders Greater p is is' h h' = absurd cc

later_name : (x : Edit) (xs : List Edit) → AllByRecursion (λ later. edge_cmp (edit_edge x) (edit_edge later) ≡ Less) xs → (j : ℕ) (d : Edit) → j < length xs
    → is_le (name_cmp (edit_edge x).name (edit_edge (get_or xs j d)).name) ≡ true
later_name x [] all j d lt = absurd (omega arith)
later_name x (y ∷ ys) all zero d lt = names_rise (edit_edge x) (edit_edge y) all.0
later_name x (y ∷ ys) all (suc j) d lt = later_name x ys all.1 j d (omega arith)

-- a test that holds of each name before one of which it holds
parted_by : (t : Name → Bool) → ((a b : Name) → is_le (name_cmp a b) ≡ true → t b ≡ true → t a ≡ true) → (xs : List Edit) → Ascends xs → IsPartitionedBy (λ e. t (edit_edge e).name) xs
parted_by t h [] up i j d le lt holds = absurd (omega arith)
parted_by t h (x ∷ xs) up zero zero d le lt holds = holds
parted_by t h (x ∷ xs) up zero (suc j) d le lt holds = h (edit_edge x).name (edit_edge (get_or xs j d)).name (later_name x xs up.0 j d (omega arith)) holds
parted_by t h (x ∷ xs) up (suc i) zero d le lt holds = absurd (omega arith)
parted_by t h (x ∷ xs) up (suc i) (suc j) d le lt holds = parted_by t h xs up.1 i j d (omega arith) (omega arith) holds

pub parted_before : (n : Name) (xs : List Edit) → Ascends xs → IsPartitionedBy (is_before n) xs
parted_before n xs up = parted_by (λ m. is_lt (name_cmp m n)) (lt_after_le n) xs up

pub parted_up_to : (n : Name) (xs : List Edit) → Ascends xs → IsPartitionedBy (is_up_to n) xs
parted_up_to n xs up = parted_by (λ m. is_le (name_cmp m n)) (le_after_le n) xs up

abbrev pub Parts : (Edit → Bool) → List Edit → ℕ → Type 0
Parts p xs i = IsPartitionPoint (λ e. p e ≡ true) (λ e. p e ≡ false) xs i

parts_tail : (p : Edit → Bool) (x : Edit) (xs : List Edit) (i : ℕ) → Parts p (x ∷ xs) (suc i) → Parts p xs i
parts_tail p x xs i h = (λ k d le lt. h.0 (suc k) d (omega arith) (omega arith), λ k d le lt. h.1 (suc k) d (omega arith) (omega arith))

parts_none : (p : Edit → Bool) (x : Edit) (xs : List Edit) → Parts p (x ∷ xs) 0 → Parts p xs 0
parts_none p x xs h = (λ k d le lt. absurd (omega arith), λ k d le lt. h.1 (suc k) d (omega arith) (omega arith))

passes : (p : Edit → Bool) (x : Edit) (xs : List Edit) (i : ℕ) → Parts p (x ∷ xs) (suc i) → p x ≡ true
passes p x xs i h = h.0 0 x (omega arith) (omega arith)

fails : (p : Edit → Bool) (x : Edit) (xs : List Edit) → Parts p (x ∷ xs) 0 → p x ≡ false
fails p x xs h = h.1 0 x (omega arith) (omega arith)

is_equal : (o : Ordering) → is_lt o ≡ false → is_le o ≡ true → is_eq o ≡ true
is_equal Less lt le = absurd cc
is_equal Equal lt le = refl
is_equal Greater lt le = absurd cc

less_not_equal : (o : Ordering) → is_lt o ≡ true → is_eq o ≡ false
less_not_equal Less lt = refl
less_not_equal Equal lt = absurd cc
less_not_equal Greater lt = refl

greater_not_equal : (o : Ordering) → is_le o ≡ false → is_eq o ≡ false
greater_not_equal Less le = refl
greater_not_equal Equal le = absurd cc
greater_not_equal Greater le = refl

less_is_le : (o : Ordering) → is_lt o ≡ true → is_le o ≡ false → ⊥
less_is_le Less lt le = absurd cc
less_is_le Equal lt le = absurd cc
less_is_le Greater lt le = absurd cc

pub first_le_end : (n : Name) (xs : List Edit) (first end : ℕ) → first ≤ length xs → Parts (is_before n) xs first → Parts (is_up_to n) xs end → first ≤ end
first_le_end n xs zero end le pf pe = omega arith
first_le_end n [] (suc first) end le pf pe = absurd (omega arith)
first_le_end n (x ∷ xs) (suc first) zero le pf pe = absurd (less_is_le (name_cmp (edit_edge x).name n) (passes (is_before n) x xs first pf) (fails (is_up_to n) x xs pe))
first_le_end n (x ∷ xs) (suc first) (suc end) le pf pe =
    let rest = first_le_end n xs first end (omega arith) (parts_tail (is_before n) x xs first pf) (parts_tail (is_up_to n) x xs end pe) in
    omega arith

abbrev slots_at : Bool → ℕ → List ℕ → List ℕ
slots_at b slot slots = cond b (slot ∷ slots) slots

-- the slots of the name are those between the two points
pub slots_between : (n : Name) (xs : List Edit) (slot first count end m : ℕ) → first + count ≡ end → end ≤ length xs → Parts (is_before n) xs first → Parts (is_up_to n) xs end → m ≡ slot + first
    → slots_from slot n xs ≡ range_with_len m count
slots_between n [] slot first zero end m e le pf pe is = refl
slots_between n [] slot first (suc count) end m e le pf pe is = absurd (omega arith)
slots_between n (x ∷ xs) slot zero zero zero m e le pf pe is =
    ap (λ b. slots_at b slot (slots_from (slot + 1) n xs)) (greater_not_equal (name_cmp (edit_edge x).name n) (fails (is_up_to n) x xs pe))
    ∙ slots_between n xs (slot + 1) 0 0 0 (slot + 1) refl (omega arith) (parts_none (is_before n) x xs pf) (parts_none (is_up_to n) x xs pe) (omega arith)
slots_between n (x ∷ xs) slot zero zero (suc end) m e le pf pe is = absurd (omega arith)
slots_between n (x ∷ xs) slot zero (suc count) zero m e le pf pe is = absurd (omega arith)
slots_between n (x ∷ xs) slot zero (suc count) (suc end) m e le pf pe is =
    ap (λ b. slots_at b slot (slots_from (slot + 1) n xs)) (is_equal (name_cmp (edit_edge x).name n) (fails (is_before n) x xs pf) (passes (is_up_to n) x xs end pe))
    ∙ ap₂ (λ (s : ℕ) (ss : List ℕ). s ∷ ss) (let same : slot ≡ m = omega arith in same)
    (slots_between n xs (slot + 1) 0 count end (m + 1) (omega arith) (omega arith) (parts_none (is_before n) x xs pf) (parts_tail (is_up_to n) x xs end pe) (omega arith))
slots_between n (x ∷ xs) slot (suc first) count zero m e le pf pe is = absurd (omega arith)
slots_between n (x ∷ xs) slot (suc first) count (suc end) m e le pf pe is =
    ap (λ b. slots_at b slot (slots_from (slot + 1) n xs)) (less_not_equal (name_cmp (edit_edge x).name n) (passes (is_before n) x xs first pf))
    ∙ slots_between n xs (slot + 1) first count end m (omega arith) (omega arith) (parts_tail (is_before n) x xs first pf) (parts_tail (is_up_to n) x xs end pe) (omega arith)

-- some edge has the name where there is a slot of it
abbrev is_some_slot : List ℕ → Bool
is_some_slot [] = false
is_some_slot (slot ∷ slots) = true

any_slot : (n : Name) (xs : List Edit) (slot : ℕ) → list_any (has_name n) xs ≡ is_some_slot (slots_from slot n xs)
any_slot n [] slot = refl
any_slot n (x ∷ xs) slot = by_test (has_name n x) (any_slot n xs (slot + 1)) where
  by_test : (b : Bool) → list_any (has_name n) xs ≡ is_some_slot (slots_from (slot + 1) n xs) → (b || list_any (has_name n) xs) ≡ is_some_slot (slots_at b slot (slots_from (slot + 1) n xs))
  by_test true rest = refl
  by_test false rest = rest

some_count : (m first count end : ℕ) → first + count ≡ end → is_some_slot (range_with_len m count) ≡ nat_lt first end
some_count m first zero end e = grind arith
some_count m first (suc count) end e = grind arith

pub any_between : (n : Name) (xs : List Edit) (first count end : ℕ) → first + count ≡ end → end ≤ length xs → Parts (is_before n) xs first → Parts (is_up_to n) xs end → nat_lt first end ≡ list_any (has_name n) xs
any_between n xs first count end e le pf pe =
    sym (any_slot n xs 0 ∙ (ap is_some_slot (slots_between n xs 0 first count end first e le pf pe (omega arith)) ∙ some_count first first count end e))
