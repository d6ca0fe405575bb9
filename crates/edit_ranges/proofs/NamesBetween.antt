-- The names of vertices between those of deleted edges.
use Rattle.std.proofs.Common.{◌≡◌, ◌≢◌, ℕ, ◌+◌, Bool, true, false, cond, List, [], ◌∷◌, ◌++◌, refl, sym, ap, ◌∙◌, ◌⊎◌, inl, inr, arith}
use Rattle.std.specs.Prelude.{◌&&◌, ◌||◌, ◌==◌, not}
use Rattle.std.specs.List.{AllByRecursion, list_any}
use Rattle.std.specs.declared.cmp.Ordering.TheVariants.{Greater}
use Rattle.std.specs.Ordering.{ordering_then, nat_cmp}
use Rattle.std.proofs.lemmas.Bool.{false≢true}
use Rattle.std.proofs.lemmas.Bool.Decides.{nat_tests}
use Rattle.std.proofs.lemmas.List.Folds.{list_any-append}
use Rattle.edge_lattice.specs.declared.state.State.TheVariants.{Absent, Deleted}
use Rattle.grove_names.specs.declared.name.Name.{Name}
use Rattle.grove_names.specs.Name.{name_cmp}
use Rattle.grove_names.proofs.Texts.{name_from_fields}
use Rattle.grove_edits.specs.declared.edge.Edge.{Edge}
use Rattle.grove_edits.specs.declared.edit.Edit.{Edit}
use Rattle.grove_edits.specs.declared.edit.EditKind.{EditKind}
use Rattle.grove_edits.specs.declared.edit.EditKind.TheVariants.{Insert, Delete}
use Rattle.grove_edits.specs.Edit.{edit_edge, edit_kind}
use Rattle.grove_edits.specs.Graph.{graph, Ascends}
use Rattle.edit_ranges.specs.declared.told.Told.TheVariants as told
use Rattle.edit_ranges.specs.declared.name_range.NameRange.{NameRange}
use Rattle.edit_ranges.specs.Ranges.{tell}
use Rattle.edit_ranges.specs.Summary.{name_behind, IsOfOneEdge}
use Rattle.edit_ranges.specs.Facts.{FactInRange, fact, is_fact, is_deletion, is_next, are_around, are_alone, between_next, between_facts}
use Rattle.edit_ranges.proofs.InOrder.{both, both_hold, one_of, or_false}
use Rattle.edit_ranges.proofs.Present.{present_first, present_later, first_or_later, deleted_first, deleted_later, deleted_by, deleted_present}
use Rattle.edit_ranges.proofs.SharedNames.{after_edge, fact_here, fact_name, in_rest, names_rise, not_before_itself}

-- ---- names that follow each other

next_from : (m n : Name) → is_next m n ≡ true → n ≡ name_behind m
next_from m n h = name_from_fields n (name_behind m) (author m.author n.author m.counter n.counter h) (counter m.author n.author m.counter n.counter h) where
  author : (a b c d : ℕ) → ((a == b) && (d == c + 1)) ≡ true → b ≡ a
  author a b c d h = grind (arith, nat_tests)

  counter : (a b c d : ℕ) → ((a == b) && (d == c + 1)) ≡ true → d ≡ c + 1
  counter a b c d h = grind (arith, nat_tests)

next_test : (m n : Name) → n ≡ name_behind m → is_next m n ≡ true
next_test m n same = by_numbers m.author n.author m.counter n.counter (ap (λ (x : Name). x.author) same) (ap (λ (x : Name). x.counter) same) where
  by_numbers : (a b c d : ℕ) → b ≡ a → d ≡ c + 1 → ((a == b) && (d == c + 1)) ≡ true
  by_numbers a b c d author counter = grind (arith, nat_tests)

behind_is_other : (m n : Name) → n ≡ name_behind m → n ≢ m
behind_is_other m n behind same = apart m.counter n.counter (ap (λ (x : Name). x.counter) behind) (ap (λ (x : Name). x.counter) same) where
  apart : (c d : ℕ) → d ≡ c + 1 → d ≡ c → ⊥
  apart c d one other = absurd (omega (arith, one, other))

-- names compare by author, then by counter
greater_from : (a b c d : ℕ) → b ≡ a → d ≡ c + 1 → ordering_then (nat_cmp b a) (nat_cmp d c) ≡ Greater
greater_from a b c d author counter = grind (arith, nat_tests)

behind_is_greater : (m n : Name) → n ≡ name_behind m → name_cmp n m ≡ Greater
behind_is_greater m n behind = greater_from m.author n.author m.counter n.counter (ap (λ (x : Name). x.author) behind) (ap (λ (x : Name). x.counter) behind)

-- a name that is not before the first of three that follow each other, and not behind the third, is one of them
one_of_three : (m z : Name) → (name_cmp m z ≡ Greater → ⊥) → (name_cmp z (name_behind (name_behind m)) ≡ Greater → ⊥)
    → (z ≡ m) ⊎ (z ≡ name_behind m) ⊎ (z ≡ name_behind (name_behind m))
one_of_three m z from to = elim (by_numbers m.author z.author m.counter z.counter from to) [
  | inl one ↦ inl (name_from_fields z m one.0 one.1)
  | inr (inl two) ↦ inr (inl (name_from_fields z (name_behind m) two.0 two.1))
  | inr (inr three) ↦ inr (inr (name_from_fields z (name_behind (name_behind m)) three.0 three.1))
] where
  by_numbers : (a b c d : ℕ) → (ordering_then (nat_cmp a b) (nat_cmp c d) ≡ Greater → ⊥) → (ordering_then (nat_cmp b a) (nat_cmp d (c + 1 + 1)) ≡ Greater → ⊥)
      → ((b ≡ a) × (d ≡ c)) ⊎ ((b ≡ a) × (d ≡ c + 1)) ⊎ ((b ≡ a) × (d ≡ c + 1 + 1))
  by_numbers a b c d from to = grind (arith, nat_tests)

-- the third of three that follow each other compares greater than the first
third_is_greater : (m n o : Name) → n ≡ name_behind m → o ≡ name_behind n → name_cmp o m ≡ Greater
third_is_greater m n o second third =
    by_numbers m.author n.author o.author m.counter n.counter o.counter
    (ap (λ (x : Name). x.author) second) (ap (λ (x : Name). x.author) third) (ap (λ (x : Name). x.counter) second) (ap (λ (x : Name). x.counter) third)
  where
    by_numbers : (a b u c d w : ℕ) → b ≡ a → u ≡ b → d ≡ c + 1 → w ≡ d + 1 → ordering_then (nat_cmp u a) (nat_cmp w c) ≡ Greater
    by_numbers a b u c d w one two three four = grind (arith, nat_tests)

third_is_other : (m n o : Name) → n ≡ name_behind m → o ≡ name_behind n → o ≢ m
third_is_other m n o second third same = apart m.counter n.counter o.counter (ap (λ (x : Name). x.counter) second) (ap (λ (x : Name). x.counter) third) (ap (λ (x : Name). x.counter) same) where
  apart : (c d w : ℕ) → d ≡ c + 1 → w ≡ d + 1 → w ≡ c → ⊥
  apart c d w one two other = absurd (omega (arith, one, two, other))

-- ---- around a name

-- in the graph of a list, two deleted edges with a name between theirs, to which the second leads, and no edge with this name
pub record Around (edits : List Edit) (n : Name) : Type 0 where
  pub before : Edge
  pub behind : Edge
  pub before_gone : graph edits before ≡ Deleted
  pub behind_gone : graph edits behind ≡ Deleted
  pub follows : n ≡ name_behind before.name
  pub followed : behind.name ≡ name_behind n
  pub leads : behind.target.name ≡ n
  pub no_edge : (e : Edge) → graph edits e ≢ Absent → e.name ≢ n

gone_is_present : (edits : List Edit) (e : Edge) → graph edits e ≡ Deleted → graph edits e ≢ Absent
gone_is_present edits e gone none = deleted_present (sym gone ∙ none)

deletion_from : (k : EditKind) → is_deletion k ≡ true → k ≡ Delete
deletion_from Insert h = absurd (false≢true h)
deletion_from Delete h = refl

around_first : (x y : Edit) (ys : List Edit) (n : Name) → Ascends (x ∷ y ∷ ys) → are_around x y ≡ true → (edit_edge y).target.name ≡ n → Around (x ∷ y ∷ ys) n
around_first x y ys n up h leads =
    let all = both (is_deletion (edit_kind x) && is_deletion (edit_kind y) && is_next (edit_edge x).name (edit_edge y).target.name) (is_next (edit_edge y).target.name (edit_edge y).name) h in
    let three = both (is_deletion (edit_kind x) && is_deletion (edit_kind y)) (is_next (edit_edge x).name (edit_edge y).target.name) all.0 in
    let two = both (is_deletion (edit_kind x)) (is_deletion (edit_kind y)) three.0 in
    let follows : n ≡ name_behind (edit_edge x).name = sym leads ∙ next_from (edit_edge x).name (edit_edge y).target.name three.1 in
    let followed : (edit_edge y).name ≡ name_behind n = next_from (edit_edge y).target.name (edit_edge y).name all.1 ∙ ap name_behind leads in
    record {
      before = edit_edge x;
      behind = edit_edge y;
      before_gone = deleted_first x (y ∷ ys) (deletion_from (edit_kind x) two.0);
      behind_gone = deleted_later x (y ∷ ys) (edit_edge y) (deleted_first y ys (deletion_from (edit_kind y) two.1));
      follows = follows;
      followed = followed;
      leads = leads;
      no_edge = λ e is name. elim (first_or_later x (y ∷ ys) e is) [
        | inl same ↦ behind_is_other (edit_edge x).name n follows (sym name ∙ sym (ap (λ (f : Edge). f.name) same))
        | inr later ↦ elim (first_or_later y ys e later) [
          | inl same ↦ behind_is_other n (edit_edge y).name followed (ap (λ (f : Edge). f.name) same ∙ name)
          | inr rest ↦
              names_rise (edit_edge y) e (after_edge (edit_edge y) ys e up.1.0 rest) (ap (name_cmp (edit_edge y).name) name ∙ behind_is_greater n (edit_edge y).name followed)
        ]
      ];
    }

around_later : (x : Edit) (xs : List Edit) (n : Name) → Ascends (x ∷ xs) → Around xs n → Around (x ∷ xs) n
around_later x xs n up h = record {
  before = h.before;
  behind = h.behind;
  before_gone = deleted_later x xs h.before h.before_gone;
  behind_gone = deleted_later x xs h.behind h.behind_gone;
  follows = h.follows;
  followed = h.followed;
  leads = h.leads;
  no_edge = λ e is name. elim (first_or_later x xs e is) [
    | inl same ↦
        names_rise (edit_edge x) h.before (after_edge (edit_edge x) xs h.before up.0 (gone_is_present xs h.before h.before_gone))
        (behind_is_greater h.before.name (edit_edge x).name (ap (λ (f : Edge). f.name) same ∙ name ∙ h.follows))
    | inr later ↦ h.no_edge e later name
  ];
}

-- ---- what is told between is around

-- with names that none of the shared ranges tells
abbrev pub Found : List NameRange → List Edit → Name → Type 0
Found shared edits n = (h : Around edits n) × (not (tell shared told.Named h.before.name) ≡ true) × (not (tell shared told.Named h.behind.name) ≡ true)

one_told : (b : Bool) → (b || false) ≡ true → b ≡ true
one_told true h = refl
one_told false h = h

next_to : (shared : List NameRange) (x : Edit) (xs : List Edit) (n : Name) → Ascends (x ∷ xs) → list_any (is_fact told.Deleted n) (between_next shared x xs) ≡ true → Found shared (x ∷ xs) n
unfolding around_first
next_to shared x [] n up is = absurd (false≢true is)
next_to shared x (y ∷ ys) n up is = by_test (are_around x y && are_alone shared x y) refl is where
  by_test : (b : Bool) → (are_around x y && are_alone shared x y) ≡ b → list_any (is_fact told.Deleted n) (cond b (fact told.Deleted (edit_edge y).target.name ∷ []) []) ≡ true
      → Found shared (x ∷ y ∷ ys) n
  by_test true holds any =
      let parts = both (are_around x y) (are_alone shared x y) holds in
      let alone = both (not (tell shared told.Named (edit_edge x).name)) (not (tell shared told.Named (edit_edge y).name)) parts.1 in
      let name = fact_name told.Deleted n (fact told.Deleted (edit_edge y).target.name) (one_told (is_fact told.Deleted n (fact told.Deleted (edit_edge y).target.name)) any) in
      (around_first x y ys n up parts.0 name, alone.0, alone.1)
  by_test false other none = absurd (false≢true none)

pub between_to : (shared : List NameRange) (edits : List Edit) (n : Name) → Ascends edits → list_any (is_fact told.Deleted n) (between_facts shared edits) ≡ true → Found shared edits n
unfolding around_later
between_to shared [] n up is = absurd (false≢true is)
between_to shared (x ∷ xs) n up is =
    elim (one_of (list_any (is_fact told.Deleted n) (between_next shared x xs)) (list_any (is_fact told.Deleted n) (between_facts shared xs)) (sym (list_any-append (is_fact told.Deleted n) (between_next shared x xs) (between_facts shared xs)) ∙ is)) [
      | inl here ↦ next_to shared x xs n up here
      | inr later ↦ let rest = between_to shared xs n up.1 later in (around_later x xs n up rest.0, rest.1, rest.2)
    ]

-- ---- what is around is told between

or_first : (a b : Bool) → a ≡ true → (a || b) ≡ true
or_first a b is = ap (λ c. c || b) is

or_second : (a b : Bool) → b ≡ true → (a || b) ≡ true
or_second true b is = refl
or_second false b is = is

-- both edges of a name are alone, and none of the shared ranges tells their names
record AreAlone (shared : List NameRange) (edits : List Edit) (before behind : Name) : Type 0 where
  one_before : IsOfOneEdge (graph edits) before
  one_behind : IsOfOneEdge (graph edits) behind
  not_before : not (tell shared told.Named before) ≡ true
  not_behind : not (tell shared told.Named behind) ≡ true

next_told : (shared : List NameRange) (x y : Edit) (n : Name) → edit_kind x ≡ Delete → edit_kind y ≡ Delete → n ≡ name_behind (edit_edge x).name → (edit_edge y).name ≡ name_behind n
    → (edit_edge y).target.name ≡ n → are_alone shared x y ≡ true
    → list_any (is_fact told.Deleted n) (cond (are_around x y && are_alone shared x y) (fact told.Deleted (edit_edge y).target.name ∷ []) []) ≡ true
next_told shared x y n first second follows followed leads alone =
    let t = (edit_edge y).target.name in
    let deletions = both_hold (is_deletion (edit_kind x)) (is_deletion (edit_kind y)) (ap is_deletion first) (ap is_deletion second) in
    let one = next_test (edit_edge x).name t (leads ∙ follows) in
    let other = next_test t (edit_edge y).name (followed ∙ ap name_behind (sym leads)) in
    let three = both_hold (is_deletion (edit_kind x) && is_deletion (edit_kind y)) (is_next (edit_edge x).name t) deletions one in
    let around = both_hold (is_deletion (edit_kind x) && is_deletion (edit_kind y) && is_next (edit_edge x).name t) (is_next t (edit_edge y).name) three other in
    ap (λ b. list_any (is_fact told.Deleted n) (cond b (fact told.Deleted t ∷ []) [])) (both_hold (are_around x y) (are_alone shared x y) around alone)
    ∙ or_first (is_fact told.Deleted n (fact told.Deleted t)) false (fact_here told.Deleted n t leads)

next_back : (shared : List NameRange) (x : Edit) (xs : List Edit) (n : Name) → Ascends (x ∷ xs) → (h : Around (x ∷ xs) n) → AreAlone shared (x ∷ xs) h.before.name h.behind.name
    → edit_edge x ≡ h.before → edit_kind x ≡ Delete → graph xs h.behind ≡ Deleted → list_any (is_fact told.Deleted n) (between_next shared x xs) ≡ true
next_back shared x [] n up h alone same kind later = absurd (deleted_present (sym later))
next_back shared x (y ∷ ys) n up h alone same kind later = elim (deleted_by y ys h.behind later) [
  | inl here ↦
      next_told shared x y n kind here.1 (h.follows ∙ ap name_behind (sym first_name)) (ap (λ (f : Edge). f.name) here.0 ∙ h.followed) (ap (λ (f : Edge). f.target.name) here.0 ∙ h.leads)
      (both_hold (not (tell shared told.Named (edit_edge x).name)) (not (tell shared told.Named (edit_edge y).name))
      (ap (λ (m : Name). not (tell shared told.Named m)) first_name ∙ alone.not_before)
      (ap (λ (f : Edge). not (tell shared told.Named f.name)) here.0 ∙ alone.not_behind))
  | inr beyond ↦ absurd (none_between beyond)
] where
  first_name : (edit_edge x).name ≡ h.before.name
  first_name = ap (λ (f : Edge). f.name) same

  none_between : graph ys h.behind ≡ Deleted → ⊥
  none_between beyond =
      let present = present_later x (y ∷ ys) (edit_edge y) (present_first y ys) in
      let less = after_edge (edit_edge y) ys h.behind up.1.0 (gone_is_present ys h.behind beyond) in
      let third : h.behind.name ≡ name_behind (name_behind (edit_edge x).name) = h.followed ∙ ap name_behind (h.follows ∙ ap name_behind (sym first_name)) in
      elim (one_of_three (edit_edge x).name (edit_edge y).name (names_rise (edit_edge x) (edit_edge y) up.0.0) (λ greater. names_rise (edit_edge y) h.behind less (ap (name_cmp (edit_edge y).name) third ∙ greater))) [
        | inl one ↦
            not_before_itself (edit_edge x) (edit_edge y) up.0.0 (alone.one_before (edit_edge x) (edit_edge y) (present_first x (y ∷ ys)) present first_name (one ∙ first_name))
        | inr (inl two) ↦ h.no_edge (edit_edge y) present (two ∙ ap name_behind first_name ∙ sym h.follows)
        | inr (inr three) ↦
            not_before_itself (edit_edge y) h.behind less (alone.one_behind (edit_edge y) h.behind present (gone_is_present (x ∷ y ∷ ys) h.behind h.behind_gone) (three ∙ sym third) refl)
      ]

pub between_back : (shared : List NameRange) (edits : List Edit) (n : Name) → Ascends edits → (h : Around edits n) → IsOfOneEdge (graph edits) h.before.name → IsOfOneEdge (graph edits) h.behind.name
    → not (tell shared told.Named h.before.name) ≡ true → not (tell shared told.Named h.behind.name) ≡ true → list_any (is_fact told.Deleted n) (between_facts shared edits) ≡ true
between_back shared [] n up h one_before one_behind not_before not_behind = absurd (deleted_present (sym h.before_gone))
between_back shared (x ∷ xs) n up h one_before one_behind not_before not_behind =
    list_any-append (is_fact told.Deleted n) (between_next shared x xs) (between_facts shared xs)
    ∙ by_cases (deleted_by x xs h.before h.before_gone) (deleted_by x xs h.behind h.behind_gone)
    (λ before behind. between_back shared xs n up.1
    (record { before = h.before; behind = h.behind; before_gone = before; behind_gone = behind; follows = h.follows; followed = h.followed; leads = h.leads; no_edge = λ e is. h.no_edge e (present_later x xs e is) })
    (in_rest x xs h.before.name one_before) (in_rest x xs h.behind.name one_behind) not_before not_behind)
  where
    by_cases : ((edit_edge x ≡ h.before) × (edit_kind x ≡ Delete)) ⊎ (graph xs h.before ≡ Deleted) → ((edit_edge x ≡ h.behind) × (edit_kind x ≡ Delete)) ⊎ (graph xs h.behind ≡ Deleted)
        → (graph xs h.before ≡ Deleted → graph xs h.behind ≡ Deleted → list_any (is_fact told.Deleted n) (between_facts shared xs) ≡ true)
        → (list_any (is_fact told.Deleted n) (between_next shared x xs) || list_any (is_fact told.Deleted n) (between_facts shared xs)) ≡ true
    by_cases (inl first) (inl other) rest =
        absurd (third_is_other h.before.name n h.behind.name h.follows h.followed (ap (λ (f : Edge). f.name) (sym other.0 ∙ first.0)))
    by_cases (inl first) (inr later) rest =
        or_first (list_any (is_fact told.Deleted n) (between_next shared x xs)) (list_any (is_fact told.Deleted n) (between_facts shared xs))
        (next_back shared x xs n up h (record { one_before = one_before; one_behind = one_behind; not_before = not_before; not_behind = not_behind }) first.0 first.1 later)
    by_cases (inr later) (inl other) rest =
        absurd (names_rise (edit_edge x) h.before (after_edge (edit_edge x) xs h.before up.0 (gone_is_present xs h.before later))
        (ap (λ (f : Edge). name_cmp f.name h.before.name) other.0 ∙ third_is_greater h.before.name n h.behind.name h.follows h.followed))
    by_cases (inr before) (inr behind) rest =
        or_second (list_any (is_fact told.Deleted n) (between_next shared x xs)) (list_any (is_fact told.Deleted n) (between_facts shared xs)) (rest before behind)

-- ---- nothing is told of `Named`, and the numbers fit

next_none : (shared : List NameRange) (x : Edit) (xs : List Edit) (n : Name) → list_any (is_fact told.Named n) (between_next shared x xs) ≡ false
next_none shared x [] n = refl
next_none shared x (y ∷ ys) n = by_test (are_around x y && are_alone shared x y) where
  by_test : (b : Bool) → list_any (is_fact told.Named n) (cond b (fact told.Deleted (edit_edge y).target.name ∷ []) []) ≡ false
  by_test true = refl
  by_test false = refl

pub none_named : (shared : List NameRange) (edits : List Edit) (n : Name) → list_any (is_fact told.Named n) (between_facts shared edits) ≡ false
none_named shared [] n = refl
none_named shared (x ∷ xs) n =
    list_any-append (is_fact told.Named n) (between_next shared x xs) (between_facts shared xs)
    ∙ or_false (list_any (is_fact told.Named n) (between_next shared x xs)) (list_any (is_fact told.Named n) (between_facts shared xs)) (none_named shared xs n)
    ∙ next_none shared x xs n

pub all_append : {X : Type 0} (P : X → Type 0) (xs ys : List X) → AllByRecursion P xs → AllByRecursion P ys → AllByRecursion P (xs ++ ys)
all_append P [] ys all rest = rest
all_append P (x ∷ xs) ys all rest = (all.0, all_append P xs ys all.1 rest)

next_in_range : (shared : List NameRange) (x : Edit) (xs : List Edit) → AllByRecursion FactInRange (between_next shared x xs)
next_in_range shared x [] = tt
next_in_range shared x (y ∷ ys) = by_test (are_around x y && are_alone shared x y) where
  by_test : (b : Bool) → AllByRecursion FactInRange (cond b (fact told.Deleted (edit_edge y).target.name ∷ []) [])
  by_test true = let in_range = y.in_range in ((in_range.3.0, in_range.3.1), tt)
  by_test false = tt

pub between_in_range : (shared : List NameRange) (edits : List Edit) → AllByRecursion FactInRange (between_facts shared edits)
between_in_range shared [] = tt
between_in_range shared (x ∷ xs) = all_append FactInRange (between_next shared x xs) (between_facts shared xs) (next_in_range shared x xs) (between_in_range shared xs)
