-- What is found: names in maps, and entries on pages.
use Rattle.std.proofs.Common.{◌≡◌, ◌≢◌, ℕ, zero, suc, ◌+◌, ◌<◌, ◌==◌, Bool, true, false, cond, List, [], ◌∷◌, ◌++◌, length, set, get_or, Option, None, Some, IfSome, IfNone, Result, Ok, Err, OnErr, refl, sym, ap, subst, Ordering, Less, Equal, Greater, is_eq, nat_cmp, slice_get, drop, get_or-set_same, get_or-set_other, ◌∙◌, arith}
use Rattle.std.specs.Cmp.{IsTotalOrder}
use Rattle.std.specs.Option.{unwrap_or, is_some}
use Rattle.std.specs.Map.{lookup}
use Rattle.std.specs.List.{position, position_from}
use Rattle.std.proofs.Math.Seq.{drop-cons}
use Rattle.std.proofs.lemmas.Bool.Decides.{nat_tests}
use Rattle.std.proofs.lemmas.Cmp.{tied_itself, nat_cmp_total, on_total, then_total}
use Rattle.std.proofs.lemmas.Iterator.Adapters.{position_from-zero}
use Rattle.std.proofs.lemmas.Option.{slice_get_read}
use Rattle.std.proofs.lemmas.Map.Lookups.{exact_pairs, exact_unsigned}
use Rattle.grove_names.specs.declared.name.Name.{Name}
use Rattle.grove_names.specs.Name.{name_cmp}
use Rattle.numbers_by_name.specs.declared.page.Entry.{Entry}
use Rattle.numbers_by_name.specs.ByName.{is_same_name}
use Rattle.numbers_by_name.specs.Pages.{entry_at}

-- ---- tests of names

name_cmp_total : IsTotalOrder name_cmp
name_cmp_total = then_total (on_total (λ name. name.author) nat_cmp_total) (on_total (λ name. name.counter) nat_cmp_total)

equal_from_test : (o : Ordering) → is_eq o ≡ true → o ≡ Equal
equal_from_test Less h = absurd cc
equal_from_test Equal h = refl
equal_from_test Greater h = absurd cc

pub same_from_test : (a b : Name) → is_same_name a b ≡ true → a ≡ b
same_from_test a b h =
    ap (λ (p : ℕ × ℕ). record { author = p.0; counter = p.1 })
    (exact_pairs nat_cmp nat_cmp exact_unsigned exact_unsigned (a.author, a.counter) (b.author, b.counter) (equal_from_test (name_cmp a b) h))

pub test_of_itself : (a : Name) → is_same_name a a ≡ true
test_of_itself a = ap is_eq (tied_itself name_cmp_total a)

pub test_of_same : (a b : Name) → a ≡ b → is_same_name a b ≡ true
test_of_same a b h = subst (λ (c : Name). is_same_name a c ≡ true) h (test_of_itself a)

pub other_from_test : (a b : Name) → is_same_name a b ≡ false → a ≢ b
other_from_test a b h same = elim (cc_of (sym (test_of_same a b same) ∙ h)) [ ] where
  cc_of : true ≡ false → ⊥
  cc_of h = cc

-- ---- the first of two options that is there

abbrev pub or_else : {X : Type 0} → Option X → Option X → Option X
or_else None other = other
or_else (Some x) other = Some x

pub or_else_none : {X : Type 0} (o : Option X) → or_else o None ≡ o
or_else_none None = refl
or_else_none (Some x) = refl

pub lookup_append : {K X : Type 0} (test : K → Bool) (xs ys : List (K × X)) → lookup test (xs ++ ys) ≡ or_else (lookup test xs) (lookup test ys)
lookup_append test [] ys = refl
lookup_append test (x ∷ xs) ys = by_test (test x.0) (lookup_append test xs ys) where
  by_test : (b : Bool) → lookup test (xs ++ ys) ≡ or_else (lookup test xs) (lookup test ys) → cond b (Some x.1) (lookup test (xs ++ ys)) ≡ or_else (cond b (Some x.1) (lookup test xs)) (lookup test ys)
  by_test true h = refl
  by_test false h = h

-- ---- items by their places in a list

pub got_left : {X : Type 0} (xs ys : List X) (i : ℕ) → i < length xs → slice_get (xs ++ ys) i ≡ slice_get xs i
got_left [] ys i lt = absurd (omega arith)
got_left (x ∷ xs) ys zero lt = refl
got_left (x ∷ xs) ys (suc i) lt = got_left xs ys i (omega arith)

pub got_end : {X : Type 0} (xs : List X) (x : X) → slice_get (xs ++ x ∷ []) (length xs) ≡ Some x
got_end [] x = refl
got_end (y ∷ xs) x = got_end xs x

pub got_set : {X : Type 0} (xs : List X) (i : ℕ) (x : X) → i < length xs → slice_get (set xs i x) i ≡ Some x
got_set [] i x lt = absurd (omega arith)
got_set (y ∷ xs) zero x lt = refl
got_set (y ∷ xs) (suc i) x lt = got_set xs i x (omega arith)

pub got_other : {X : Type 0} (xs : List X) (i j : ℕ) (x : X) → j ≢ i → slice_get (set xs i x) j ≡ slice_get xs j
got_other [] i j x ne = refl
got_other (y ∷ xs) zero zero x ne = absurd (ne refl)
got_other (y ∷ xs) zero (suc j) x ne = refl
got_other (y ∷ xs) (suc i) zero x ne = refl
got_other (y ∷ xs) (suc i) (suc j) x ne = got_other xs i j x (λ h. ne (ap suc h))

-- ---- entries on pages

abbrev pub is_there : ℕ → Entry → Bool
is_there place entry = entry.place == place

-- the first entry of a place stands at the index that is found
abbrev pub IsFoundAt : ℕ → ℕ → ℕ → List Entry → Type 0
IsFoundAt place i k es = (j : ℕ) × (k ≡ i + j) × (entry_at place es ≡ slice_get es j) × (j < length es)

pub found_at : (place i k : ℕ) (es : List Entry) → position_from (is_there place) i es ≡ Some k → IsFoundAt place i k es
found_at place i k [] h = absurd cc
found_at place i k (e ∷ es) h = by_test (e.place == place) refl h (found_at place (i + 1) k es) where
  by_test : (b : Bool) → (e.place == place) ≡ b → cond b (Some i) (position_from (is_there place) (i + 1) es) ≡ Some k
      → (position_from (is_there place) (i + 1) es ≡ Some k → IsFoundAt place (i + 1) k es) → IsFoundAt place i k (e ∷ es)
  by_test true is s behind = let eq = ap (λ o. unwrap_or o 0) s in (0, omega (arith, eq), ap (λ b. cond b (Some e) (entry_at place es)) is, omega arith)
  by_test false is s behind =
      let rest = behind s in (suc rest.0, omega (arith, rest.1), ap (λ b. cond b (Some e) (entry_at place es)) is ∙ rest.2, omega (arith, rest.3))

pub not_found : (place i : ℕ) (es : List Entry) → position_from (is_there place) i es ≡ None → entry_at place es ≡ None
not_found place i [] h = refl
not_found place i (e ∷ es) h = by_test (e.place == place) h (not_found place (i + 1) es) where
  by_test : (b : Bool) → cond b (Some i) (position_from (is_there place) (i + 1) es) ≡ None → (position_from (is_there place) (i + 1) es ≡ None → entry_at place es ≡ None) → cond b (Some e) (entry_at place es) ≡ None
  by_test true h behind = absurd cc
  by_test false h behind = behind h

pub entry_append : (place : ℕ) (es : List Entry) (e : Entry) → entry_at place (es ++ e ∷ []) ≡ or_else (entry_at place es) (cond (e.place == place) (Some e) None)
entry_append place [] e = refl
entry_append place (x ∷ es) e = by_test (x.place == place) (entry_append place es e) where
  by_test : (b : Bool) → entry_at place (es ++ e ∷ []) ≡ or_else (entry_at place es) (cond (e.place == place) (Some e) None)
      → cond b (Some x) (entry_at place (es ++ e ∷ [])) ≡ or_else (cond b (Some x) (entry_at place es)) (cond (e.place == place) (Some e) None)
  by_test true h = refl
  by_test false h = h

-- another entry of the same place in its stead
pub entry_set : (place i j k : ℕ) (es : List Entry) (e : Entry) → position_from (is_there place) i es ≡ Some k → k ≡ i + j → e.place ≡ place
    → entry_at place (set es j e) ≡ Some e
entry_set place i j k [] e h at same = absurd cc
entry_set place i zero k (x ∷ es) e h at same =
    let is : (e.place == place) ≡ true = grind (arith, nat_tests, same) in ap (λ b. cond b (Some e) (entry_at place es)) is
entry_set place i (suc j) k (x ∷ es) e h at same = by_test (x.place == place) h (λ s. entry_set place (i + 1) j k es e s (omega (arith, at)) same) where
  by_test : (b : Bool) → cond b (Some i) (position_from (is_there place) (i + 1) es) ≡ Some k
      → (position_from (is_there place) (i + 1) es ≡ Some k → entry_at place (set es j e) ≡ Some e) → cond b (Some x) (entry_at place (set es j e)) ≡ Some e
  by_test true s behind = let eq = ap (λ o. unwrap_or o 0) s in absurd (omega (arith, eq, at))
  by_test false s behind = behind s

pub entry_set_other : (place j : ℕ) (es : List Entry) (e x : Entry) → slice_get es j ≡ Some x → x.place ≡ e.place → (e.place ≡ place → ⊥) → entry_at place (set es j e) ≡ entry_at place es
entry_set_other place j [] e x h same other = refl
entry_set_other place zero (y ∷ es) e x h same other =
    let is : y ≡ x = ap (λ o. unwrap_or o y) h in
    let is_place = ap (λ (z : Entry). z.place) is in
    let one : (e.place == place) ≡ false = grind (arith, nat_tests, other) in
    let two : (y.place == place) ≡ false = grind (arith, nat_tests, other, is_place, same) in
    ap (λ b. cond b (Some e) (entry_at place es)) one ∙ sym (ap (λ b. cond b (Some y) (entry_at place es)) two)
entry_set_other place (suc j) (y ∷ es) e x h same other = ap (λ o. cond (y.place == place) (Some y) o) (entry_set_other place j es e x h same other)

pub entry_place : (place : ℕ) (es : List Entry) (e : Entry) → entry_at place es ≡ Some e → e.place ≡ place
entry_place place [] e h = absurd cc
entry_place place (x ∷ es) e h = by_test (x.place == place) refl h (entry_place place es e) where
  by_test : (b : Bool) → (x.place == place) ≡ b → cond b (Some x) (entry_at place es) ≡ Some e → (entry_at place es ≡ Some e → e.place ≡ place) → e.place ≡ place
  by_test true is h behind = let same = ap (λ o. (unwrap_or o x).place) h in grind (arith, nat_tests, is, same)
  by_test false is h behind = behind h

-- ---- entries, each at its place

drop_next : (es : List Entry) (k : ℕ) (d : Entry) → k < length es → drop k es ≡ get_or es k d ∷ drop (k + 1) es
drop_next es k d lt = let next : suc k ≡ k + 1 = omega arith in drop-cons es k d lt ∙ ap (λ j. get_or es k d ∷ drop j es) next

passed : (o : Option Entry) (place : ℕ) (e : Entry) (rest : List Entry) → (o ≡ None → (e.place == place) ≡ false) → or_else o (entry_at place (e ∷ rest)) ≡ or_else o (entry_at place rest)
passed None place e rest h = ap (λ b. cond b (Some e) (entry_at place rest)) (h refl)
passed (Some x) place e rest h = refl

not_taken : (o : Option Entry) → is_some o ≡ true → o ≡ None → ⊥
not_taken None taken none = absurd cc
not_taken (Some e) taken none = cc

pub free_from_test : (o : Option Entry) → is_some o ≡ false → o ≡ None
free_from_test None h = refl
free_from_test (Some e) h = absurd cc

pub set_length : (places : List (Option Entry)) (i : ℕ) (o : Option Entry) → length (set places i o) ≡ length places
set_length [] i o = refl
set_length (x ∷ xs) zero o = refl
set_length (x ∷ xs) (suc i) o = ap suc (set_length xs i o)

module _ (places : List (Option Entry)) (es : List Entry) (k : ℕ) (d : Entry) (lt : k < length es) (place : ℕ)
    (so_far : or_else (get_or places place None) (entry_at place (drop k es)) ≡ entry_at place es) where
  -- the entry takes no place
  pub passed_over : (get_or places place None ≡ None → ((get_or es k d).place == place) ≡ false) → or_else (get_or places place None) (entry_at place (drop (k + 1) es)) ≡ entry_at place es
  passed_over not_here =
      sym (passed (get_or places place None) place (get_or es k d) (drop (k + 1) es) not_here)
      ∙ ap (λ xs. or_else (get_or places place None) (entry_at place xs)) (sym (drop_next es k d lt)) ∙ so_far

  -- its place is taken
  pub passed_taken : is_some (get_or places ((get_or es k d).place) None) ≡ true → or_else (get_or places place None) (entry_at place (drop (k + 1) es)) ≡ entry_at place es
  passed_taken taken = passed_over (λ none. by_test none ((get_or es k d).place == place) refl) where
    by_test : get_or places place None ≡ None → (b : Bool) → ((get_or es k d).place == place) ≡ b → b ≡ false
    by_test none true here =
        let same : (get_or es k d).place ≡ place = grind (arith, nat_tests, here) in
        absurd (not_taken (get_or places ((get_or es k d).place) None) taken (ap (λ p. get_or places p None) same ∙ none))
    by_test none false other = refl

  -- the entry takes its place, which is free
  pub laid : length places ≡ 64 → (get_or es k d).place < 64 → get_or places ((get_or es k d).place) None ≡ None
      → or_else (get_or (set places ((get_or es k d).place) (Some (get_or es k d))) place None) (entry_at place (drop (k + 1) es)) ≡ entry_at place es
  laid whole within free = by_test ((get_or es k d).place == place) refl where
    by_test : (b : Bool) → ((get_or es k d).place == place) ≡ b → or_else (get_or (set places ((get_or es k d).place) (Some (get_or es k d))) place None) (entry_at place (drop (k + 1) es)) ≡ entry_at place es
    by_test true here =
        let same : (get_or es k d).place ≡ place = grind (arith, nat_tests, here) in
        ap (λ p. or_else (get_or (set places ((get_or es k d).place) (Some (get_or es k d))) p None) (entry_at place (drop (k + 1) es))) (sym same)
        ∙ ap (λ o. or_else o (entry_at place (drop (k + 1) es))) (get_or-set_same places ((get_or es k d).place) (Some (get_or es k d)) None (omega (arith, whole, within)))
        ∙ ap (λ b. cond b (Some (get_or es k d)) (entry_at place (drop (k + 1) es))) (sym here)
        ∙ ap (λ o. or_else o (entry_at place (get_or es k d ∷ drop (k + 1) es))) (sym (ap (λ p. get_or places p None) (sym same) ∙ free))
        ∙ ap (λ xs. or_else (get_or places place None) (entry_at place xs)) (sym (drop_next es k d lt)) ∙ so_far
    by_test false other =
        let ne : place ≡ (get_or es k d).place → ⊥ = grind (arith, nat_tests, other) in
        ap (λ o. or_else o (entry_at place (drop (k + 1) es))) (get_or-set_other places ((get_or es k d).place) place (Some (get_or es k d)) None ne)
        ∙ passed_over (λ none. other)

-- ---- the index that is found

pub index_none : (place : ℕ) (es : List Entry) → None ≡ position (is_there place) es → entry_at place es ≡ None
index_none place es h = not_found place 0 es (sym (h ∙ position_from-zero (is_there place) es))

pub index_some : (place k : ℕ) (es : List Entry) (d : Entry) → Some k ≡ position (is_there place) es → d ≡ get_or es k d → entry_at place es ≡ Some d
index_some place k es d h read =
    let at = found_at place 0 k es (sym (h ∙ position_from-zero (is_there place) es)) in
    let same : k ≡ at.0 = omega (arith, at.1) in
    at.2 ∙ ap (slice_get es) (sym same) ∙ slice_get_read es (length es) k d refl (omega (arith, at.3, same)) read

pub index_within : (place k : ℕ) (es : List Entry) → Some k ≡ position (is_there place) es → k < length es
index_within place k es h =
    let at = found_at place 0 k es (sym (h ∙ position_from-zero (is_there place) es)) in omega (arith, at.1, at.3)

pub index_set : (place k : ℕ) (es : List Entry) (e : Entry) → Some k ≡ position (is_there place) es → e.place ≡ place → entry_at place (set es k e) ≡ Some e
index_set place k es e h same = entry_set place 0 k k es e (sym (h ∙ position_from-zero (is_there place) es)) (omega arith) same

-- ---- results

pub if_err : {T E P : Type 0} (r : Result T E) → P → OnErr r P
if_err (Ok x) h = tt
if_err (Err e) h = h

pub if_some : {X : Type 0} (P Q : X → Type 0) (o : Option X) → ((x : X) → P x → Q x) → IfSome o P → IfSome o Q
if_some P Q None f h = tt
if_some P Q (Some x) f h = f x h

pub if_none : {X P : Type 0} (o : Option X) → P → IfNone o P
if_none None h = h
if_none (Some x) h = tt

pub if_none_some : {X P Q : Type 0} (o : Option X) → (P → Q) → IfNone o P → IfNone o Q
if_none_some None f h = f h
if_none_some (Some x) f h = tt
