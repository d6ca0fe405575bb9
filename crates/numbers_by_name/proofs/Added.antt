-- A name has one number more.
use Rattle.std.proofs.Common.{◌≡◌, ◌⊎◌, inl, inr, ℕ, zero, suc, ◌/◌, ◌^◌, ◌<◌, ◌==◌, Bool, true, false, cond, List, [], ◌∷◌, ◌++◌, length, Option, None, Some, IfSome, IsSome, refl, sym, ap, subst, slice_get, ◌∙◌, arith}
use Rattle.std.specs.Option.{unwrap_or}
use Rattle.std.proofs.lemmas.Bool.Decides.{nat_tests}
use Rattle.std.proofs.lemmas.Option.{slice_get_within}
use Rattle.grove_names.specs.declared.name.Name.{Name}
use Rattle.numbers_by_name.specs.declared.page.Entry.{Entry}
use Rattle.numbers_by_name.specs.declared.page.Page.{Page}
use Rattle.numbers_by_name.specs.ByName.{is_same_name, with_number, name_by}
use Rattle.numbers_by_name.specs.Pages.{page_of, place_of, at_name, items_of, entry_at, entry_numbers, page_numbers, page_there, shown, numbers_by, Kept, Places, ArePages, IsPageAt, IsPageOf, IsPut}
use Rattle.numbers_by_name.proofs.Found.{same_from_test, other_from_test, test_of_itself, or_else, or_else_none, got_left, got_end, entry_append}

pub some_is : {X : Type 0} (a b : X) → Some a ≡ Some b → a ≡ b
some_is a b h = ap (λ o. unwrap_or o a) h

not_some : {X : Type 0} (x : X) → None ≡ Some x → ⊥
not_some x h = absurd cc

push_cases : {X : Type 0} (xs : List X) (x : X) (i : ℕ) (y : X) → slice_get (xs ++ x ∷ []) i ≡ Some y → (slice_get xs i ≡ Some y) ⊎ ((i ≡ length xs) × (y ≡ x))
push_cases [] x zero y h = inr (refl, some_is y x (sym h))
push_cases [] x (suc i) y h = absurd (not_some y h)
push_cases (e ∷ es) x zero y h = inl h
push_cases (e ∷ es) x (suc i) y h = elim (push_cases es x i y h) [ inl before ↦ inl before | inr last ↦ inr (ap suc last.0, last.1) ]

-- the name of a page, from where it stands
pub name_there : (list : List Page) (places : Places) → ArePages list places → (name : Name) (at : ℕ) (page : Page) → at_name name places ≡ Some at → slice_get list at ≡ Some page → page.name ≡ name
name_there list places are name at page placed is =
    let there = subst (λ o. IfSome o (IsPageAt list name)) placed (are.there name) in
    ap (λ (p : Page). p.name) (some_is page there.0 (sym is ∙ there.1)) ∙ there.2

pub place_within : (list : List Page) (places : Places) → ArePages list places → (name : Name) (at : ℕ) → at_name name places ≡ Some at → at < length list
place_within list places are name at placed =
    let there = subst (λ o. IfSome o (IsPageAt list name)) placed (are.there name) in slice_get_within list at there.0 there.1

-- names on one page, at one place
pub same_name : (a b : Name) → page_of a ≡ page_of b → place_of a ≡ place_of b → a ≡ b
same_name a b page place =
    let author : a.author ≡ b.author = ap (λ (n : Name). n.author) page in
    let number : a.counter / 64 ≡ b.counter / 64 = ap (λ (n : Name). n.counter) page in
    ap (λ (author : ℕ). name_by author a.counter) author ∙ ap (name_by b.author) (omega (arith, number, place))

-- ---- on a page that is there

module _ (list new : List Page) (places : Places) (lists kept : Kept) (are : ArePages list places) (name : Name) (number at : ℕ) (old page : Page)
    (placed : at_name (page_of name) places ≡ Some at) (is : slice_get list at ≡ Some old) (is_new : slice_get new at ≡ Some page)
    (others : (i : ℕ) → (i ≡ at → ⊥) → slice_get new i ≡ slice_get list i) where
  pub are_pages_still : page.name ≡ old.name → ArePages new places
  are_pages_still named = record {
    there = λ n. by_place n (at_name n places) refl;
    found = λ i. by_index i (i == at) refl;
    fits = are.fits;
  } where
    by_place : (n : Name) (o : Option ℕ) → at_name n places ≡ o → IfSome o (IsPageAt new n)
    by_place n None there = tt
    by_place n (Some i) there =
        let was = subst (λ o. IfSome o (IsPageAt list n)) there (are.there n) in by_test (i == at) refl was where
          by_test : (b : Bool) → (i == at) ≡ b → IsPageAt list n i → IsPageAt new n i
          by_test true same was =
              let eq : i ≡ at = grind (arith, nat_tests, same) in
              (page, ap (slice_get new) eq ∙ is_new, named ∙ name_there list places are n i old there (ap (slice_get list) eq ∙ is))
          by_test false other was = (was.0, others i (grind (arith, nat_tests, other)) ∙ was.1, was.2)

    by_index : (i : ℕ) (b : Bool) → (i == at) ≡ b → IfSome (slice_get new i) (λ p. at_name p.name places ≡ Some i)
    by_index i true same =
        let eq : i ≡ at = grind (arith, nat_tests, same) in
        subst (λ (j : ℕ). IfSome (slice_get new j) (λ p. at_name p.name places ≡ Some j)) (sym eq)
        (subst (λ o. IfSome o (λ p. at_name p.name places ≡ Some at)) (sym is_new)
        (subst (λ (n : Name). at_name n places ≡ Some at) (sym named) (subst (λ o. IfSome o (λ p. at_name p.name places ≡ Some at)) is (are.found at))))
    by_index i false other = subst (λ o. IfSome o (λ p. at_name p.name places ≡ Some i)) (sym (others i (grind (arith, nat_tests, other)))) (are.found i)

  -- the page shows the same
  pub same_numbers : page.entries.items ≡ old.entries.items → (n : Name) → numbers_by new places lists n ≡ numbers_by list places lists n
  same_numbers same n = by_place (at_name (page_of n) places) where
    by_place : (o : Option ℕ) → shown (page_there new o) lists n ≡ shown (page_there list o) lists n
    by_place None = refl
    by_place (Some i) = by_test (i == at) refl where
      by_test : (b : Bool) → (i == at) ≡ b → shown (slice_get new i) lists n ≡ shown (slice_get list i) lists n
      by_test true here =
          let eq : i ≡ at = grind (arith, nat_tests, here) in
          ap (λ o. shown o lists n) (ap (slice_get new) eq ∙ is_new) ∙ ap (λ es. entry_numbers (entry_at (place_of n) es) (items_of (at_name n lists))) same
          ∙ ap (λ o. shown o lists n) (sym (ap (slice_get list) eq ∙ is))
      by_test false ne = ap (λ o. shown o lists n) (others i (grind (arith, nat_tests, ne)))

  module _ (more : page_numbers page kept name ≡ page_numbers old lists name ++ number ∷ [])
      (rest : (n : Name) → (name ≡ n → ⊥) → page_of n ≡ page_of name → page_numbers page kept n ≡ page_numbers old lists n)
      (lists_rest : (n : Name) → (name ≡ n → ⊥) → at_name n kept ≡ at_name n lists) where
    same_elsewhere : (n : Name) → (name ≡ n → ⊥) → (o : Option Page) → shown o kept n ≡ shown o lists n
    same_elsewhere n other None = refl
    same_elsewhere n other (Some p) = ap (λ o. entry_numbers (entry_at (place_of n) p.entries.items) (items_of o)) (lists_rest n other)

    of_another : (n : Name) → (name ≡ n → ⊥) → (o : Option ℕ) → at_name (page_of n) places ≡ o → shown (page_there new o) kept n ≡ shown (page_there list o) lists n
    of_another n other None there = refl
    of_another n other (Some i) there = by_test (i == at) refl where
      by_test : (b : Bool) → (i == at) ≡ b → shown (slice_get new i) kept n ≡ shown (slice_get list i) lists n
      by_test true same =
          let eq : i ≡ at = grind (arith, nat_tests, same) in
          let here = ap (slice_get list) eq ∙ is in
          ap (λ o. shown o kept n) (ap (slice_get new) eq ∙ is_new)
          ∙ rest n other (sym (name_there list places are (page_of n) i old there here) ∙ name_there list places are (page_of name) at old placed is)
          ∙ ap (λ o. shown o lists n) (sym here)
      by_test false ne = ap (λ o. shown o kept n) (others i (grind (arith, nat_tests, ne))) ∙ same_elsewhere n other (slice_get list i)

    here_new : numbers_by new places kept name ≡ page_numbers page kept name
    here_new = ap (λ o. shown (page_there new o) kept name) placed ∙ ap (λ o. shown o kept name) is_new

    here_old : numbers_by list places lists name ≡ page_numbers old lists name
    here_old = ap (λ o. shown (page_there list o) lists name) placed ∙ ap (λ o. shown o lists name) is

    pub with_more : (n : Name) → numbers_by new places kept n ≡ with_number name number (numbers_by list places lists) n
    with_more n = by_test (is_same_name name n) refl where
      by_test : (b : Bool) → is_same_name name n ≡ b → numbers_by new places kept n ≡ cond b (numbers_by list places lists n ++ number ∷ []) (numbers_by list places lists n)
      by_test true same =
          subst (λ (q : Name). numbers_by new places kept q ≡ numbers_by list places lists q ++ number ∷ []) (same_from_test name n same)
          (here_new ∙ more ∙ ap (λ ns. ns ++ number ∷ []) (sym here_old))
      by_test false other = of_another n (other_from_test name n other) (at_name (page_of n) places) refl

-- ---- on a new page

module _ (list : List Page) (places new : Places) (lists : Kept) (are : ArePages list places) (name : Name) (number : ℕ) (page : Page) (is : IsPageOf name number page)
    (absent : at_name (page_of name) places ≡ None) (put : (n : Name) → at_name n new ≡ cond (is_same_name (page_of name) n) (Some (length list)) (at_name n places)) where
  at_page : at_name (page_of name) new ≡ Some (length list)
  at_page = put (page_of name) ∙ ap (λ b. cond b (Some (length list)) (at_name (page_of name) places)) (test_of_itself (page_of name))

  at_other : (n : Name) (b : Bool) → is_same_name (page_of name) n ≡ b → (i : ℕ) → at_name n places ≡ Some i → at_name n new ≡ Some i
  at_other n true same i h = absurd (not_some i (sym absent ∙ ap (λ q. at_name q places) (same_from_test (page_of name) n same) ∙ h))
  at_other n false other i h = put n ∙ ap (λ b. cond b (Some (length list)) (at_name n places)) other ∙ h

  pub are_pages_pushed : (page_of name).counter < 2 ^ 58 → ArePages (list ++ page ∷ []) new
  are_pages_pushed fits = record {
    there = λ n. subst (λ o. IfSome o (IsPageAt (list ++ page ∷ []) n)) (sym (put n)) (there n (is_same_name (page_of name) n) refl (at_name n places) refl);
    found = λ i. found i (slice_get (list ++ page ∷ []) i) refl;
    fits = λ n some. fit n (is_same_name (page_of name) n) refl (subst IsSome (put n) some);
  } where
    there : (n : Name) (b : Bool) → is_same_name (page_of name) n ≡ b → (o : Option ℕ) → at_name n places ≡ o → IfSome (cond b (Some (length list)) o) (IsPageAt (list ++ page ∷ []) n)
    there n true same o h = (page, got_end list page, is.name_is ∙ same_from_test (page_of name) n same)
    there n false other None h = tt
    there n false other (Some i) h =
        let was = subst (λ o. IfSome o (IsPageAt list n)) h (are.there n) in
        (was.0, got_left list (page ∷ []) i (slice_get_within list i was.0 was.1) ∙ was.1, was.2)

    found : (i : ℕ) (o : Option Page) → slice_get (list ++ page ∷ []) i ≡ o → IfSome o (λ p. at_name p.name new ≡ Some i)
    found i None h = tt
    found i (Some p) h = elim (push_cases list page i p h) [
      | inl before ↦ at_other p.name (is_same_name (page_of name) p.name) refl i (subst (λ o. IfSome o (λ q. at_name q.name places ≡ Some i)) before (are.found i))
      | inr last ↦ subst (λ (j : ℕ). at_name p.name new ≡ Some j) (sym last.0) (subst (λ (n : Name). at_name n new ≡ Some (length list)) (sym (ap (λ (q : Page). q.name) last.1 ∙ is.name_is)) at_page)
    ]

    fit : (n : Name) (b : Bool) → is_same_name (page_of name) n ≡ b → IsSome (cond b (Some (length list)) (at_name n places)) → n.counter < 2 ^ 58
    fit n true same some = let counter = ap (λ (q : Name). q.counter) (same_from_test (page_of name) n same) in omega (arith, counter, fits)
    fit n false other some = are.fits n some

  first_number : entry_numbers (entry_at (place_of name) page.entries.items) (items_of (at_name name lists)) ≡ number ∷ []
  first_number =
      ap (λ es. entry_numbers (entry_at (place_of name) es) (items_of (at_name name lists))) is.entries
      ∙ ap (λ b. entry_numbers (cond b (Some one) None) (items_of (at_name name lists))) same where
        one : Entry
        one = record { place = place_of name; several = false; number = number }

        same : (place_of name == place_of name) ≡ true
        same = grind (arith, nat_tests)

  pub with_page : (n : Name) → numbers_by (list ++ page ∷ []) new lists n ≡ with_number name number (numbers_by list places lists) n
  with_page n = by_test (is_same_name name n) refl where
    on_new : (q : Name) → page_of q ≡ page_of name → numbers_by (list ++ page ∷ []) new lists q ≡ page_numbers page lists q
    on_new q same =
        ap (λ m. shown (page_there (list ++ page ∷ []) (at_name m new)) lists q) same ∙ ap (λ o. shown (page_there (list ++ page ∷ []) o) lists q) at_page
        ∙ ap (λ o. shown o lists q) (got_end list page)

    none_old : (q : Name) → page_of q ≡ page_of name → numbers_by list places lists q ≡ []
    none_old q same = ap (λ m. shown (page_there list (at_name m places)) lists q) same ∙ ap (λ o. shown (page_there list o) lists q) absent

    another : (b : Bool) → is_same_name (page_of name) (page_of n) ≡ b → (name ≡ n → ⊥) → numbers_by (list ++ page ∷ []) new lists n ≡ numbers_by list places lists n
    another true same other =
        let page_is = sym (same_from_test (page_of name) (page_of n) same) in
        let not_there : (place_of name == place_of n) ≡ false = by_place (place_of name == place_of n) refl page_is in
        on_new n page_is ∙ ap (λ es. entry_numbers (entry_at (place_of n) es) (items_of (at_name n lists))) is.entries
        ∙ ap (λ b. entry_numbers (cond b (Some one) None) (items_of (at_name n lists))) not_there ∙ sym (none_old n page_is) where
          one : Entry
          one = record { place = place_of name; several = false; number = number }

          by_place : (d : Bool) → (place_of name == place_of n) ≡ d → page_of n ≡ page_of name → (place_of name == place_of n) ≡ false
          by_place true eq page_is = absurd (other (same_name name n (sym page_is) (grind (arith, nat_tests, eq))))
          by_place false ne page_is = ne
    another false ne other = by_old (at_name (page_of n) places) refl where
      by_old : (o : Option ℕ) → at_name (page_of n) places ≡ o → numbers_by (list ++ page ∷ []) new lists n ≡ shown (page_there list (at_name (page_of n) places)) lists n
      by_old None h =
          ap (λ o. shown (page_there (list ++ page ∷ []) o) lists n) (put (page_of n) ∙ ap (λ b. cond b (Some (length list)) (at_name (page_of n) places)) ne ∙ h)
          ∙ sym (ap (λ o. shown (page_there list o) lists n) h)
      by_old (Some i) h =
          ap (λ o. shown (page_there (list ++ page ∷ []) o) lists n) (at_other (page_of n) false ne i h)
          ∙ ap (λ o. shown o lists n) (got_left list (page ∷ []) i (place_within list places are (page_of n) i h))
          ∙ sym (ap (λ o. shown (page_there list o) lists n) h)

    by_test : (b : Bool) → is_same_name name n ≡ b → numbers_by (list ++ page ∷ []) new lists n ≡ cond b (numbers_by list places lists n ++ number ∷ []) (numbers_by list places lists n)
    by_test true same =
        subst (λ (q : Name). numbers_by (list ++ page ∷ []) new lists q ≡ numbers_by list places lists q ++ number ∷ []) (same_from_test name n same)
        (on_new name refl ∙ first_number ∙ ap (λ ns. ns ++ number ∷ []) (sym (none_old name refl)))
    by_test false other = another (is_same_name (page_of name) (page_of n)) refl (other_from_test name n other)

-- ---- what a page shows that is written to

no_entry_is : (o : Option Entry) (list : List ℕ) (number : ℕ) (e : Entry) → o ≡ None → e.several ≡ false → entry_numbers (or_else o (Some e)) list ≡ entry_numbers o list ++ e.number ∷ []
no_entry_is None list number e h single = ap (λ b. cond b list (e.number ∷ [])) single
no_entry_is (Some x) list number e h single = absurd cc

module _ (old page : Page) (lists : Kept) (name : Name) (number p : ℕ)
    (pushed : page.entries.items ≡ old.entries.items ++ record { place = p; several = false; number = number } ∷ []) (at : p ≡ place_of name) where
  pub more_pushed : entry_at (place_of name) old.entries.items ≡ None → page_numbers page lists name ≡ page_numbers old lists name ++ number ∷ []
  more_pushed absent =
      let same : (p == place_of name) ≡ true = grind (arith, nat_tests, at) in
      ap (λ es. entry_numbers (entry_at (place_of name) es) (items_of (at_name name lists))) pushed
      ∙ ap (λ o. entry_numbers o (items_of (at_name name lists))) (entry_append (place_of name) old.entries.items (record { place = p; several = false; number = number }))
      ∙ ap (λ b. entry_numbers (or_else (entry_at (place_of name) old.entries.items) (cond b (Some (record { place = p; several = false; number = number })) None)) (items_of (at_name name lists))) same
      ∙ no_entry_is (entry_at (place_of name) old.entries.items) (items_of (at_name name lists)) number (record { place = p; several = false; number = number }) absent refl

  pub rest_pushed : (n : Name) → (name ≡ n → ⊥) → page_of n ≡ page_of name → page_numbers page lists n ≡ page_numbers old lists n
  rest_pushed n other same_page =
      ap (λ es. entry_numbers (entry_at (place_of n) es) (items_of (at_name n lists))) pushed
      ∙ ap (λ o. entry_numbers o (items_of (at_name n lists))) (entry_append (place_of n) old.entries.items (record { place = p; several = false; number = number }))
      ∙ ap (λ b. entry_numbers (or_else (entry_at (place_of n) old.entries.items) (cond b (Some (record { place = p; several = false; number = number })) None)) (items_of (at_name n lists))) (by_test (p == place_of n) refl)
      ∙ ap (λ o. entry_numbers o (items_of (at_name n lists))) (or_else_none (entry_at (place_of n) old.entries.items)) where
        by_test : (b : Bool) → (p == place_of n) ≡ b → (p == place_of n) ≡ false
        by_test true eq = absurd (other (same_name name n (sym same_page) (grind (arith, nat_tests, eq, at))))
        by_test false ne = ne

-- a list is put at a name
module _ (name : Name) (numbers : List ℕ) (lists kept : Kept) (put : IsPut name numbers lists kept) where
  pub items_put : items_of (at_name name kept) ≡ numbers
  items_put = ap items_of (put.put name ∙ ap (λ b. cond b (Some put.list) (at_name name lists)) (test_of_itself name)) ∙ put.items

  pub others_put : (n : Name) → (name ≡ n → ⊥) → at_name n kept ≡ at_name n lists
  others_put n other = put.put n ∙ ap (λ b. cond b (Some put.list) (at_name n lists)) (by_test (is_same_name name n) refl) where
    by_test : (b : Bool) → is_same_name name n ≡ b → is_same_name name n ≡ false
    by_test true same = absurd (other (same_from_test name n same))
    by_test false ne = ne

-- the name has several numbers
pub more_listed : (page : Page) (lists kept : Kept) (name : Name) (number : ℕ) (e : Entry) → entry_at (place_of name) page.entries.items ≡ Some e → e.several ≡ true
    → IsPut name (items_of (at_name name lists) ++ number ∷ []) lists kept → page_numbers page kept name ≡ page_numbers page lists name ++ number ∷ []
more_listed page lists kept name number e there several put =
    ap (λ o. entry_numbers o (items_of (at_name name kept))) there ∙ ap (λ b. cond b (items_of (at_name name kept)) (e.number ∷ [])) several
    ∙ items_put name (items_of (at_name name lists) ++ number ∷ []) lists kept put
    ∙ ap (λ ns. ns ++ number ∷ []) (ap (λ b. cond b (items_of (at_name name lists)) (e.number ∷ [])) (sym several) ∙ sym (ap (λ o. entry_numbers o (items_of (at_name name lists))) there))

-- the name had one number
pub more_put : (old page : Page) (lists kept : Kept) (name : Name) (number : ℕ) (e f : Entry) → entry_at (place_of name) old.entries.items ≡ Some e → e.several ≡ false
    → entry_at (place_of name) page.entries.items ≡ Some f → f.several ≡ true → IsPut name (e.number ∷ number ∷ []) lists kept → page_numbers page kept name ≡ page_numbers old lists name ++ number ∷ []
more_put old page lists kept name number e f there single now several put =
    ap (λ o. entry_numbers o (items_of (at_name name kept))) now ∙ ap (λ b. cond b (items_of (at_name name kept)) (f.number ∷ [])) several
    ∙ items_put name (e.number ∷ number ∷ []) lists kept put
    ∙ ap (λ ns. ns ++ number ∷ []) (ap (λ b. cond b (items_of (at_name name lists)) (e.number ∷ [])) (sym single) ∙ sym (ap (λ o. entry_numbers o (items_of (at_name name lists))) there))
