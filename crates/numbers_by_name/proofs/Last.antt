-- The last counter of an author.
use Rattle.std.proofs.Common.{◌≡◌, ◌≢◌, inl, inr, ℕ, ◌+◌, ◌*◌, ◌/◌, ◌%◌, ◌^◌, ◌<◌, ◌≤◌, false, List, [], ◌∷◌, Option, None, Some, IfSome, IfNone, IsSome, refl, sym, ap, subst, Ordering, Less, Equal, Greater, nat_cmp, ◌∙◌, arith}
use mathlib.Core.Bool.{false≢true}
use Rattle.std.specs.Option.{option_map}
use Rattle.std.specs.Ordering.{is_gt, is_lt, ordering_then}
use Rattle.std.proofs.lemmas.Bool.{cases_lt}
use Rattle.std.proofs.lemmas.Bool.Decides.{nat_tests}
use Rattle.grove_names.specs.declared.name.Name.{Name}
use Rattle.grove_names.specs.Name.{name_cmp}
use Rattle.numbers_by_name.specs.declared.pages.Pages.{Pages}
use Rattle.numbers_by_name.specs.ByName.{Lists, name_by, IsBefore, IsLastBefore, HasNoneBefore}
use Rattle.numbers_by_name.specs.Pages.{page_of, at_name, page_there, shown, numbers_in, IsLastIn, HasNoneIn, IsLastOnPage, HasNoneOnPage, IsLastPage, IsWhole}

-- where the counters end that are less than a bound
abbrev pub end_of : Option ℕ → ℕ
end_of None = 2 ^ 64
end_of (Some bound) = bound

pub before_end : (bound : Option ℕ) (p : ℕ) → p < 2 ^ 58 → IsBefore bound (64 * p) → 64 * p < end_of bound
before_end None p fits before = omega (arith, fits)
before_end (Some bound) p fits before = before

pub before_less : (bound : Option ℕ) (a b : ℕ) → a ≤ b → IsBefore bound b → IsBefore bound a
before_less None a b le before = tt
before_less (Some bound) a b le before = omega (arith, le, before)

not_both : (n : ℕ) (ns : List ℕ) → n ∷ ns ≡ [] → ⊥
not_both n ns h = cc

-- ---- on one page

on_page : (p c : ℕ) → c / 64 ≡ p → c ≡ 64 * p + c % 64
on_page p c h = omega (arith, h)

at_place : (c : ℕ) → c % 64 < 64
at_place c = omega arith

module _ (pages : Pages) (page : Name) (bound : Option ℕ) (places : ℕ)
    (none : (place : ℕ) → places ≤ place → place < 64 → IsBefore bound (64 * page.counter + place) → numbers_in pages (name_by page.author (64 * page.counter + place)) ≡ []) where
  none_from : (c : ℕ) → c / 64 ≡ page.counter → places ≤ c % 64 → IsBefore bound c → numbers_in pages (name_by page.author c) ≡ []
  none_from c on le before =
      let is = on_page page.counter c on in
      ap (λ (d : ℕ). numbers_in pages (name_by page.author d)) is ∙ none (c % 64) le (at_place c) (subst (IsBefore bound) is before)

  pub none_on_page : places ≡ 0 → HasNoneOnPage pages page bound
  none_on_page all c on before = none_from c on (omega (arith, all)) before

  pub last_on_page : (place : ℕ) → places ≡ place + 1 → place < 64 → IsBefore bound (64 * page.counter + place) → numbers_in pages (name_by page.author (64 * page.counter + place)) ≢ []
      → IsLastOnPage pages page bound (64 * page.counter + place)
  last_on_page place next lt before has = record {
    before = before;
    has = has;
    no_greater = λ c on less some. elim (cases_lt place (c % 64)) [
      | inl gt ↦ absurd (some (none_from c on (omega (arith, gt, next)) less))
      | inr le ↦ (let is = on_page page.counter c on in omega (arith, is, le))
    ];
    on_page = omega (arith, lt);
  }

-- ---- on the pages of an author

module _ (pages : Pages) (author : ℕ) (bound : Option ℕ) (page : Name) (is : IsLastPage pages author bound page) where
  of_author : (c : ℕ) → numbers_in pages (name_by page.author c) ≡ numbers_in pages (name_by author c)
  of_author c = ap (λ (a : ℕ). numbers_in pages (name_by a c)) is.author_is

  pub last_there : (c : ℕ) → IsLastOnPage pages page bound c → IsLastIn pages author bound c
  last_there c last = record {
    before = last.before;
    has = subst (λ ns. ns ≢ []) (of_author c) last.has;
    no_greater = λ d before has. let no_later = is.no_later d before has in elim (cases_lt (d / 64) page.counter) [
      | inl lt ↦ (let on = last.on_page in omega (arith, lt, on))
      | inr ge ↦ last.no_greater d (omega (arith, ge, no_later)) before (subst (λ ns. ns ≢ []) (sym (of_author d)) has)
    ];
  }

  module _ (none : HasNoneOnPage pages page bound) where
    earlier : (c : ℕ) → IsBefore bound c → numbers_in pages (name_by author c) ≢ [] → c < 64 * page.counter
    earlier c before has = let no_later = is.no_later c before has in elim (cases_lt (c / 64) page.counter) [
      | inl lt ↦ omega (arith, lt)
      | inr ge ↦ absurd (has (sym (of_author c) ∙ none c (omega (arith, ge, no_later)) before))
    ]

    pub last_before_page : (c : ℕ) → IsLastIn pages author (Some (64 * page.counter)) c → IsLastIn pages author bound c
    last_before_page c last = record {
      before = before_less bound c (64 * page.counter) (let lt = last.before in omega (arith, lt)) is.before;
      has = last.has;
      no_greater = λ d before has. last.no_greater d (earlier d before has) has;
    }

    pub none_before_page : HasNoneIn pages author (Some (64 * page.counter)) → HasNoneIn pages author bound
    none_before_page empty c before = by_list (numbers_in pages (name_by author c)) refl where
      by_list : (ns : List ℕ) → numbers_in pages (name_by author c) ≡ ns → ns ≡ []
      by_list [] h = refl
      by_list (n ∷ ns) h =
          let has : numbers_in pages (name_by author c) ≢ [] = λ none. not_both n ns (sym h ∙ none) in
          sym h ∙ empty c (earlier c before has)

-- ---- the last page, by the order of names

le_authors : (a b : Name) → is_gt (name_cmp a b) ≡ false → a.author ≤ b.author
le_authors a b h = by_order (nat_cmp a.author b.author) refl h where
  by_order : (o : Ordering) → nat_cmp a.author b.author ≡ o → is_gt (ordering_then o (nat_cmp a.counter b.counter)) ≡ false → a.author ≤ b.author
  by_order Less is h = grind (arith, nat_tests, is)
  by_order Equal is h = grind (arith, nat_tests, is)
  by_order Greater is h = absurd cc

le_counters : (a b : Name) → is_gt (name_cmp a b) ≡ false → a.author ≡ b.author → a.counter ≤ b.counter
le_counters a b h same = by_order (nat_cmp a.author b.author) refl h where
  by_counter : (o : Ordering) → nat_cmp a.counter b.counter ≡ o → is_gt o ≡ false → a.counter ≤ b.counter
  by_counter Less is h = grind (arith, nat_tests, is)
  by_counter Equal is h = grind (arith, nat_tests, is)
  by_counter Greater is h = absurd cc

  by_order : (o : Ordering) → nat_cmp a.author b.author ≡ o → is_gt (ordering_then o (nat_cmp a.counter b.counter)) ≡ false → a.counter ≤ b.counter
  by_order Less is h = absurd (not_less is) where
    not_less : nat_cmp a.author b.author ≡ Less → ⊥
    not_less is = grind (arith, nat_tests, same, is)
  by_order Equal is h = by_counter (nat_cmp a.counter b.counter) refl h
  by_order Greater is h = absurd cc

is_le : (a b : Name) → a.author ≡ b.author → a.counter ≤ b.counter → is_gt (name_cmp a b) ≡ false
is_le a b same le = by_order (nat_cmp a.author b.author) refl where
  by_counter : (o : Ordering) → nat_cmp a.counter b.counter ≡ o → is_gt o ≡ false
  by_counter Less is = refl
  by_counter Equal is = refl
  by_counter Greater is = absurd (not_greater is) where
    not_greater : nat_cmp a.counter b.counter ≡ Greater → ⊥
    not_greater is = grind (arith, nat_tests, le, is)

  by_order : (o : Ordering) → nat_cmp a.author b.author ≡ o → is_gt (ordering_then o (nat_cmp a.counter b.counter)) ≡ false
  by_order Less is = refl
  by_order Equal is = by_counter (nat_cmp a.counter b.counter) refl
  by_order Greater is = absurd (not_greater is) where
    not_greater : nat_cmp a.author b.author ≡ Greater → ⊥
    not_greater is = grind (arith, nat_tests, same, is)

ge_authors : (a b : Name) → is_lt (name_cmp a b) ≡ false → b.author ≤ a.author
ge_authors a b h = by_order (nat_cmp a.author b.author) refl h where
  by_order : (o : Ordering) → nat_cmp a.author b.author ≡ o → is_lt (ordering_then o (nat_cmp a.counter b.counter)) ≡ false → b.author ≤ a.author
  by_order Less is h = absurd cc
  by_order Equal is h = grind (arith, nat_tests, is)
  by_order Greater is h = grind (arith, nat_tests, is)

ge_counters : (a b : Name) → is_lt (name_cmp a b) ≡ false → a.author ≡ b.author → b.counter ≤ a.counter
ge_counters a b h same = by_order (nat_cmp a.author b.author) refl h where
  by_counter : (o : Ordering) → nat_cmp a.counter b.counter ≡ o → is_lt o ≡ false → b.counter ≤ a.counter
  by_counter Less is h = absurd cc
  by_counter Equal is h = grind (arith, nat_tests, is)
  by_counter Greater is h = grind (arith, nat_tests, is)

  by_order : (o : Ordering) → nat_cmp a.author b.author ≡ o → is_lt (ordering_then o (nat_cmp a.counter b.counter)) ≡ false → b.counter ≤ a.counter
  by_order Less is h = absurd cc
  by_order Equal is h = by_counter (nat_cmp a.counter b.counter) refl h
  by_order Greater is h = absurd (not_greater is) where
    not_greater : nat_cmp a.author b.author ≡ Greater → ⊥
    not_greater is = grind (arith, nat_tests, same, is)

page_is_there : (pages : Pages) (name : Name) → numbers_in pages name ≢ [] → IsSome (at_name (page_of name) pages.places.entries)
page_is_there pages name has = by_place (at_name (page_of name) pages.places.entries) has where
  by_place : (o : Option ℕ) → shown (page_there pages.list.items o) pages.lists.entries name ≢ [] → IsSome o
  by_place None has = absurd (has refl)
  by_place (Some at) has = refl

not_there : (o : Option ℕ) → IsSome o → o ≡ None → ⊥
not_there None some is = false≢true some
not_there (Some at) some is = cc

some_number : (ns : List ℕ) → (ns ≢ [] → ⊥) → ns ≡ []
some_number [] h = refl
some_number (n ∷ ns) h = absurd (h (not_both n ns))

module _ (pages : Pages) (whole : IsWhole pages) (author : ℕ) (bound : Option ℕ) (end : ℕ)
    (up_to : (page : ℕ) → page < 2 ^ 58 → IsBefore bound (64 * page) → page ≤ end) (before : (page : ℕ) → page ≤ end → IsBefore bound (64 * page)) where
  in_reach : (c : ℕ) → IsBefore bound c → numbers_in pages (name_by author c) ≢ [] → is_gt (name_cmp (page_of (name_by author c)) (name_by author end)) ≡ false
  in_reach c less has =
      is_le (page_of (name_by author c)) (name_by author end) refl
      (up_to (c / 64) (whole.fits (page_of (name_by author c)) (page_is_there pages (name_by author c) has)) (before_less bound (64 * (c / 64)) c (omega arith) less))

  pub none_of_pages : ((q : Name) → is_gt (name_cmp q (name_by author end)) ≡ false → at_name q pages.places.entries ≡ None) → HasNoneIn pages author bound
  none_of_pages none c less = some_number (numbers_in pages (name_by author c)) (λ has. not_there (at_name (page_of (name_by author c)) pages.places.entries) (page_is_there pages (name_by author c) has) (none (page_of (name_by author c)) (in_reach c less has)))

  module _ (page : Name) (there : IsSome (at_name page pages.places.entries)) (in_front : is_gt (name_cmp page (name_by author end)) ≡ false)
      (no_later : (q : Name) → is_gt (name_cmp q (name_by author end)) ≡ false → IsSome (at_name q pages.places.entries) → is_lt (name_cmp page q) ≡ false) where
    not_less : (c : ℕ) → IsBefore bound c → numbers_in pages (name_by author c) ≢ [] → is_lt (name_cmp page (page_of (name_by author c))) ≡ false
    not_less c less has = no_later (page_of (name_by author c)) (in_reach c less has) (page_is_there pages (name_by author c) has)

    pub last_of_pages : page.author ≡ author → IsLastPage pages author bound page
    last_of_pages same = record {
      author_is = same;
      fits = whole.fits page there;
      before = before page.counter (le_counters page (name_by author end) in_front same);
      no_later = λ c less has. ge_counters page (page_of (name_by author c)) (not_less c less has) same;
    }

    pub none_of_author : (page.author ≡ author → ⊥) → HasNoneIn pages author bound
    none_of_author other c less =
        some_number (numbers_in pages (name_by author c))
        (λ has. let le = le_authors page (name_by author end) in_front in let ge = ge_authors page (page_of (name_by author c)) (not_less c less has) in other (omega (arith, le, ge)))

-- ---- there is one at most

none_is_last : {P : Type 0} (lists : Lists) (author : ℕ) (bound : Option ℕ) → HasNoneBefore lists author bound → (counter : ℕ) → IsLastBefore lists author bound counter → P
none_is_last lists author bound none counter last = absurd (last.numbers (none counter last.before))

last_is_one : (lists : Lists) (author : ℕ) (bound : Option ℕ) (a b : ℕ) → IsLastBefore lists author bound a → IsLastBefore lists author bound b → a ≡ b
last_is_one lists author bound a b first second = same a b (second.no_greater a first.before first.numbers) (first.no_greater b second.before second.numbers) where
  same : (a b : ℕ) → a ≤ b → b ≤ a → a ≡ b
  same a b h k = omega arith

-- what an answer for the last counter gives is that counter, where there is one
pub only_last : {X : Type 0} (lists : Lists) (author : ℕ) (bound : Option ℕ) (answer : Option (ℕ × X))
    → IfSome answer (λ found. IsLastBefore lists author bound found.0) → IfNone answer (HasNoneBefore lists author bound)
    → (counter : ℕ) → IsLastBefore lists author bound counter → option_map (λ found. found.0) answer ≡ Some counter
only_last lists author bound None is none counter last = none_is_last lists author bound none counter last
only_last lists author bound (Some found) is none counter last = ap Some (last_is_one lists author bound found.0 counter is last)
