-- The list of the names, by what each of them has.
use Rattle.std.proofs.Common.{◌≡◌, ℕ, zero, suc, ◌+◌, ◌*◌, ◌/◌, ◌%◌, ◌<◌, ◌≤◌, Bool, true, false, cond, List, [], ◌∷◌, ◌++◌, Option, None, Some, refl, sym, ap, ◌∙◌, arith}
use Rattle.std.specs.Option.{option_map, unwrap_or}
use Rattle.std.specs.Map.{lookup, keys_of}
use Rattle.std.specs.BTreeMap.{is_at}
use Rattle.std.proofs.lemmas.List.{append-nil, append_assoc}
use Rattle.grove_names.specs.declared.name.Name.{Name}
use Rattle.grove_names.specs.Name.{name_cmp}
use Rattle.numbers_by_name.specs.declared.pages.Pages.{Pages}
use Rattle.numbers_by_name.specs.ByName.{Lists, all_numbers, numbers_of, is_same_name, name_by}
use Rattle.numbers_by_name.specs.Pages.{page_of, at_name, page_there, shown, Places, numbers_in, names_on, names_listed, lists_of, IsSame}
use Rattle.numbers_by_name.proofs.Found.{same_from_test, other_from_test, or_else, or_else_none, lookup_append}

-- ---- a name on a page

pub on_same_page : (p k : ℕ) → k < 64 → (64 * p + k) / 64 ≡ p
on_same_page p k lt = omega arith

pub at_same_place : (p k : ℕ) → k < 64 → (64 * p + k) % 64 ≡ k
at_same_place p k lt = omega arith

module _ (numbers : Name → List ℕ) (page n : Name) where
  abbrev found_on : ℕ → Option (List ℕ)
  found_on k = lookup (is_at (name_cmp n)) (names_on numbers page k)

  on_page : (k : ℕ) → n.author ≡ page.author → 64 * page.counter ≤ n.counter → n.counter < 64 * page.counter + k → found_on k ≡ Some (numbers n)
  on_page zero same from to = absurd (omega (arith, from, to))
  on_page (suc k) same from to = by_test (is_same_name n (name_by page.author (64 * page.counter + k))) refl (on_page k same from) where
    by_test : (b : Bool) → is_same_name n (name_by page.author (64 * page.counter + k)) ≡ b → (n.counter < 64 * page.counter + k → found_on k ≡ Some (numbers n))
        → cond (is_same_name n (name_by page.author (64 * page.counter + k))) (Some (numbers (name_by page.author (64 * page.counter + k)))) (found_on k) ≡ Some (numbers n)
    by_test true is behind =
        ap (λ b. cond b (Some (numbers (name_by page.author (64 * page.counter + k)))) (found_on k)) is
        ∙ ap (λ (q : Name). Some (numbers q)) (sym (same_from_test n (name_by page.author (64 * page.counter + k)) is))
    by_test false is behind = ap (λ b. cond b (Some (numbers (name_by page.author (64 * page.counter + k)))) (found_on k)) is ∙ behind below where
      not_last : n.counter ≡ 64 * page.counter + k → ⊥
      not_last eq = other_from_test n (name_by page.author (64 * page.counter + k)) is (ap (λ a. name_by a n.counter) same ∙ ap (name_by page.author) eq)

      below : n.counter < 64 * page.counter + k
      below = omega (arith, to, not_last)

  not_on_page : (k : ℕ) → k ≤ 64 → (page_of n ≡ page → ⊥) → found_on k ≡ None
  not_on_page zero le other = refl
  not_on_page (suc k) le other = by_test (is_same_name n (name_by page.author (64 * page.counter + k))) refl (not_on_page k (omega arith) other) where
    by_test : (b : Bool) → is_same_name n (name_by page.author (64 * page.counter + k)) ≡ b → found_on k ≡ None → cond (is_same_name n (name_by page.author (64 * page.counter + k))) (Some (numbers (name_by page.author (64 * page.counter + k)))) (found_on k) ≡ None
    by_test true is behind =
        absurd (other (ap page_of (same_from_test n (name_by page.author (64 * page.counter + k)) is) ∙ ap (name_by page.author) (on_same_page page.counter k (omega arith))))
    by_test false is behind = ap (λ b. cond b (Some (numbers (name_by page.author (64 * page.counter + k)))) (found_on k)) is ∙ behind

-- ---- a name on all pages

pub listed : (numbers : Name → List ℕ) (n : Name) (places : Places)
    → lookup (is_at (name_cmp n)) (names_listed numbers (keys_of places)) ≡ option_map (λ (at : ℕ). numbers n) (at_name (page_of n) places)
listed numbers n [] = refl
listed numbers n (e ∷ es) =
    lookup_append (is_at (name_cmp n)) (names_listed numbers (keys_of es)) (names_on numbers e.0 64)
    ∙ ap (λ o. or_else o (lookup (is_at (name_cmp n)) (names_on numbers e.0 64))) (listed numbers n es)
    ∙ by_test (is_same_name (page_of n) e.0) refl where
      there : (o : Option ℕ) → or_else (option_map (λ (at : ℕ). numbers n) o) (Some (numbers n)) ≡ Some (numbers n)
      there None = refl
      there (Some at) = refl

      by_test : (b : Bool) → is_same_name (page_of n) e.0 ≡ b → or_else (option_map (λ (at : ℕ). numbers n) (at_name (page_of n) es)) (lookup (is_at (name_cmp n)) (names_on numbers e.0 64))
          ≡ option_map (λ (at : ℕ). numbers n) (cond (is_same_name (page_of n) e.0) (Some e.1) (at_name (page_of n) es))
      by_test true is =
          let page = same_from_test (page_of n) e.0 is in
          let author : n.author ≡ e.0.author = ap (λ (p : Name). p.author) page in
          let counter : n.counter / 64 ≡ e.0.counter = ap (λ (p : Name). p.counter) page in
          ap (or_else (option_map (λ (at : ℕ). numbers n) (at_name (page_of n) es))) (on_page numbers e.0 n 64 author (omega (arith, counter)) (omega (arith, counter)))
          ∙ there (at_name (page_of n) es)
          ∙ sym (ap (λ b. option_map (λ (at : ℕ). numbers n) (cond b (Some e.1) (at_name (page_of n) es))) is)
      by_test false is =
          ap (or_else (option_map (λ (at : ℕ). numbers n) (at_name (page_of n) es))) (not_on_page numbers e.0 n 64 (omega arith) (other_from_test (page_of n) e.0 is))
          ∙ or_else_none (option_map (λ (at : ℕ). numbers n) (at_name (page_of n) es))
          ∙ sym (ap (λ b. option_map (λ (at : ℕ). numbers n) (cond b (Some e.1) (at_name (page_of n) es))) is)

pub numbers_listed : (pages : Pages) (n : Name) → numbers_of (lists_of pages) n ≡ numbers_in pages n
numbers_listed pages n = ap (λ o. unwrap_or o []) (listed (numbers_in pages) n pages.places.entries) ∙ by_place (at_name (page_of n) pages.places.entries) where
  by_place : (o : Option ℕ) → unwrap_or (option_map (λ (at : ℕ). shown (page_there pages.list.items o) pages.lists.entries n) o) [] ≡ shown (page_there pages.list.items o) pages.lists.entries n
  by_place None = refl
  by_place (Some at) = refl

-- ---- all numbers

pub all_append : (xs ys : Lists) → all_numbers (xs ++ ys) ≡ all_numbers ys ++ all_numbers xs
all_append [] ys = sym (append-nil (all_numbers ys))
all_append (x ∷ xs) ys = ap (λ ns. ns ++ x.1) (all_append xs ys) ∙ append_assoc (all_numbers ys) (all_numbers xs) x.1

-- functions that agree on a page
pub all_agree : (f g : Name → List ℕ) (page : Name) (k : ℕ) → k ≤ 64 → ((n : Name) → page_of n ≡ page → f n ≡ g n) → all_numbers (names_on f page k) ≡ all_numbers (names_on g page k)
all_agree f g page zero le same = refl
all_agree f g page (suc k) le same =
    ap (λ ns. ns ++ f (name_by page.author (64 * page.counter + k))) (all_agree f g page k (omega arith) same)
    ∙ ap (λ ns. all_numbers (names_on g page k) ++ ns) (same (name_by page.author (64 * page.counter + k)) (ap (name_by page.author) (on_same_page page.counter k (omega arith))))

pub all_of_none : (page : Name) (k : ℕ) → all_numbers (names_on (λ n. []) page k) ≡ []
all_of_none page zero = refl
all_of_none page (suc k) = append-nil (all_numbers (names_on (λ n. []) page k)) ∙ all_of_none page k

-- ---- functions that agree

on_agree : (f g : Name → List ℕ) (page : Name) (k : ℕ) → ((n : Name) → f n ≡ g n) → names_on f page k ≡ names_on g page k
on_agree f g page zero same = refl
on_agree f g page (suc k) same =
    ap (λ ns. (name_by page.author (64 * page.counter + k), ns) ∷ names_on f page k) (same (name_by page.author (64 * page.counter + k)))
    ∙ ap (λ lists. (name_by page.author (64 * page.counter + k), g (name_by page.author (64 * page.counter + k))) ∷ lists) (on_agree f g page k same)

pub listed_agree : (f g : Name → List ℕ) (pages : List Name) → ((n : Name) → f n ≡ g n) → names_listed f pages ≡ names_listed g pages
listed_agree f g [] same = refl
listed_agree f g (page ∷ pages) same =
    ap (λ lists. lists ++ names_on f page 64) (listed_agree f g pages same) ∙ ap (λ lists. names_listed g pages ++ lists) (on_agree f g page 64 same)

pub lists_same : (old new : Pages) → IsSame old new → lists_of new ≡ lists_of old
lists_same old new same =
    ap (λ places. names_listed (numbers_in new) (keys_of places)) same.places ∙ listed_agree (numbers_in new) (numbers_in old) (keys_of old.places.entries) same.numbers
