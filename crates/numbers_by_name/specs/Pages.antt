-- Inner model, which no public contract cites: numbers by name, as they are kept on pages.
use Rattle.std.specs.Prelude.{◌≡◌, ◌≢◌, ℕ, zero, suc, ◌+◌, ◌*◌, ◌/◌, ◌%◌, ◌^◌, ◌<◌, ◌≤◌, ◌==◌, List, [], ◌∷◌, ◌++◌, Option, None, Some, IfSome, IsSome, slice_get, if◌then◌else◌}
use Rattle.std.specs.Prelude.{false}
use Rattle.std.specs.Ordering.{is_eq}
use Rattle.std.specs.Map.{lookup, keys_of}
use Rattle.std.specs.BTreeMap.{is_at}
use Rattle.smallvec.specs.SmallVec.{SmallVec}
use Rattle.grove_names.specs.declared.name.Name.{Name}
use Rattle.grove_names.specs.Name.{name_cmp}
use Rattle.numbers_by_name.specs.declared.page.Entry.{Entry}
use Rattle.numbers_by_name.specs.declared.page.Page.{Page}
use Rattle.numbers_by_name.specs.declared.pages.Pages.{Pages}
use Rattle.numbers_by_name.specs.ByName.{Lists, name_by, IsBefore}

-- ---- names on pages

-- the author, and the number of the page
abbrev pub page_of : Name → Name
page_of name = name_by name.author (name.counter / 64)

abbrev pub place_of : Name → ℕ
place_of name = name.counter % 64

-- what a name has in a map
abbrev pub at_name : {X : Type 0} → Name → List (Name × X) → Option X
at_name name entries = lookup (is_at (name_cmp name)) entries

abbrev pub items_of : Option (SmallVec ℕ) → List ℕ
items_of None = []
items_of (Some list) = list.items

abbrev pub Kept : Type 0
Kept = List (Name × SmallVec ℕ)

-- the first entry of a place
abbrev pub entry_at : ℕ → List Entry → Option Entry
entry_at place [] = None
entry_at place (entry ∷ entries) = if entry.place == place then Some entry else entry_at place entries

-- the numbers of a name with this entry, where several of them are this list
abbrev pub entry_numbers : Option Entry → List ℕ → List ℕ
entry_numbers None list = []
entry_numbers (Some entry) list = if entry.several then list else entry.number ∷ []

-- the numbers of a name on a page
abbrev pub page_numbers : Page → Kept → Name → List ℕ
page_numbers page lists name = entry_numbers (entry_at (place_of name) page.entries.items) (items_of (at_name name lists))

abbrev pub shown : Option Page → Kept → Name → List ℕ
shown None lists name = []
shown (Some page) lists name = page_numbers page lists name

abbrev pub page_there : List Page → Option ℕ → Option Page
page_there list None = None
page_there list (Some at) = slice_get list at

abbrev pub Places : Type 0
Places = List (Name × ℕ)

-- the numbers of a name, by the pages, where each page stands among them, and the lists
abbrev pub numbers_by : List Page → Places → Kept → Name → List ℕ
numbers_by list places lists name = shown (page_there list (at_name (page_of name) places)) lists name

abbrev pub numbers_in : Pages → Name → List ℕ
numbers_in pages name = numbers_by pages.list.items pages.places.entries pages.lists.entries name

-- ---- what holds of them

-- the page with this name stands at this place
abbrev pub IsPageAt : List Page → Name → ℕ → Type 0
IsPageAt list name at = (page : Page) × (slice_get list at ≡ Some page) × (page.name ≡ name)

-- each page is found where it stands, and the counters on it are those of names
pub record ArePages (list : List Page) (places : Places) : Type 0 where
  pub there : (name : Name) → IfSome (at_name name places) (IsPageAt list name)
  pub found : (at : ℕ) → IfSome (slice_get list at) (λ page. at_name page.name places ≡ Some at)
  pub fits : (name : Name) → IsSome (at_name name places) → name.counter < 2 ^ 58

abbrev pub IsWhole : Pages → Type 0
IsWhole pages = ArePages pages.list.items pages.places.entries

-- new stands for the same as old
pub record IsSame (old new : Pages) : Type 0 where
  pub places : new.places.entries ≡ old.places.entries
  pub numbers : (name : Name) → numbers_in new name ≡ numbers_in old name

-- new has these numbers at a name, and else what old has
pub record IsPut (name : Name) (numbers : List ℕ) (old new : Kept) : Type 0 where
  pub list : SmallVec ℕ
  pub items : list.items ≡ numbers
  pub put : (n : Name) → at_name n new ≡ (if is_eq (name_cmp name n) then Some list else at_name n old)

-- ---- what they stand for

-- the names on the first places of a page, the greatest first, each with its numbers
abbrev pub names_on : (Name → List ℕ) → Name → ℕ → Lists
names_on numbers page zero = []
names_on numbers page (suc n) = (name_by page.author (64 * page.counter + n), numbers (name_by page.author (64 * page.counter + n))) ∷ names_on numbers page n

-- those on all pages, of which the least is the first
abbrev pub names_listed : (Name → List ℕ) → List Name → Lists
names_listed numbers [] = []
names_listed numbers (page ∷ pages) = names_listed numbers pages ++ names_on numbers page 64

abbrev pub lists_of : Pages → Lists
lists_of pages = names_listed (numbers_in pages) (keys_of pages.places.entries)

-- a page with this name alone, which has this number alone
pub record IsPageOf (name : Name) (number : ℕ) (page : Page) : Type 0 where
  pub name_is : page.name ≡ page_of name
  pub entries : page.entries.items ≡ record { place = place_of name; several = false; number = number } ∷ []

-- ---- the last one

-- of the author's counters with numbers that are less than a bound, this is the greatest
pub record IsLastIn (pages : Pages) (author : ℕ) (bound : Option ℕ) (counter : ℕ) : Type 0 where
  pub before : IsBefore bound counter
  pub has : numbers_in pages (name_by author counter) ≢ []
  pub no_greater : (c : ℕ) → IsBefore bound c → numbers_in pages (name_by author c) ≢ [] → c ≤ counter

abbrev pub HasNoneIn : Pages → ℕ → Option ℕ → Type 0
HasNoneIn pages author bound = (counter : ℕ) → IsBefore bound counter → numbers_in pages (name_by author counter) ≡ []

-- the same of the counters on a page
pub record IsLastOnPage (pages : Pages) (page : Name) (bound : Option ℕ) (counter : ℕ) : Type 0 where
  pub before : IsBefore bound counter
  pub has : numbers_in pages (name_by page.author counter) ≢ []
  pub no_greater : (c : ℕ) → c / 64 ≡ page.counter → IsBefore bound c → numbers_in pages (name_by page.author c) ≢ [] → c ≤ counter
  pub on_page : counter / 64 ≡ page.counter

abbrev pub HasNoneOnPage : Pages → Name → Option ℕ → Type 0
HasNoneOnPage pages page bound = (counter : ℕ) → counter / 64 ≡ page.counter → IsBefore bound counter → numbers_in pages (name_by page.author counter) ≡ []

-- no counter of the author that is less than a bound, and has numbers, stands on a later page
pub record IsLastPage (pages : Pages) (author : ℕ) (bound : Option ℕ) (page : Name) : Type 0 where
  pub author_is : page.author ≡ author
  pub fits : page.counter < 2 ^ 58
  pub before : IsBefore bound (64 * page.counter)
  pub no_later : (counter : ℕ) → IsBefore bound counter → numbers_in pages (name_by author counter) ≢ [] → counter / 64 ≤ page.counter
