-- The numbers of lines, one author after the other.
use Rattle.std.proofs.Common.{◌≡◌, ℕ, zero, suc, ◌+◌, ◌^◌, ◌<◌, ◌≤◌, List, [], ◌∷◌, ◌++◌, length, drop, get_or, refl, sym, ap, ap₂, subst, ◌∙◌, arith, append-nil, append_assoc}
use Rattle.std.specs.Prelude.{replicate}
use Rattle.std.specs.List.{AllByRecursion, count_by}
use Rattle.std.proofs.lemmas.List.{drop_more, drop_all}
use Rattle.std.proofs.lemmas.List.Sums.{sum_by-append, sum_by-cons}
use Rattle.session_script.specs.declared.author.Declared.{Declared}
use Rattle.session_script.specs.declared.item.Block.{Block}
use Rattle.session_script.specs.declared.item.Item.{Item}
use Rattle.session_script.specs.declared.item.Item.TheVariants as item
use Rattle.session_script.specs.declared.line.Line.{Line}
use Rattle.session_run.specs.Boards.{is_line_of}
use Rattle.session_answers.specs.Numbers.{lines_by, next_number, next_numbers, numbers_behind}

abbrev pub Fit : ℕ → List ℕ → Type 0
Fit lines calls = AllByRecursion (λ first. first + lines < 2 ^ 64) calls

pub fit_more : (lines : ℕ) (calls : List ℕ) (index other : ℕ) → index < length calls → get_or calls index other + lines < 2 ^ 64 → Fit lines (drop (index + 1) calls) → Fit lines (drop index calls)
fit_more lines calls index other within fits rest = subst (Fit lines) (sym (drop_more calls index other within)) (fits, rest)

pub fit_none : (lines : ℕ) (calls : List ℕ) (index : ℕ) → length calls ≤ index → Fit lines (drop index calls)
fit_none lines calls index end = subst (Fit lines) (sym (drop_all index calls end)) tt

pub fits_at : (lines : ℕ) (calls : List ℕ) (index other : ℕ) → index < length calls → Fit lines calls → get_or calls index other + lines < 2 ^ 64
fits_at lines [] index other within fit = absurd (omega arith)
fits_at lines (call ∷ calls) zero other within fit = fit.0
fits_at lines (call ∷ calls) (suc index) other within fit = fits_at lines calls index other (omega arith) fit.1

-- the first lines have the number 1
pub first_of_all : (authors : List Declared) → replicate (length authors) 1 ≡ next_numbers [] authors
first_of_all [] = refl
first_of_all (declared ∷ authors) = ap (λ (ns : List ℕ). 1 ∷ ns) (first_of_all authors)

-- one author more
pub one_counted : (lines : List Line) (authors : List Declared) (calls done new all : List ℕ) (index other : ℕ) (first declared : Declared) → length calls ≡ length authors → index < length authors
    → get_or authors index first ≡ declared → done ++ numbers_behind lines (drop index authors) (drop index calls) ≡ all
    → new ≡ done ++ (get_or calls index other + count_by (is_line_of declared.author) lines) ∷ [] → new ++ numbers_behind lines (drop (index + 1) authors) (drop (index + 1) calls) ≡ all
one_counted lines authors calls done new all index other first declared long within here before is =
    let front : drop index authors ≡ declared ∷ drop (index + 1) authors = drop_more authors index first within ∙ ap (λ (d : Declared). d ∷ drop (index + 1) authors) here in
    let second : drop index calls ≡ get_or calls index other ∷ drop (index + 1) calls = drop_more calls index other (omega arith) in
    let number : ℕ = get_or calls index other + count_by (is_line_of declared.author) lines in
    let rest : List ℕ = numbers_behind lines (drop (index + 1) authors) (drop (index + 1) calls) in
    ap (λ (ns : List ℕ). ns ++ rest) is
    ∙ (append_assoc done (number ∷ []) rest
    ∙ (ap (λ (ns : List ℕ). done ++ ns) (sym (ap₂ (numbers_behind lines) front second)) ∙ before))

pub all_counted : (lines : List Line) (authors : List Declared) (calls done all : List ℕ) (index : ℕ) → length authors ≤ index → done ++ numbers_behind lines (drop index authors) (drop index calls) ≡ all → done ≡ all
all_counted lines authors calls done all index end is =
    sym (append-nil done) ∙ (ap (λ (ds : List Declared). done ++ numbers_behind lines ds (drop index calls)) (sym (drop_all index authors end)) ∙ is)

-- ---- an item more

next_with : (before : List Item) (next : Item) (author : ℕ) → next_number (before ++ next ∷ []) author ≡ next_number before author + lines_by author next
next_with before next author =
    let all = sum_by-append (lines_by author) before (next ∷ []) in
    let own = sum_by-cons (lines_by author) next [] in
    omega arith

-- an item without lines
pub numbers_stay : (before : List Item) (next : Item) (authors : List Declared) → ((author : ℕ) → lines_by author next ≡ 0) → next_numbers before authors ≡ next_numbers (before ++ next ∷ []) authors
numbers_stay before next [] none = refl
numbers_stay before next (declared ∷ authors) none =
    let with = next_with before next declared.author in
    let own = none declared.author in
    let same : next_number before declared.author ≡ next_number (before ++ next ∷ []) declared.author = omega arith in
    ap₂ (λ (n : ℕ) (ns : List ℕ). n ∷ ns) same (numbers_stay before next authors none)

-- a block
pub numbers_more : (before : List Item) (block : Block) (authors : List Declared) → numbers_behind block.lines authors (next_numbers before authors) ≡ next_numbers (before ++ item.Block block ∷ []) authors
numbers_more before block [] = refl
numbers_more before block (declared ∷ authors) = ap₂ (λ (n : ℕ) (ns : List ℕ). n ∷ ns) (sym (next_with before (item.Block block) declared.author)) (numbers_more before block authors)
