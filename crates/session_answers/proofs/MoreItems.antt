-- One item more: what replicas took, the places of journals, and what is written.
use Rattle.std.proofs.Common.{◌≡◌, ◌≢◌, ◌⊎◌, inl, inr, ℕ, ◌+◌, ◌<◌, ◌≤◌, Bool, true, false, ◌==◌, cond, List, [], ◌∷◌, ◌++◌, length, map, refl, sym, ap, subst, ◌∙◌, arith, append_assoc, append-nil, length-append}
use Rattle.std.specs.List.{AllByRecursion}
use Rattle.grove_sorts.specs.declared.ident.Ident.{Ident}
use Rattle.grove_edits.specs.declared.edit.Edit.{Edit}
use Rattle.session_script.specs.declared.item.Block.{Block}
use Rattle.session_script.specs.declared.item.Item.{Item}
use Rattle.session_script.specs.declared.item.Item.TheVariants as item
use Rattle.session_report.specs.Journal.{Entries, edits_of}
use Rattle.session_report.specs.Taken.{Journals, entries_at, taken_from, taken}
use Rattle.session_report.specs.Legal.{next_block, pairs_from, places_from, place_of}
use Rattle.session_report.specs.Report.{IsItemText, AreItemTexts}
use Rattle.session_answers.specs.BlockJournals.{block_journals}
use Rattle.session_answers.proofs.Agreeing.{blocks, blocks-cons}

all-append : {A : Type 0} (P : A → Type 0) (xs ys : List A) → AllByRecursion P xs → AllByRecursion P ys → AllByRecursion P (xs ++ ys)
all-append P [] ys of_xs of_ys = of_ys
all-append P (x ∷ xs) ys of_xs of_ys = (of_xs.0, all-append P xs ys of_xs.1 of_ys)

all-more : {A : Type 0} (P Q : A → Type 0) (xs : List A) → ((x : A) → P x → Q x) → AllByRecursion P xs → AllByRecursion Q xs
all-more P Q [] leads all = tt
all-more P Q (x ∷ xs) leads all = (leads x all.0, all-more P Q xs leads all.1)

-- ---- the places of journals

pairs_below : (block replica limit : ℕ) (names : List Ident) → block < limit → AllByRecursion (λ (p : ℕ × ℕ). p.0 < limit) (pairs_from block replica names)
pairs_below block replica limit [] below = tt
pairs_below block replica limit (name ∷ names) below = (below, pairs_below block (replica + 1) limit names below)

places_below : (names : List Ident) (start limit : ℕ) (items : List Item) → start + blocks items ≤ limit → AllByRecursion (λ (p : ℕ × ℕ). p.0 < limit) (places_from names start items)
places_below names start limit [] few = tt
places_below names start limit (item.Block block ∷ items) few =
    let count = blocks-cons (item.Block block) items in
    all-append (λ (p : ℕ × ℕ). p.0 < limit) (pairs_from start 1 names) (places_from names (start + 1) items)
    (pairs_below start 1 limit names (omega arith)) (places_below names (start + 1) limit items (omega arith))
places_below names start limit (other ∷ items) few = let count = blocks-cons other items in places_below names start limit items (omega arith)

places_from-append : (names : List Ident) (start : ℕ) (xs ys : List Item) → places_from names start (xs ++ ys) ≡ places_from names start xs ++ places_from names (start + blocks xs) ys
places_from-append names start [] ys = let here : start ≡ start + 0 = omega arith in ap (λ n. places_from names n ys) here
places_from-append names start (item.Block block ∷ xs) ys =
    let count = blocks-cons (item.Block block) xs in
    let there : (start + 1) + blocks xs ≡ start + blocks (item.Block block ∷ xs) = omega arith in
    ap (λ (ps : List (ℕ × ℕ)). pairs_from start 1 names ++ ps)
    (places_from-append names (start + 1) xs ys ∙ ap (λ n. places_from names (start + 1) xs ++ places_from names n ys) there)
    ∙ sym (append_assoc (pairs_from start 1 names) (places_from names (start + 1) xs) (places_from names (start + blocks (item.Block block ∷ xs)) ys))
places_from-append names start (other ∷ xs) ys =
    let count = blocks-cons other xs in
    let there : start + blocks xs ≡ start + blocks (other ∷ xs) = omega arith in
    places_from-append names start xs ys ∙ ap (λ n. places_from names start xs ++ places_from names n ys) there

one_more : (names : List Ident) (before : List Item) (next : Item) → places_from names 1 (before ++ next ∷ []) ≡ places_from names 1 before ++ places_from names (next_block before) (next ∷ [])
one_more names before next =
    let number : 1 + blocks before ≡ next_block before = omega arith in
    places_from-append names 1 before (next ∷ []) ∙ ap (λ n. places_from names 1 before ++ places_from names n (next ∷ [])) number

-- an item that is no block has no places
pub places_without : (names : List Ident) (before : List Item) (next : Item) → ((block : Block) → next ≢ item.Block block) → places_from names 1 (before ++ next ∷ []) ≡ places_from names 1 before
places_without names before (item.Block block) other = absurd (other block refl)
places_without names before next other = one_more names before next ∙ append-nil (places_from names 1 before)

cond-append : (t : Bool) (edit : Edit) (a b : List Edit) → cond t (edit ∷ (a ++ b)) (a ++ b) ≡ cond t (edit ∷ a) a ++ b
cond-append true edit a b = refl
cond-append false edit a b = refl

module _ {M : Type 0} where
  map-append-places : (js ks : Journals M) → map place_of (js ++ ks) ≡ map place_of js ++ map place_of ks
  map-append-places [] ks = refl
  map-append-places (of ∷ js) ks = ap (λ (ps : List (ℕ × ℕ)). place_of of ∷ ps) (map-append-places js ks)

  places_of_block : (block replica : ℕ) (names : List Ident) (more : List (Entries M)) → length more ≡ length names → map place_of (block_journals block replica more) ≡ pairs_from block replica names
  places_of_block block replica [] [] all = refl
  places_of_block block replica [] (entries ∷ more) all = absurd (omega arith)
  places_of_block block replica (name ∷ names) [] all = absurd (omega arith)
  places_of_block block replica (name ∷ names) (entries ∷ more) all =
      ap (λ (ps : List (ℕ × ℕ)). (block, replica) ∷ ps) (places_of_block block (replica + 1) names more (omega arith))

  -- a block has one place for each replica
  pub places_with : (names : List Ident) (before : List Item) (block : Block) (js : Journals M) (more : List (Entries M)) → map place_of js ≡ places_from names 1 before → length more ≡ length names
      → map place_of (js ++ block_journals (next_block before) 1 more) ≡ places_from names 1 (before ++ item.Block block ∷ [])
  places_with names before block js more are all =
      map-append-places js (block_journals (next_block before) 1 more)
      ∙ ap (λ (ps : List (ℕ × ℕ)). ps ++ map place_of (block_journals (next_block before) 1 more)) are
      ∙ ap (λ (ps : List (ℕ × ℕ)). places_from names 1 before ++ ps) (places_of_block (next_block before) 1 names more all ∙ sym (append-nil (pairs_from (next_block before) 1 names)))
      ∙ sym (one_more names before (item.Block block))

  -- the journals so far are of the blocks so far
  pub earlier_blocks : (names : List Ident) (before : List Item) (js : Journals M) → map place_of js ≡ places_from names 1 before → AllByRecursion (λ of. of.block < next_block before) js
  earlier_blocks names before js are =
      of_map js (subst (AllByRecursion (λ (p : ℕ × ℕ). p.0 < next_block before)) (sym are) (places_below names 1 (next_block before) before (omega arith))) where
        of_map : (of : Journals M) → AllByRecursion (λ (p : ℕ × ℕ). p.0 < next_block before) (map place_of of) → AllByRecursion (λ one. one.block < next_block before) of
        of_map [] all = tt
        of_map (one ∷ of) all = (all.0, of_map of all.1)

  -- ---- what a replica took

  taken_from-append : (js : Journals M) (replica start : ℕ) (xs ys : List Item) → taken_from js replica start (xs ++ ys) ≡ taken_from js replica start xs ++ taken_from js replica (start + blocks xs) ys
  taken_from-append js replica start [] ys = let here : start ≡ start + 0 = omega arith in ap (λ n. taken_from js replica n ys) here
  taken_from-append js replica start (item.Load number edit ∷ xs) ys =
      let count = blocks-cons (item.Load number edit) xs in
      let there : start + blocks xs ≡ start + blocks (item.Load number edit ∷ xs) = omega arith in
      ap (λ (es : List Edit). cond (number == replica) (edit ∷ es) es)
      (taken_from-append js replica start xs ys ∙ ap (λ n. taken_from js replica start xs ++ taken_from js replica n ys) there)
      ∙ cond-append (number == replica) edit (taken_from js replica start xs) (taken_from js replica (start + blocks (item.Load number edit ∷ xs)) ys)
  taken_from-append js replica start (item.Block block ∷ xs) ys =
      let count = blocks-cons (item.Block block) xs in
      let there : (start + 1) + blocks xs ≡ start + blocks (item.Block block ∷ xs) = omega arith in
      let own : List Edit = edits_of (entries_at js start (replica + 1)) in
      ap (λ (es : List Edit). own ++ es)
      (taken_from-append js replica (start + 1) xs ys ∙ ap (λ n. taken_from js replica (start + 1) xs ++ taken_from js replica n ys) there)
      ∙ sym (append_assoc own (taken_from js replica (start + 1) xs) (taken_from js replica (start + blocks (item.Block block ∷ xs)) ys))
  taken_from-append js replica start (other ∷ xs) ys =
      let count = blocks-cons other xs in
      let there : start + blocks xs ≡ start + blocks (other ∷ xs) = omega arith in
      taken_from-append js replica start xs ys ∙ ap (λ n. taken_from js replica start xs ++ taken_from js replica n ys) there

  taken_more : (js : Journals M) (replica : ℕ) (before : List Item) (next : Item) → taken js replica (before ++ next ∷ []) ≡ taken js replica before ++ taken_from js replica (next_block before) (next ∷ [])
  taken_more js replica before next =
      let number : 1 + blocks before ≡ next_block before = omega arith in
      taken_from-append js replica 1 before (next ∷ []) ∙ ap (λ n. taken js replica before ++ taken_from js replica n (next ∷ [])) number

  -- a load is taken by its replica alone
  pub taken_load : (js : Journals M) (replica number : ℕ) (before : List Item) (edit : Edit)
      → taken js replica (before ++ item.Load number edit ∷ []) ≡ taken js replica before ++ cond (number == replica) (edit ∷ []) []
  taken_load js replica number before edit = taken_more js replica before (item.Load number edit)

  pub taken_block : (js : Journals M) (replica : ℕ) (before : List Item) (block : Block)
      → taken js replica (before ++ item.Block block ∷ []) ≡ taken js replica before ++ edits_of (entries_at js (next_block before) (replica + 1))
  taken_block js replica before block =
      taken_more js replica before (item.Block block)
      ∙ ap (λ (es : List Edit). taken js replica before ++ es) (append-nil (edits_of (entries_at js (next_block before) (replica + 1))))

  -- another item is taken by none
  pub taken_other : (js : Journals M) (replica : ℕ) (before : List Item) (next : Item) → taken_from js replica (next_block before) (next ∷ []) ≡ []
      → taken js replica (before ++ next ∷ []) ≡ taken js replica before
  taken_other js replica before next none =
      taken_more js replica before next ∙ ap (λ (es : List Edit). taken js replica before ++ es) none ∙ append-nil (taken js replica before)

  -- ---- what is written

  texts_more : (names : List Ident) (js : Journals M) (before items : List Item) (next : Item) (text mine : List ℕ) → AreItemTexts names js before items text
      → IsItemText names js (before ++ items) next mine → AreItemTexts names js before (items ++ next ∷ []) (text ++ mine)
  texts_more names js before [] next text mine are is =
      (mine, [], subst (λ (b : List Item). IsItemText names js b next mine) (append-nil before) is, refl, ap (λ (t : List ℕ). t ++ mine) are ∙ sym (append-nil mine))
  texts_more names js before (x ∷ items) next text mine are is =
      let rest = texts_more names js (before ++ x ∷ []) items next are.1 mine are.3 (subst (λ (b : List Item). IsItemText names js b next mine) (sym (append_assoc before (x ∷ []) items)) is) in
      (are.0, are.1 ++ mine, are.2, rest, ap (λ (t : List ℕ). t ++ mine) are.4 ∙ append_assoc are.0 are.1 mine)

  pub report_more : (names : List Ident) (js : Journals M) (before : List Item) (next : Item) (text mine : List ℕ) → AreItemTexts names js [] before text
      → IsItemText names js before next mine → AreItemTexts names js [] (before ++ next ∷ []) (text ++ mine)
  report_more names js before next text mine = texts_more names js [] before next text mine

-- ---- a list that ends with an item

-- a part of it stands at its end, or before
pub at_end_or_before : {A : Type 0} (items : List A) (last : A) (before : List A) (x : A) (after : List A) → items ++ last ∷ [] ≡ before ++ x ∷ after
    → ((last ≡ x) × (items ≡ before)) ⊎ ((rest : List A) × (items ≡ before ++ x ∷ rest))
at_end_or_before [] last [] x after is = inl (cc, refl)
at_end_or_before [] last (y ∷ before) x after is = absurd (omega (arith, ap length is, length-append before (x ∷ after)))
at_end_or_before (i ∷ items) last [] x after is = let same : i ≡ x = cc in inr (items, ap (λ y. y ∷ items) same)
at_end_or_before {A = A} (i ∷ items) last (y ∷ before) x after is =
    let same : i ≡ y = cc in
    let rest : items ++ last ∷ [] ≡ before ++ x ∷ after = cc in
    with_first (at_end_or_before items last before x after rest) same where
      with_first : ((last ≡ x) × (items ≡ before)) ⊎ ((rest : List A) × (items ≡ before ++ x ∷ rest)) → i ≡ y
          → ((last ≡ x) × (i ∷ items ≡ y ∷ before)) ⊎ ((rest : List A) × (i ∷ items ≡ (y ∷ before) ++ x ∷ rest))
      with_first (inl end) same = inl (end.0, ap (λ z. z ∷ items) same ∙ ap (λ zs. y ∷ zs) end.1)
      with_first (inr earlier) same = inr (earlier.0, ap (λ z. z ∷ items) same ∙ ap (λ zs. y ∷ zs) earlier.1)
