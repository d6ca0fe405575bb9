-- Numbers in blocks that are packed: where each stands, and what they are with one more and with one fewer.
use Rattle.std.proofs.Common.{◌≡◌, ℕ, zero, suc, ◌+◌, ◌-◌, ◌*◌, ◌<◌, ◌≤◌, ◌⊎◌, inl, inr, List, [], ◌∷◌, ◌++◌, length, set, get_or, refl, sym, ap, ◌∙◌, arith}
use Rattle.std.specs.Prelude.{insert, remove}
use Rattle.std.specs.List.{concat}
use Rattle.std.proofs.lemmas.Bool.{cases_lt}
use Rattle.std.proofs.lemmas.List.{length-append, append_assoc, get_or_append_left, get_or-append_right}
use Rattle.std.proofs.lemmas.List.Edits.{insert-append_left, insert-append_right, remove-append_left, remove-append_right}
use Rattle.edge_lists.specs.Blocks.{IsPacked, HasGap}

module _ (most : ℕ) where
  -- a block behind which there is a place for a number is full
  pub full : (c : List ℕ) (cs : List (List ℕ)) → IsPacked most (c ∷ cs) → (k : ℕ) → most + k ≤ length (concat (c ∷ cs)) → length c ≡ most
  full c cs packed k reaches = by_length (cases_lt (length c) most) where
    by_length : (length c < most) ⊎ (most ≤ length c) → length c ≡ most
    by_length (inl short) =
        let none = ap length (packed.1 short) in
        let whole = length-append c (concat cs) in
        absurd (omega (arith, short, reaches, none, whole))
    by_length (inr long) = let within = packed.0 in omega (arith, long, within)

  -- what is left of a place behind a full block
  further : (c : List ℕ) (cs : List (List ℕ)) → length c ≡ most → (k : ℕ) → most + k ≤ length (concat (c ∷ cs)) → k ≤ length (concat cs)
  further c cs is k reaches = let whole = length-append c (concat cs) in omega (arith, is, reaches, whole)

  pub at_first : (place : ℕ) → 0 * most + place ≡ place
  at_first place = omega arith

  -- no block has more than the most
  pub length-packed : (bs : List (List ℕ)) → IsPacked most bs → length (concat bs) ≤ most * length bs
  length-packed [] packed = omega arith
  length-packed (c ∷ cs) packed =
      let rest = length-packed cs packed.2 in
      let whole = length-append c (concat cs) in
      let first = packed.0 in
      omega (arith, rest, whole, first)

  -- an index within the places of all blocks is within those of its own block
  pub within : (bs : List (List ℕ)) → IsPacked most bs → (at place : ℕ) → at < length bs → place < most → at * most + place ≤ length (concat bs) → place ≤ length (get_or bs at [])
  within [] packed at place lt inside reaches = absurd (omega arith)
  within (c ∷ cs) packed zero place lt inside reaches = by_length (cases_lt (length c) most) where
    by_length : (length c < most) ⊎ (most ≤ length c) → place ≤ length c
    by_length (inl short) =
        let none = ap length (packed.1 short) in
        let whole = length-append c (concat cs) in
        omega (arith, reaches, none, whole)
    by_length (inr long) = omega (arith, long, inside)
  within (c ∷ cs) packed (suc at) place lt inside reaches =
      let is = full c cs packed (at * most + place) (omega (arith, reaches)) in
      within cs packed.2 at place (omega (arith, lt)) inside (further c cs is (at * most + place) (omega (arith, reaches)))

  pub strictly_within : (bs : List (List ℕ)) → IsPacked most bs → (at place : ℕ) → at < length bs → place < most → at * most + place < length (concat bs) → place < length (get_or bs at [])
  strictly_within [] packed at place lt inside reaches = absurd (omega arith)
  strictly_within (c ∷ cs) packed zero place lt inside reaches = by_length (cases_lt (length c) most) where
    by_length : (length c < most) ⊎ (most ≤ length c) → place < length c
    by_length (inl short) =
        let none = ap length (packed.1 short) in
        let whole = length-append c (concat cs) in
        omega (arith, reaches, none, whole)
    by_length (inr long) = omega (arith, long, inside)
  strictly_within (c ∷ cs) packed (suc at) place lt inside reaches =
      let is = full c cs packed (at * most + place) (omega (arith, reaches)) in
      let whole = length-append c (concat cs) in
      strictly_within cs packed.2 at place (omega (arith, lt)) inside (omega (arith, reaches, is, whole))

  pub get_or-concat : (bs : List (List ℕ)) → IsPacked most bs → (at place d : ℕ) → at < length bs → place < most → at * most + place < length (concat bs)
      → get_or (concat bs) (at * most + place) d ≡ get_or (get_or bs at []) place d
  get_or-concat [] packed at place d lt inside reaches = absurd (omega arith)
  get_or-concat (c ∷ cs) packed zero place d lt inside reaches =
      ap (λ i. get_or (c ++ concat cs) i d) (at_first place) ∙ get_or_append_left c (concat cs) d place (strictly_within (c ∷ cs) packed 0 place lt inside reaches)
  get_or-concat (c ∷ cs) packed (suc at) place d lt inside reaches =
      let is = full c cs packed (at * most + place) (omega (arith, reaches)) in
      let whole = length-append c (concat cs) in
      let rest : suc at * most + place - most ≡ at * most + place = omega arith in
      get_or-append_right c (concat cs) most (suc at * most + place) d is (omega arith)
      ∙ ap (λ i. get_or (concat cs) i d) rest
      ∙ get_or-concat cs packed.2 at place d (omega (arith, lt)) inside (omega (arith, reaches, is, whole))

  -- ---- one more

  pub insert-concat : (bs : List (List ℕ)) → IsPacked most bs → (at place x : ℕ) → at < length bs → place < most → at * most + place ≤ length (concat bs)
      → insert (concat bs) (at * most + place) x ≡ concat (set bs at (insert (get_or bs at []) place x))
  insert-concat [] packed at place x lt inside reaches = absurd (omega arith)
  insert-concat (c ∷ cs) packed zero place x lt inside reaches =
      ap (λ i. insert (c ++ concat cs) i x) (at_first place) ∙ insert-append_left c (concat cs) place x (within (c ∷ cs) packed 0 place lt inside reaches)
  insert-concat (c ∷ cs) packed (suc at) place x lt inside reaches =
      let is = full c cs packed (at * most + place) (omega (arith, reaches)) in
      let rest : suc at * most + place - most ≡ at * most + place = omega arith in
      insert-append_right c (concat cs) most (suc at * most + place) x is (omega arith)
      ∙ ap (λ i. c ++ insert (concat cs) i x) rest
      ∙ ap (λ zs. c ++ zs) (insert-concat cs packed.2 at place x (omega (arith, lt)) inside (further c cs is (at * most + place) (omega (arith, reaches))))

  -- what a full block has no place for stands before the next block
  pub concat-displaced : (bs : List (List ℕ)) → IsPacked most bs → (at place y : ℕ) (zs : List ℕ) → at < length bs → at * most + place ≤ length (concat bs) → length zs ≡ most
      → concat (set bs at (zs ++ y ∷ [])) ≡ insert (concat (set bs at zs)) (suc at * most) y
  concat-displaced [] packed at place y zs lt reaches long = absurd (omega arith)
  concat-displaced (c ∷ cs) packed zero place y zs lt reaches long =
      let none : 1 * most - most ≡ 0 = omega arith in
      append_assoc zs (y ∷ []) (concat cs)
      ∙ sym (ap (λ i. zs ++ insert (concat cs) i y) none)
      ∙ sym (insert-append_right zs (concat cs) most (1 * most) y long (omega arith))
  concat-displaced (c ∷ cs) packed (suc at) place y zs lt reaches long =
      let is = full c cs packed (at * most + place) (omega (arith, reaches)) in
      let rest : suc (suc at) * most - most ≡ suc at * most = omega arith in
      ap (λ ws. c ++ ws) (concat-displaced cs packed.2 at place y zs (omega (arith, lt)) (further c cs is (at * most + place) (omega (arith, reaches))) long)
      ∙ sym (ap (λ i. c ++ insert (concat (set cs at zs)) i y) rest)
      ∙ sym (insert-append_right c (concat (set cs at zs)) most (suc (suc at) * most) y is (omega arith))

  -- behind a full block a number has a place
  pub reaches-next : (bs : List (List ℕ)) → IsPacked most bs → (at place : ℕ) → at < length bs → at * most + place ≤ length (concat bs) → length (get_or bs at []) ≡ most → suc at * most ≤ length (concat bs)
  reaches-next [] packed at place lt reaches long = absurd (omega arith)
  reaches-next (c ∷ cs) packed zero place lt reaches long = let whole = length-append c (concat cs) in omega (arith, whole, long)
  reaches-next (c ∷ cs) packed (suc at) place lt reaches long =
      let is = full c cs packed (at * most + place) (omega (arith, reaches)) in
      let rest = reaches-next cs packed.2 at place (omega (arith, lt)) (further c cs is (at * most + place) (omega (arith, reaches))) long in
      let whole = length-append c (concat cs) in
      omega (arith, is, rest, whole)

  pub packed-displaced : (bs : List (List ℕ)) → IsPacked most bs → (at place : ℕ) (zs : List ℕ) → at < length bs → at * most + place ≤ length (concat bs) → length (get_or bs at []) ≡ most → length zs ≡ most → IsPacked most (set bs at zs)
  packed-displaced [] packed at place zs lt reaches was long = absurd (omega arith)
  packed-displaced (c ∷ cs) packed zero place zs lt reaches was long = (omega (arith, long), (λ short. absurd (omega (arith, short, long))), packed.2)
  packed-displaced (c ∷ cs) packed (suc at) place zs lt reaches was long =
      let is = full c cs packed (at * most + place) (omega (arith, reaches)) in
      (packed.0, (λ short. absurd (omega (arith, short, is))), packed-displaced cs packed.2 at place zs (omega (arith, lt)) (further c cs is (at * most + place) (omega (arith, reaches))) was long)

  pub packed-inserted : (bs : List (List ℕ)) → IsPacked most bs → (at place : ℕ) (zs : List ℕ) → at < length bs → at * most + place ≤ length (concat bs) → length (get_or bs at []) < most → length zs ≡ length (get_or bs at []) + 1 → IsPacked most (set bs at zs)
  packed-inserted [] packed at place zs lt reaches was long = absurd (omega arith)
  packed-inserted (c ∷ cs) packed zero place zs lt reaches was long = (omega (arith, was, long), (λ short. packed.1 was), packed.2)
  packed-inserted (c ∷ cs) packed (suc at) place zs lt reaches was long =
      let is = full c cs packed (at * most + place) (omega (arith, reaches)) in
      (packed.0, (λ short. absurd (omega (arith, short, is))), packed-inserted cs packed.2 at place zs (omega (arith, lt)) (further c cs is (at * most + place) (omega (arith, reaches))) was long)

  pub length-displaced : (bs : List (List ℕ)) (at : ℕ) (zs : List ℕ) → at < length bs → length zs ≡ length (get_or bs at []) → length (concat (set bs at zs)) ≡ length (concat bs)
  length-displaced [] at zs lt same = absurd (omega arith)
  length-displaced (c ∷ cs) zero zs lt same =
      let before = length-append c (concat cs) in
      let after = length-append zs (concat cs) in
      omega (arith, same, before, after)
  length-displaced (c ∷ cs) (suc at) zs lt same =
      let rest = length-displaced cs at zs (omega (arith, lt)) same in
      let before = length-append c (concat cs) in
      let after = length-append c (concat (set cs at zs)) in
      omega (arith, rest, before, after)

-- ---- one block more

pub concat-more : (bs : List (List ℕ)) → concat (bs ++ [] ∷ []) ≡ concat bs
concat-more [] = refl
concat-more (c ∷ cs) = ap (λ zs. c ++ zs) (concat-more cs)

pub packed-more : (most : ℕ) (bs : List (List ℕ)) → IsPacked most bs → IsPacked most (bs ++ [] ∷ [])
packed-more most [] packed = (omega arith, (λ _. refl), tt)
packed-more most (c ∷ cs) packed = (packed.0, (λ short. concat-more cs ∙ packed.1 short), packed-more most cs packed.2)

-- ---- one fewer

module _ (most : ℕ) where
  pub remove-concat : (bs : List (List ℕ)) → IsPacked most bs → (at place : ℕ) → at < length bs → place < most → at * most + place < length (concat bs)
      → concat (set bs at (remove (get_or bs at []) place)) ≡ remove (concat bs) (at * most + place)
  remove-concat [] packed at place lt inside reaches = absurd (omega arith)
  remove-concat (c ∷ cs) packed zero place lt inside reaches =
      sym (remove-append_left c (concat cs) place (strictly_within most (c ∷ cs) packed 0 place lt inside reaches))
      ∙ sym (ap (λ i. remove (c ++ concat cs) i) (at_first most place))
  remove-concat (c ∷ cs) packed (suc at) place lt inside reaches =
      let is = full most c cs packed (at * most + place) (omega (arith, reaches)) in
      let whole = length-append c (concat cs) in
      let rest : suc at * most + place - most ≡ at * most + place = omega arith in
      ap (λ zs. c ++ zs) (remove-concat cs packed.2 at place (omega (arith, lt)) inside (omega (arith, reaches, is, whole)))
      ∙ sym (ap (λ i. c ++ remove (concat cs) i) rest)
      ∙ sym (remove-append_right c (concat cs) most (suc at * most + place) is (omega arith))

  pub gap-removed : (bs : List (List ℕ)) → IsPacked most bs → (at place : ℕ) (zs : List ℕ) → at < length bs → at * most + place ≤ length (concat bs) → length zs + 1 ≡ length (get_or bs at []) → HasGap most at (set bs at zs)
  gap-removed [] packed at place zs lt reaches was = absurd (omega arith)
  gap-removed (c ∷ cs) packed zero place zs lt reaches was =
      let first = packed.0 in
      (omega (arith, was, first), (λ short. packed.1 (omega (arith, was, short))), packed.2)
  gap-removed (c ∷ cs) packed (suc at) place zs lt reaches was =
      let is = full most c cs packed (at * most + place) (omega (arith, reaches)) in
      (is, gap-removed cs packed.2 at place zs (omega (arith, lt)) (further most c cs is (at * most + place) (omega (arith, reaches))) was)

  pub gap-short : (bs : List (List ℕ)) (at : ℕ) → HasGap most at bs → at < length bs → suc at < length bs → suc (length (get_or bs at [])) ≤ most
  gap-short [] at gap lt next = absurd (omega arith)
  gap-short (c ∷ cs) zero gap lt next = gap.0
  gap-short (c ∷ cs) (suc at) gap lt next = gap-short cs at gap.1 (omega (arith, lt)) (omega (arith, next))

  -- the first number of the next block fills the gap, and leaves one there
  pub concat-moved : (bs : List (List ℕ)) (at y : ℕ) (ys : List ℕ) → suc at < length bs → get_or bs (suc at) [] ≡ y ∷ ys
      → concat (set (set bs (suc at) ys) at (get_or bs at [] ++ y ∷ [])) ≡ concat bs
  concat-moved [] at y ys lt is = absurd (omega arith)
  concat-moved (c ∷ []) at y ys lt is = absurd (omega arith)
  concat-moved (c ∷ d ∷ ds) zero y ys lt is =
      append_assoc c (y ∷ []) (ys ++ concat ds) ∙ ap (λ zs. c ++ (zs ++ concat ds)) (sym is)
  concat-moved (c ∷ d ∷ ds) (suc at) y ys lt is = ap (λ zs. c ++ zs) (concat-moved (d ∷ ds) at y ys (omega (arith, lt)) is)

  pub gap-moved : (bs : List (List ℕ)) (at y : ℕ) (ys : List ℕ) → HasGap most at bs → suc at < length bs → get_or bs (suc at) [] ≡ y ∷ ys
      → HasGap most (suc at) (set (set bs (suc at) ys) at (get_or bs at [] ++ y ∷ []))
  gap-moved [] at y ys gap lt is = absurd (omega arith)
  gap-moved (c ∷ []) at y ys gap lt is = absurd (omega arith)
  gap-moved (c ∷ d ∷ ds) zero y ys gap lt is = (by_length (cases_lt (suc (length c)) most), (omega (arith, first, long), (λ short. gap.2.1 (omega (arith, long, short))), gap.2.2)) where
    long : length d ≡ suc (length ys)
    long = ap length is

    first : length d ≤ most
    first = gap.2.0

    here : length (c ++ y ∷ []) ≡ length c + 1
    here = length-append c (y ∷ [])

    by_length : (suc (length c) < most) ⊎ (most ≤ suc (length c)) → length (c ++ y ∷ []) ≡ most
    by_length (inl short) =
        let none = ap length (gap.1 short) in
        let whole = length-append d (concat ds) in
        absurd (omega (arith, none, whole, long))
    by_length (inr reaches) = let most_here = gap.0 in omega (arith, reaches, most_here, here)
  gap-moved (c ∷ d ∷ ds) (suc at) y ys gap lt is = (gap.0, gap-moved (d ∷ ds) at y ys gap.1 (omega (arith, lt)) is)

  -- where nothing stands in the next block, the gap is at the end
  pub packed-gap : (bs : List (List ℕ)) (at : ℕ) → 0 < most → HasGap most at bs → (suc at < length bs → get_or bs (suc at) [] ≡ []) → IsPacked most bs
  packed-gap [] at some gap none = tt
  packed-gap (c ∷ []) zero some gap none = let short = gap.0 in (omega (arith, short), (λ _. refl), tt)
  packed-gap (c ∷ d ∷ ds) zero some gap none =
      let empty = none (omega arith) in
      let short = gap.0 in
      let long = ap length empty in
      (omega (arith, short), (λ _. ap (λ zs. zs ++ concat ds) empty ∙ gap.2.1 (omega (arith, long, some))), gap.2)
  packed-gap (c ∷ cs) (suc at) some gap none =
      let long = gap.0 in
      (omega (arith, long), (λ short. absurd (omega (arith, long, short))), packed-gap cs at some gap.1 (λ lt. none (omega (arith, lt))))
