-- The steps of a number that is put among packed blocks, and of one that is taken out, at the block that an index reads.
use Rattle.std.proofs.Common.{◌≡◌, ℕ, suc, ◌+◌, ◌*◌, ◌<◌, ◌≤◌, true, false, ◌⊎◌, inl, inr, List, [], ◌∷◌, ◌++◌, length, set, get_or, refl, sym, ap, subst, ◌∙◌, arith}
use Rattle.std.specs.Prelude.{◌==◌, insert, remove}
use Rattle.std.specs.List.{concat}
use Rattle.std.proofs.lemmas.Bool.{eqb-true, eq-eqb, cases_lt}
use Rattle.std.proofs.lemmas.List.{get_or-set_other}
use Rattle.std.proofs.lemmas.List.Edits.{length-insert}
use Rattle.edge_lists.specs.Blocks.{IsPacked, HasGap}
use Rattle.edge_lists.proofs.Packed.{within, strictly_within, insert-concat, concat-displaced, reaches-next, packed-displaced, packed-inserted, length-displaced, remove-concat, gap-removed, gap-short, concat-moved, gap-moved}

module _ (most : ℕ) (bs : List (List ℕ)) (packed : IsPacked most bs) (at place : ℕ) (old : List ℕ) (is : old ≡ get_or bs at []) (lt : at < length bs) (inside : place < most) where
  -- ---- in a full block

  module _ (reaches : at * most + place ≤ length (concat bs)) (x y : ℕ) (new : List ℕ) (long : length old ≡ most) (gives : new ++ y ∷ [] ≡ insert old place x) (stays : length new ≡ most) where
    was : length (get_or bs at []) ≡ most
    was = sym (ap length is) ∙ long

    pub packed-step : IsPacked most (set bs at new)
    packed-step = packed-displaced most bs packed at place new lt reaches was stays

    pub size-step : length (concat (set bs at new)) ≡ length (concat bs)
    size-step = length-displaced most bs at new lt (stays ∙ sym was)

    pub within-step : (at + 1) * most + 0 ≤ length (concat (set bs at new))
    within-step =
        let next = reaches-next most bs packed at place lt reaches was in
        let same = size-step in
        omega (arith, next, same)

    pub wanted-step : insert (concat (set bs at new)) ((at + 1) * most + 0) y ≡ insert (concat bs) (at * most + place) x
    wanted-step =
        let index : (at + 1) * most + 0 ≡ suc at * most = omega arith in
        ap (λ i. insert (concat (set bs at new)) i y) index
        ∙ sym (concat-displaced most bs packed at place y new lt reaches stays)
        ∙ ap (λ zs. concat (set bs at zs)) (gives ∙ ap (λ zs. insert zs place x) is)
        ∙ sym (insert-concat most bs packed at place x lt inside reaches)

  -- ---- in the last block

  module _ (reaches : at * most + place ≤ length (concat bs)) where
    pub place-within : place ≤ length old
    place-within = subst (λ zs. place ≤ length zs) (sym is) (within most bs packed at place lt inside reaches)

    module _ (x : ℕ) (new : List ℕ) (gives : new ≡ insert old place x) where
      pub numbers-inserted : concat (set bs at new) ≡ insert (concat bs) (at * most + place) x
      numbers-inserted = ap (λ zs. concat (set bs at zs)) (gives ∙ ap (λ zs. insert zs place x) is) ∙ sym (insert-concat most bs packed at place x lt inside reaches)

      pub packed-put : length old < most → IsPacked most (set bs at new)
      packed-put short =
          let same = ap length is in
          let longer : length new ≡ length old + 1 = ap length gives ∙ length-insert old place x place-within in
          packed-inserted most bs packed at place new lt reaches (omega (arith, short, same)) (omega (arith, longer, same))

  -- ---- one fewer

  module _ (reaches : at * most + place < length (concat bs)) where
    pub place-below : place < length old
    place-below = subst (λ zs. place < length zs) (sym is) (strictly_within most bs packed at place lt inside reaches)

    module _ (new : List ℕ) (gives : new ≡ remove old place) (fewer : length new + 1 ≡ length old) where
      pub numbers-removed : concat (set bs at new) ≡ remove (concat bs) (at * most + place)
      numbers-removed = ap (λ zs. concat (set bs at zs)) (gives ∙ ap (λ zs. remove zs place) is) ∙ remove-concat most bs packed at place lt inside reaches

      pub gap-left : HasGap most at (set bs at new)
      gap-left =
          let same = ap length is in
          gap-removed most bs packed at place new lt (omega (arith, reaches)) (omega (arith, fewer, same))

-- ---- the first number of the next block fills the gap of one

module _ (most : ℕ) (bs : List (List ℕ)) (at : ℕ) (gap : HasGap most at bs) (y : ℕ) (ys : List ℕ) where
  module _ (next : ℕ) (follows : next ≡ suc at) (lt : next < length bs) (is : get_or bs next [] ≡ y ∷ ys) where
    still : get_or (set bs next ys) at [] ≡ get_or bs at []
    still = get_or-set_other bs next at ys [] (omega (arith, follows))

    module _ (old : List ℕ) (was : old ≡ get_or (set bs next ys) at []) where
      old_is : old ≡ get_or bs at []
      old_is = was ∙ still

      pub old-short : length old < most
      old-short =
          let same = ap length old_is in
          let short = gap-short most bs at gap (omega (arith, follows, lt)) (omega (arith, follows, lt)) in
          omega (arith, same, short)

      module _ (new : List ℕ) (gives : new ≡ old ++ y ∷ []) where
        new_is : new ≡ get_or bs at [] ++ y ∷ []
        new_is = gives ∙ ap (λ zs. zs ++ y ∷ []) old_is

        pub numbers-moved : concat (set (set bs next ys) at new) ≡ concat bs
        numbers-moved =
            ap (λ zs. concat (set (set bs next ys) at zs)) new_is
            ∙ ap (λ k. concat (set (set bs k ys) at (get_or bs at [] ++ y ∷ []))) follows
            ∙ concat-moved most bs at y ys (subst (λ k. k < length bs) follows lt) (sym (ap (λ k. get_or bs k []) follows) ∙ is)

        pub gap-stays : HasGap most next (set (set bs next ys) at new)
        gap-stays =
            subst (λ zs. HasGap most next (set (set bs next ys) at zs)) (sym new_is)
            (subst (λ k. HasGap most k (set (set bs k ys) at (get_or bs at [] ++ y ∷ []))) (sym follows)
            (gap-moved most bs at y ys gap (subst (λ k. k < length bs) follows lt) (sym (ap (λ k. get_or bs k []) follows) ∙ is)))

-- ---- tests

pub not_full : (n m : ℕ) → (n == m) ≡ false → n ≤ m → n < m
not_full n m other most = by_order (cases_lt n m) where
  by_order : (n < m) ⊎ (m ≤ n) → n < m
  by_order (inl lt) = lt
  by_order (inr ge) = let same : (n == m) ≡ true = eq-eqb n m (omega (arith, most, ge)) in absurd cc

pub nothing_long : (xs : List ℕ) → (length xs == 0) ≡ true → xs ≡ []
nothing_long [] is = refl
nothing_long (x ∷ xs) is = let none = eqb-true (suc (length xs)) 0 is in absurd (omega (arith, none))
