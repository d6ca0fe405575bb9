-- Where things stand in a list in which nothing stands twice.
use Rattle.std.proofs.Common.{◌≡◌, ℕ, Bool, true, false, cond, List, [], ◌∷◌, ◌++◌, length, get_or, slice_get, Some, None, is_some, refl, sym, ap, ◌∙◌, arith}
use Rattle.std.specs.Prelude.{nat_lt, Option}
use Rattle.std.specs.List.{IsDistinct, position, position_or_len}
use Rattle.std.proofs.lemmas.Bool.Decides.{Decides-ltb}
use Rattle.std.proofs.lemmas.List.{get_or_push, length_push}
use Rattle.std.proofs.lemmas.List.Quantifiers.{position-Some}
use Rattle.std.proofs.lemmas.List.Sums.{position_or_len_is}
use Rattle.std.proofs.lemmas.Option.{slice_get_within, slice_get-get_or, get_or_from_slice_get}
use Rattle.std.proofs.lemmas.Map.Keys.{apart_from_distinct}

module _ {X : Type 0} (eq : X → X → Bool) (itself : (x : X) → eq x x ≡ true) (exact : (x y : X) → eq x y ≡ true → x ≡ y) where
  -- what is found at an index stands there
  pub place_found : (xs : List X) (x : X) (i : ℕ) → position (eq x) xs ≡ Some i → slice_get xs i ≡ Some x
  place_found xs x i is =
      let found = position-Some (eq x) xs i x is in
      slice_get-get_or xs i x found.0 ∙ ap Some (sym (exact x (get_or xs i x) found.1))

  turned : (x y : X) → eq x y ≡ false → eq y x ≡ false
  turned x y differ = by_test (eq y x) refl where
    by_test : (b : Bool) → eq y x ≡ b → b ≡ false
    by_test true same =
        let again : eq x y ≡ true = ap (eq x) (exact y x same) ∙ itself x in
        absurd cc
    by_test false other = refl

  -- what stands at an index is found there
  pub place_only : (xs : List X) (x : X) (i : ℕ) → IsDistinct eq xs → slice_get xs i ≡ Some x → position (eq x) xs ≡ Some i
  place_only xs x i once at =
      let within = slice_get_within xs i x at in
      let is : get_or xs i x ≡ x = get_or_from_slice_get xs i x x at in
      let first : position_or_len (eq x) xs ≡ i = position_or_len_is (eq x) xs i x (omega (arith, within))
      (λ k before. ap (λ y. eq y (get_or xs k x)) (sym is) ∙ turned (get_or xs k x) (get_or xs i x) (apart_from_distinct eq xs k i x once before within))
      (λ _. ap (eq x) is ∙ itself x) in
      ap (λ n. cond (nat_lt n (length xs)) (Some n) None) first ∙ ap (λ b. cond b (Some i) None) ((Decides-ltb i (length xs)).1 within)

-- the last of a list stands behind the others
pub stands_last : {X : Type 0} (xs : List X) (x : X) → slice_get (xs ++ x ∷ []) (length xs) ≡ Some x
stands_last xs x = slice_get-get_or (xs ++ x ∷ []) (length xs) x (omega (arith, length_push xs x)) ∙ ap Some (get_or_push xs x x (length xs) refl)

pub none_from : {X : Type 0} (o : Option X) → is_some o ≡ false → o ≡ None
none_from None is = refl
none_from (Some x) is = absurd cc
