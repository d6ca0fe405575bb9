-- What goes over two lists at once, as long as both have items.
use Rattle.std.proofs.Common.{◌≡◌, ◌⊎◌, inl, inr, ℕ, List, [], ◌∷◌, ◌++◌, refl, sym, ap, ◌∙◌, append_assoc, append-nil}
use Rattle.std.specs.List.{flat_map, zip}

pub zip_cons : {A B : Type 0} (xs more : List A) (ys others : List B) (x : A) (y : B) → xs ≡ x ∷ more → ys ≡ y ∷ others → zip xs ys ≡ (x, y) ∷ zip more others
zip_cons xs more ys others x y first second = ap (λ zs. zip zs ys) first ∙ ap (λ zs. zip (x ∷ more) zs) second

pub zip_none : {A B : Type 0} (xs : List A) (ys : List B) → (xs ≡ []) ⊎ (ys ≡ []) → zip xs ys ≡ []
zip_none [] ys none = refl
zip_none (x ∷ xs) [] none = refl
zip_none (x ∷ xs) (y ∷ ys) (inl none) = absurd cc
zip_none (x ∷ xs) (y ∷ ys) (inr none) = absurd cc

module _ {A B : Type 0} (f : A × B → List ℕ) where
  -- a pair more is written, before those that are left
  pub written_more : (xs more : List A) (ys others : List B) (x : A) (y : B) (old new whole : List ℕ) → xs ≡ x ∷ more → ys ≡ y ∷ others
      → old ++ flat_map f (zip xs ys) ≡ whole → new ≡ old ++ f (x, y) → new ++ flat_map f (zip more others) ≡ whole
  written_more xs more ys others x y old new whole first second before is =
      ap (λ t. t ++ flat_map f (zip more others)) is ∙ append_assoc old (f (x, y)) (flat_map f (zip more others))
      ∙ ap (λ zs. old ++ flat_map f zs) (sym (zip_cons xs more ys others x y first second)) ∙ before

  -- none are left
  pub all_written : (xs : List A) (ys : List B) (text whole : List ℕ) → (xs ≡ []) ⊎ (ys ≡ []) → text ++ flat_map f (zip xs ys) ≡ whole → text ≡ whole
  all_written xs ys text whole none is = sym (append-nil text) ∙ ap (λ zs. text ++ flat_map f zs) (sym (zip_none xs ys none)) ∙ is
