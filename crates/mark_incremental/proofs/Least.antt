-- The least of some vertices, one after the other.
use Rattle.std.proofs.Common.{◌≡◌, ◌⊎◌, inl, inr, Bool, true, false, cond, List, [], ◌∷◌, ◌++◌, refl, sym, ap, ◌∙◌}
use Rattle.std.specs.Prelude.{◌||◌}
use Rattle.std.specs.Ordering.{is_gt}
use Rattle.grove_edits.specs.declared.vertex.Vertex.{Vertex}
use Rattle.grove_edits.specs.Vertex.{is_same_vertex, stands_in, vertex_cmp}
use Rattle.grove_edits.proofs.Orders.{vertex_cmp_total}
use Rattle.grove_edits.proofs.Vertices.{same_vertex_itself, same_vertex_exact, vertex_cmp_itself}
use Rattle.mark_incremental.specs.Rooting.{IsLeastOf}
use Rattle.mark_incremental.proofs.Lists.{stands_push}
use Rattle.graph_words.proofs.Around.{gt_false_from, le_through}

or_cases : (a b : Bool) → (a || b) ≡ true → (a ≡ true) ⊎ (b ≡ true)
or_cases true b h = inl refl
or_cases false b h = inr h

or_second : (a b : Bool) → b ≡ true → (a || b) ≡ true
or_second true b h = refl
or_second false b h = h

-- one more vertex
pub least_more : (first least x : Vertex) (xs : List Vertex) → IsLeastOf first xs least → IsLeastOf first (xs ++ x ∷ []) (cond (is_gt (vertex_cmp least x)) x least)
least_more first least x xs is = by (is_gt (vertex_cmp least x)) refl where
  there : (y : Vertex) → (is_same_vertex x y ≡ true) ⊎ (stands_in y xs ≡ true) → stands_in y (xs ++ x ∷ []) ≡ true
  there y (inl one) = stands_push y x xs ∙ ap (λ b. b || stands_in y xs) one
  there y (inr held) = stands_push y x xs ∙ or_second (is_same_vertex x y) (stands_in y xs) held

  cases : (y : Vertex) → stands_in y (xs ++ x ∷ []) ≡ true → (x ≡ y) ⊎ (stands_in y xs ≡ true)
  cases y held = by_or (or_cases (is_same_vertex x y) (stands_in y xs) (sym (stands_push y x xs) ∙ held)) where
    by_or : (is_same_vertex x y ≡ true) ⊎ (stands_in y xs ≡ true) → (x ≡ y) ⊎ (stands_in y xs ≡ true)
    by_or (inl one) = inl (same_vertex_exact x y one)
    by_or (inr held) = inr held

  among : (least ≡ first) ⊎ (stands_in least xs ≡ true) → (least ≡ first) ⊎ (stands_in least (xs ++ x ∷ []) ≡ true)
  among (inl one) = inl one
  among (inr held) = inr (there least (inr held))

  still : is_gt (vertex_cmp least x) ≡ false → (y : Vertex) → (x ≡ y) ⊎ (stands_in y xs ≡ true) → is_gt (vertex_cmp least y) ≡ false
  still le y (inl one) = ap (λ z. is_gt (vertex_cmp least z)) (sym one) ∙ le
  still le y (inr held) = is.none_less y held

  lower : is_gt (vertex_cmp least x) ≡ true → (y : Vertex) → (x ≡ y) ⊎ (stands_in y xs ≡ true) → is_gt (vertex_cmp x y) ≡ false
  lower gt y (inl one) = ap (λ z. is_gt (vertex_cmp x z)) (sym one) ∙ ap is_gt (vertex_cmp_itself x)
  lower gt y (inr held) = le_through x least y (gt_false_from (vertex_cmp x least) (vertex_cmp least x) (vertex_cmp_total.antisymm x least) gt) (is.none_less y held)

  by : (b : Bool) → is_gt (vertex_cmp least x) ≡ b → IsLeastOf first (xs ++ x ∷ []) (cond b x least)
  by true gt = record { among = inr (there x (inl (same_vertex_itself x))); none_less = λ y held. lower gt y (cases y held) }
  by false le = record { among = among is.among; none_less = λ y held. still le y (cases y held) }
