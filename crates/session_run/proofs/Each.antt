-- What holds of each replica of a block, one replica more.
use Rattle.std.proofs.Common.{◌≡◌, ℕ, zero, suc, List, [], ◌∷◌, ◌++◌, length, slice_get, Some, ◌⊎◌, inl, inr, refl, sym, ap, subst, ◌∙◌, length-append, arith}
use Rattle.std.proofs.lemmas.Option.{same_Some, none-some, slice_get_within}
use Rattle.grove_edits.specs.declared.actor.Actor.{Actor}
use Rattle.grove_edits.specs.declared.command.Command.{Command}
use Rattle.shared_replica.specs.declared.journal.Entry.{Entry}
use Rattle.session_run.specs.Calls.{Stage}
use Rattle.session_run.specs.Plans.{at_replica, EachHasRun}
use Rattle.session_run.specs.Run.{HasRun}

-- what stands in a list with one item more: one of those before, or the last
get_pushed : {X : Type 0} (xs : List X) (x y : X) (k : ℕ) → slice_get (xs ++ x ∷ []) k ≡ Some y → (slice_get xs k ≡ Some y) ⊎ ((k ≡ length xs) × (x ≡ y))
get_pushed [] x y zero is = inr (refl, same_Some x y is)
get_pushed [] x y (suc k) is = absurd (none-some y is)
get_pushed (z ∷ xs) x y zero is = inl is
get_pushed (z ∷ xs) x y (suc k) is = elim (get_pushed xs x y k is) [ inl there ↦ inl there | inr last ↦ inr (ap suc last.0, last.1) ]

-- what holds of two lists item by item, with one item more in each
pub pair_more : {X Y : Type 0} (P : ℕ → X → Y → Type 0) (xs : List X) (ys : List Y) (x : X) (y : Y) → length ys ≡ length xs
    → ((k : ℕ) (a : X) (b : Y) → slice_get xs k ≡ Some a → slice_get ys k ≡ Some b → P k a b) → P (length xs) x y
    → (k : ℕ) (a : X) (b : Y) → slice_get (xs ++ x ∷ []) k ≡ Some a → slice_get (ys ++ y ∷ []) k ≡ Some b → P k a b
pair_more {X = X} {Y = Y} P xs ys x y many each last k a b is_a is_b =
    elim (get_pushed xs x a k is_a) [
      | inl there ↦
          let within = slice_get_within xs k a there in
          elim (get_pushed ys y b k is_b) [
            | inl there_b ↦ each k a b there there_b
            | inr end ↦ absurd (omega (arith, within, end.0))
          ]
      | inr here ↦
          elim (get_pushed ys y b k is_b) [
            | inl there_b ↦ (let within = slice_get_within ys k b there_b in absurd (omega (arith, within, here.0)))
            | inr here_b ↦ subst (λ (n : ℕ). P n a b) (sym here.0) (subst (λ (u : X). P (length xs) u b) here.1 (subst (λ (v : Y). P (length xs) x v) here_b.1 last))
          ]
    ]

get_front : {X : Type 0} (xs : List X) (x y : X) (k : ℕ) → slice_get xs k ≡ Some y → slice_get (xs ++ x ∷ []) k ≡ Some y
get_front [] x y k is = absurd (none-some y is)
get_front (z ∷ xs) x y zero is = is
get_front (z ∷ xs) x y (suc k) is = get_front xs x y k is

get_last : {X : Type 0} (xs : List X) (x : X) → slice_get (xs ++ x ∷ []) (length xs) ≡ Some x
get_last [] x = refl
get_last (z ∷ xs) x = get_last xs x

-- what holds of each item of a list holds of the last one, and of each before it
pub item_fewer : {X : Type 0} (P : ℕ → X → Type 0) (all xs : List X) (x : X) → all ≡ xs ++ x ∷ [] → ((k : ℕ) (y : X) → slice_get all k ≡ Some y → P k y)
    → P (length xs) x × ((k : ℕ) (y : X) → slice_get xs k ≡ Some y → P k y)
item_fewer P all xs x is each =
    (each (length xs) x (ap (λ ys. slice_get ys (length xs)) is ∙ get_last xs x), λ k y there. each k y (ap (λ ys. slice_get ys k) is ∙ get_front xs x y k there))

-- lists of one length, with an item less in each
pub as_many_fewer : {X Y : Type 0} (all xs : List X) (x : X) (all' ys : List Y) (y : Y) → all ≡ xs ++ x ∷ [] → all' ≡ ys ++ y ∷ [] → length all ≡ length all' → length xs ≡ length ys
as_many_fewer all xs x all' ys y is is' same =
    let one = ap length is in
    let two = ap length is' in
    let three = length-append xs (x ∷ []) in
    let four = length-append ys (y ∷ []) in
    omega arith

module _ {M E R : Type 0} (after : M → Actor → Command → M) (effect : M → Actor → Command → E) (reply : M → Actor → Command → R) (stage : Stage) where
  one_more : (firsts lasts : List M) (journals : List (List (Entry M Command E R))) (first last : M) (journal : List (Entry M Command E R))
      → length lasts ≡ length firsts → length journals ≡ length firsts → EachHasRun after effect reply stage firsts lasts journals → HasRun after effect reply (at_replica stage (length journals)) first journal last
      → EachHasRun after effect reply stage (firsts ++ first ∷ []) (lasts ++ last ∷ []) (journals ++ journal ∷ [])
  one_more firsts lasts journals first last journal many all each ran replica f l j is_f is_l is_j =
      elim (get_pushed firsts first f replica is_f) [
        | inl there ↦
            let within = slice_get_within firsts replica f there in
            elim (get_pushed lasts last l replica is_l) [
              | inl there_l ↦ elim (get_pushed journals journal j replica is_j) [
                | inl there_j ↦ each replica f l j there there_l there_j
                | inr end ↦ absurd (omega (arith, within, end.0))
              ]
              | inr end ↦ absurd (omega (arith, within, end.0))
            ]
        | inr here ↦
            elim (get_pushed lasts last l replica is_l) [
              | inl there_l ↦ (let within = slice_get_within lasts replica l there_l in absurd (omega (arith, within, here.0)))
              | inr here_l ↦ elim (get_pushed journals journal j replica is_j) [
                | inl there_j ↦ (let within = slice_get_within journals replica j there_j in absurd (omega (arith, within, here.0)))
                | inr here_j ↦
                    subst (λ (n : ℕ). HasRun after effect reply (at_replica stage n) f j l) (sym here_j.0)
                    (subst (λ (m : M). HasRun after effect reply (at_replica stage (length journals)) m j l) here.1
                    (subst (λ (m : M). HasRun after effect reply (at_replica stage (length journals)) first j m) here_l.1
                    (subst (λ (es : List (Entry M Command E R)). HasRun after effect reply (at_replica stage (length journals)) first es last) here_j.1 ran)))
              ]
            ]
      ]

  -- a replica more, where the machines and the journals are told by equations
  pub one_more_has_run : (all firsts lasts new_lasts : List M) (journals new_journals : List (List (Entry M Command E R))) (first last : M) (journal : List (Entry M Command E R)) (replica : ℕ)
      → length lasts ≡ length firsts → length journals ≡ length firsts → EachHasRun after effect reply stage firsts lasts journals
      → replica ≡ length firsts → HasRun after effect reply (at_replica stage replica) first journal last
      → all ≡ firsts ++ first ∷ [] → new_lasts ≡ lasts ++ last ∷ [] → new_journals ≡ journals ++ journal ∷ [] → EachHasRun after effect reply stage all new_lasts new_journals
  one_more_has_run all firsts lasts new_lasts journals new_journals first last journal replica many many_too each is_here ran more_firsts more_lasts more_journals =
      let run_here : HasRun after effect reply (at_replica stage (length journals)) first journal last =
      subst (λ (n : ℕ). HasRun after effect reply (at_replica stage n) first journal last) (is_here ∙ sym many_too) ran in
      subst (λ (fs : List M). EachHasRun after effect reply stage fs new_lasts new_journals) (sym more_firsts)
      (subst (λ (ls : List M). EachHasRun after effect reply stage (firsts ++ first ∷ []) ls new_journals) (sym more_lasts)
      (subst (λ (js : List (List (Entry M Command E R))). EachHasRun after effect reply stage (firsts ++ first ∷ []) (lasts ++ last ∷ []) js) (sym more_journals)
      (one_more firsts lasts journals first last journal many many_too each run_here)))
