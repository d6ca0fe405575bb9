-- The texts of types that a printer keeps.
use Rattle.std.proofs.Common.{rules, ◌≡◌, ℕ, ◌-◌, ◌≤◌, ◌⊎◌, inl, inr, true, false, cond, List, [], ◌++◌, length, take, drop, slice_range, Some, sym, ap, subst, ◌∙◌, arith, append-nil, append_assoc}
use Rattle.std.proofs.lemmas.Bool.{cases_Bool}
use Rattle.std.proofs.lemmas.List.{length-append, length-drop, take_all, take-append-le, drop-append-le}
use Rattle.std.proofs.Math.Seq.{drop-append_seam}
use Rattle.type_core.specs.declared.type_id.TypeId.{TypeId}
use Rattle.type_core.specs.declared.type_printer.Place.{Place}
use Rattle.type_core.specs.declared.type_printer.TheConstants.{KEPT_LEVELS}
use Rattle.type_core.specs.contracts.type_id.TypeIdPartialEq.TheImpl as type_id_eq
use Rattle.type_core.specs.Typ.{Typ, type_text}
use Rattle.type_core.specs.TypeTable.{type_at}
use Rattle.type_core.specs.TypeTexts.{place_in, HasTextOf, AreKept, Lengthens}

pub Lengthens-trans : (xs ys zs : List ℕ) → Lengthens xs ys → Lengthens ys zs → Lengthens xs zs
Lengthens-trans xs ys zs a b = record {
  more = a.more ++ b.more;
  longer = b.longer ∙ ap (λ l. l ++ b.more) a.longer ∙ append_assoc xs a.more b.more;
}

pub Lengthens-same : (xs ys : List ℕ) → ys ≡ xs → Lengthens xs ys
Lengthens-same xs ys same = record { more = []; longer = same ∙ sym (append-nil xs) }

pub Lengthens-more : (xs ys zs more : List ℕ) → Lengthens xs ys → zs ≡ ys ++ more → Lengthens xs zs
Lengthens-more xs ys zs more a longer = Lengthens-trans xs ys zs a (record { more = more; longer = longer })

is_same : (s t : TypeId) → type_id_eq.eq-value.it s t ≡ true → s ≡ t
is_same s t h = search rules

some_injective : (p q : Place) → Some p ≡ Some q → p ≡ q
some_injective p q e = cc

-- a range stays where more is put behind
slice_range-append : (xs ys : List ℕ) (i j : ℕ) → i ≤ j → j ≤ length xs → slice_range (xs ++ ys) i j ≡ slice_range xs i j
slice_range-append xs ys i j ordered within =
    ap (take (j - i)) (drop-append-le i xs ys (omega arith)) ∙ take-append-le (j - i) (drop i xs) ys (omega (arith, length-drop i xs))

-- and what was put behind is the range from there on
slice_range-append_seam : (xs ys : List ℕ) (i j : ℕ) → i ≡ length xs → j ≡ length (xs ++ ys) → slice_range (xs ++ ys) i j ≡ ys
slice_range-append_seam xs ys i j starts ends =
    ap (λ k. take (j - i) (drop k (xs ++ ys))) starts ∙ ap (take (j - i)) (drop-append_seam xs ys)
    ∙ take_all (j - i) ys (omega (arith, starts, ends, length-append xs ys))

module _ (table : List Typ) (old new more : List ℕ) (longer : new ≡ old ++ more) where
  HasTextOf-longer : (t : TypeId) (place : Place) → HasTextOf table old t place → HasTextOf table new t place
  HasTextOf-longer t place kept = record {
    ordered = kept.ordered;
    within = (let n = ap length longer ∙ length-append old more in let w = kept.within in omega (arith, n, w));
    text = ap (λ l. slice_range l place.start place.end) longer ∙ slice_range-append old more place.start place.end kept.ordered kept.within ∙ kept.text;
  }

  -- what is kept stays where the texts grow
  pub AreKept-longer : (places places_new : List (TypeId × Place)) → places_new ≡ places → AreKept table places old → AreKept table places_new new
  AreKept-longer places places_new same kept t place e = HasTextOf-longer t place (kept t place (ap (λ ps. place_in ps t) (sym same) ∙ e))

  -- and the text of one more type may be kept where it was put behind
  pub AreKept-put : (places places_new : List (TypeId × Place)) (t : TypeId) (place : Place) → place.start ≡ length old → place.end ≡ length new → more ≡ type_text KEPT_LEVELS (type_at table t)
      → ((s : TypeId) → place_in places_new s ≡ cond (type_id_eq.eq-value.it t s) (Some place) (place_in places s)) → AreKept table places old → AreKept table places_new new
  AreKept-put places places_new t place starts ends is updates kept s p e = by (cases_Bool (type_id_eq.eq-value.it t s))
    where
      here : HasTextOf table new t place
      here = record {
        ordered = (let n = ap length longer ∙ length-append old more in omega (arith, n, starts, ends));
        within = omega (arith, ends);
        text = ap (λ l. slice_range l place.start place.end) longer ∙ slice_range-append_seam old more place.start place.end starts (ends ∙ ap length longer) ∙ is;
      }

      by : (type_id_eq.eq-value.it t s ≡ true) ⊎ (type_id_eq.eq-value.it t s ≡ false) → HasTextOf table new s p
      by (inl h) =
          subst (HasTextOf table new s) (some_injective place p (ap (λ b. cond b (Some place) (place_in places s)) (sym h) ∙ sym (updates s) ∙ e))
          (subst (λ u. HasTextOf table new u place) (is_same t s h) here)
      by (inr h) = HasTextOf-longer s p (kept s p (ap (λ b. cond b (Some place) (place_in places s)) (sym h) ∙ sym (updates s) ∙ e))
