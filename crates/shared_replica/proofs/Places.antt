-- Places of a journal that goes on, and the calls at them.
use Rattle.std.proofs.Common.{◌≡◌, ℕ, zero, suc, ◌+◌, ◌*◌, ◌≤◌, List, [], ◌∷◌, ◌++◌, map, length, refl, sym, ap, ap₂, ◌∙◌, subst, arith, append_assoc, length-append, Option, Some, None}
use Rattle.std.specs.Prelude.{slice_get}
use Rattle.std.specs.List.{range_with_len}
use Rattle.std.proofs.lemmas.Option.{slice_get_within}
use mathlib.Core.List.{IsPrefix}
use Rattle.grove_edits.specs.declared.actor.Actor.{Actor}
use Rattle.grove_edits.specs.declared.actor.Actor.TheVariants.{Host, Author, Send}
use Rattle.shared_replica.specs.declared.journal.Entry.{Entry}
use Rattle.shared_replica.specs.Passes.{Call, call_of, AreBy}
use Rattle.shared_replica.specs.Placed.{tag_of, next_actor, actor_of, and_call, calls_at, ArePlaces, ArePlacesByTag, joined_of}

author_tag : (n : ℕ) → actor_of (suc (2 * n)) ≡ Author n
author_tag zero = refl
author_tag (suc n) =
    let e : suc (2 * suc n) ≡ suc (suc (suc (2 * n))) = omega arith in
    let f : n + 1 ≡ suc n = omega arith in
    ap actor_of e ∙ ap (λ a. next_actor (next_actor a)) (author_tag n) ∙ ap Author f

pub actor_of-tag_of : (a : Actor) → actor_of (tag_of a) ≡ a
actor_of-tag_of Host = refl
actor_of-tag_of (Author n) = let e : 1 + 2 * n ≡ suc (2 * n) = omega arith in ap actor_of e ∙ author_tag n
actor_of-tag_of (Send n) = let e : 2 + 2 * n ≡ suc (suc (2 * n)) = omega arith in ap actor_of e ∙ ap next_actor (author_tag n)

module _ {M C E R : Type 0} where
  pub get_longer : (es fs : List (Entry M C E R)) (p : ℕ) (e : Entry M C E R) → slice_get es p ≡ Some e → slice_get (es ++ fs) p ≡ Some e
  get_longer [] fs p e at = let no : None ≡ Some e = at in absurd (cc)
  get_longer (x ∷ es) fs zero e at = at
  get_longer (x ∷ es) fs (suc p) e at = get_longer es fs p e at

  pub get_here : (es fs : List (Entry M C E R)) (f : Entry M C E R) (n : ℕ) → n ≡ length es → slice_get (es ++ f ∷ fs) n ≡ Some f
  get_here [] fs f n is = ap (slice_get (f ∷ fs)) is
  get_here (x ∷ es) fs f zero is = absurd (omega arith)
  get_here (x ∷ es) fs f (suc n) is = get_here es fs f n (omega arith)

  pub ArePlaces-longer : (es fs : List (Entry M C E R)) (low : ℕ) (a : Actor) (ps : List ℕ) → ArePlaces es low a ps → ArePlaces (es ++ fs) low a ps
  ArePlaces-longer es fs low a [] h = tt
  ArePlaces-longer es fs low a (p ∷ ps) h = (h.0, (h.1.0, get_longer es fs p h.1.0 h.1.1, h.1.2), ArePlaces-longer es fs (p + 1) a ps h.2)

  pub calls_at-longer : (es fs : List (Entry M C E R)) (low : ℕ) (a : Actor) (ps : List ℕ) → ArePlaces es low a ps → calls_at (es ++ fs) ps ≡ calls_at es ps
  calls_at-longer es fs low a [] h = refl
  calls_at-longer es fs low a (p ∷ ps) h =
      let same : slice_get (es ++ fs) p ≡ slice_get es p = get_longer es fs p h.1.0 h.1.1 ∙ sym h.1.1 in
      ap₂ and_call same (calls_at-longer es fs (p + 1) a ps h.2)

  pub ByTag-longer : (es fs : List (Entry M C E R)) (ts : List (ℕ × List ℕ)) → ArePlacesByTag es ts → ArePlacesByTag (es ++ fs) ts
  ByTag-longer es fs [] h = tt
  ByTag-longer es fs (t ∷ ts) h = (ArePlaces-longer es fs 0 (actor_of t.0) t.1 h.0, ByTag-longer es fs ts h.1)

  pub joined_of-longer : (es fs : List (Entry M C E R)) (ts : List (ℕ × List ℕ)) → ArePlacesByTag es ts → joined_of (es ++ fs) ts ≡ joined_of es ts
  joined_of-longer es fs [] h = refl
  joined_of-longer es fs (t ∷ ts) h = ap₂ (λ c cs. (actor_of t.0, c) ∷ cs) (calls_at-longer es fs 0 (actor_of t.0) t.1 h.0) (joined_of-longer es fs ts h.1)

  -- the same where one list begins the other
  pub ArePlaces-later : (es gs : List (Entry M C E R)) (low : ℕ) (a : Actor) (ps : List ℕ) → IsPrefix es gs → ArePlaces es low a ps → ArePlaces gs low a ps
  ArePlaces-later es gs low a ps pre h = subst (λ xs. ArePlaces xs low a ps) pre.1 (ArePlaces-longer es pre.0 low a ps h)

  pub calls_at-later : (es gs : List (Entry M C E R)) (low : ℕ) (a : Actor) (ps : List ℕ) → IsPrefix es gs → ArePlaces es low a ps → calls_at gs ps ≡ calls_at es ps
  calls_at-later es gs low a ps pre h = ap (λ xs. calls_at xs ps) (sym pre.1) ∙ calls_at-longer es pre.0 low a ps h

  pub ByTag-later : (es gs : List (Entry M C E R)) (ts : List (ℕ × List ℕ)) → IsPrefix es gs → ArePlacesByTag es ts → ArePlacesByTag gs ts
  ByTag-later es gs ts pre h = subst (λ xs. ArePlacesByTag xs ts) pre.1 (ByTag-longer es pre.0 ts h)

  pub joined_of-later : (es gs : List (Entry M C E R)) (ts : List (ℕ × List ℕ)) → IsPrefix es gs → ArePlacesByTag es ts → joined_of gs ts ≡ joined_of es ts
  joined_of-later es gs ts pre h = ap (λ xs. joined_of xs ts) (sym pre.1) ∙ joined_of-longer es pre.0 ts h

  pub ByTag-append : (es : List (Entry M C E R)) (ts us : List (ℕ × List ℕ)) → ArePlacesByTag es ts → ArePlacesByTag es us → ArePlacesByTag es (ts ++ us)
  ByTag-append es [] us h g = g
  ByTag-append es (t ∷ ts) us h g = (h.0, ByTag-append es ts us h.1 g)

  pub joined_of-append : (es : List (Entry M C E R)) (ts us : List (ℕ × List ℕ)) → joined_of es (ts ++ us) ≡ joined_of es ts ++ joined_of es us
  joined_of-append es [] us = refl
  joined_of-append es (t ∷ ts) us = ap (λ cs. (actor_of t.0, calls_at es t.1) ∷ cs) (joined_of-append es ts us)

  ArePlaces-from : (es : List (Entry M C E R)) (low n : ℕ) (a : Actor) (ps : List ℕ) → low ≤ n → ArePlaces es n a ps → ArePlaces es low a ps
  ArePlaces-from es low n a [] le h = tt
  ArePlaces-from es low n a (p ∷ ps) le h = let g = h.0 in (omega arith, h.1, h.2)

  pub ArePlaces-append : (es fs : List (Entry M C E R)) (low : ℕ) (a : Actor) (ps qs : List ℕ) → low ≤ length es → ArePlaces es low a ps → ArePlaces (es ++ fs) (length es) a qs → ArePlaces (es ++ fs) low a (ps ++ qs)
  ArePlaces-append es fs low a [] qs le h g = ArePlaces-from (es ++ fs) low (length es) a qs le g
  ArePlaces-append es fs low a (p ∷ ps) qs le h g =
      let within = slice_get_within es p h.1.0 h.1.1 in
      (h.0, (h.1.0, get_longer es fs p h.1.0 h.1.1, h.1.2), ArePlaces-append es fs (p + 1) a ps qs (omega arith) h.2 g)

  and_call-append : (o : Option (Entry M C E R)) (xs ys : List (Call C R)) → and_call o (xs ++ ys) ≡ and_call o xs ++ ys
  and_call-append None xs ys = refl
  and_call-append (Some e) xs ys = refl

  pub calls_at-append : (es : List (Entry M C E R)) (ps qs : List ℕ) → calls_at es (ps ++ qs) ≡ calls_at es ps ++ calls_at es qs
  calls_at-append es [] qs = refl
  calls_at-append es (p ∷ ps) qs = ap (and_call (slice_get es p)) (calls_at-append es ps qs) ∙ and_call-append (slice_get es p) (calls_at es ps) (calls_at es qs)

  -- the places of entries at the end
  pub end_places : (es fs : List (Entry M C E R)) (n : ℕ) (a : Actor) → n ≡ length es → AreBy a fs → ArePlaces (es ++ fs) n a (range_with_len n (length fs))
  end_places es [] n a is by = tt
  end_places es (f ∷ fs) n a is by =
      let len : n + 1 ≡ length (es ++ f ∷ []) = omega (arith, length-append es (f ∷ [])) in
      let more : (es ++ f ∷ []) ++ fs ≡ es ++ f ∷ fs = append_assoc es (f ∷ []) fs in
      (omega arith, (f, get_here es fs f n is, by.0), subst (λ xs. ArePlaces xs (n + 1) a (range_with_len (n + 1) (length fs))) more (end_places (es ++ f ∷ []) fs (n + 1) a len by.1))

  pub end_calls : (es fs : List (Entry M C E R)) (n : ℕ) → n ≡ length es → calls_at (es ++ fs) (range_with_len n (length fs)) ≡ map call_of fs
  end_calls es [] n is = refl
  end_calls es (f ∷ fs) n is =
      let len : n + 1 ≡ length (es ++ f ∷ []) = omega (arith, length-append es (f ∷ [])) in
      let more : (es ++ f ∷ []) ++ fs ≡ es ++ f ∷ fs = append_assoc es (f ∷ []) fs in
      ap₂ and_call (get_here es fs f n is) (ap (λ xs. calls_at xs (range_with_len (n + 1) (length fs))) (sym more) ∙ end_calls (es ++ f ∷ []) fs (n + 1) len)
