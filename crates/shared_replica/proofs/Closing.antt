-- At the end the places that all passes put are the places of the journal: so its entries are those that the passes made.
use Rattle.std.proofs.Common.{◌≡◌, ◌≢◌, inl, inr, ℕ, suc, ◌+◌, ◌-◌, ◌<◌, ◌≤◌, Bool, true, false, cond, List, [], ◌∷◌, length, refl, sym, ap, ap₂, ◌∙◌, subst, arith, Some, None}
use Rattle.std.specs.Prelude.{slice_get}
use Rattle.std.proofs.lemmas.Option.{slice_get_within}
use Rattle.std.proofs.lemmas.Bool.{false≢true, eqb-true, eq-eqb}
use Rattle.std.proofs.lemmas.Bool.Decides.{nat_tests}
use mathlib.Core.Logic.{dite}
use native.Mathlib.Decide.{ℕ_discrete}
use Rattle.grove_edits.specs.declared.actor.Actor.{Actor}
use Rattle.grove_edits.specs.declared.actor.Actor.TheVariants.{Host, Author, Send}
use Rattle.turn_lock.specs.Places.{times, once_below, under_tags}
use Rattle.shared_replica.specs.declared.journal.Entry.{Entry}
use Rattle.turn_lock.proofs.Views.{times-append}
use Rattle.turn_lock.specs.Seats.{TurnStanding, all_put}
use Rattle.shared_replica.specs.declared.kept.Opening.{Opening}
use Rattle.shared_replica.specs.Passes.{Passing, all_made, Call, call_of, same_actor, calls_by, IsNamed, StandsOnce, AreNamed}
use mathlib.Core.List.{IsPrefix}
use Rattle.shared_replica.proofs.Places.{actor_of-tag_of, ByTag-later, calls_at-later}
use Rattle.shared_replica.specs.Placed.{passing, IsPassOf, actor_of, and_call, calls_at, HasActor, ArePlaces, ArePlacesByTag, joined_of}

same_actor_true : (x y : Actor) → same_actor x y ≡ true → x ≡ y
same_actor_true Host Host e = refl
same_actor_true Host (Author b) e = absurd (false≢true e)
same_actor_true Host (Send b) e = absurd (false≢true e)
same_actor_true (Author a) Host e = absurd (false≢true e)
same_actor_true (Author a) (Author b) e = ap Author (eqb-true a b e)
same_actor_true (Author a) (Send b) e = absurd (false≢true e)
same_actor_true (Send a) Host e = absurd (false≢true e)
same_actor_true (Send a) (Author b) e = absurd (false≢true e)
same_actor_true (Send a) (Send b) e = ap Send (eqb-true a b e)

same_actor_self : (x : Actor) → same_actor x x ≡ true
same_actor_self Host = refl
same_actor_self (Author a) = eq-eqb a a refl
same_actor_self (Send a) = eq-eqb a a refl

times_here : (p q : ℕ) (ps : List ℕ) → p ≡ q → 0 < times p (q ∷ ps)
times_here p q ps e = grind (arith, nat_tests)

times_there : (p q : ℕ) (ps : List ℕ) → p ≢ q → times p (q ∷ ps) ≡ times p ps
times_there p q ps ne = grind (arith, nat_tests)

once_here : (p n : ℕ) → p < n → once_below p n ≡ 1
once_here p n lt = grind (arith, nat_tests)

module _ {M C E R : Type 0} where
  same_entry : (es : List (Entry M C E R)) (p : ℕ) (e f : Entry M C E R) → slice_get es p ≡ Some e → slice_get es p ≡ Some f → e ≡ f
  same_entry es p e f a b = cc

  -- a place that is named has an entry of that actor
  has : (es : List (Entry M C E R)) (low : ℕ) (a : Actor) (ps : List ℕ) (p : ℕ) → ArePlaces es low a ps → 0 < times p ps → HasActor es p a
  has es low a [] p h lt = absurd (omega arith)
  has es low a (q ∷ ps) p h lt =
      dite (ℕ_discrete p q)
      (λ e. subst (λ n. HasActor es n a) (sym e) h.1)
      (λ ne. has es (q + 1) a ps p h.2 (subst (λ n. 0 < n) (times_there p q ps ne) lt))

  -- where a place is named under the tags, its entry's actor stands there
  named : (es seen : List (Entry M C E R)) (ts : List (ℕ × List ℕ)) (p : ℕ) (e : Entry M C E R) → ArePlacesByTag es ts → 0 < times p (under_tags ts) → slice_get es p ≡ Some e → IsNamed e.actor (joined_of seen ts)
  named es seen [] p e h lt at = absurd (omega arith)
  named es seen (t ∷ ts) p e h lt at =
      dite (ℕ_discrete (times p t.1) 0)
      (λ z. let s = times-append p t.1 (under_tags ts) in inr (named es seen ts p e h.1 (omega arith) at))
      (λ nz. let g = has es 0 (actor_of t.0) t.1 p h.0 (omega arith) in inl (ap (λ (x : Entry M C E R). x.actor) (same_entry es p e g.0 at g.1) ∙ g.2))

  AreNamed_from : (es : List (Entry M C E R)) (all : List (Actor × List (Call C R))) → ((p : ℕ) (e : Entry M C E R) → slice_get es p ≡ Some e → IsNamed e.actor all) → AreNamed es all
  AreNamed_from [] all h = tt
  AreNamed_from (e ∷ es) all h = (h 0 e refl, AreNamed_from es all (λ p f at. h (suc p) f at))

  -- the actor of each entry stands there
  pub all_named : (es seen : List (Entry M C E R)) (ts : List (ℕ × List ℕ)) → ArePlacesByTag es ts → ((p : ℕ) → times p (under_tags ts) ≡ once_below p (length es)) → AreNamed es (joined_of seen ts)
  all_named es seen ts h full = AreNamed_from es (joined_of seen ts) (λ p e at.
      let lt = slice_get_within es p e at in
      let one = full p ∙ once_here p (length es) lt in
      named es seen ts p e h (omega arith) at)

  -- the places of the one actor are those of its entries
  abbrev Found : List (Entry M C E R) → List (Entry M C E R) → List (ℕ × List ℕ) → Actor → List (Call C R) → Type 0
  Found es seen ts a calls =
      (ps : List ℕ) × (calls_at seen ps ≡ calls) × ArePlaces es 0 a ps × ArePlaces seen 0 a ps × ((p : ℕ) (e : Entry M C E R) → slice_get es p ≡ Some e → e.actor ≡ a → times p (under_tags ts) ≡ times p ps)

  found : (es seen : List (Entry M C E R)) (ts : List (ℕ × List ℕ)) (a : Actor) (calls : List (Call C R)) → ArePlacesByTag es ts → ArePlacesByTag seen ts → StandsOnce a calls (joined_of seen ts) → Found es seen ts a calls
  found es seen [] a calls h g once = absurd once
  found es seen (t ∷ ts) a calls h g (inl one) = (
    t.1,
    one.1,
    subst (λ x. ArePlaces es 0 x t.1) one.0 h.0,
    subst (λ x. ArePlaces seen 0 x t.1) one.0 g.0,
    λ p e at by.
        let s = times-append p t.1 (under_tags ts) in
        dite (ℕ_discrete (times p (under_tags ts)) 0)
        (λ z. omega arith)
        (λ nz. absurd (one.2 (subst (λ x. IsNamed x (joined_of seen ts)) by (named es seen ts p e h.1 (omega arith) at)))),
  )
  found es seen (t ∷ ts) a calls h g (inr more) =
      let r = found es seen ts a calls h.1 g.1 more.1 in (
        r.0,
        r.1,
        r.2,
        r.3,
        λ p e at by.
            let s = times-append p t.1 (under_tags ts) in
            let q = r.4 p e at by in
            dite (ℕ_discrete (times p t.1) 0)
            (λ z. omega arith)
            (λ nz. let f = has es 0 (actor_of t.0) t.1 p h.0 (omega arith) in absurd (more.0 (sym f.2 ∙ ap (λ (x : Entry M C E R). x.actor) (same_entry es p f.0 e f.1 at) ∙ by))),
      )

  -- the same of what is left of a list, from its n-th entry on
  abbrev AreFrom : List (Entry M C E R) → ℕ → ℕ → Actor → List ℕ → Type 0
  AreFrom es n low a [] = Unit {0}
  AreFrom es n low a (p ∷ ps) = (low ≤ p) × HasActor es (p - n) a × AreFrom es n (p + 1) a ps

  abbrev calls_from : List (Entry M C E R) → ℕ → List ℕ → List (Call C R)
  calls_from es n [] = []
  calls_from es n (p ∷ ps) = and_call (slice_get es (p - n)) (calls_from es n ps)

  none_below : (es : List (Entry M C E R)) (n low : ℕ) (a : Actor) (ps : List ℕ) (q : ℕ) → AreFrom es n low a ps → q < low → times q ps ≡ 0
  none_below es n low a [] q h lt = refl
  none_below es n low a (p ∷ ps) q h lt = let le = h.0 in times_there q p ps (λ e. absurd (omega arith)) ∙ none_below es n (p + 1) a ps q h.2 (omega arith)

  on_from : (e : Entry M C E R) (es : List (Entry M C E R)) (n low : ℕ) (a : Actor) (ps : List ℕ) → n + 1 ≤ low → AreFrom (e ∷ es) n low a ps → AreFrom es (n + 1) low a ps × (calls_from (e ∷ es) n ps ≡ calls_from es (n + 1) ps)
  on_from e es n low a [] le h = (tt, refl)
  on_from e es n low a (p ∷ ps) le h =
      let low_is = h.0 in
      let step : p - n ≡ suc (p - (n + 1)) = omega arith in
      let same : slice_get (e ∷ es) (p - n) ≡ slice_get es (p - (n + 1)) = ap (slice_get (e ∷ es)) step in
      let r = on_from e es n (p + 1) a ps (omega arith) h.2 in
      ((h.0, (h.1.0, sym same ∙ h.1.1, h.1.2), r.0), ap₂ and_call same r.1)

  raise : (es : List (Entry M C E R)) (n low : ℕ) (a : Actor) (p : ℕ) (ps : List ℕ) → AreFrom es n low a (p ∷ ps) → low ≢ p → AreFrom es n (low + 1) a (p ∷ ps)
  raise es n low a p ps h ne = let le = h.0 in (omega arith, h.1, h.2)

  abbrev Full : List (Entry M C E R) → ℕ → Actor → List ℕ → Type 0
  Full es n a ps = (k : ℕ) (e : Entry M C E R) → slice_get es k ≡ Some e → e.actor ≡ a → 0 < times (n + k) ps

  collect_at : (e : Entry M C E R) (es : List (Entry M C E R)) (n : ℕ) (a : Actor) (ps : List ℕ) (b : Bool) → same_actor e.actor a ≡ b → ((qs : List ℕ) → AreFrom es (n + 1) (n + 1) a qs → Full es (n + 1) a qs → calls_by a es ≡ calls_from es (n + 1) qs) → AreFrom (e ∷ es) n n a ps → Full (e ∷ es) n a ps
      → cond b (call_of e ∷ calls_by a es) (calls_by a es) ≡ calls_from (e ∷ es) n ps
  collect_at e es n a [] true is rest h full = let lt = full 0 e refl (same_actor_true e.actor a is) in absurd (omega arith)
  collect_at e es n a (p ∷ ps) true is rest h full =
      dite (ℕ_discrete n p)
      (λ here.
      let by = same_actor_true e.actor a is in
      let low : n + 1 ≤ p + 1 = omega arith in
      let r = on_from e es n (p + 1) a ps low h.2 in
      let r' = subst (λ k. AreFrom es (n + 1) (k + 1) a ps) (sym here) r.0 in
      let full' : Full es (n + 1) a ps = λ k f at who.
      let lt = full (suc k) f at who in
      let ne : n + suc k ≢ p = λ q. absurd (omega arith) in
      let same = times_there (n + suc k) p ps ne in
      let e' : n + suc k ≡ n + 1 + k = omega arith in
      let same' = ap (λ m. times m ps) e' in
      omega arith in
      let zero_is : p - n ≡ 0 = omega arith in
      let got : slice_get (e ∷ es) (p - n) ≡ Some e = ap (slice_get (e ∷ es)) zero_is in
      ap (λ cs. call_of e ∷ cs) (rest ps r' full' ∙ sym r.1) ∙ sym (ap (λ o. and_call o (calls_from (e ∷ es) n ps)) got))
      (λ ne.
      let lt = full 0 e refl (same_actor_true e.actor a is) in
      let none' = none_below (e ∷ es) n (n + 1) a (p ∷ ps) n (raise (e ∷ es) n n a p ps h ne) (omega arith) in
      let e' : n + 0 ≡ n = omega arith in
      let same = ap (λ m. times m (p ∷ ps)) e' in
      absurd (omega arith))
  collect_at e es n a [] false is rest h full = rest [] tt (λ k f at who.
      let lt = full (suc k) f at who in absurd (omega arith))
  collect_at e es n a (p ∷ ps) false is rest h full =
      dite (ℕ_discrete n p)
      (λ here.
      let zero_is : p - n ≡ 0 = omega arith in
      let got : Some e ≡ Some h.1.0 = sym (ap (slice_get (e ∷ es)) zero_is) ∙ h.1.1 in
      let same : e ≡ h.1.0 = cc in
      absurd (false≢true (sym is ∙ ap (λ x. same_actor x a) (ap (λ (x : Entry M C E R). x.actor) same ∙ h.1.2) ∙ same_actor_self a)))
      (λ ne.
      let r = on_from e es n (n + 1) a (p ∷ ps) (omega arith) (raise (e ∷ es) n n a p ps h ne) in
      let full' : Full es (n + 1) a (p ∷ ps) = λ k f at who.
      let lt = full (suc k) f at who in
      let e' : n + suc k ≡ n + 1 + k = omega arith in
      subst (λ m. 0 < times m (p ∷ ps)) e' lt in
      rest (p ∷ ps) r.0 full' ∙ sym r.1)

  collect : (es : List (Entry M C E R)) (n : ℕ) (a : Actor) (ps : List ℕ) → AreFrom es n n a ps → Full es n a ps → calls_by a es ≡ calls_from es n ps
  collect [] n a [] h full = refl
  collect [] n a (p ∷ ps) h full = let no : None ≡ Some h.1.0 = h.1.1 in absurd (cc)
  collect (e ∷ es) n a ps h full = collect_at e es n a ps (same_actor e.actor a) refl (collect es (n + 1) a) h full

  at_start : (es : List (Entry M C E R)) (low : ℕ) (a : Actor) (ps : List ℕ) → ArePlaces es low a ps → AreFrom es 0 low a ps × (calls_from es 0 ps ≡ calls_at es ps)
  at_start es low a [] h = (tt, refl)
  at_start es low a (p ∷ ps) h =
      let e : p - 0 ≡ p = omega arith in
      let same = ap (slice_get es) e in
      let r = at_start es (p + 1) a ps h.2 in
      ((h.0, (h.1.0, same ∙ h.1.1, h.1.2), r.0), ap₂ and_call same r.1)

  -- an actor that stands there once has as entries exactly the calls that stand with it
  pub exact : (es seen : List (Entry M C E R)) (ts : List (ℕ × List ℕ)) (a : Actor) (calls : List (Call C R)) → IsPrefix seen es → ArePlacesByTag seen ts → ((p : ℕ) → times p (under_tags ts) ≡ once_below p (length es))
      → StandsOnce a calls (joined_of seen ts) → calls_by a es ≡ calls
  exact es seen ts a calls pre g full once =
      let f = found es seen ts a calls (ByTag-later seen es ts pre g) g once in
      let s = at_start es 0 a f.0 f.2 in
      collect es 0 a f.0 s.0 (λ k e at by.
      let lt = slice_get_within es k e at in
      let one = sym (f.4 k e at by) ∙ full k ∙ once_here k (length es) lt in
      let e' : 0 + k ≡ k = omega arith in
      let same = ap (λ m. times m f.0) e' in
      omega arith)
      ∙ (s.1 ∙ (calls_at-later seen es 0 a f.0 pre f.3 ∙ f.1))

  -- both, of the pass that closes
  abbrev pub Closed : Passing M C E R → List (Entry M C E R) → Type 0
  Closed pass es = AreNamed es (all_made pass) × ((a : Actor) (calls : List (Call C R)) → StandsOnce a calls (all_made pass) → calls_by a es ≡ calls)

  pub closed : (s : TurnStanding (Entry M C E R) (Opening M)) (a : Actor) (es : List (Entry M C E R)) → IsPassOf s a → IsPrefix s.seen es → ((p : ℕ) → times p (all_put s) ≡ once_below p (length es)) → Closed (passing s a) es
  closed s a es h pre full =
      let ts : List (ℕ × List ℕ) = (s.tag, s.put) ∷ s.joined in
      let who : a ≡ actor_of s.tag = sym (actor_of-tag_of a) ∙ ap actor_of (sym h.tag) in
      let g : ArePlacesByTag s.seen ts = (subst (λ x. ArePlaces s.seen 0 x s.put) who h.put, h.joined) in
      let same : joined_of s.seen ts ≡ all_made (passing s a) = ap (λ x. (x, calls_at s.seen s.put) ∷ joined_of s.seen s.joined) (sym who) in
      let P : List (Actor × List (Call C R)) → Type 0 = λ all. AreNamed es all × ((b : Actor) (calls : List (Call C R)) → StandsOnce b calls all → calls_by b es ≡ calls) in
      subst P same (all_named es s.seen ts (ByTag-later s.seen es ts pre g) full, λ b calls once. exact es s.seen ts b calls pre g full once)
