-- What a turn, a split and a join of a seat are for the pass over it.
use Rattle.std.proofs.Common.{◌≡◌, suc, ◌+◌, ◌-◌, ◌≤◌, List, [], ◌∷◌, ◌++◌, map, length, refl, sym, ap, ap₂, ◌∙◌, subst, arith, append_assoc, append-nil, length-append, Result, Ok, Err, IfOk, IfErr, OnOk, OnErr, le_refl}
use Rattle.std.specs.List.{range_with_len}
use mathlib.Core.List.{IsPrefix}
use Rattle.grove_edits.specs.declared.actor.Actor.{Actor}
use Rattle.turn_lock.specs.Places.{places_from}
use Rattle.turn_lock.specs.Seats.{TurnStanding, at_turn, after_turn}
use Rattle.turn_lock.specs.Seats as seats
use Rattle.shared_replica.specs.declared.journal.Entry.{Entry}
use Rattle.shared_replica.specs.declared.kept.Opening.{Opening}
use Rattle.shared_replica.specs.Replays.{entry_of}
use Rattle.shared_replica.specs.Solos.{Journaled, with_step, with_steps}
use Rattle.shared_replica.specs.Passes.{call_of, AreBy, Enters, EntersAll, joined_pass}
use Rattle.shared_replica.specs.Placed.{actor_of, calls_at, ArePlaces, ArePlacesByTag, joined_of, passing, IsPassOf}
use Rattle.shared_replica.proofs.Steps.{entries_of, with_steps-journal, entries_of-commands, entries_of-by, length-entries_of}
use Rattle.shared_replica.proofs.Places.{actor_of-tag_of, ArePlaces-later, calls_at-later, ByTag-later, joined_of-later, ByTag-append, joined_of-append, ArePlaces-append, calls_at-append, end_places, end_calls}

module _ {M C E R : Type 0} where
  length-map : (es : List (Entry M C E R)) → length (map call_of es) ≡ length es
  length-map [] = refl
  length-map (e ∷ es) = ap suc (length-map es)

  -- a turn of the seat in which these entries were added
  pub turned : (s s' : TurnStanding (Entry M C E R) (Opening M)) (a : Actor) (xs ys es : List (Entry M C E R)) → IsPassOf s a → IsPrefix s.seen xs → ys ≡ xs ++ es → AreBy a es → length es ≤ s.calls → s' ≡ after_turn (at_turn s xs) ys
      → IsPassOf s' a × Enters (passing s a) (passing s' a) (map call_of es)
  turned s s' a xs ys es h pre grows by few is =
      let zs : List (Entry M C E R) = xs ++ es in
      let len : length zs ≡ length xs + length es = length-append xs es in
      let now : TurnStanding (Entry M C E R) (Opening M) = after_turn (at_turn s xs) zs in
      let gap : length zs - length xs ≡ length es = omega arith in
      let places : places_from (length xs) (length zs) ≡ range_with_len (length xs) (length es) = ap (range_with_len (length xs)) gap in
      let whole : IsPrefix s.seen zs = (pre.0 ++ es, sym (append_assoc s.seen pre.0 es) ∙ ap (λ us. us ++ es) pre.1) in
      let put : ArePlaces zs 0 a (s.put ++ places_from (length xs) (length zs)) =
      ArePlaces-append xs es 0 a s.put (places_from (length xs) (length zs)) (omega arith) (ArePlaces-later s.seen xs 0 a s.put pre h.put)
      (subst (ArePlaces zs (length xs) a) (sym places) (end_places xs es (length xs) a refl by)) in
      let made : calls_at zs (s.put ++ places_from (length xs) (length zs)) ≡ calls_at s.seen s.put ++ map call_of es =
      calls_at-append zs s.put (places_from (length xs) (length zs))
      ∙ ap₂ (λ us vs. us ++ vs) (calls_at-later s.seen zs 0 a s.put whole h.put) (ap (calls_at zs) places ∙ end_calls xs es (length xs) refl) in
      let kept : IsPassOf now a = record { tag = h.tag; rests = refl; put = put; joined = ByTag-later s.seen zs s.joined whole h.joined } in
      let enters : Enters (passing s a) (passing now a) (map call_of es) = record {
        earlier = xs;
        entries = es;
        later = pre;
        seen = refl;
        are = refl;
        by = by;
        made = made;
        left = let l = length-map es in omega arith;
        same = (refl, refl, refl, joined_of-later s.seen zs s.joined whole h.joined);
      } in
      let P : TurnStanding (Entry M C E R) (Opening M) → Type 0 = λ z. IsPassOf z a × Enters (passing s a) (passing z a) (map call_of es) in
      subst P (sym (is ∙ ap (after_turn (at_turn s xs)) grows)) (kept, enters)

  -- a turn in which the machine took a command, or had no memory to take it
  module _ (after : M → Actor → C → M) (effect : M → Actor → C → E) (reply : M → Actor → C → R) where
    pub answered : {D : Type 0} (r : Result R D) (s s' : TurnStanding (Entry M C E R) (Opening M)) (a : Actor) (command : C) (solo solo' : Journaled M C E R) → IsPassOf s a → IsPrefix s.seen solo.journal → 1 ≤ s.calls
        → IfOk r (λ x. x ≡ reply solo.machine a command) → OnOk r (solo' ≡ with_step after effect reply solo a command) → OnErr r (solo' ≡ solo) → s' ≡ after_turn (at_turn s solo.journal) solo'.journal
        → IsPassOf s' a × IfOk r (λ x. Enters (passing s a) (passing s' a) (record { command = command; reply = x } ∷ [])) × OnErr r (Enters (passing s a) (passing s' a) [])
    answered (Ok x) s s' a command solo solo' h pre room said did stays is =
        let e : Entry M C E R = entry_of effect reply solo.machine a command in
        let t = turned s s' a solo.journal solo'.journal (e ∷ []) h pre (ap (λ v. v.journal) did) (refl, tt) (omega arith) is in
        let P : R → Type 0 = λ y. Enters (passing s a) (passing s' a) (record { command = command; reply = y } ∷ []) in
        (t.0, subst P (sym said) t.1, tt)
    answered (Err d) s s' a command solo solo' h pre room said did stays is =
        let t = turned s s' a solo.journal solo'.journal [] h pre (ap (λ v. v.journal) stays ∙ sym (append-nil solo.journal)) tt (omega arith) is in
        (t.0, tt, t.1)

    -- how many of the commands a turn took
    pub some_taken : {D U : Type 0} (rest : D → List C) (r : Result U D) (a : Actor) (cs : List C) (solo solo' : Journaled M C E R) → OnOk r (solo' ≡ with_steps after effect reply solo a cs)
        → IfErr r (λ d. (taken : List C) × (taken ++ rest d ≡ cs) × (solo' ≡ with_steps after effect reply solo a taken))
        → (taken : List C) × (length taken ≤ length cs) × (solo' ≡ with_steps after effect reply solo a taken) × OnOk r (taken ≡ cs) × IfErr r (λ d. taken ++ rest d ≡ cs)
    some_taken rest (Ok u) a cs solo solo' did part = (cs, le_refl (length cs), did, refl, tt)
    some_taken rest (Err d) a cs solo solo' did part = let len = ap length part.1 in let split = length-append part.0 (rest d) in (part.0, omega arith, part.2, tt, part.1)

    pub answered_all : {D U : Type 0} (rest : D → List C) (r : Result U D) (s s' : TurnStanding (Entry M C E R) (Opening M)) (a : Actor) (cs : List C) (solo solo' : Journaled M C E R) → IsPassOf s a → IsPrefix s.seen solo.journal → length cs ≤ s.calls
        → OnOk r (solo' ≡ with_steps after effect reply solo a cs) → IfErr r (λ d. (taken : List C) × (taken ++ rest d ≡ cs) × (solo' ≡ with_steps after effect reply solo a taken))
        → s' ≡ after_turn (at_turn s solo.journal) solo'.journal
        → IsPassOf s' a × OnOk r (EntersAll (passing s a) (passing s' a) cs) × IfErr r (λ d. (taken : List C) × (taken ++ rest d ≡ cs) × EntersAll (passing s a) (passing s' a) taken)
    answered_all rest (Ok u) s s' a cs solo solo' h pre room did part is =
        let es : List (Entry M C E R) = entries_of after effect reply solo.machine a cs in
        let len = length-entries_of after effect reply solo.machine a cs in
        let t = turned s s' a solo.journal solo'.journal es h pre (ap (λ v. v.journal) did ∙ with_steps-journal after effect reply solo a cs) (entries_of-by after effect reply solo.machine a cs) (omega arith) is in
        (t.0, (map call_of es, entries_of-commands after effect reply solo.machine a cs, t.1), tt)
    answered_all rest (Err d) s s' a cs solo solo' h pre room did part is =
        let ds : List C = part.0 in
        let es : List (Entry M C E R) = entries_of after effect reply solo.machine a ds in
        let all = ap length part.1 in
        let split = length-append ds (rest d) in
        let len = length-entries_of after effect reply solo.machine a ds in
        let t = turned s s' a solo.journal solo'.journal es h pre (ap (λ v. v.journal) part.2 ∙ with_steps-journal after effect reply solo a ds) (entries_of-by after effect reply solo.machine a ds) (omega arith) is in
        (t.0, tt, (ds, part.1, (map call_of es, entries_of-commands after effect reply solo.machine a ds, t.1)))

  -- a seat that takes in another is a pass that takes in the other pass
  pub joined_passes : (s t s' : TurnStanding (Entry M C E R) (Opening M)) (a b : Actor) → IsPassOf s a → IsPassOf t b → IsPrefix s.seen s'.seen → IsPrefix t.seen s'.seen → s' ≡ seats.joined_turn_seat s t
      → IsPassOf s' a × (passing s' a ≡ joined_pass (passing s a) (passing t b))
  joined_passes s t s' a b h g pre pre' is =
      let now : TurnStanding (Entry M C E R) (Opening M) = seats.joined_turn_seat s t in
      let zs : List (Entry M C E R) = now.seen in
      let p : IsPrefix s.seen zs = subst (λ z. IsPrefix s.seen z.seen) is pre in
      let q : IsPrefix t.seen zs = subst (λ z. IsPrefix t.seen z.seen) is pre' in
      let who : b ≡ actor_of t.tag = sym (actor_of-tag_of b) ∙ ap actor_of (sym g.tag) in
      let put : ArePlaces zs 0 b t.put = ArePlaces-later t.seen zs 0 b t.put q g.put in
      let theirs : ArePlacesByTag zs ((t.tag, t.put) ∷ []) = (subst (λ x. ArePlaces zs 0 x t.put) who put, tt) in
      let kept : IsPassOf now a = record {
        tag = h.tag;
        rests = h.rests;
        put = ArePlaces-later s.seen zs 0 a s.put p h.put;
        joined = ByTag-append zs s.joined (t.joined ++ (t.tag, t.put) ∷ []) (ByTag-later s.seen zs s.joined p h.joined) (ByTag-append zs t.joined ((t.tag, t.put) ∷ []) (ByTag-later t.seen zs t.joined q g.joined) theirs);
      } in
      let last : joined_of zs ((t.tag, t.put) ∷ []) ≡ (b, calls_at t.seen t.put) ∷ [] = ap₂ (λ x cs. (x, cs) ∷ []) (sym who) (calls_at-later t.seen zs 0 b t.put q g.put) in
      let all : joined_of zs now.joined ≡ joined_of s.seen s.joined ++ (joined_of t.seen t.joined ++ (b, calls_at t.seen t.put) ∷ []) =
      joined_of-append zs s.joined (t.joined ++ (t.tag, t.put) ∷ [])
      ∙ ap₂ (λ us vs. us ++ vs) (joined_of-later s.seen zs s.joined p h.joined)
      (joined_of-append zs t.joined ((t.tag, t.put) ∷ []) ∙ ap₂ (λ us vs. us ++ vs) (joined_of-later t.seen zs t.joined q g.joined) last) in
      let made = calls_at-later s.seen zs 0 a s.put p h.put in
      let same : passing now a ≡ joined_pass (passing s a) (passing t b) = λ i. record {
        shared = s.turn;
        actor = a;
        parts = s.parts + t.parts;
        calls = s.calls + t.calls;
        seen = zs;
        made = made i;
        joined = all i;
      } in
      let P : TurnStanding (Entry M C E R) (Opening M) → Type 0 = λ z. IsPassOf z a × (passing z a ≡ joined_pass (passing s a) (passing t b)) in
      subst P (sym is) (kept, same)
