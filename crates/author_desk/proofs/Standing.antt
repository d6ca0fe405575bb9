-- Where the entries of turns stand.
use Rattle.std.proofs.Common.{◌≡◌, ◌≢◌, ℕ, ◌+◌, ◌≤◌, Bool, true, false, cond, List, [], ◌∷◌, ◌++◌, length, map, refl, sym, ap, ◌∙◌, subst, append_assoc, length-append, arith}
use Rattle.std.proofs.lemmas.Bool.{false≢true, eq-eqb}
use mathlib.Core.List.{IsPrefix}
use Rattle.grove_edits.specs.declared.actor.Actor.{Actor}
use Rattle.grove_edits.specs.declared.actor.Actor.TheVariants.{Host, Author, Send}
use Rattle.shared_replica.specs.declared.journal.Entry.{Entry}
use Rattle.shared_replica.specs.Passes.{Call, call_of, calls_by, same_actor, AreBy, all_calls, Passing, Enters, EntersInTurns}
use Rattle.author_desk.specs.Together.{StandInOrder, AreOfOthers, AreRunsOf}

module _ {M C E R : Type 0} where
  -- what a pass entered in turns stands in what it had not seen before them
  pub stand_behind : (b a : Passing M C E R) (ts : List (List (Call C R))) (journal : List (Entry M C E R)) → EntersInTurns b a ts → IsPrefix a.seen journal
      → (rest : List (Entry M C E R)) × (b.seen ++ rest ≡ journal) × StandInOrder b.actor rest ts
  stand_behind b a [] journal e pre = (pre.0, ap (λ (p : Passing M C E R). p.seen ++ pre.0) e ∙ pre.1, tt)
  stand_behind b a (t ∷ ts) journal e pre =
      let m : Passing M C E R = e.0 in
      let h : Enters b m t = e.1 in
      let gap : List (Entry M C E R) = h.later.0 in
      let behind = stand_behind m a ts journal e.2 pre in
      let rest : List (Entry M C E R) = behind.0 in (
        gap ++ (h.entries ++ rest),
        sym (append_assoc b.seen gap (h.entries ++ rest)) ∙ (ap (λ xs. xs ++ (h.entries ++ rest)) h.later.1 ∙ (sym (append_assoc h.earlier h.entries rest) ∙ (ap (λ xs. xs ++ rest) (sym h.seen) ∙ behind.1))),
        (gap, h.entries, rest, refl, h.are, h.by, subst (λ who. StandInOrder who rest ts) h.same.1 behind.2),
      )

  -- so it stands behind anything
  pub stand_later : (actor : Actor) (front journal : List (Entry M C E R)) (ts : List (List (Call C R))) → StandInOrder actor journal ts → StandInOrder actor (front ++ journal) ts
  stand_later actor front journal [] h = tt
  stand_later actor front journal (t ∷ ts) h =
      (front ++ h.0, h.1, h.2, ap (λ es. front ++ es) h.3 ∙ sym (append_assoc front h.0 (h.1 ++ h.2)), h.4, h.5, h.6)

  -- and before anything
  pub stand_before : (actor : Actor) (journal back : List (Entry M C E R)) (ts : List (List (Call C R))) → StandInOrder actor journal ts → StandInOrder actor (journal ++ back) ts
  stand_before actor journal back [] h = tt
  stand_before actor journal back (t ∷ ts) h = (
    h.0,
    h.1,
    h.2 ++ back,
    ap (λ es. es ++ back) h.3 ∙ (append_assoc h.0 (h.1 ++ h.2) back ∙ ap (λ es. h.0 ++ es) (append_assoc h.1 h.2 back)),
    h.4,
    h.5,
    stand_before actor h.2 back ts h.6,
  )

  pub stand : (b a : Passing M C E R) (ts : List (List (Call C R))) (journal : List (Entry M C E R)) → EntersInTurns b a ts → IsPrefix a.seen journal → StandInOrder b.actor journal ts
  stand b a ts journal e pre =
      let h = stand_behind b a ts journal e pre in
      subst (λ es. StandInOrder b.actor es ts) h.1 (stand_later b.actor b.seen h.0 ts h.2)

-- ---- where the runs are all calls of the actor

actor_itself : (actor : Actor) → same_actor actor actor ≡ true
actor_itself Host = refl
actor_itself (Author author) = eq-eqb author author refl
actor_itself (Send number) = eq-eqb number number refl

module _ {M C E R : Type 0} (actor : Actor) where
  calls_by-append : (es fs : List (Entry M C E R)) → calls_by actor (es ++ fs) ≡ calls_by actor es ++ calls_by actor fs
  calls_by-append [] fs = refl
  calls_by-append (e ∷ es) fs = by_test (same_actor e.actor actor) (calls_by-append es fs) where
    by_test : (b : Bool) → calls_by actor (es ++ fs) ≡ calls_by actor es ++ calls_by actor fs
        → cond b (call_of e ∷ calls_by actor (es ++ fs)) (calls_by actor (es ++ fs)) ≡ cond b (call_of e ∷ calls_by actor es) (calls_by actor es) ++ calls_by actor fs
    by_test true rest = ap (λ cs. call_of e ∷ cs) rest
    by_test false rest = rest

  calls_of_own : (es : List (Entry M C E R)) → AreBy actor es → calls_by actor es ≡ map call_of es
  calls_of_own [] by = refl
  calls_of_own (e ∷ es) by =
      let test : same_actor e.actor actor ≡ true = ap (λ (a : Actor). same_actor a actor) by.0 ∙ actor_itself actor in
      ap (λ (b : Bool). cond b (call_of e ∷ calls_by actor es) (calls_by actor es)) test ∙ ap (λ cs. call_of e ∷ cs) (calls_of_own es by.1)

  of_others : (es : List (Entry M C E R)) → length (calls_by actor es) ≡ 0 → AreOfOthers actor es
  of_others [] none = tt
  of_others (e ∷ es) none = by_test (same_actor e.actor actor) refl none (of_others es) where
    by_test : (b : Bool) → same_actor e.actor actor ≡ b → length (cond b (call_of e ∷ calls_by actor es) (calls_by actor es)) ≡ 0 → (length (calls_by actor es) ≡ 0 → AreOfOthers actor es)
        → (e.actor ≢ actor) × AreOfOthers actor es
    by_test true is none rest = absurd (omega arith)
    by_test false is none rest = ((λ (same : e.actor ≡ actor). absurd (false≢true (sym is ∙ (ap (λ (a : Actor). same_actor a actor) same ∙ actor_itself actor)))), rest none)

  -- how many calls of the actor there are before a run, in it and behind it
  counted : (earlier entries later journal : List (Entry M C E R)) (calls : List (Call C R)) → journal ≡ earlier ++ (entries ++ later) → map call_of entries ≡ calls → AreBy actor entries
      → length (calls_by actor journal) ≡ length (calls_by actor earlier) + (length calls + length (calls_by actor later))
  counted earlier entries later journal calls is are by =
      ap (λ es. length (calls_by actor es)) is
      ∙ (ap length (calls_by-append earlier (entries ++ later))
      ∙ (length-append (calls_by actor earlier) (calls_by actor (entries ++ later))
      ∙ ap (λ (n : ℕ). length (calls_by actor earlier) + n)
      (ap length (calls_by-append entries later)
      ∙ (length-append (calls_by actor entries) (calls_by actor later) ∙ ap (λ (cs : List (Call C R)). length cs + length (calls_by actor later)) (calls_of_own entries by ∙ are)))))

  at_least : (journal : List (Entry M C E R)) (ts : List (List (Call C R))) → StandInOrder actor journal ts → length (all_calls ts) ≤ length (calls_by actor journal)
  at_least journal [] h = omega arith
  at_least journal (t ∷ ts) h =
      let all = counted h.0 h.1 h.2 journal t h.3 h.4 h.5 in
      let rest = at_least h.2 ts h.6 in
      let both = length-append t (all_calls ts) in
      omega arith

  -- runs that are all calls of the actor have entries of others alone between them
  pub are_runs : (journal : List (Entry M C E R)) (ts : List (List (Call C R))) → length (calls_by actor journal) ≡ length (all_calls ts) → StandInOrder actor journal ts → AreRunsOf actor journal ts
  are_runs journal [] many h = of_others journal many
  are_runs journal (t ∷ ts) many h =
      let all = counted h.0 h.1 h.2 journal t h.3 h.4 h.5 in
      let rest = at_least h.2 ts h.6 in
      let both = length-append t (all_calls ts) in
      (h.0, h.1, h.2, h.3, of_others h.0 (omega arith), h.4, h.5, are_runs h.2 ts (omega arith) h.6)
