-- A journal that goes on.
use Rattle.std.proofs.Common.{◌≡◌, suc, length, map, append_assoc, append-nil, List, [], ◌∷◌, ◌++◌, refl, sym, ap, ◌∙◌}
use Rattle.grove_edits.specs.declared.actor.Actor.{Actor}
use Rattle.shared_replica.specs.declared.journal.Entry.{Entry}
use Rattle.shared_replica.specs.Replays.{machine_after, AreSteps, entry_of}
use Rattle.shared_replica.specs.Passes.{call_of, AreBy}
use Rattle.shared_replica.specs.Solos.{Journaled, with_step, with_steps, Replays}

module _ {M C E R : Type 0} (after : M → Actor → C → M) (effect : M → Actor → C → E) (reply : M → Actor → C → R) where
  abbrev En : Type 0
  En = Entry M C E R

  pub machine_after-append : (m : M) (es fs : List En) → machine_after after m (es ++ fs) ≡ machine_after after (machine_after after m es) fs
  machine_after-append m [] fs = refl
  machine_after-append m (e ∷ es) fs = machine_after-append (after m e.actor e.command) es fs

  pub AreSteps-append : (m : M) (es fs : List En) → AreSteps after effect reply m es → AreSteps after effect reply (machine_after after m es) fs → AreSteps after effect reply m (es ++ fs)
  AreSteps-append m [] fs p q = q
  AreSteps-append m (e ∷ es) fs p q = (p.0, p.1, AreSteps-append (after m e.actor e.command) es fs p.2 q)

  -- a step more
  pub replays_more : (first machine machine' : M) (journal : List En) (e : En) → Replays after effect reply first journal machine → e.effect ≡ effect machine e.actor e.command → e.reply ≡ reply machine e.actor e.command
      → machine' ≡ after machine e.actor e.command → Replays after effect reply first (journal ++ e ∷ []) machine'
  replays_more first machine machine' journal e r did said is = record {
    steps = AreSteps-append first journal (e ∷ []) r.steps (did ∙ ap (λ m. effect m e.actor e.command) r.is, said ∙ ap (λ m. reply m e.actor e.command) r.is, tt);
    is = is ∙ (ap (λ m. after m e.actor e.command) r.is ∙ sym (machine_after-append first journal (e ∷ [])));
  }

  pub with_steps-push : (solo : Journaled M C E R) (a : Actor) (cs : List C) (c : C) → with_steps after effect reply solo a (cs ++ c ∷ []) ≡ with_step after effect reply (with_steps after effect reply solo a cs) a c
  with_steps-push solo a [] c = refl
  with_steps-push solo a (d ∷ cs) c = with_steps-push (with_step after effect reply solo a d) a cs c

  -- the entries of these commands, one after the other
  abbrev pub entries_of : M → Actor → List C → List (Entry M C E R)
  entries_of m a [] = []
  entries_of m a (c ∷ cs) = entry_of effect reply m a c ∷ entries_of (after m a c) a cs

  pub with_steps-journal : (solo : Journaled M C E R) (a : Actor) (cs : List C) → (with_steps after effect reply solo a cs).journal ≡ solo.journal ++ entries_of solo.machine a cs
  with_steps-journal solo a [] = sym (append-nil solo.journal)
  with_steps-journal solo a (c ∷ cs) = with_steps-journal (with_step after effect reply solo a c) a cs ∙ append_assoc solo.journal (entry_of effect reply solo.machine a c ∷ []) (entries_of (after solo.machine a c) a cs)

  pub with_steps-calls : (solo : Journaled M C E R) (a : Actor) (cs : List C) → (with_steps after effect reply solo a cs).calls ≡ solo.calls
  with_steps-calls solo a [] = refl
  with_steps-calls solo a (c ∷ cs) = with_steps-calls (with_step after effect reply solo a c) a cs

  pub entries_of-commands : (m : M) (a : Actor) (cs : List C) → map (λ c. c.command) (map call_of (entries_of m a cs)) ≡ cs
  entries_of-commands m a [] = refl
  entries_of-commands m a (c ∷ cs) = ap (λ ds. c ∷ ds) (entries_of-commands (after m a c) a cs)

  pub entries_of-by : (m : M) (a : Actor) (cs : List C) → AreBy a (entries_of m a cs)
  entries_of-by m a [] = tt
  entries_of-by m a (c ∷ cs) = (refl, entries_of-by (after m a c) a cs)

  pub length-entries_of : (m : M) (a : Actor) (cs : List C) → length (entries_of m a cs) ≡ length cs
  length-entries_of m a [] = refl
  length-entries_of m a (c ∷ cs) = ap suc (length-entries_of (after m a c) a cs)
