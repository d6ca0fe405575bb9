-- What any list of turns adds, and what each entry of a journal is.
use Rattle.std.proofs.Common.{◌≡◌, ◌+◌, List, [], ◌∷◌, ◌++◌, length, refl, sym, ap, ◌∙◌, subst, arith, append_assoc, append-nil, length-append}
use mathlib.Core.List.{IsPrefix}
use Rattle.grove_edits.specs.declared.actor.Actor.{Actor}
use Rattle.turn_lock.proofs.Views.{prefix_self, prefix_then}
use Rattle.shared_replica.specs.declared.journal.Entry.{Entry}
use Rattle.shared_replica.specs.Replays.{machine_after, AreSteps}
use Rattle.shared_replica.specs.Passes.{Call, Passing, Enters, EntersInTurns, all_calls}

module _ {M C E R : Type 0} where
  pub step_at : (after : M → Actor → C → M) (effect : M → Actor → C → E) (reply : M → Actor → C → R) (m : M) (es fs : List (Entry M C E R)) (e : Entry M C E R) → AreSteps after effect reply m (es ++ e ∷ fs)
      → (e.effect ≡ effect (machine_after after m es) e.actor e.command) × (e.reply ≡ reply (machine_after after m es) e.actor e.command)
  step_at after effect reply m [] fs e s = (s.0, s.1)
  step_at after effect reply m (x ∷ es) fs e s = step_at after effect reply (after m x.actor x.command) es fs e s.2

  pub record Adds (before after : Passing M C E R) (calls : List (Call C R)) : Type 0 where
    pub seen : IsPrefix before.seen after.seen
    pub made : after.made ≡ before.made ++ calls
    pub left : after.calls + length calls ≡ before.calls
    pub same : (after.shared ≡ before.shared) × (after.actor ≡ before.actor) × (after.parts ≡ before.parts) × (after.joined ≡ before.joined)

  pub turns_add : (b a : Passing M C E R) (turns : List (List (Call C R))) → EntersInTurns b a turns → Adds b a (all_calls turns)
  turns_add b a [] e = subst (λ z. Adds b z []) e record { seen = prefix_self b.seen; made = sym (append-nil b.made); left = omega arith; same = (refl, refl, refl, refl) }
  turns_add b a (cs ∷ ts) t =
      let m : Passing M C E R = t.0 in
      let h : Enters b m cs = t.1 in
      let r : Adds m a (all_calls ts) = turns_add m a ts t.2 in
      let l = length-append cs (all_calls ts) in
      let x = r.left in
      let y = h.left in
      record {
        seen = prefix_then b.seen m.seen a.seen (prefix_then b.seen h.earlier m.seen h.later (h.entries, sym h.seen)) r.seen;
        made = r.made ∙ (ap (λ xs. xs ++ all_calls ts) h.made ∙ append_assoc b.made cs (all_calls ts));
        left = omega arith;
        same = (r.same.0 ∙ h.same.0, r.same.1 ∙ h.same.1, r.same.2 ∙ h.same.2, r.same.3 ∙ h.same.3);
      }
