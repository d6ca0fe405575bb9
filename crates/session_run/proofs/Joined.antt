-- A worker that is split off, and joined again once it and the others ran.
use Rattle.std.proofs.Common.{◌≡◌, ℕ, suc, ◌+◌, ◌-◌, ◌≤◌, List, [], ◌∷◌, ◌++◌, length, sum_by, Ok, Err, refl, ap, subst, ◌∙◌, append_assoc, arith}
use Rattle.std.specs.Prelude.{Result}
use Rattle.std.specs.List.{AllByRecursion}
use Rattle.std.specs.Result.{OnOk, result_and}
use Rattle.std.proofs.lemmas.List.Sums.{sum_by-append, sum_by-cons}
use Rattle.grove_edits.specs.declared.actor.Actor.{Actor}
use Rattle.grove_edits.specs.declared.actor.Actor.TheVariants.{Host}
use Rattle.grove_edits.specs.declared.command.Command.{Command}
use Rattle.shared_replica.specs.declared.journal.Entry.{Entry}
use Rattle.shared_replica.specs.Passes.{Call, Passing, kept_pass, given_pass, joined_pass, all_made, calls_by, AreNamed, StandsOnce}
use Rattle.session_run.specs.declared.worker.Worker.{Worker}
use Rattle.session_run.specs.Workers.{actor_of, AreCommandsOf}
use Rattle.author_desk.specs.Turns.{commands_of}
use Rattle.session_run.specs.Passes.{Makes, Keeps, HaveRun, IsJournalOf}

-- ---- the last of some workers

pub all_front : (P : Worker → Type 0) (front : List Worker) (last : Worker) → AllByRecursion P (front ++ last ∷ []) → AllByRecursion P front × P last
all_front P [] last h = (tt, h.0)
all_front P (w ∷ front) last h = let more = all_front P front last h.1 in ((h.0, more.0), more.1)

pub sum_of_front : (count : Worker → ℕ) (front : List Worker) (last : Worker) → sum_by count (front ++ last ∷ []) ≡ sum_by count front + count last
sum_of_front count front last =
    let both = sum_by-append count front (last ∷ []) in
    let one = sum_by-cons count last [] in
    omega (arith, both, one)

pub length_front : (front : List Worker) (last : Worker) → length (front ++ last ∷ []) ≡ suc (length front)
length_front [] last = refl
length_front (w ∷ front) last = ap suc (length_front front last)

module _ {R : Type 0} where
  pub have_run_last : (front : List Worker) (last : Worker) (made : List (Actor × List (Call Command R))) (actor : Actor) (calls : List (Call Command R)) → HaveRun front made
      → actor ≡ actor_of last → AreCommandsOf last (commands_of calls) → HaveRun (front ++ last ∷ []) (made ++ (actor, calls) ∷ [])
  have_run_last [] last [] actor calls ran is are = (is, are, tt)
  have_run_last [] last (t ∷ ts) actor calls ran is are = absurd ran
  have_run_last (w ∷ front) last [] actor calls ran is are = absurd ran
  have_run_last (w ∷ front) last (t ∷ ts) actor calls ran is are = (ran.0, ran.1, have_run_last front last ts actor calls ran.2 is are)

module _ {M E R : Type 0} (pass kept rest final worker after : Passing M Command E R) (actor : Actor) (calls : ℕ) (made : List (Call Command R))
    (is_kept : kept ≡ kept_pass pass calls) (is_given : worker ≡ given_pass pass actor calls) (makes : Makes worker after made) (keeps : Keeps kept rest) (is_final : final ≡ joined_pass rest after) where
  pub keeps_joined : 2 ≤ pass.parts → Keeps pass final
  keeps_joined some = record {
    shared = ap (λ (p : Passing M Command E R). p.shared) is_final ∙ keeps.shared ∙ ap (λ (p : Passing M Command E R). p.shared) is_kept;
    actor = ap (λ (p : Passing M Command E R). p.actor) is_final ∙ keeps.actor ∙ ap (λ (p : Passing M Command E R). p.actor) is_kept;
    parts = (let all : final.parts ≡ rest.parts + after.parts = ap (λ (p : Passing M Command E R). p.parts) is_final in
        let one = keeps.parts in
        let left : kept.parts ≡ pass.parts - 1 = ap (λ (p : Passing M Command E R). p.parts) is_kept in
        let two = makes.parts in
        let given : worker.parts ≡ 1 = ap (λ (p : Passing M Command E R). p.parts) is_given in
        omega arith);
    made = ap (λ (p : Passing M Command E R). p.made) is_final ∙ keeps.made ∙ ap (λ (p : Passing M Command E R). p.made) is_kept;
  }

  pub joined_last : (more : List (Actor × List (Call Command R))) → rest.joined ≡ kept.joined ++ more → final.joined ≡ pass.joined ++ (more ++ (actor, made) ∷ [])
  joined_last more joined =
      let others : after.joined ≡ [] = makes.joined ∙ ap (λ (p : Passing M Command E R). p.joined) is_given in
      let who : after.actor ≡ actor = makes.actor ∙ ap (λ (p : Passing M Command E R). p.actor) is_given in
      let its : after.made ≡ made = makes.made ∙ ap (λ (p : Passing M Command E R). p.made ++ made) is_given in
      let before : rest.joined ≡ pass.joined ++ more = joined ∙ ap (λ (p : Passing M Command E R). p.joined ++ more) is_kept in
      ap (λ (p : Passing M Command E R). p.joined) is_final
      ∙ ap (λ (ts : List (Actor × List (Call Command R))). ts ++ (after.joined ++ (after.actor, after.made) ∷ [])) before
      ∙ ap (λ (ts : List (Actor × List (Call Command R))). (pass.joined ++ more) ++ (ts ++ (after.actor, after.made) ∷ [])) others
      ∙ ap (λ (a : Actor). (pass.joined ++ more) ++ (a, after.made) ∷ []) who
      ∙ ap (λ (cs : List (Call Command R)). (pass.joined ++ more) ++ (actor, cs) ∷ []) its
      ∙ append_assoc pass.joined more ((actor, made) ∷ [])

-- ---- results

-- two results, where both are there
pub and_ok : {E : Type 0} (r s : Result (Unit {0}) E) (P Q S : Type 0) → OnOk r P → OnOk s Q → (P → Q → S) → OnOk (result_and r s) S
and_ok (Ok x) (Ok y) P Q S p q f = f p q
and_ok (Ok x) (Err e) P Q S p q f = tt
and_ok (Err e) s P Q S p q f = tt

pub when_ok : {E : Type 0} (r : Result (Unit {0}) E) (x : Unit {0}) (P : Type 0) → OnOk r P → r ≡ Ok x → P
when_ok {E = E} r x P p is = subst (λ (s : Result (Unit {0}) E). OnOk s P) is p

module _ {M E R : Type 0} where
  -- what the host knows at the end
  pub is_journal : (workers : List Worker) (journal : List (Entry M Command E R)) (first host : Passing M Command E R) → first.actor ≡ Host → first.made ≡ [] → first.joined ≡ [] → Keeps first host
      → ((more : List (Actor × List (Call Command R))) × HaveRun workers more × (host.joined ≡ first.joined ++ more)) → AreNamed journal (all_made host)
      → ((actor : Actor) (calls : List (Call Command R)) → StandsOnce actor calls (all_made host) → calls_by actor journal ≡ calls) → IsJournalOf workers journal
  is_journal workers journal first host is_host none_made none_joined keeps joined named exact =
      let all : all_made host ≡ (Host, []) ∷ joined.0 =
      ap (λ (a : Actor). (a, host.made) ∷ host.joined) (keeps.actor ∙ is_host)
      ∙ ap (λ (cs : List (Call Command R)). (Host, cs) ∷ host.joined) (keeps.made ∙ none_made)
      ∙ ap (λ (ts : List (Actor × List (Call Command R))). (Host, []) ∷ ts) (joined.2 ∙ ap (λ (ts : List (Actor × List (Call Command R))). ts ++ joined.0) none_joined) in record {
        made = joined.0;
        have_run = joined.1;
        named = subst (AreNamed journal) all named;
        exact = subst (λ (ts : List (Actor × List (Call Command R))). (actor : Actor) (calls : List (Call Command R)) → StandsOnce actor calls ts → calls_by actor journal ≡ calls) all exact;
      }
