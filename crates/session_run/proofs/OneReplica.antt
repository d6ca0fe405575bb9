-- Replicas of which the last one ran a plan beside the others.
use Rattle.std.proofs.Common.{◌≡◌, ℕ, List, [], ◌∷◌, ◌++◌, length, Result, Ok, Err, IfOk, OnOk, sym, ap, subst, ◌∙◌, length-append, arith}
use Rattle.std.specs.Global.{Vec}
use Rattle.std.specs.List.{AllByRecursion, flat_map}
use Rattle.grove_edits.specs.declared.actor.Actor.{Actor}
use Rattle.grove_edits.specs.declared.command.Command.{Command}
use Rattle.shared_replica.specs.declared.journal.Entry.{Entry}
use Rattle.author_desk.specs.declared.cuts.Cuts.{Cuts}
use Rattle.author_desk.specs.Cuts.{opening_edits, Raises, KeepsSeat}
use Rattle.shared_replica.specs.Solos.{Replays}
use Rattle.session_run.specs.declared.block.Plan.{Plan}
use Rattle.session_run.specs.declared.worker.Worker.{Worker}
use Rattle.session_run.specs.Boards.{slots_at, TurnsStand}
use Rattle.session_run.specs.Calls.{Stage}
use Rattle.session_run.specs.Passes.{StandsIn, IsJournalOf}
use Rattle.session_run.specs.Workers.{slots_of, AreForAuthors, AreForSends}
use Rattle.session_run.specs.Plans.{at_replica, CanRunPlan, EachKeepsSeat, EachRaises, EachTurnsStand, AppendsReplica, HasRunPlan, HaveRunPlan}
use Rattle.session_run.proofs.Each.{pair_more, one_more_has_run}
use Rattle.session_run.proofs.AtReplica.{slots_of_workers, turns_stand}
use Rattle.session_run.proofs.Planned.{has_run}

module _ {M E R : Type 0} (after : M → Actor → Command → M) (effect : M → Actor → Command → E) (reply : M → Actor → Command → R) where
  -- what a replica has run, by what its workers did
  pub has_run_plan : {X : Type 0} (plan : Plan) (replica : ℕ) (first : M) (cuts cuts' : Cuts) (authors sends workers : List Worker) → CanRunPlan plan → AreForAuthors replica plan.lines.now authors
      → AreForSends plan.sources.now replica plan.first_send plan.sends.now sends → workers ≡ authors ++ sends → (ran : Result (M × List (Entry M Command E R)) X) → KeepsSeat cuts cuts'
      → IfOk ran (λ r. IsJournalOf workers r.1) → IfOk ran (λ r. Replays after effect reply first r.1 r.0) → OnOk ran (Raises cuts cuts' (flat_map (slots_of (opening_edits cuts)) workers))
      → IfOk ran (λ r. AllByRecursion (StandsIn (opening_edits cuts) r.1) workers) → HasRunPlan after effect reply plan replica first cuts cuts' ran
  has_run_plan plan replica first cuts cuts' authors sends workers can for_authors for_sends both (Err e) keeps journal replays raised stand =
      record { keeps_seat = keeps; has_run = tt; raised = tt; stand = tt }
  has_run_plan plan replica first cuts cuts' authors sends workers can for_authors for_sends both (Ok r) keeps journal replays raised stand = record {
    keeps_seat = keeps;
    has_run = λ stage of. has_run after effect reply stage plan replica first r.0 r.1 authors sends workers of can for_authors for_sends both journal replays;
    raised = λ stage of.
        subst (Raises cuts cuts') (slots_of_workers (at_replica stage replica) (opening_edits cuts) plan.sources.now plan.first_send plan.sends.now plan.lines.now authors sends workers of.lines for_authors for_sends both) raised;
    stand = λ stage of. turns_stand (at_replica stage replica) (opening_edits cuts) r.1 plan.lines.now authors sends workers of.lines for_authors both stand
        (has_run after effect reply stage plan replica first r.0 r.1 authors sends workers of can for_authors for_sends both journal replays).calls;
  }

  module _ (plan : Plan) (replica : ℕ) (first : M) (firsts all_firsts : List M) (own own' : Cuts) (cuts cuts' all all' : List Cuts)
      (is_firsts : all_firsts ≡ firsts ++ first ∷ []) (is_all : all ≡ cuts ++ own ∷ []) (is_all' : all' ≡ cuts' ++ own' ∷ [])
      (is_here : replica ≡ length firsts) (many : length cuts ≡ length firsts) where
    seats_more : length cuts' ≡ length cuts → EachKeepsSeat cuts cuts' → KeepsSeat own own' → EachKeepsSeat all all'
    seats_more as_many each one =
        subst (λ (cs : List Cuts). EachKeepsSeat cs all') (sym is_all) (subst (EachKeepsSeat (cuts ++ own ∷ [])) (sym is_all') (pair_more (λ k a b. KeepsSeat a b) cuts cuts' own own' as_many each one))

    raised_more : (stage : Stage) → length cuts' ≡ length cuts → EachRaises stage cuts cuts' → Raises own own' (slots_at (at_replica stage replica) (opening_edits own)) → EachRaises stage all all'
    raised_more stage as_many each one =
        let here = subst (λ (n : ℕ). Raises own own' (slots_at (at_replica stage n) (opening_edits own))) (is_here ∙ sym many) one in
        subst (λ (cs : List Cuts). EachRaises stage cs all') (sym is_all)
        (subst (EachRaises stage (cuts ++ own ∷ [])) (sym is_all') (pair_more (λ k a b. Raises a b (slots_at (at_replica stage k) (opening_edits a))) cuts cuts' own own' as_many each here))

    stand_more : (stage : Stage) (journals new : List (List (Entry M Command E R))) (journal : List (Entry M Command E R)) → length journals ≡ length firsts → new ≡ journals ++ journal ∷ []
        → EachTurnsStand stage cuts journals → TurnsStand (at_replica stage replica) (opening_edits own) journal → EachTurnsStand stage all new
    stand_more stage journals new journal as_many is each one =
        let here = subst (λ (n : ℕ). TurnsStand (at_replica stage n) (opening_edits own) journal) (is_here ∙ sym many) one in
        subst (λ (cs : List Cuts). EachTurnsStand stage cs new) (sym is_all)
        (subst (EachTurnsStand stage (cuts ++ own ∷ [])) (sym is)
        (pair_more (λ k a (b : List (Entry M Command E R)). TurnsStand (at_replica stage k) (opening_edits a) b) cuts journals own journal (as_many ∙ sym many) each here))

    length_more : {A : Type 0} (xs ys : List A) (x : A) → ys ≡ xs ++ x ∷ [] → length xs ≡ length firsts → length ys ≡ length all_firsts
    length_more xs ys x is as_many =
        let one = ap length is in
        let two = ap length is_firsts in
        let three = length-append xs (x ∷ []) in
        let four = length-append firsts (first ∷ []) in
        omega arith

    -- what all have run, once the last one has
    pub replica_more : {X : Type 0} (others new : Result (Vec M × Vec (List (Entry M Command E R))) X) (ran : Result (M × List (Entry M Command E R)) X) → HaveRunPlan after effect reply plan firsts cuts cuts' others
        → HasRunPlan after effect reply plan replica first own own' ran → IfOk new (AppendsReplica others ran) → HaveRunPlan after effect reply plan all_firsts all all' new
    replica_more others (Err e) ran h k appends = record {
      as_many_cuts = (let as_many = h.as_many_cuts in let one = ap length is_all in let two = ap length is_all' in let three = length-append cuts (own ∷ []) in let four = length-append cuts' (own' ∷ []) in omega arith);
      keep_seats = seats_more h.as_many_cuts h.keep_seats k.keeps_seat;
      as_many = tt;
      as_many_journals = tt;
      have_run = tt;
      raised = tt;
      stand = tt;
    }
    replica_more others (Ok r) ran h k appends =
        let front = appends.front in
        let last = appends.last in
        let theirs = subst (HaveRunPlan after effect reply plan firsts cuts cuts') appends.are_others h in
        let mine = subst (HasRunPlan after effect reply plan replica first own own') appends.is_last k in
        record {
          as_many_cuts = (let as_many = h.as_many_cuts in let one = ap length is_all in let two = ap length is_all' in let three = length-append cuts (own ∷ []) in let four = length-append cuts' (own' ∷ []) in omega arith);
          keep_seats = seats_more h.as_many_cuts h.keep_seats k.keeps_seat;
          as_many = length_more front.0.items r.0.items last.0 appends.machines theirs.as_many;
          as_many_journals = length_more front.1.items r.1.items last.1 appends.journals theirs.as_many_journals;
          have_run = λ stage of.
              one_more_has_run after effect reply stage all_firsts firsts front.0.items r.0.items front.1.items r.1.items first last.0 last.1 replica theirs.as_many theirs.as_many_journals (theirs.have_run stage of)
              is_here (mine.has_run stage of) is_firsts appends.machines appends.journals;
          raised = λ stage of. raised_more stage h.as_many_cuts (theirs.raised stage of) (mine.raised stage of);
          stand = λ stage of. stand_more stage front.1.items r.1.items last.1 theirs.as_many_journals appends.journals (theirs.stand stage of) (mine.stand stage of);
        }
