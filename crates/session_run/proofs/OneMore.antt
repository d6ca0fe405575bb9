-- Workers, of which the last one ran beside the others.
use Rattle.std.proofs.Common.{◌≡◌, ℕ, ◌≤◌, List, [], ◌∷◌, ◌++◌, Result, Ok, refl, sym, ap, ap₂, subst, ◌∙◌, append-nil, arith}
use Rattle.std.specs.List.{AllByRecursion, flat_map}
use Rattle.std.specs.Result.{result_and}
use Rattle.std.proofs.lemmas.Grind.{flat_map-append}
use mathlib.Core.List.{IsPrefix}
use Rattle.grove_edits.specs.declared.actor.Actor.TheVariants as actor
use Rattle.grove_edits.specs.declared.action.Action.{Action}
use Rattle.grove_edits.specs.declared.command.Command.{Command}
use Rattle.grove_edits.specs.declared.edit.Edit.{Edit}
use Rattle.shared_replica.specs.declared.journal.Entry.{Entry}
use Rattle.shared_replica.specs.Passes.{Passing, kept_pass, given_pass, joined_pass}
use Rattle.author_desk.specs.declared.cuts.Cuts.{Cuts}
use Rattle.author_desk.specs.Cuts.{opening_edits, HasPartsFor, TakesIn, Raises}
use Rattle.author_desk.specs.Together.{StandInOrder}
use Rattle.author_desk.proofs.Raising.{raises_none}
use Rattle.author_desk.proofs.Standing.{stand_before}
use Rattle.session_run.specs.declared.worker.Worker.{Worker}
use Rattle.session_run.specs.declared.worker.Worker.TheVariants as worker
use Rattle.session_run.specs.Workers.{actor_of, calls_of, seats_of, slots_of, HandsTo}
use Rattle.session_run.specs.Passes.{LinesStand, HasWorked, HaveWorked, StandsIn}
use Rattle.session_run.proofs.Joined.{have_run_last, keeps_joined, joined_last, and_ok}
use Rattle.session_run.proofs.Seats.{handed_opening, given_opening, seat_whole, raised_by_both}
use Rattle.session_run.proofs.Worked.{seat_kept}

module _ {M E R : Type 0} where
  lines_later : (author : ℕ) (journal longer : List (Entry M Command E R)) (lines : List (List Action)) → IsPrefix journal longer → LinesStand author journal lines → LinesStand author longer lines
  lines_later author journal longer lines later h = (h.0, h.1, subst (λ es. StandInOrder (actor.Author author) es h.0) later.1 (stand_before (actor.Author author) journal later.0 h.0 h.2))

  -- what stands in a journal stands in what it grows to
  stands_later : (opening : List Edit) (journal longer : List (Entry M Command E R)) (w : Worker) → IsPrefix journal longer → StandsIn opening journal w → StandsIn opening longer w
  stands_later opening journal longer (worker.Author lines) later h = lines_later _ journal longer _ later h
  stands_later opening journal longer (worker.Send number pieces) later h = tt

  pub all_later : (opening : List Edit) (journal longer : List (Entry M Command E R)) (workers : List Worker) → IsPrefix journal longer → AllByRecursion (StandsIn opening journal) workers → AllByRecursion (StandsIn opening longer) workers
  all_later opening journal longer [] later h = tt
  all_later opening journal longer (w ∷ ws) later h = (stands_later opening journal longer w later h.0, all_later opening journal longer ws later h.1)

all_of_front : (P : Worker → Type 0) (front : List Worker) (last : Worker) → AllByRecursion P front → P last → AllByRecursion P (front ++ last ∷ [])
all_of_front P [] last h k = (k, tt)
all_of_front P (w ∷ ws) last h k = (h.0, all_of_front P ws last h.1 k)

slots_of_front : (opening : List Edit) (front : List Worker) (last : Worker) → flat_map (slots_of opening) front ++ slots_of opening last ≡ flat_map (slots_of opening) (front ++ last ∷ [])
slots_of_front opening front last =
    ap (λ slots. flat_map (slots_of opening) front ++ slots) (sym (append-nil (slots_of opening last))) ∙ sym (flat_map-append (slots_of opening) front (last ∷ []))

-- only an author's slots depend on the opening edges
given_slots : (w : Worker) (c c1 own : Cuts) → HandsTo w c c1 own → slots_of (opening_edits own) w ≡ slots_of (opening_edits c) w
given_slots (worker.Author lines) c c1 own h = ap (λ opening. slots_of opening (worker.Author lines)) (given_opening c c1 own h)
given_slots (worker.Send number pieces) c c1 own h = refl

no_slots : (opening : List Edit) (w : Worker) → seats_of w ≡ 0 → slots_of opening w ≡ []
no_slots opening (worker.Author lines) none = absurd (omega arith)
no_slots opening (worker.Send number pieces) none = refl

module _ {M E R : Type 0} where
  given_stands : (w : Worker) (c c1 own : Cuts) (journal : List (Entry M Command E R)) → HandsTo w c c1 own → StandsIn (opening_edits own) journal w → StandsIn (opening_edits c) journal w
  given_stands (worker.Author lines) c c1 own journal h stands = subst (λ opening. StandsIn opening journal (worker.Author lines)) (given_opening c c1 own h) stands
  given_stands (worker.Send number pieces) c c1 own journal h stands = tt

module _ {M E R X : Type 0} where
  -- nobody worked
  pub none_worked : (workers : List Worker) (pass : Passing M Command E R) (cuts : Cuts) (x : Unit {0}) → workers ≡ [] → HaveWorked {X = X} workers pass pass cuts cuts (Ok x)
  none_worked workers pass cuts x none =
      subst (λ ws. HaveWorked {X = X} ws pass pass cuts cuts (Ok x)) (sym none) record {
        keeps = record { shared = refl; actor = refl; parts = refl; made = refl };
        keeps_seat = seat_kept cuts;
        joined = ([], tt, sym (append-nil pass.joined));
        raised = raises_none cuts;
        stand = tt;
      }

module _ {M E R X : Type 0} (workers front : List Worker) (last : Worker) (pass kept rest final given after : Passing M Command E R) (cuts kept_cuts rest_cuts final_cuts own own_after : Cuts)
    (both : workers ≡ front ++ last ∷ []) (is_kept : kept ≡ kept_pass pass (calls_of last)) (is_given : given ≡ given_pass pass (actor_of last) (calls_of last)) (is_final : final ≡ joined_pass rest after)
    (later : IsPrefix rest.seen final.seen × IsPrefix after.seen final.seen) (hands : HandsTo last cuts kept_cuts own) (takes : TakesIn rest_cuts own_after final_cuts) (some : 2 ≤ pass.parts) (has : HasPartsFor (seats_of last) cuts) where
  pub one_more_worked : (done others all : Result (Unit {0}) X) → all ≡ result_and done others → HasWorked last given after own own_after done → HaveWorked front kept rest kept_cuts rest_cuts others
      → HaveWorked workers pass final cuts final_cuts all
  one_more_worked done others all is h k =
      let opening = opening_edits cuts in
      let same : opening_edits kept_cuts ≡ opening = handed_opening last cuts kept_cuts own hands in
      subst (HaveWorked workers pass final cuts final_cuts) (sym is) (subst (λ ws. HaveWorked ws pass final cuts final_cuts (result_and done others)) (sym both) record {
        keeps = keeps_joined pass kept rest final given after (actor_of last) (calls_of last) h.calls is_kept is_given h.makes k.keeps is_final some;
        keeps_seat = seat_whole last cuts kept_cuts own rest_cuts own_after final_cuts has hands k.keeps_seat h.keeps_seat takes;
        joined = and_ok done others _ _ _ h.commands k.joined (λ are ran. (
          ran.0 ++ (actor_of last, h.calls) ∷ [],
          have_run_last front last ran.0 (actor_of last) h.calls ran.1 refl are,
          joined_last pass kept rest final given after (actor_of last) (calls_of last) h.calls is_kept is_given h.makes k.keeps is_final ran.0 ran.2,
        ));
        raised = and_ok done others _ _ _ h.raised k.raised (λ mine theirs.
            let slots = flat_map (slots_of (opening_edits kept_cuts)) front in
            let its = slots_of (opening_edits own) last in
            subst (Raises cuts final_cuts) (ap₂ (λ (xs ys : List ℕ). xs ++ ys) (ap (λ es. flat_map (slots_of es) front) same) (given_slots last cuts kept_cuts own hands) ∙ slots_of_front opening front last)
            (raised_by_both last cuts kept_cuts own rest_cuts own_after final_cuts slots its has hands theirs mine (no_slots (opening_edits own) last) takes));
        stand = and_ok done others _ _ _ h.stands k.stand (λ mine theirs.
            all_of_front (StandsIn opening final.seen) front last
            (all_later opening rest.seen final.seen front later.0 (subst (λ es. AllByRecursion (StandsIn es rest.seen) front) same theirs))
            (stands_later opening after.seen final.seen last later.1 (given_stands last cuts kept_cuts own after.seen hands mine)));
      })
