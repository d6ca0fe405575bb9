-- A block's plan, and what is run of it at a replica.
use Rattle.std.proofs.Common.{◌≡◌, ℕ, suc, ◌+◌, ◌^◌, ◌<◌, ◌≤◌, ◌==◌, true, false, inl, inr, List, [], ◌∷◌, ◌++◌, length, map, Ok, Err, refl, sym, ap, subst, ◌∙◌, arith}
use Rattle.std.specs.Prelude.{Result, IfOk, if◌then◌else◌}
use Rattle.std.specs.List.{AllByRecursion}
use Rattle.grove_edits.specs.declared.edit.Edit.{Edit}
use Rattle.grove_edits.specs.declared.action.Action.{Action}
use Rattle.grove_edits.specs.declared.actor.Actor.{Actor}
use Rattle.grove_edits.specs.declared.command.Command.{Command}
use Rattle.shared_replica.specs.declared.journal.Entry.{Entry}
use Rattle.shared_replica.specs.Solos.{Replays}
use Rattle.session_script.specs.declared.author.Declared.{Declared}
use Rattle.session_script.specs.declared.line.Line.{Line}
use Rattle.session_script.specs.declared.line.Line.TheVariants as line
use Rattle.session_script.specs.declared.line.SendLine.{SendLine}
use Rattle.session_script.specs.Session.{AllDiffer, author_numbers}
use Rattle.replica_exchange.specs.Send.{sent_edits}
use Rattle.session_run.specs.declared.author_lines.AuthorLines.{AuthorLines}
use Rattle.session_run.specs.declared.block.Plan.{Plan}
use Rattle.session_run.specs.declared.worker.Worker.{Worker}
use Rattle.session_run.specs.declared.worker.Worker.TheVariants as worker
use Rattle.session_run.specs.Calls.{Stage, actions_of, sends_of}
use Rattle.session_run.specs.Workers.{told, told_in, AreLinesOf, authors_told, first_calls_told, HasNumbers, CanWork, IsAuthorWorker, IsPieceWorker, AreForAuthors, AreForSends}
use Rattle.session_run.specs.Passes.{IsJournalOf}
use Rattle.session_run.specs.Plans.{IsPlanOf, CanRunPlan, at_replica}
use Rattle.session_run.specs.Run.{CanSend, CanRun, HasRun}
use Rattle.session_run.proofs.Journals.{are_calls}
use Rattle.session_run.proofs.Listed.{can_send_all}

-- ---- results

pub if_both : {T E : Type 0} (r : Result T E) (P Q S : T → Type 0) → IfOk r P → IfOk r Q → ((x : T) → P x → Q x → S x) → IfOk r S
if_both (Ok x) P Q S p q f = f x p q
if_both (Err e) P Q S p q f = tt

pub at_ok : {T E : Type 0} (r : Result T E) (x : T) (P : T → Type 0) → IfOk r P → r ≡ Ok x → P x
at_ok {T = T} {E = E} r x P p is = subst (λ (s : Result T E). IfOk s P) is p

-- ---- what workers need

all_both : (P : Worker → Type 0) (xs ys : List Worker) → AllByRecursion P xs → AllByRecursion P ys → AllByRecursion P (xs ++ ys)
all_both P [] ys h k = k
all_both P (x ∷ xs) ys h k = (h.0, all_both P xs ys h.1 k)

author_can_work : (lines : AuthorLines) (one : Worker) → HasNumbers lines → IsAuthorWorker lines one → CanWork one
author_can_work lines (worker.Author mine) fits is = subst HasNumbers (sym is) fits
author_can_work lines (worker.Send number pieces) fits is = absurd is

send_can_work : (sources : List (List Edit)) (number : ℕ) (send : SendLine) (one : Worker) → IsPieceWorker sources number send one → CanWork one
send_can_work sources number send (worker.Author mine) is = absurd is
send_can_work sources number send (worker.Send mine pieces) is = (sent_edits send is.1.0, is.1.2.whole)

-- what holds of each author's worker because of its lines, and of each `send` line's
module _ (P : AuthorLines → Type 0) (Q : Worker → Type 0) (of_author : (lines : AuthorLines) (one : Worker) → P lines → IsAuthorWorker lines one → Q one)
    (of_send : (sources : List (List Edit)) (number : ℕ) (send : SendLine) (one : Worker) → IsPieceWorker sources number send one → Q one) where
  authors_have : (replica : ℕ) (all : List AuthorLines) (workers : List Worker) → AllByRecursion P all → AreForAuthors replica all workers → AllByRecursion Q workers
  authors_have replica [] workers have are = subst (AllByRecursion Q) (sym are) tt
  authors_have replica (l ∷ all) workers have (inl idle) = authors_have replica all workers have.1 idle.1
  authors_have replica (l ∷ all) workers have (inr works) =
      subst (AllByRecursion Q) (sym works.5) (of_author l works.0 have.0 works.3, authors_have replica all works.1 have.1 works.4)

  sends_have : (sources : List (List Edit)) (replica number : ℕ) (sends : List SendLine) (workers : List Worker) → AreForSends sources replica number sends workers → AllByRecursion Q workers
  sends_have sources replica number [] workers are = subst (AllByRecursion Q) (sym are) tt
  sends_have sources replica number (s ∷ sends) workers (inl away) = sends_have sources replica (number + 1) sends workers away.1
  sends_have sources replica number (s ∷ sends) workers (inr works) =
      subst (AllByRecursion Q) (sym works.5) (of_send sources number s works.0 works.3, sends_have sources replica (number + 1) sends works.1 works.4)

  pub workers_have : (plan : Plan) (replica : ℕ) (authors sends workers : List Worker) → AllByRecursion P plan.lines.now → AreForAuthors replica plan.lines.now authors
      → AreForSends plan.sources.now replica plan.first_send plan.sends.now sends → workers ≡ authors ++ sends → AllByRecursion Q workers
  workers_have plan replica authors sends workers have for_authors for_sends both =
      subst (AllByRecursion Q) (sym both)
      (all_both Q authors sends (authors_have replica plan.lines.now authors have for_authors)
      (sends_have plan.sources.now replica plan.first_send plan.sends.now sends for_sends))

pub can_work : (plan : Plan) (replica : ℕ) (authors sends workers : List Worker) → CanRunPlan plan → AreForAuthors replica plan.lines.now authors
    → AreForSends plan.sources.now replica plan.first_send plan.sends.now sends → workers ≡ authors ++ sends → AllByRecursion CanWork workers
can_work plan replica authors sends workers can for_authors for_sends both =
    workers_have HasNumbers CanWork author_can_work send_can_work plan replica authors sends workers can.calls for_authors for_sends both

-- ---- the plan of a block

few_actions : (author : ℕ) (lines : List Line) → length (actions_of author lines) ≤ length lines
few_actions author [] = omega arith
few_actions author (line.Send send ∷ lines) = let rest = few_actions author lines in omega arith
few_actions author (line.Author n action ∷ lines) =
    let rest = few_actions author lines in
    let left = actions_of author lines in
    elim (n == author) as (λ b. length (if b then action ∷ left else left) ≤ suc (length lines)) [ true ↦ omega arith | false ↦ omega arith ]

first_of : {X : Type 0} {x y : X} {xs ys : List X} → x ∷ xs ≡ y ∷ ys → x ≡ y
first_of is = cc

rest_of : {X : Type 0} {x y : X} {xs ys : List X} → x ∷ xs ≡ y ∷ ys → xs ≡ ys
rest_of is = cc

numbers_fit : (lines : List Line) (authors : List Declared) (all : List AuthorLines) → AreLinesOf authors lines all
    → AllByRecursion (λ first. first + length lines < 2 ^ 64) (first_calls_told all) → AllByRecursion HasNumbers all
numbers_fit lines authors [] are fits = tt
numbers_fit lines [] (l ∷ all) are fits = cc
numbers_fit lines (d ∷ authors) (l ∷ all) are fits =
    let actions : l.actions.items ≡ actions_of d.author lines = ap (λ (t : Declared × List Action). t.1) (first_of are) in
    let few = few_actions d.author lines in
    let many : length l.actions.items ≡ length (actions_of d.author lines) = ap length actions in
    let mine = fits.0 in
    ((omega arith), numbers_fit lines authors all (rest_of are) fits.1)

-- the same lines, as they are lent
pub lines_told : (authors : List Declared) (lines slice : List Line) (all lent : List AuthorLines) → slice ≡ lines → lent ≡ all → AreLinesOf authors slice all → AreLinesOf authors lines lent
lines_told authors lines slice all lent same is are = subst (λ (ls : List Line). AreLinesOf authors ls lent) same (subst (AreLinesOf authors slice) (sym is) are)

told_numbers : (all : List AuthorLines) → map (λ (t : Declared × List Action). t.0.author) (map told all) ≡ authors_told all
told_numbers [] = refl
told_numbers (l ∷ ls) = ap (λ (ns : List ℕ). l.declared.author ∷ ns) (told_numbers ls)

told_in_numbers : (lines : List Line) (authors : List Declared) → map (λ (t : Declared × List Action). t.0.author) (map (told_in lines) authors) ≡ author_numbers authors
told_in_numbers lines [] = refl
told_in_numbers lines (d ∷ ds) = ap (λ (ns : List ℕ). d.author ∷ ns) (told_in_numbers lines ds)

pub can_run_plan : (plan : Plan) (authors : List Declared) (lines : List Line) (first_calls : List ℕ) (replicas : ℕ) → AreLinesOf authors lines plan.lines.now
    → first_calls_told plan.lines.now ≡ first_calls → plan.sends.now ≡ sends_of lines → length plan.sources.now ≡ replicas → AllDiffer (author_numbers authors)
    → AllByRecursion (λ first. first + length lines < 2 ^ 64) first_calls → AllByRecursion (CanRun authors replicas) lines → plan.first_send + length (sends_of lines) < 2 ^ 32 → CanRunPlan plan
can_run_plan plan authors lines first_calls replicas are are_first sends sources once calls can numbers = record {
  once = (let same : authors_told plan.lines.now ≡ author_numbers authors =
      sym (told_numbers plan.lines.now) ∙ ap (map (λ (t : Declared × List Action). t.0.author)) are ∙ told_in_numbers lines authors in
      subst AllDiffer (sym same) once);
  calls = numbers_fit lines authors plan.lines.now are (subst (AllByRecursion (λ first. first + length lines < 2 ^ 64)) (sym are_first) calls);
  sends = subst (λ (n : ℕ). AllByRecursion (CanSend n) plan.sends.now) (sym sources)
      (subst (AllByRecursion (CanSend replicas)) (sym sends) (can_send_all authors replicas lines can));
  numbers = subst (λ (ss : List SendLine). plan.first_send + length ss < 2 ^ 32) (sym sends) numbers;
}

-- ---- one replica

module _ {M E R : Type 0} (after : M → Actor → Command → M) (effect : M → Actor → Command → E) (reply : M → Actor → Command → R) where
  pub has_run : (stage : Stage) (plan : Plan) (replica : ℕ) (first last : M) (journal : List (Entry M Command E R)) (authors sends workers : List Worker) → IsPlanOf stage plan → CanRunPlan plan
      → AreForAuthors replica plan.lines.now authors → AreForSends plan.sources.now replica plan.first_send plan.sends.now sends → workers ≡ authors ++ sends
      → IsJournalOf workers journal → Replays after effect reply first journal last → HasRun after effect reply (at_replica stage replica) first journal last
  has_run stage plan replica first last journal authors sends workers of can for_authors for_sends both is_journal replays =
      let sent : AreForSends stage.sources replica stage.first_send (sends_of stage.lines) sends =
      subst (λ (ss : List SendLine). AreForSends stage.sources replica stage.first_send ss sends) of.sends
      (subst (λ (n : ℕ). AreForSends stage.sources replica n plan.sends.now sends) of.first_send
      (subst (λ (ls : List (List Edit)). AreForSends ls replica plan.first_send plan.sends.now sends) of.sources for_sends)) in record {
        calls = are_calls (at_replica stage replica) plan.lines.now authors sends workers journal of.lines can.once for_authors sent both is_journal;
        replays = replays;
      }
