-- Which seats the workers at a replica take, which slots they raise, and which of their calls stand together.
use Rattle.std.proofs.Common.{◌≡◌, ◌≢◌, ℕ, zero, suc, ◌+◌, ◌<◌, ◌≤◌, ◌==◌, ◌&&◌, Bool, true, false, ◌⊎◌, inl, inr, List, [], ◌∷◌, ◌++◌, length, map, sum_by, get_or, cond, refl, sym, ap, ap₂, subst, ◌∙◌, append-nil, arith}
use Rattle.std.specs.Prelude.{if◌then◌else◌, ◌||◌}
use Rattle.std.specs.List.{AllByRecursion, flat_map, list_any}
use Rattle.std.proofs.lemmas.Bool.{eqb-true, eq-eqb}
use Rattle.std.proofs.lemmas.Grind.{flat_map-append}
use Rattle.std.proofs.lemmas.List.{length-map}
use Rattle.std.proofs.lemmas.List.Sums.{sum_by-append, sum_by-cons}
use Rattle.grove_edits.specs.declared.action.Action.{Action}
use Rattle.grove_edits.specs.declared.actor.Actor.TheVariants as actor
use Rattle.grove_edits.specs.declared.command.Command.{Command}
use Rattle.grove_edits.specs.declared.command.Command.TheVariants.{Act}
use Rattle.grove_edits.specs.declared.edit.Edit.{Edit}
use Rattle.shared_replica.specs.declared.journal.Entry.{Entry}
use Rattle.shared_replica.specs.Passes.{Call, calls_by, all_calls}
use Rattle.session_script.specs.declared.author.Declared.{Declared}
use Rattle.session_script.specs.declared.line.Line.{Line}
use Rattle.session_script.specs.declared.line.Line.TheVariants as line
use Rattle.session_script.specs.declared.line.SendLine.{SendLine}
use Rattle.author_desk.specs.declared.cuts.Cuts.{Cuts}
use Rattle.author_desk.specs.Cuts.{HasPartsFor}
use Rattle.author_desk.specs.Lines.{slots_cut}
use Rattle.author_desk.specs.Together.{AreRunsOf}
use Rattle.author_desk.specs.Turns.{turns_of, commands_of}
use Rattle.author_desk.proofs.FirstTurn.{all_lines}
use Rattle.author_desk.proofs.Standing.{are_runs}
use Rattle.session_run.specs.declared.author_lines.AuthorLines.{AuthorLines}
use Rattle.session_run.specs.declared.block.Plan.{Plan}
use Rattle.session_run.specs.declared.worker.Worker.{Worker}
use Rattle.session_run.specs.declared.worker.Worker.TheVariants as worker
use Rattle.session_run.specs.Boards.{is_line_of, is_at_work, authors_at_work, CanCutAt, slots_by, slots_at, TurnsStand}
use Rattle.session_run.specs.Calls.{Stage, actions_of, ActsHere, AreCalls}
use Rattle.session_run.specs.Workers.{told, told_in, seats_of, slots_of, AreLinesOf, IsAuthorWorker, IsPieceWorker, AreForAuthors, AreForSends}
use Rattle.session_run.specs.Passes.{LinesStand, StandsIn}
use Rattle.session_run.specs.Plans.{FitsPlan}
use Rattle.session_run.proofs.Seats.{fewer_parts}
use Rattle.session_run.proofs.Worked.{commands_of_turns}

first_of : {X : Type 0} {x y : X} {xs ys : List X} → x ∷ xs ≡ y ∷ ys → x ≡ y
first_of is = cc

rest_of : {X : Type 0} {x y : X} {xs ys : List X} → x ∷ xs ≡ y ∷ ys → xs ≡ ys
rest_of is = cc

-- ---- seats

author_seat : (lines : AuthorLines) (one : Worker) → IsAuthorWorker lines one → seats_of one ≡ 1
author_seat lines (worker.Author mine) is = refl
author_seat lines (worker.Send number pieces) is = absurd is

seats_of_authors : (replica : ℕ) (all : List AuthorLines) (workers : List Worker) → AreForAuthors replica all workers → sum_by seats_of workers ≡ length workers
seats_of_authors replica [] workers are = subst (λ ws. sum_by seats_of ws ≡ length ws) (sym are) refl
seats_of_authors replica (l ∷ all) workers (inl idle) = seats_of_authors replica all workers idle.1
seats_of_authors replica (l ∷ all) workers (inr works) =
    let one = author_seat l works.0 works.3 in
    let rest = seats_of_authors replica all works.1 works.4 in
    let sum = sum_by-cons seats_of works.0 works.1 in
    subst (λ ws. sum_by seats_of ws ≡ length ws) (sym works.5) (omega (arith, one, rest, sum))

send_seat : (sources : List (List Edit)) (number : ℕ) (send : SendLine) (one : Worker) → IsPieceWorker sources number send one → seats_of one ≡ 0
send_seat sources number send (worker.Author mine) is = absurd is
send_seat sources number send (worker.Send mine pieces) is = refl

seats_of_sends : (sources : List (List Edit)) (replica number : ℕ) (sends : List SendLine) (workers : List Worker) → AreForSends sources replica number sends workers → sum_by seats_of workers ≡ 0
seats_of_sends sources replica number [] workers are = subst (λ ws. sum_by seats_of ws ≡ 0) (sym are) refl
seats_of_sends sources replica number (s ∷ sends) workers (inl away) = seats_of_sends sources replica (number + 1) sends workers away.1
seats_of_sends sources replica number (s ∷ sends) workers (inr works) =
    let one = send_seat sources number s works.0 works.3 in
    let rest = seats_of_sends sources replica (number + 1) sends works.1 works.4 in
    let sum = sum_by-cons seats_of works.0 works.1 in
    subst (λ ws. sum_by seats_of ws ≡ 0) (sym works.5) (omega (arith, one, rest, sum))

pub seats_suffice : (plan : Plan) (replica : ℕ) (cuts : Cuts) (authors sends workers : List Worker) → FitsPlan plan replica cuts → AreForAuthors replica plan.lines.now authors
    → AreForSends plan.sources.now replica plan.first_send plan.sends.now sends → workers ≡ authors ++ sends → HasPartsFor (sum_by seats_of workers) cuts
seats_suffice plan replica cuts authors sends workers fits for_authors for_sends both =
    let all = ap (sum_by seats_of) both ∙ sum_by-append seats_of authors sends in
    let front = seats_of_authors replica plan.lines.now authors for_authors in
    let back = seats_of_sends plan.sources.now replica plan.first_send plan.sends.now sends for_sends in
    fewer_parts cuts (sum_by seats_of workers) (length authors) (omega (arith, all, front, back)) (fits.parts authors for_authors)

-- ---- how many authors are at work

has_line : (author : ℕ) (lines : List Line) → actions_of author lines ≢ [] → list_any (is_line_of author) lines ≡ true
has_line author [] some = absurd (some refl)
has_line author (line.Send send ∷ lines) some = has_line author lines some
has_line author (line.Author n action ∷ lines) some = by_test (n == author) some (has_line author lines) where
  by_test : (b : Bool) → (if b then action ∷ actions_of author lines else actions_of author lines) ≢ [] → (actions_of author lines ≢ [] → list_any (is_line_of author) lines ≡ true)
      → (b || list_any (is_line_of author) lines) ≡ true
  by_test true some rest = refl
  by_test false some rest = rest some

at_work : (lines : List Line) (replica : ℕ) (declared : Declared) → declared.replica ≡ replica → actions_of declared.author lines ≢ [] → is_at_work lines replica declared ≡ true
at_work lines replica declared here some = ap₂ (λ (a b : Bool). a && b) (eq-eqb declared.replica replica here) (has_line declared.author lines some)

pub workers_at_work : (replica : ℕ) (lines : List Line) (authors : List Declared) (all : List AuthorLines) (workers : List Worker) → AreLinesOf authors lines all → AreForAuthors replica all workers
    → length workers ≤ authors_at_work authors lines replica
workers_at_work replica lines [] [] workers are for_authors = subst (λ ws. length ws ≤ 0) (sym for_authors) (omega arith)
workers_at_work replica lines (d ∷ authors) [] workers are for_authors = absurd cc
workers_at_work replica lines [] (l ∷ all) workers are for_authors = absurd cc
workers_at_work replica lines (d ∷ authors) (l ∷ all) workers are (inl idle) =
    let rest = workers_at_work replica lines authors all workers (rest_of are) idle.1 in
    let sum = sum_by-cons (λ (e : Declared). cond (is_at_work lines replica e) 1 0) d authors in
    omega (arith, rest, sum)
workers_at_work replica lines (d ∷ authors) (l ∷ all) workers are (inr works) =
    let rest = workers_at_work replica lines authors all works.1 (rest_of are) works.4 in
    let mine : told l ≡ told_in lines d = first_of are in
    let here : d.replica ≡ replica = sym (ap (λ (t : Declared × List Action). t.0.replica) mine) ∙ works.2.0 in
    let actions : l.actions.items ≡ actions_of d.author lines = ap (λ (t : Declared × List Action). t.1) mine in
    let is : cond (is_at_work lines replica d) 1 0 ≡ 1 = ap {B = ℕ} (λ (b : Bool). cond b 1 0) (at_work lines replica d here (λ none. works.2.1 (actions ∙ none))) in
    let sum = sum_by-cons (λ (e : Declared). cond (is_at_work lines replica e) 1 0) d authors in
    let all_of = ap length works.5 in
    omega (arith, rest, sum, is, all_of)

pub fits_plan : (stage : Stage) (plan : Plan) (cuts : Cuts) → AreLinesOf stage.authors stage.lines plan.lines.now → CanCutAt stage cuts → FitsPlan plan stage.replica cuts
fits_plan stage plan cuts are can = record {
  can_raise = can.can_raise;
  parts = λ workers for_authors.
      let few = workers_at_work stage.replica stage.lines stage.authors plan.lines.now workers are for_authors in
      fewer_parts cuts (length workers) (authors_at_work stage.authors stage.lines stage.replica) few can.parts;
}

-- ---- slots

module _ (stage : Stage) (opening : List Edit) where
  author_slots : (lines : AuthorLines) (declared : Declared) (one : Worker) → told lines ≡ told_in stage.lines declared → lines.declared.replica ≡ stage.replica → IsAuthorWorker lines one
      → slots_of opening one ≡ slots_by stage opening declared
  author_slots lines declared (worker.Author mine) are here is =
      ap (λ (l : AuthorLines). slots_cut opening l.actions.items) is
      ∙ (ap (λ (t : Declared × List Action). slots_cut opening t.1) are
      ∙ ap (λ (b : Bool). if b then slots_cut opening (actions_of declared.author stage.lines) else []) (sym (eq-eqb declared.replica stage.replica (sym (ap (λ (t : Declared × List Action). t.0.replica) are) ∙ here))))
  author_slots lines declared (worker.Send number pieces) are here is = absurd is

  away_slots : (declared : Declared) → (declared.replica ≢ stage.replica) ⊎ (actions_of declared.author stage.lines ≡ []) → slots_by stage opening declared ≡ []
  away_slots declared idle = by_test (declared.replica == stage.replica) refl idle where
    by_test : (b : Bool) → (declared.replica == stage.replica) ≡ b → (declared.replica ≢ stage.replica) ⊎ (actions_of declared.author stage.lines ≡ []) → (if b then slots_cut opening (actions_of declared.author stage.lines) else []) ≡ []
    by_test false is idle = refl
    by_test true is (inl away) = absurd (away (eqb-true declared.replica stage.replica is))
    by_test true is (inr none) = ap (slots_cut opening) none

  idle_author : (lines : AuthorLines) (declared : Declared) → told lines ≡ told_in stage.lines declared → (lines.declared.replica ≢ stage.replica) ⊎ (lines.actions.items ≡ [])
      → (declared.replica ≢ stage.replica) ⊎ (actions_of declared.author stage.lines ≡ [])
  idle_author lines declared are (inl away) = inl (λ here. away (ap (λ (t : Declared × List Action). t.0.replica) are ∙ here))
  idle_author lines declared are (inr none) = inr (sym (ap (λ (t : Declared × List Action). t.1) are) ∙ none)

  slots_of_authors : (authors : List Declared) (all : List AuthorLines) (workers : List Worker) → AreLinesOf authors stage.lines all → AreForAuthors stage.replica all workers
      → flat_map (slots_of opening) workers ≡ flat_map (slots_by stage opening) authors
  slots_of_authors [] [] workers are for_authors = ap (flat_map (slots_of opening)) for_authors
  slots_of_authors (d ∷ authors) [] workers are for_authors = absurd cc
  slots_of_authors [] (l ∷ all) workers are for_authors = absurd cc
  slots_of_authors (d ∷ authors) (l ∷ all) workers are (inl idle) =
      slots_of_authors authors all workers (rest_of are) idle.1
      ∙ ap (λ slots. slots ++ flat_map (slots_by stage opening) authors) (sym (away_slots d (idle_author l d (first_of are) idle.0)))
  slots_of_authors (d ∷ authors) (l ∷ all) workers are (inr works) =
      ap (flat_map (slots_of opening)) works.5
      ∙ ap₂ (λ (xs ys : List ℕ). xs ++ ys) (author_slots l d works.0 (first_of are) works.2.0 works.3) (slots_of_authors authors all works.1 (rest_of are) works.4)

  send_slots : (sources : List (List Edit)) (number : ℕ) (send : SendLine) (one : Worker) → IsPieceWorker sources number send one → slots_of opening one ≡ []
  send_slots sources number send (worker.Author mine) is = absurd is
  send_slots sources number send (worker.Send mine pieces) is = refl

  slots_of_sends : (sources : List (List Edit)) (replica number : ℕ) (sends : List SendLine) (workers : List Worker) → AreForSends sources replica number sends workers → flat_map (slots_of opening) workers ≡ []
  slots_of_sends sources replica number [] workers are = ap (flat_map (slots_of opening)) are
  slots_of_sends sources replica number (s ∷ sends) workers (inl away) = slots_of_sends sources replica (number + 1) sends workers away.1
  slots_of_sends sources replica number (s ∷ sends) workers (inr works) =
      ap (flat_map (slots_of opening)) works.5
      ∙ (ap (λ slots. slots ++ flat_map (slots_of opening) works.1) (send_slots sources number s works.0 works.3) ∙ slots_of_sends sources replica (number + 1) sends works.1 works.4)

  pub slots_of_workers : (sources : List (List Edit)) (number : ℕ) (sends : List SendLine) (all : List AuthorLines) (fronts backs workers : List Worker) → AreLinesOf stage.authors stage.lines all
      → AreForAuthors stage.replica all fronts → AreForSends sources stage.replica number sends backs → workers ≡ fronts ++ backs → flat_map (slots_of opening) workers ≡ slots_at stage opening
  slots_of_workers sources number sends all fronts backs workers are for_authors for_sends both =
      ap (flat_map (slots_of opening)) both
      ∙ (flat_map-append (slots_of opening) fronts backs
      ∙ (ap₂ (λ (xs ys : List ℕ). xs ++ ys) (slots_of_authors stage.authors all fronts are for_authors) (slots_of_sends sources stage.replica number sends backs for_sends) ∙ append-nil (slots_at stage opening)))

-- ---- turns

at_contained : {X : Type 0} (P : X → Type 0) (xs : List X) (x : X) (k : ℕ) → AllByRecursion P xs → k < length xs → get_or xs k x ≡ x → P x
at_contained P [] x k all within is = absurd (omega arith)
at_contained P (y ∷ ys) x zero all within is = subst P is all.0
at_contained P (y ∷ ys) x (suc k) all within is = at_contained P ys x k all.1 (omega arith) is

front_of : (P : Worker → Type 0) (xs ys : List Worker) → AllByRecursion P (xs ++ ys) → AllByRecursion P xs
front_of P [] ys all = tt
front_of P (x ∷ xs) ys all = (all.0, front_of P xs ys all.1)

module _ {M E R : Type 0} (stage : Stage) (opening : List Edit) (journal : List (Entry M Command E R)) where
  -- the turns of an author stand in order, if it acts on the replica
  abbrev StandsHere : Declared → Type 0
  StandsHere declared = declared.replica ≡ stage.replica → LinesStand declared.author journal (turns_of opening (actions_of declared.author stage.lines))

  author_stands : (lines : AuthorLines) (declared : Declared) (one : Worker) → told lines ≡ told_in stage.lines declared → IsAuthorWorker lines one → StandsIn opening journal one → StandsHere declared
  author_stands lines declared (worker.Author mine) are is stands =
      λ here. subst (λ (t : Declared × List Action). LinesStand t.0.author journal (turns_of opening t.1)) are
      (subst (λ (l : AuthorLines). LinesStand l.declared.author journal (turns_of opening l.actions.items)) is stands)
  author_stands lines declared (worker.Send number pieces) are is stands = absurd is

  idle_stands : (lines : AuthorLines) (declared : Declared) → told lines ≡ told_in stage.lines declared → (lines.declared.replica ≢ stage.replica) ⊎ (lines.actions.items ≡ []) → StandsHere declared
  idle_stands lines declared are idle = by_case (idle_author stage opening lines declared are idle) where
    by_case : (declared.replica ≢ stage.replica) ⊎ (actions_of declared.author stage.lines ≡ []) → StandsHere declared
    by_case (inl away) = λ here. absurd (away here)
    by_case (inr none) = λ here. subst (λ lines. LinesStand declared.author journal (turns_of opening lines)) (sym none) ([], refl, tt)

  all_stand : (authors : List Declared) (all : List AuthorLines) (workers : List Worker) → AreLinesOf authors stage.lines all → AreForAuthors stage.replica all workers
      → AllByRecursion (StandsIn opening journal) workers → AllByRecursion StandsHere authors
  all_stand [] all workers are for_authors stand = tt
  all_stand (d ∷ authors) [] workers are for_authors stand = absurd cc
  all_stand (d ∷ authors) (l ∷ all) workers are (inl idle) stand = (idle_stands l d (first_of are) idle.0, all_stand authors all workers (rest_of are) idle.1 stand)
  all_stand (d ∷ authors) (l ∷ all) workers are (inr works) stand =
      let h = subst (AllByRecursion (StandsIn opening journal)) works.5 stand in
      (author_stands l d works.0 (first_of are) works.3 h.0, all_stand authors all works.1 (rest_of are) works.4 h.1)

  -- the turns of an author are all its calls
  are_turns : (author : ℕ) → ActsHere stage author → AreCalls stage journal → LinesStand author journal (turns_of opening (actions_of author stage.lines))
      → (turns : List (List (Call Command R))) × (map commands_of turns ≡ map (map Act) (turns_of opening (actions_of author stage.lines))) × AreRunsOf (actor.Author author) journal turns
  are_turns author here calls h =
      let lines = actions_of author stage.lines in
      let turns : List (List (Call Command R)) = h.0 in
      let all : commands_of (all_calls turns) ≡ map Act lines = commands_of_turns turns (turns_of opening lines) h.1 ∙ ap (map Act) (all_lines opening lines) in
      let many : length (calls_by (actor.Author author) journal) ≡ length (all_calls turns) =
      sym (length-map (calls_by (actor.Author author) journal) (λ (call : Call Command R). call.command))
      ∙ (ap length (calls.authors author here) ∙ (sym (ap length all) ∙ length-map (all_calls turns) (λ (call : Call Command R). call.command))) in
      (turns, h.1, are_runs (actor.Author author) journal turns many h.2)

  pub turns_stand : (all : List AuthorLines) (fronts backs workers : List Worker) → AreLinesOf stage.authors stage.lines all → AreForAuthors stage.replica all fronts → workers ≡ fronts ++ backs
      → AllByRecursion (StandsIn opening journal) workers → AreCalls stage journal → TurnsStand stage opening journal
  turns_stand all fronts backs workers are for_authors both stand calls = λ author here.
      are_turns author here calls
      (at_contained StandsHere stage.authors (record { author = author; replica = stage.replica }) here.0
      (all_stand stage.authors all fronts are for_authors (front_of (StandsIn opening journal) fronts backs (subst (AllByRecursion (StandsIn opening journal)) both stand))) here.1 here.2 refl)
