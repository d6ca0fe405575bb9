-- A block asks its gate for the numbers of its authors' lines alone.
use Rattle.std.proofs.Common.{◌≡◌, ℕ, zero, suc, ◌+◌, ◌-◌, ◌<◌, ◌==◌, Bool, true, false, List, [], ◌∷◌, ◌++◌, length, take, slice_get, Some, cond, refl, sym, ap, subst, arith}
use Rattle.std.specs.Prelude.{if◌then◌else◌}
use Rattle.std.specs.List.{AllByRecursion, count_by}
use Rattle.std.proofs.lemmas.Bool.{eqb-true}
use Rattle.std.proofs.lemmas.List.Sums.{sum_by-cons}
use Rattle.grove_edits.specs.declared.action.Action.{Action}
use Rattle.grove_edits.specs.declared.edit.Edit.{Edit}
use Rattle.session_script.specs.declared.author.Declared.{Declared}
use Rattle.session_script.specs.declared.line.Line.{Line}
use Rattle.session_script.specs.declared.line.Line.TheVariants as line
use Rattle.session_script.specs.declared.line.SendLine.{SendLine}
use Rattle.session_run.specs.declared.author_lines.AuthorLines.{AuthorLines}
use Rattle.session_run.specs.declared.block.Plan.{Plan}
use Rattle.session_run.specs.declared.worker.Worker.{Worker}
use Rattle.session_run.specs.declared.worker.Worker.TheVariants as worker
use Rattle.session_run.specs.Asked.{IsNumberIn}
use Rattle.session_run.specs.Boards.{is_line_of}
use Rattle.session_run.specs.Calls.{actions_of}
use Rattle.session_run.specs.Workers.{told, told_in, first_calls_told, AreLinesOf, AsksAmong, WorkerAsksAmong, IsAuthorWorker, IsPieceWorker, AreForAuthors, AreForSends}
use Rattle.session_run.proofs.Planned.{workers_have}

-- ---- workers

author_asks : (may : ℕ → ℕ → Type 0) (lines : AuthorLines) (one : Worker) → AsksAmong may lines → IsAuthorWorker lines one → WorkerAsksAmong may one
author_asks may lines (worker.Author mine) asks is = subst (AsksAmong may) (sym is) asks
author_asks may lines (worker.Send number pieces) asks is = absurd is

send_asks : (may : ℕ → ℕ → Type 0) (sources : List (List Edit)) (number : ℕ) (send : SendLine) (one : Worker) → IsPieceWorker sources number send one → WorkerAsksAmong may one
send_asks may sources number send (worker.Author mine) is = absurd is
send_asks may sources number send (worker.Send mine pieces) is = tt

pub workers_ask : (may : ℕ → ℕ → Type 0) (plan : Plan) (replica : ℕ) (authors sends workers : List Worker) → AllByRecursion (AsksAmong may) plan.lines.now → AreForAuthors replica plan.lines.now authors
    → AreForSends plan.sources.now replica plan.first_send plan.sends.now sends → workers ≡ authors ++ sends → AllByRecursion (WorkerAsksAmong may) workers
workers_ask may = workers_have (AsksAmong may) (WorkerAsksAmong may) (author_asks may) (send_asks may)

-- ---- numbers

-- an author's line with so many of its lines before it
abbrev HasLine : ℕ → List Line → ℕ → Type 0
HasLine author lines k = (index : ℕ) × (action : Action) × (slice_get lines index ≡ Some (line.Author author action)) × (count_by (is_line_of author) (take index lines) ≡ k)

one_back : (author : ℕ) (first : Line) (lines : List Line) (k n : ℕ) → cond (is_line_of author first) 1 0 + k ≡ n → HasLine author lines k → HasLine author (first ∷ lines) n
one_back author first lines k n sum has =
    let all = sum_by-cons (λ (l : Line). cond (is_line_of author l) 1 0) first (take has.0 lines) in
    let rest = has.3 in
    (suc has.0, has.1, has.2, omega (arith, all, rest, sum))

has_line_at : (author : ℕ) (lines : List Line) (k : ℕ) → k < length (actions_of author lines) → HasLine author lines k
has_line_at author [] k within = absurd (omega arith)
has_line_at author (line.Send send ∷ lines) k within = one_back author (line.Send send) lines k k (omega arith) (has_line_at author lines k within)
has_line_at author (line.Author n action ∷ lines) k within = by_test (n == author) refl k within (has_line_at author lines) where
  by_test : (b : Bool) → (n == author) ≡ b → (k : ℕ) → k < length (if b then action ∷ actions_of author lines else actions_of author lines)
      → ((j : ℕ) → j < length (actions_of author lines) → HasLine author lines j) → HasLine author (line.Author n action ∷ lines) k
  by_test true is zero within rest = (0, action, ap (λ m. Some (line.Author m action)) (eqb-true n author is), refl)
  by_test true is (suc k) within rest =
      one_back author (line.Author n action) lines k (suc k) (let one = ap {B = ℕ} (λ (b : Bool). cond b 1 0) is in omega (arith, one)) (rest k (omega arith))
  by_test false is k within rest =
      one_back author (line.Author n action) lines k k (let none = ap {B = ℕ} (λ (b : Bool). cond b 1 0) is in omega (arith, none)) (rest k within)

first_of : {X : Type 0} {x y : X} {xs ys : List X} → x ∷ xs ≡ y ∷ ys → x ≡ y
first_of is = cc

rest_of : {X : Type 0} {x y : X} {xs ys : List X} → x ∷ xs ≡ y ∷ ys → xs ≡ ys
rest_of is = cc

module _ (may : ℕ → ℕ → Type 0) (lines : List Line) where
  first_asks : (authors : List Declared) (firsts : List ℕ) (d : Declared) (l : AuthorLines) → told l ≡ told_in lines d
      → ((author number : ℕ) → IsNumberIn (d ∷ authors) (l.first_call ∷ firsts) lines author number → may author number) → AsksAmong may l
  first_asks authors firsts d l is asks number low high =
      let same : l.declared.author ≡ d.author = ap (λ (t : Declared × List Action). t.0.author) is in
      let many : length l.actions.items ≡ length (actions_of d.author lines) = ap (λ (t : Declared × List Action). length t.1) is in
      let own : length (actions_of d.author lines) ≡ length (actions_of l.declared.author lines) = ap (λ n. length (actions_of n lines)) (sym same) in
      let has = has_line_at l.declared.author lines (number - l.first_call) (omega (arith, low, high, many, own)) in
      let before = has.3 in
      asks l.declared.author number (record {
        place = 0;
        declared = d;
        first = l.first_call;
        is_declared = refl;
        is_author = same;
        is_first = refl;
        is_line = record { index = has.0; action = has.1; is_line = has.2; counted = omega (arith, low, before) };
      })

  all_ask : (authors : List Declared) (all : List AuthorLines) → AreLinesOf authors lines all
      → ((author number : ℕ) → IsNumberIn authors (first_calls_told all) lines author number → may author number) → AllByRecursion (AsksAmong may) all
  all_ask authors [] are asks = tt
  all_ask [] (l ∷ all) are asks = absurd cc
  all_ask (d ∷ authors) (l ∷ all) are asks = (
    first_asks authors (first_calls_told all) d l (first_of are) asks,
    all_ask authors all (rest_of are) (λ author number n. asks author number (record {
      place = suc n.place;
      declared = n.declared;
      first = n.first;
      is_declared = n.is_declared;
      is_author = n.is_author;
      is_first = n.is_first;
      is_line = n.is_line;
    })),
  )

  -- the plan asks for the numbers of the block's lines alone
  pub plan_asks : (authors : List Declared) (firsts : List ℕ) (all : List AuthorLines) → AreLinesOf authors lines all → first_calls_told all ≡ firsts
      → ((author number : ℕ) → IsNumberIn authors firsts lines author number → may author number) → AllByRecursion (AsksAmong may) all
  plan_asks authors firsts all are is asks = all_ask authors all are (subst (λ (ns : List ℕ). (author number : ℕ) → IsNumberIn authors ns lines author number → may author number) (sym is) asks)
