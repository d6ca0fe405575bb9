use Rattle.std.proofs.Common.{◌≡◌, ◌+◌, ◌∷◌, [], ◌++◌, length, sum_by, suc, subst, ap, ap₂, ◌∙◌, arith, rules}
use Rattle.std.specs.List.{AllByRecursion}
use Rattle.shared_replica.specs.Passes.{kept_pass, given_pass}
use Rattle.session_run.specs.Workers.{calls_of, seats_of, CanWork, WorkerAsksAmong}
use Rattle.session_run.proofs.Joined.{all_front, sum_of_front, length_front}
use Rattle.session_run.proofs.OneMore.{one_more_worked}
use Rattle.session_run.proofs.Seats.{both_can_raise, parts_left, can_take, parts_divide}
use Rattle.session_run.proofs.together.+fn-run_workers-join+arg3+run_workers.Goals as goal

pub split_for-own-requires-clause-seats : goal.split_for-own-requires-clause-seats
split_for-own-requires-clause-seats g t c =
    let front = c.in-Some.front.now in
    let last = c.in-Some.last.now in
    let both : c.args.workers.now ≡ front ++ last ∷ [] = c.in-Some.ensures.cases.0 in
    (parts_divide c.args.cuts c.args.workers.now front last both c.requires.seats).1

pub join-worker-requires-after_bounds : goal.join-worker-requires-after_bounds
join-worker-requires-after_bounds g t c κs within =
    let workers = c.args.workers.now in
    let front = c.in-Some.front.now in
    let last = c.in-Some.last.now in
    let both : workers ≡ front ++ last ∷ [] = c.in-Some.ensures.cases.0 in
    let work = all_front CanWork front last (subst (AllByRecursion CanWork) both c.requires.can_work) in
    let asks = all_front (WorkerAsksAmong (g.G.Asked.may_ask c.args.gate.now)) front last (subst (AllByRecursion (WorkerAsksAmong (g.G.Asked.may_ask c.args.gate.now))) both c.requires.asked) in
    let shorter : length workers ≡ suc (length front) = ap length both ∙ length_front front last in
    let sum : sum_by calls_of workers ≡ sum_by calls_of front + calls_of last = ap (sum_by calls_of) both ∙ sum_of_front calls_of front last in
    let given = c.split-worker.ensures.given in
    let kept = c.split-worker.ensures.kept in
    let mine = c.calls.ensures in
    let parts = c.requires.parts in
    let calls = c.requires.calls in
    let can = both_can_raise last c.args.cuts c.split_for-own.new.cuts c.split_for-own.result c.requires.cuts c.split_for-own.ensures in
    let seats = parts_left last c.args.cuts c.split_for-own.new.cuts c.split_for-own.result (sum_by seats_of front) c.split_for-own.ensures
    (parts_divide c.args.cuts workers front last both c.requires.seats).0 in (
      ((ap (λ p. p.shared) given ∙ c.requires.shared, ap (λ p. p.actor) given ∙ c.actor.ensures, (let its = ap (λ p. p.calls) given in omega arith), work.1, can.1, asks.1), search rules),
      (
        search rules,
        (
          search rules,
          (
            search rules,
            (
              search rules,
              (
                search rules,
                (
                  search rules,
                  (
                    (ap (λ p. p.shared) kept ∙ c.requires.shared, (let its = ap (λ p. p.parts) kept in omega arith), (let its = ap (λ p. p.calls) kept in omega arith), work.0, can.0, seats, asks.0),
                    search rules,
                  ),
                ),
              ),
            ),
          ),
        ),
      ),
    )

pub join-requires-2 : goal.join-requires-2
join-requires-2 g t c =
    can_take c.in-Some.last.now c.args.cuts c.split_for-own.new.cuts c.split_for-own.result c.join-worker.result.1.1 c.join-worker.result.0.1 c.requires.cuts c.split_for-own.ensures
    c.join-worker.ensures.second.keeps_seat c.join-worker.ensures.first.keeps_seat

pub returns : goal.returns
returns g t c =
    let front = c.in-Some.front.now in
    let last = c.in-Some.last.now in
    let given = c.split-worker.ensures.given ∙ ap₂ (given_pass c.args.pass) c.actor.ensures c.calls.ensures in
    let kept = c.split-worker.ensures.kept ∙ ap (kept_pass c.args.pass) c.calls.ensures in
    let parts = c.requires.parts in
    let both : c.args.workers.now ≡ front ++ last ∷ [] = c.in-Some.ensures.cases.0 in
    let shorter : length c.args.workers.now ≡ suc (length front) = ap length both ∙ length_front front last in
    one_more_worked c.args.workers.now front last c.args.pass c.split-worker.new.pass c.join-worker.result.1.0 c.join.new.pass c.split-worker.result c.join-worker.result.0.0
    c.args.cuts c.split_for-own.new.cuts c.join-worker.result.1.1 c.join-2.new.self c.split_for-own.result c.join-worker.result.0.1 both kept given c.join.ensures.joined c.join.ensures.longer c.split_for-own.ensures c.join-2.ensures
    (omega arith) (parts_divide c.args.cuts c.args.workers.now front last both c.requires.seats).1 c.join-worker.result.0.2 c.join-worker.result.1.2 c.and.result c.and.ensures c.join-worker.ensures.first c.join-worker.ensures.second
