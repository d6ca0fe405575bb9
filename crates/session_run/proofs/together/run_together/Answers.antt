use Rattle.std.proofs.Common.{ap, subst}
use Rattle.std.specs.List.{AllByRecursion}
use Rattle.author_desk.specs.Cuts.{opening_edits}
use Rattle.session_run.specs.Passes.{StandsIn}
use Rattle.session_run.proofs.Joined.{when_ok, is_journal}
use Rattle.session_run.proofs.OneMore.{all_later}
use Rattle.session_run.proofs.together.run_together.Goals as goal

pub returns-clause-journal : goal.returns-clause-journal
returns-clause-journal g c =
    let begun = c.in_ok-shared.ensures.pass in
    let worked = c.run_workers-host.ensures in
    is_journal c.args.workers.now c.close.result.1 c.in_ok-shared.host c.run_workers-host.result.0 (ap (λ p. p.actor) begun) (ap (λ p. p.made) begun) (ap (λ p. p.joined) begun)
    worked.keeps (when_ok c.run_workers-host.result.2 c.in_ok-done.field-0 _ worked.joined c.in_ok-done.was) c.close.ensures.named c.close.ensures.exact

pub returns-clause-stand : goal.returns-clause-stand
returns-clause-stand g c =
    let workers = c.args.workers.now in
    let stand = when_ok c.run_workers-host.result.2 c.in_ok-done.field-0 _ c.run_workers-host.ensures.stand c.in_ok-done.was in
    subst (λ own. AllByRecursion (StandsIn (opening_edits own) c.close.result.1) workers) c.replace-own.ensures.value
    (all_later _ c.run_workers-host.result.0.seen c.close.result.1 workers c.close.ensures.later stand)
