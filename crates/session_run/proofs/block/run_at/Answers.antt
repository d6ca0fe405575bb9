use Rattle.std.proofs.Common.{◌≡◌, ◌++◌, List, ap, ◌∙◌}
use Rattle.session_run.specs.declared.worker.Worker.{Worker}
use Rattle.session_run.proofs.Asked.{workers_ask}
use Rattle.session_run.proofs.AtReplica.{seats_suffice}
use Rattle.session_run.proofs.OneReplica.{has_run_plan}
use Rattle.session_run.proofs.Planned.{can_work}
use Rattle.session_run.proofs.block.run_at.Goals as goal

pub run_together-requires-clause-can_work : goal.run_together-requires-clause-can_work
run_together-requires-clause-can_work g c κs within =
    let authors = c.in_ok-append_authors.ensures in
    let sends = c.in_ok-append_sends.ensures in
    can_work c.args.plan.now c.args.replica authors.0 sends.0 c.deref.result.now c.requires.plan authors.1 sends.1
    (c.deref.ensures.value ∙ sends.2 ∙ ap (λ (ws : List Worker). ws ++ sends.0) (authors.2 ∙ ap (λ (ws : List Worker). ws ++ authors.0) c.new-workers.ensures.items))

pub run_together-requires-clause-seats : goal.run_together-requires-clause-seats
run_together-requires-clause-seats g c κs within =
    let authors = c.in_ok-append_authors.ensures in
    let sends = c.in_ok-append_sends.ensures in
    seats_suffice c.args.plan.now c.args.replica c.args.cuts.now authors.0 sends.0 c.deref.result.now c.requires.fits authors.1 sends.1
    (c.deref.ensures.value ∙ sends.2 ∙ ap (λ (ws : List Worker). ws ++ sends.0) (authors.2 ∙ ap (λ (ws : List Worker). ws ++ authors.0) c.new-workers.ensures.items))

pub run_together-requires-clause-asked : goal.run_together-requires-clause-asked
run_together-requires-clause-asked g c κs within =
    let authors = c.in_ok-append_authors.ensures in
    let sends = c.in_ok-append_sends.ensures in
    workers_ask (g.G.Asked.may_ask c.args.gate.now) c.args.plan.now c.args.replica authors.0 sends.0 c.deref.result.now c.requires.asked authors.1 sends.1
    (c.deref.ensures.value ∙ sends.2 ∙ ap (λ (ws : List Worker). ws ++ sends.0) (authors.2 ∙ ap (λ (ws : List Worker). ws ++ authors.0) c.new-workers.ensures.items))

pub returns : goal.returns
returns g c =
    let b = g.M.Machine in
    let authors = c.in_ok-append_authors.ensures in
    let sends = c.in_ok-append_sends.ensures in
    let both : c.deref.result.now ≡ authors.0 ++ sends.0 =
    c.deref.ensures.value ∙ sends.2 ∙ ap (λ (ws : List Worker). ws ++ sends.0) (authors.2 ∙ ap (λ (ws : List Worker). ws ++ authors.0) c.new-workers.ensures.items) in
    let ran = c.run_together.ensures in
    has_run_plan b.after b.effect b.reply c.args.plan.now c.args.replica c.args.machine c.args.cuts.now c.run_together.new.cuts authors.0 sends.0 c.deref.result.now c.requires.plan authors.1 sends.1 both
    c.run_together.result ran.keeps_seat ran.journal ran.replays ran.raised ran.stand
