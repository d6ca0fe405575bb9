use Rattle.std.proofs.Common.{◌∙◌, slice_get, sym, ap, refl}
use Rattle.std.proofs.lemmas.Result.{IfOk-weaker}
use Rattle.session_run.specs.Calls.{Stage, sends_of}
use Rattle.session_run.specs.Workers.{first_calls_told}
use Rattle.session_run.proofs.Asked.{plan_asks}
use Rattle.session_run.proofs.AtReplica.{fits_plan}
use Rattle.session_run.proofs.Planned.{lines_told, can_run_plan}
use Rattle.session_run.proofs.block.run_block.Goals as goal

pub run_replicas-own-requires-clause-plan : goal.run_replicas-own-requires-clause-plan
run_replicas-own-requires-clause-plan g c κs within =
    let authors = c.args.authors.now in
    let lines = c.args.block.now.lines in
    let are = lines_told authors lines c.as_slice-lines.result.now c.in_ok-by_author.by_author.items c.deref.result.now c.as_slice-lines.ensures c.deref.ensures.value c.in_ok-by_author.ensures.lines in
    can_run_plan _ authors lines c.args.first_calls.now _ are (ap first_calls_told c.deref.ensures.value ∙ c.in_ok-by_author.ensures.first_calls)
    (c.deref-2.ensures.value ∙ c.in_ok-sends.ensures ∙ ap sends_of c.as_slice-lines.ensures) c.requires.sources c.requires.once c.requires.calls c.requires.lines c.requires.numbers

pub run_replicas-own-requires-clause-fit : goal.run_replicas-own-requires-clause-fit
run_replicas-own-requires-clause-fit g c κs within = λ replica own is.
    let authors = c.args.authors.now in
    let lines = c.args.block.now.lines in
    let stage : Stage = record { authors = authors; lines = lines; first_send = c.args.first_send; sources = c.args.sources.now; replica = replica } in
    let are = lines_told authors lines c.as_slice-lines.result.now c.in_ok-by_author.by_author.items c.deref.result.now c.as_slice-lines.ensures c.deref.ensures.value c.in_ok-by_author.ensures.lines in
    fits_plan stage _ own are (c.requires.boards replica own (ap (λ all. slice_get all.items replica) (sym c.replace-own.ensures.value) ∙ is))

pub run_replicas-own-requires-clause-asked : goal.run_replicas-own-requires-clause-asked
run_replicas-own-requires-clause-asked g c κs within =
    let authors = c.args.authors.now in
    let lines = c.args.block.now.lines in
    let are = lines_told authors lines c.as_slice-lines.result.now c.in_ok-by_author.by_author.items c.deref.result.now c.as_slice-lines.ensures c.deref.ensures.value c.in_ok-by_author.ensures.lines in
    plan_asks (g.G.Asked.may_ask c.args.gate.now) lines authors c.args.first_calls.now c.deref.result.now are (ap first_calls_told c.deref.ensures.value ∙ c.in_ok-by_author.ensures.first_calls) c.requires.asked

pub returns-clause-each : goal.returns-clause-each
returns-clause-each g c =
    let authors = c.args.authors.now in
    let lines = c.args.block.now.lines in
    let stage : Stage = record { authors = authors; lines = lines; first_send = c.args.first_send; sources = c.args.sources.now; replica = 0 } in
    let are = lines_told authors lines c.as_slice-lines.result.now c.in_ok-by_author.by_author.items c.deref.result.now c.as_slice-lines.ensures c.deref.ensures.value c.in_ok-by_author.ensures.lines in
    IfOk-weaker c.run_replicas-own.result.1 _ _
    (λ ran each replica first last journal.
    each stage (record { sources = refl; lines = are; sends = c.deref-2.ensures.value ∙ c.in_ok-sends.ensures ∙ ap sends_of c.as_slice-lines.ensures; first_send = refl }) replica first last journal)
    c.run_replicas-own.ensures.run.have_run

pub returns-clause-raised : goal.returns-clause-raised
returns-clause-raised g c =
    let authors = c.args.authors.now in
    let lines = c.args.block.now.lines in
    let stage : Stage = record { authors = authors; lines = lines; first_send = c.args.first_send; sources = c.args.sources.now; replica = 0 } in
    let are = lines_told authors lines c.as_slice-lines.result.now c.in_ok-by_author.by_author.items c.deref.result.now c.as_slice-lines.ensures c.deref.ensures.value c.in_ok-by_author.ensures.lines in
    IfOk-weaker c.run_replicas-own.result.1 _ _
    (λ ran each replica own back is is_back.
    each stage (record { sources = refl; lines = are; sends = c.deref-2.ensures.value ∙ c.in_ok-sends.ensures ∙ ap sends_of c.as_slice-lines.ensures; first_send = refl }) replica own back
    (ap (λ all. slice_get all.items replica) c.replace-own.ensures.value ∙ is) is_back)
    c.run_replicas-own.ensures.run.raised

pub returns-clause-together : goal.returns-clause-together
returns-clause-together g c =
    let authors = c.args.authors.now in
    let lines = c.args.block.now.lines in
    let stage : Stage = record { authors = authors; lines = lines; first_send = c.args.first_send; sources = c.args.sources.now; replica = 0 } in
    let are = lines_told authors lines c.as_slice-lines.result.now c.in_ok-by_author.by_author.items c.deref.result.now c.as_slice-lines.ensures c.deref.ensures.value c.in_ok-by_author.ensures.lines in
    IfOk-weaker c.run_replicas-own.result.1 _ _
    (λ ran each replica own journal is is_journal.
    each stage (record { sources = refl; lines = are; sends = c.deref-2.ensures.value ∙ c.in_ok-sends.ensures ∙ ap sends_of c.as_slice-lines.ensures; first_send = refl }) replica own journal
    (ap (λ all. slice_get all.items replica) c.replace-own.ensures.value ∙ is) is_journal)
    c.run_replicas-own.ensures.run.stand
