use Rattle.std.proofs.Common.{[], ◌∷◌, arith, length-append}
use Rattle.session_answers.proofs.Steps.{kept_more}
use Rattle.session_answers.proofs.replicas.append_journals.Goals as goal

pub loop-journal-preserved : goal.loop-journal-preserved
loop-journal-preserved c =
    let before = c.loop-journal.invariant in (
      kept_more c.args.block c.loop-journal.replica c.args.journals.now c.loop-journal.journals c.push.new.self c.loop-journal.yielded c.in-Some.journal before.0 before.1 c.in_ok-push.ensures.appended,
      (let number = before.1 in omega (arith, length-append c.loop-journal.yielded (c.in-Some.journal ∷ []))),
    )
