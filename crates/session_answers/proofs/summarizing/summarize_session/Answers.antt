use Rattle.std.proofs.Common.{List, subst, arith}
use Rattle.session_script.specs.declared.item.Item.{Item}
use Rattle.replica_core.specs.Content.{Content}
use Rattle.session_answers.specs.Summarizing.{SummarizesReplicas}
use Rattle.session_answers.proofs.Summed.{summarized}
use Rattle.session_answers.proofs.summarizing.summarize_session.Goals as goal

pub summary_of-requires : goal.summary_of-requires
summary_of-requires g c = omega (arith, c.in_ok-running.ensures.replicas.all, c.requires.some_replica)

pub returns-clause-summary : goal.returns-clause-summary
returns-clause-summary g c =
    let summary = c.in_ok-summary.summary in (
      summary,
      summarized c.args.session.now c.in_ok-running.running summary c.in_ok-running.ensures
          (subst (λ (replicas : List Content). SummarizesReplicas c.args.session.now.items replicas summary) c.deref.ensures.value
          (subst (λ (items : List Item). SummarizesReplicas items c.deref.result.now summary) c.as_slice.ensures c.in_ok-summary.ensures)),
      c.in_ok-text.ensures,
    )
