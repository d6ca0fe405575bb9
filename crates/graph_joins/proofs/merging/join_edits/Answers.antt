use Rattle.graph_words.specs.States.{state_in}
use Rattle.graph_joins.proofs.Merges.{edits_joined}
use Rattle.graph_joins.proofs.merging.join_edits.Goals as goal

pub returns-clause-joined : goal.returns-clause-joined
returns-clause-joined c =
    edits_joined c.args.into.now c.in_ok-other.other c.merge.new.into c.args.edits.now c.merge.result c.in_ok-other.ensures.graph c.merge.ensures.joined
