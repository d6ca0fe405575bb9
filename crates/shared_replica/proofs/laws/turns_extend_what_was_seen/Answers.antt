use Rattle.shared_replica.proofs.Turns.{turns_add}
use Rattle.shared_replica.proofs.laws.turns_extend_what_was_seen.Goals as goal

pub returns-clause-seen : goal.returns-clause-seen
returns-clause-seen g c before after turns t = (turns_add before after turns t).seen

pub returns-clause-made : goal.returns-clause-made
returns-clause-made g c before after turns t = (turns_add before after turns t).made

pub returns-clause-left : goal.returns-clause-left
returns-clause-left g c before after turns t = (turns_add before after turns t).left

pub returns-clause-same : goal.returns-clause-same
returns-clause-same g c before after turns t = (turns_add before after turns t).same
