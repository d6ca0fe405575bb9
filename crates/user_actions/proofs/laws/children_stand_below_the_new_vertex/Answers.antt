use Rattle.user_actions.proofs.Below.{wrapped_stand, carried_stand}
use Rattle.user_actions.proofs.laws.children_stand_below_the_new_vertex.Goals as goal

pub returns-clause-wrapped : goal.returns-clause-wrapped
returns-clause-wrapped c = wrapped_stand

pub returns-clause-carried : goal.returns-clause-carried
returns-clause-carried c = carried_stand
