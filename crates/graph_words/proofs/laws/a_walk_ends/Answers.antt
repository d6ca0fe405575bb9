use Rattle.graph_words.proofs.Endings.{walk_is, walk_is_one}
use Rattle.graph_words.proofs.laws.a_walk_ends.Goals as goal

pub returns-clause-walk : goal.returns-clause-walk
returns-clause-walk c = walk_is

pub returns-clause-one : goal.returns-clause-one
returns-clause-one c = walk_is_one
