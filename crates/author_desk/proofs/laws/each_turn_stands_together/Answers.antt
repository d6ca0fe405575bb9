use Rattle.author_desk.proofs.Standing.{stand, are_runs}
use Rattle.author_desk.proofs.laws.each_turn_stands_together.Goals as goal

pub returns-clause-in_order : goal.returns-clause-in_order
returns-clause-in_order g c before after turns journal entered seen = stand before after turns journal entered seen

pub returns-clause-whole : goal.returns-clause-whole
returns-clause-whole g c actor turns journal stands many = are_runs actor journal turns many stands
