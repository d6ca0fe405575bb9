use Rattle.graph_words.specs.States.{state_in}
use Rattle.user_actions.proofs.FlaggedEdges.{none_open}
use Rattle.user_actions.proofs.opening_flags.OpeningFlags.of.Goals as goal

pub renew-requires-clause-opened : goal.renew-requires-clause-opened
renew-requires-clause-opened c = none_open (state_in c.args.graph.now) c.args.graph.now c.new.result.items c.new.ensures.items
