use Rattle.live_graph.proofs.NumbersStay.{no_room}
use Rattle.live_graph.proofs.live_graph.LiveGraph.put_back.Goals as goal

pub set_state_at-requires : goal.set_state_at-requires
set_state_at-requires c = c.in-Some.ensures.number.0

pub returns-in-Some-clause-state : goal.returns-in-Some-clause-state
returns-in-Some-clause-state c = c.set_state_at.ensures.state c.args.edge.now c.in-Some.ensures.number

pub returns-in_default-clause-state : goal.returns-in_default-clause-state
returns-in_default-clause-state c = absurd (no_room c.args.self.now c.args.edge.now c.in_default.ensures.only c.requires)
