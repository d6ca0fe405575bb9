use Rattle.std.proofs.Common.{[], sym}
use Rattle.edge_numbers.proofs.States.{state_unnumbered}
use Rattle.live_graph.proofs.live_graph.LiveGraph.state.Goals as goal

pub returns-in-None : goal.returns-in-None
returns-in-None c = sym (state_unnumbered (record { vertices = []; entries = c.args.self.now }) c.args.edge.now (λ n is. let found = c.in-None.ensures.only n is in cc))
