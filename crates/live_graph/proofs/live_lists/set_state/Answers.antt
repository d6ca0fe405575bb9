use Rattle.live_graph.proofs.live_lists.set_state.Goals as goal

pub returns-clause-listed : goal.returns-clause-listed
returns-clause-listed c =
    let set = c.set_state.ensures in
    c.relist.ensures c.set_state.new.self (record { vertices = set.vertices; kept_edges = set.edges; states = set.states; graph = set.graph; numbers = set.numbers_stay })
