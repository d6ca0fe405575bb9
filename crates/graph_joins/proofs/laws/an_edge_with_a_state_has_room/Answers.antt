use Rattle.graph_joins.proofs.Raises.{has_room_from_state}
use Rattle.graph_joins.proofs.laws.an_edge_with_a_state_has_room.Goals as goal

pub returns-clause-room : goal.returns-clause-room
returns-clause-room c = has_room_from_state
