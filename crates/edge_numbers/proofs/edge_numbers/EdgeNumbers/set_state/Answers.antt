use Rattle.std.proofs.Common.{sym, ap, subst, ◌∙◌}
use Rattle.std.specs.Prelude.{set}
use Rattle.indexmap.specs.IndexMap.{set_value_at}
use Rattle.edge_numbers.specs.Numbered.{Numbered, edges_of, states_of, edge_at, IsEdgeNumber}
use Rattle.graph_words.specs.States.{state_in, with_state, KeepsRoom}
use Rattle.edge_numbers.specs.Narrow.{entries_of, numbered}
use Rattle.edge_numbers.proofs.Narrow.{numbered_set, entries_set, edges_set, states_set}
use Rattle.edge_numbers.proofs.States.{state_set, room_of_edges, numbers_of_edges}
use Rattle.edge_numbers.proofs.edge_numbers.EdgeNumbers.set_state.Goals as goal

pub invariant_of-self : goal.invariant_of-self
invariant_of-self c = numbered_set c.self.inside.vertices.keys c.self.inside.edges.entries c.args.number c.args.state c.self.invariant

pub returns-clause-states : goal.returns-clause-states
returns-clause-states c =
    states_set c.self.inside.vertices.keys c.self.inside.edges.entries c.args.number c.args.state
    ∙ ap (λ (ns : Numbered). set (states_of ns.entries) c.args.number c.args.state) c.self.view_is

pub returns-clause-edges : goal.returns-clause-edges
returns-clause-edges c =
    edges_set c.self.inside.vertices.keys c.self.inside.edges.entries c.args.number c.args.state ∙ ap (λ (ns : Numbered). edges_of ns.entries) c.self.view_is

pub returns-clause-numbers_stay : goal.returns-clause-numbers_stay
returns-clause-numbers_stay c =
    numbers_of_edges c.args.self.now.entries (entries_of c.self.inside.vertices.keys (set_value_at c.self.inside.edges.entries c.args.number c.args.state)) (returns-clause-edges c)

pub returns-clause-graph : goal.returns-clause-graph
returns-clause-graph c e =
    let vs = c.self.inside.vertices.keys in
    let es = c.self.inside.edges.entries in
    let within : IsEdgeNumber (numbered vs es) c.args.number = subst (λ (ns : Numbered). IsEdgeNumber ns c.args.number) (sym c.self.view_is) c.requires in
    ap (λ entries. state_in entries e) (entries_set vs es c.args.number c.args.state)
    ∙ state_set (entries_of vs es) c.args.number c.args.state e within c.self.invariant.edges_once
    ∙ ap (λ (ns : Numbered). with_state (edge_at ns c.args.number) c.args.state (state_in ns.entries) e) c.self.view_is

pub returns-clause-room_stays : goal.returns-clause-room_stays
returns-clause-room_stays c =
    let vs = c.self.inside.vertices.keys in
    let es = c.self.inside.edges.entries in
    let after = entries_of vs (set_value_at es c.args.number c.args.state) in
    subst (λ (ns : Numbered). KeepsRoom ns.entries after) c.self.view_is (room_of_edges (entries_of vs es) after (edges_set vs es c.args.number c.args.state))
