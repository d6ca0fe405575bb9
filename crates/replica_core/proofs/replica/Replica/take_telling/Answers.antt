use Rattle.grove_edits.specs.Graph.{graph}
use Rattle.graph_words.specs.States.{state_in}
use Rattle.user_actions.specs.Flags.{opening_edges}
use Rattle.replica_core.specs.Cost.{edits_cost}
use Rattle.replica_core.specs.Stored.{edits_in}
use Rattle.replica_core.proofs.Keeping.{flags_taken_or_not, graph_seen}
use Rattle.replica_core.proofs.Costs.{edits_cost_is}
use Rattle.replica_core.proofs.MarksSeen.{changed_seen}
use Rattle.replica_core.proofs.replica.Replica.take_telling.Goals as goal

pub invariant_of-self : goal.invariant_of-self
invariant_of-self g c = record {
  graph =
      (flags_taken_or_not c.self.inside.graph c.self.inside.opening c.args.self.now c.self.invariant.graph c.self.view_is c.apply_all_telling.result c.apply_all_telling.new.graph c.args.edits.now c.apply_all_telling.ensures.joined
      c.apply_all_telling.ensures.unchanged c.apply_all_telling.ensures.numbers_stay).0;
  stand = c.apply_all_telling.ensures.stand;
}

pub returns-clause-taken : goal.returns-clause-taken
returns-clause-taken g c =
    (flags_taken_or_not c.self.inside.graph c.self.inside.opening c.args.self.now c.self.invariant.graph c.self.view_is c.apply_all_telling.result c.apply_all_telling.new.graph c.args.edits.now c.apply_all_telling.ensures.joined
    c.apply_all_telling.ensures.unchanged c.apply_all_telling.ensures.numbers_stay).1

pub returns-clause-unchanged : goal.returns-clause-unchanged
returns-clause-unchanged g c =
    (flags_taken_or_not c.self.inside.graph c.self.inside.opening c.args.self.now c.self.invariant.graph c.self.view_is c.apply_all_telling.result c.apply_all_telling.new.graph c.args.edits.now c.apply_all_telling.ensures.joined
    c.apply_all_telling.ensures.unchanged c.apply_all_telling.ensures.numbers_stay).2

pub returns-clause-bounded : goal.returns-clause-bounded
returns-clause-bounded g c =
    c.apply_all_telling.ensures.ticks (edits_cost c.args.self.now c.args.edits.now)
    (edits_cost_is (state_in c.self.inside.graph) c.args.self.now c.args.edits.now
    (graph_seen c.self.inside.graph (opening_edges c.self.inside.graph c.self.inside.opening) c.args.self.now c.self.invariant.graph.kept c.self.view_is))

pub returns-clause-changed : goal.returns-clause-changed
returns-clause-changed g c =
    let kept =
    (flags_taken_or_not c.self.inside.graph c.self.inside.opening c.args.self.now c.self.invariant.graph c.self.view_is c.apply_all_telling.result c.apply_all_telling.new.graph c.args.edits.now c.apply_all_telling.ensures.joined
    c.apply_all_telling.ensures.unchanged c.apply_all_telling.ensures.numbers_stay).0.kept in
    changed_seen c.apply_all_telling.result (state_in c.self.inside.graph) (state_in c.apply_all_telling.new.graph) (graph c.args.self.now.edits) (graph (edits_in c.apply_all_telling.new.graph))
    (graph_seen c.self.inside.graph (opening_edges c.self.inside.graph c.self.inside.opening) c.args.self.now c.self.invariant.graph.kept c.self.view_is) kept.same c.apply_all_telling.ensures.changed
