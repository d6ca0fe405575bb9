use Rattle.graph_words.specs.States.{state_in}
use Rattle.user_actions.specs.Flags.{opening_edges}
use Rattle.replica_core.specs.Cost.{edits_cost}
use Rattle.replica_core.proofs.Keeping.{flags_taken_or_not, graph_seen}
use Rattle.replica_core.proofs.Costs.{edits_cost_is}
use Rattle.replica_core.proofs.replica.Replica.take.Goals as goal

pub invariant_of-self : goal.invariant_of-self
invariant_of-self g c = record {
  graph =
      (flags_taken_or_not c.self.inside.graph c.self.inside.opening c.args.self.now c.self.invariant.graph c.self.view_is c.apply_all.result c.apply_all.new.graph c.args.edits.now c.apply_all.ensures.joined
      c.apply_all.ensures.unchanged c.apply_all.ensures.numbers_stay).0;
  stand = c.apply_all.ensures.stand;
}

pub returns-clause-taken : goal.returns-clause-taken
returns-clause-taken g c =
    (flags_taken_or_not c.self.inside.graph c.self.inside.opening c.args.self.now c.self.invariant.graph c.self.view_is c.apply_all.result c.apply_all.new.graph c.args.edits.now c.apply_all.ensures.joined
    c.apply_all.ensures.unchanged c.apply_all.ensures.numbers_stay).1

pub returns-clause-unchanged : goal.returns-clause-unchanged
returns-clause-unchanged g c =
    (flags_taken_or_not c.self.inside.graph c.self.inside.opening c.args.self.now c.self.invariant.graph c.self.view_is c.apply_all.result c.apply_all.new.graph c.args.edits.now c.apply_all.ensures.joined
    c.apply_all.ensures.unchanged c.apply_all.ensures.numbers_stay).2

pub returns-clause-bounded : goal.returns-clause-bounded
returns-clause-bounded g c =
    c.apply_all.ensures.ticks (edits_cost c.args.self.now c.args.edits.now)
    (edits_cost_is (state_in c.self.inside.graph) c.args.self.now c.args.edits.now
    (graph_seen c.self.inside.graph (opening_edges c.self.inside.graph c.self.inside.opening) c.args.self.now c.self.invariant.graph.kept c.self.view_is))
