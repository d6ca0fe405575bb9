use Rattle.std.proofs.Common.{sym, ◌∙◌}
use Rattle.replica_core.proofs.Keeping.{flags_opened}
use Rattle.replica_core.proofs.replica.Replica.begin_block.Goals as goal

pub renew-requires-clause-within : goal.renew-requires-clause-within
renew-requires-clause-within c = c.self.invariant.graph.within

pub renew-requires-clause-opened : goal.renew-requires-clause-opened
renew-requires-clause-opened c = λ e held absent. c.self.invariant.graph.kept.opening_known e held (sym (c.self.invariant.graph.kept.same e) ∙ absent)

pub invariant_of-self-2 : goal.invariant_of-self-2
invariant_of-self-2 c = record {
  graph = (flags_opened c.self.inside.graph c.self.inside.opening c.args.self.now c.self.invariant.graph c.self.view_is c.renew.new.self c.in_ok-renew.ensures.flags).invariant;
  stand = c.self.invariant.stand;
}

pub returns-clause-opened : goal.returns-clause-opened
returns-clause-opened c =
    (flags_opened c.self.inside.graph c.self.inside.opening c.args.self.now c.self.invariant.graph c.self.view_is c.renew.new.self c.in_ok-renew.ensures.flags).view
