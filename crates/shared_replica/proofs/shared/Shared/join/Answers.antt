use Rattle.std.proofs.Common.{ap₂, ◌∙◌}
use Rattle.shared_replica.specs.Passes.{joined_pass}
use Rattle.shared_replica.proofs.Turned.{joined_passes}
use Rattle.shared_replica.proofs.shared.Shared.join.Goals as goal

pub invariant_of-pass : goal.invariant_of-pass
invariant_of-pass g c =
    (joined_passes c.pass.inside.seat c.other.inside.seat c.join.new.seat c.pass.inside.actor c.other.inside.actor c.pass.invariant c.other.invariant c.join.ensures.longer.0 c.join.ensures.longer.1 c.join.ensures.joined).0

pub returns-clause-joined : goal.returns-clause-joined
returns-clause-joined g c =
    (joined_passes c.pass.inside.seat c.other.inside.seat c.join.new.seat c.pass.inside.actor c.other.inside.actor c.pass.invariant c.other.invariant c.join.ensures.longer.0 c.join.ensures.longer.1 c.join.ensures.joined).1
    ∙ ap₂ joined_pass c.pass.view_is c.other.view_is
