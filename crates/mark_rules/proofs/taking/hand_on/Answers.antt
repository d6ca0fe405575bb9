use Rattle.std.proofs.Common.{◌≡◌, Some, ◌∙◌}
use Rattle.judging.proofs.Kept.{types-then}
use Rattle.mark_rules.proofs.Walks.{given_along}
use Rattle.mark_rules.proofs.taking.hand_on.Goals as goal

pub loop-pending-preserved : goal.loop-pending-preserved
loop-pending-preserved c =
    let is : c.loop-pending.pending ≡ Some c.in-Some.given = cc in
    record {
      walk = c.in_ok-pending.ensures.walk;
      given = c.in_ok-pending.ensures.given;
      state = λ nodes.
          c.in_ok-pending.ensures.state nodes
          ∙ given_along c.loop-pending.types c.args.ctxs.now c.loop-pending.pending c.in-Some.given nodes c.loop-pending.walk is ∙ c.loop-pending.invariant.state nodes;
      count = c.in_ok-pending.ensures.count ∙ c.loop-pending.invariant.count;
      kept = types-then c.args.types.now c.loop-pending.types c.pass.new.types c.loop-pending.invariant.kept c.in_ok-pending.ensures.kept;
    }
