use Rattle.std.proofs.Common.{◌≡◌, length, subst, sym, ◌∙◌, rules}
use Rattle.session_run.specs.Plans.{FitsPlan}
use Rattle.session_run.proofs.Each.{item_fewer, as_many_fewer}
use Rattle.session_run.proofs.OneReplica.{replica_more}
use Rattle.session_run.proofs.block.+fn-run_replicas-join+arg3+run_replicas.Goals as goal

pub join-own-requires-after_bounds : goal.join-own-requires-after_bounds
join-own-requires-after_bounds g t c κs within =
    let plan = c.args.plan.now in
    let own = c.in-Some-pop.own in
    let fit = item_fewer (FitsPlan plan) c.args.cuts.items c.pop-2.new.self.items own c.in-Some-pop.ensures.items c.requires.fit in
    let many = as_many_fewer c.args.cuts.items c.pop-2.new.self.items own c.args.machines.items c.pop.new.self.items c.in-Some.machine c.in-Some-pop.ensures.items c.in-Some.ensures.items c.requires.cuts in
    let replica : c.len-replica.result ≡ length c.pop.new.self.items = search rules in (
      ((c.requires.plan, subst (λ n. FitsPlan plan n own) (many ∙ sym replica) fit.0, c.requires.asked), search rules),
      (
        search rules,
        (
          search rules,
          (
            search rules,
            (
              search rules,
              (
                search rules,
                (
                  search rules,
                  ((c.requires.plan, c.requires.no_journal, many, fit.1, c.requires.asked), search rules),
                ),
              ),
            ),
          ),
        ),
      ),
    )

pub returns-clause-run : goal.returns-clause-run
returns-clause-run g t c =
    let b = g.M.Machine in
    let own = c.in-Some-pop.own in
    let many = as_many_fewer c.args.cuts.items c.pop-2.new.self.items own c.args.machines.items c.pop.new.self.items c.in-Some.machine c.in-Some-pop.ensures.items c.in-Some.ensures.items c.requires.cuts in
    let replica : c.len-replica.result ≡ length c.pop.new.self.items = search rules in
    replica_more b.after b.effect b.reply c.args.plan.now c.len-replica.result c.in-Some.machine c.pop.new.self.items c.args.machines.items own c.join-own.result.0.0 c.pop-2.new.self.items
    c.join-own.result.1.0.items c.args.cuts.items c.push_reserved.new.self.items c.in-Some.ensures.items c.in-Some-pop.ensures.items c.push_reserved.ensures.items replica many
    c.join-own.result.1.1 c.with_replica.result c.join-own.result.0.1 c.join-own.ensures.second.0 c.join-own.ensures.first c.with_replica.ensures
