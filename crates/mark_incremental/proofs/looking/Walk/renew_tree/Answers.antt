-- A walk down a tree begins at its head, which is judged by itself.
use Rattle.std.proofs.Common.{sym, ◌∙◌, arith}
use Rattle.live_graph.specs.Live.{live}
use Rattle.grove_terms.proofs.Forests.{forest_of, root_stands}
use Rattle.kept_records.specs.Kept.{alone}
use Rattle.mark_incremental.specs.Looking.{on}
use Rattle.mark_incremental.specs.Walking.{start_at}
use Rattle.mark_incremental.proofs.Growth.{made_kept, records_at-kept}
use Rattle.mark_incremental.proofs.Steps.{head_is_start}
use Rattle.mark_incremental.proofs.Paid.{start_paid}
use Rattle.mark_incremental.proofs.looking.Walk.renew_tree.Goals as goal

pub renew_from-requires-clause-made : goal.renew_from-requires-clause-made
renew_from-requires-clause-made g c = made_kept c.args.types.now c.demand_next.new.types c.args.ctxs.now c.demand_next.new.ctxs c.in_ok-demand.ensures.types c.in_ok-demand.ensures.contexts c.args.made.now.items c.requires.made

pub returns-clause-tree : goal.returns-clause-tree
returns-clause-tree g c =
    c.renew_from.ensures.from alone
    (head_is_start (live c.args.self.now.graph.now) c.demand_next.new.types c.demand_next.new.ctxs c.args.head.now c.requires.heads c.in_ok-demand.demand c.in_ok-demand.ensures.demand)

pub returns-in_err-demand-clause-paid : goal.returns-in_err-demand-clause-paid
returns-in_err-demand-clause-paid g c = λ records reads leaves.
    start_paid (live c.args.self.now.graph.now) (on c.args.self.now.whole c.args.self.now.passed.now) records (start_at c.args.head.now alone) (forest_of (live c.args.self.now.graph.now) c.args.head.now)
    (root_stands (live c.args.self.now.graph.now) c.args.head.now c.requires.heads) c.args.steps.now c.args.steps.now (omega arith)

pub returns-clause-paid : goal.returns-clause-paid
returns-clause-paid g c = λ records reads leaves.
    c.renew_from.ensures.paid alone
    (head_is_start (live c.args.self.now.graph.now) c.demand_next.new.types c.demand_next.new.ctxs c.args.head.now c.requires.heads c.in_ok-demand.demand c.in_ok-demand.ensures.demand) records
    (λ v. reads v ∙ sym (records_at-kept c.args.types.now c.demand_next.new.types c.args.ctxs.now c.demand_next.new.ctxs c.in_ok-demand.ensures.types c.in_ok-demand.ensures.contexts c.args.self.now.records.now c.requires.records v))
    leaves
