-- The tables of the marks are those that the walks read and grow.
use Rattle.std.proofs.Common.{false, subst}
use Rattle.live_graph.specs.Live.{live}
use Rattle.mark_step.specs.Expression.{Demanded}
use Rattle.std.specs.Prelude.{IfOk}
use Rattle.mark_incremental.specs.Looking.{on}
use Rattle.mark_incremental.specs.Walking.{start_at, IsStart}
use Rattle.mark_incremental.specs.ShortWalks.{HasMadeBoth, AreBothPaidFor}
use Rattle.mark_incremental.specs.Standing.{KeptMarks}
use Rattle.mark_incremental.proofs.marks.Marks.make_both.Goals as goal

pub returns-clause-both : goal.returns-clause-both
returns-clause-both g c =
    subst
    (λ (m : KeptMarks). (d : Demanded) → IsStart (live c.args.graph.now) m.types m.contexts c.args.demand (start_at c.args.start.now d)
    → IfOk c.renew_both.result (λ made. HasMadeBoth (live c.args.graph.now) c.renew_both.new.types c.renew_both.new.ctxs m.records (on false c.args.judged.now) c.args.target.now (start_at c.args.start.now d) made.items)) c.self.view_is
    c.renew_both.ensures.both

pub returns-clause-paid : goal.returns-clause-paid
returns-clause-paid g c =
    subst
    (λ (m : KeptMarks). (d : Demanded) → IsStart (live c.args.graph.now) m.types m.contexts c.args.demand (start_at c.args.start.now d)
    → AreBothPaidFor (live c.args.graph.now) m.types m.contexts m.records (on false c.args.judged.now) c.args.target.now (start_at c.args.start.now d) c.args.steps.now c.renew_both.new.steps) c.self.view_is
    c.renew_both.ensures.paid
