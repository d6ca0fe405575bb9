-- The tables of the marks are those that the walk reads and grows.
use Rattle.std.proofs.Common.{◌≡◌, ◌+◌, ◌*◌, ◌≤◌, ℕ, false, length, subst}
use Rattle.std.specs.Prelude.{IfOk, IfSome}
use Rattle.graph_words.specs.declared.class.Class.TheVariants.{Inner}
use Rattle.graph_words.specs.Class.{class}
use Rattle.grove_terms.specs.Forest.{edges_under}
use Rattle.live_graph.specs.Live.{live}
use Rattle.mark_step.specs.Expression.{Demanded}
use Rattle.mark_incremental.specs.Looking.{on}
use Rattle.mark_incremental.specs.Walking.{demands, start_at, IsStart}
use Rattle.mark_incremental.specs.AtConflict.{level_at, StandsAtEdge, HasMadeAtConflict, IsConflictPaidFor}
use Rattle.mark_incremental.specs.Standing.{KeptMarks}
use Rattle.mark_incremental.proofs.marks.Marks.make_below_conflict.Goals as goal

pub returns-clause-target : goal.returns-clause-target
returns-clause-target g c =
    subst
    (λ (m : KeptMarks). (d : Demanded) (place : IsStart (live c.args.graph.now) m.types m.contexts c.args.demand (start_at c.args.edge.now.source d))
    → (class (live c.args.graph.now) c.args.edge.now.target ≡ Inner → StandsAtEdge c.args.edge.now (level_at c.args.edge.now.source place.above place.forest d))
    → IfOk c.renew_below_conflict.result (λ r. IfSome r (λ made. HasMadeAtConflict c.args.edge.now (live c.args.graph.now) c.renew_below_conflict.new.types c.renew_below_conflict.new.ctxs m.records (on false c.args.judged.now)
    (demands (level_at c.args.edge.now.source place.above place.forest d) c.args.edge.now.position) made.items))) c.self.view_is
    c.renew_below_conflict.ensures.target

pub returns-clause-paid : goal.returns-clause-paid
returns-clause-paid g c =
    subst
    (λ (m : KeptMarks). (d : Demanded) (place : IsStart (live c.args.graph.now) m.types m.contexts c.args.demand (start_at c.args.edge.now.source d))
    → (class (live c.args.graph.now) c.args.edge.now.target ≡ Inner → StandsAtEdge c.args.edge.now (level_at c.args.edge.now.source place.above place.forest d))
    → (most : ℕ) → ((before after : ℕ) → IsConflictPaidFor c.args.edge.now (live c.args.graph.now) m.types m.contexts m.records (on false c.args.judged.now)
    (demands (level_at c.args.edge.now.source place.above place.forest d) c.args.edge.now.position) before after → after ≤ before + most)
    → c.renew_below_conflict.new.steps ≤ c.args.steps.now + 5 + 4 * length (edges_under (live c.args.graph.now) c.args.edge.now.source) + most) c.self.view_is
    c.renew_below_conflict.ensures.paid
