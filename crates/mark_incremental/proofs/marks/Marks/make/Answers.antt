-- The heads are no trees of others.
use Rattle.std.proofs.Common.{◌≡◌, sym, subst, ◌∙◌, arith}
use Rattle.std.specs.List.{AllByRecursion}
use Rattle.graph_words.specs.declared.class.Class.TheVariants.{Inner}
use Rattle.graph_words.specs.Class.{class}
use Rattle.live_graph.specs.Live.{live}
use Rattle.mark_incremental.specs.Looking.{on}
use Rattle.mark_incremental.specs.Ticks.{AreTreesPaidFor}
use Rattle.mark_incremental.specs.Standing.{KeptMarks}
use Rattle.mark_incremental.proofs.Edited.{outer_among}
use Rattle.mark_incremental.proofs.marks.Marks.make.Goals as goal

pub renew_trees-requires-clause-heads : goal.renew_trees-requires-clause-heads
renew_trees-requires-clause-heads g c =
    subst (AllByRecursion (λ v. class (live c.args.graph.now) v ≡ Inner → ⊥)) (sym (c.deref.ensures.value ∙ c.in_ok-heads.ensures.heads)) (outer_among (live c.args.graph.now) c.args.vertices.now)

pub returns-clause-ticks : goal.returns-clause-ticks
returns-clause-ticks g c = λ most within.
    let paid =
    subst (λ hs. AreTreesPaidFor (live c.args.graph.now) c.args.self.now.types c.args.self.now.contexts c.args.self.now.records (on c.args.whole c.args.passed.now) hs c.heads_among.new.steps c.renew_trees.new.steps)
    (c.deref.ensures.value ∙ c.in_ok-heads.ensures.heads)
    (subst (λ (m : KeptMarks). AreTreesPaidFor (live c.args.graph.now) m.types m.contexts m.records (on c.args.whole c.args.passed.now) c.deref.result.now c.heads_among.new.steps c.renew_trees.new.steps) c.self.view_is
    c.renew_trees.ensures.paid) in
    let first = c.in_ok-heads.ensures.ticks in
    let rest = within c.heads_among.new.steps c.renew_trees.new.steps paid in
    omega (arith, first, rest)
