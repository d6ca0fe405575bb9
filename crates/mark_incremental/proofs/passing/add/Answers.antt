-- The vertex is in the set, and stands once.
use Rattle.std.proofs.Common.{sym, subst, ◌∙◌}
use Rattle.std.proofs.lemmas.Result.{on_ok_weaker}
use Rattle.mark_incremental.specs.Passing.{HoldsThese}
use Rattle.mark_incremental.proofs.Lists.{held_already, these_more}
use Rattle.mark_incremental.proofs.passing.add.Goals as goal

pub returns-then-holds-clause-added : goal.returns-then-holds-clause-added
returns-then-holds-clause-added c = λ v. held_already c.args.passed.now.set c.args.vertex.now v (sym c.holds.ensures ∙ c.if-holds.true)

pub returns-clause-these : goal.returns-clause-these
returns-clause-these c =
    on_ok_weaker c.enter.result
    (λ entered. subst (HoldsThese c.enter.new.self) (sym c.in_ok-push.ensures.items)
    (these_more c.args.passed.now.set c.enter.new.self c.args.vertex.now c.args.passed.now.vertices.items c.requires (sym c.holds.ensures ∙ c.if-holds.false) entered))
    c.enter.ensures
