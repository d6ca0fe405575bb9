use Rattle.std.proofs.Common.{subst}
use Rattle.type_core.specs.TypeTable as type_table
use Rattle.ctx_table.specs.CtxTable as context_table
use Rattle.mark_incremental.specs.Standing.{KeptMarks}
use Rattle.mark_incremental.proofs.Judgements.{told_alike}
use Rattle.mark_incremental.proofs.marks.Marks.are_alike.Goals as goal

pub returns-in-Some-Some : goal.returns-in-Some-Some
returns-in-Some-Some c =
    let types = subst (λ (m : KeptMarks). type_table.AreDistinct m.types) c.self.view_is c.numbers_are_distinct.ensures in
    let contexts = subst (λ (m : KeptMarks). context_table.AreDistinct m.contexts) c.self.view_is c.numbers_are_distinct-2.ensures in
    told_alike c.args.self.now types contexts c.args.old c.args.new c.in-Some-Some.old c.in-Some-Some.new c.is_same_judgement.result c.in-Some-Some.is-0 c.in-Some-Some.is-1 c.is_same_judgement.ensures
