-- The numbers of the old records are of the tables.
use Rattle.std.proofs.Common.{IfSome, sym, subst}
use Rattle.std.specs.List.{AllByRecursion}
use Rattle.mark_store.specs.Places.{value_at, HasRoom}
use Rattle.mark_incremental.specs.Reading.{IsRecordOf}
use Rattle.mark_incremental.specs.Standing.{KeptMarks}
use Rattle.mark_incremental.proofs.Puts.{numbers_back}
use Rattle.mark_incremental.proofs.marks.Marks.put_back.Goals as goal

pub restore-requires : goal.restore-requires
restore-requires c =
    subst (AllByRecursion (λ m. HasRoom c.self.inside.records m.0)) (sym c.deref.ensures.value)
    (subst (λ (marks : KeptMarks). AllByRecursion (λ m. HasRoom marks.records m.0) c.args.old.now.records.items) (sym c.self.view_is) c.requires.records)

pub invariant_of-self : goal.invariant_of-self
invariant_of-self c = λ v.
    subst (λ o. IfSome o (IsRecordOf c.self.inside.types c.self.inside.contexts)) (sym (c.restore.ensures.put v))
    (numbers_back c.self.inside.types c.self.inside.contexts (value_at c.self.inside.records) c.self.invariant c.deref.result.now
    (subst (AllByRecursion (λ m. IfSome m.1 (IsRecordOf c.self.inside.types c.self.inside.contexts))) (sym c.deref.ensures.value)
    (subst (λ (marks : KeptMarks). AllByRecursion (λ m. IfSome m.1 (IsRecordOf marks.types marks.contexts)) c.args.old.now.records.items) (sym c.self.view_is) c.requires.numbers))
    v)

pub invariant_of-self-in_default : goal.invariant_of-self-in_default
invariant_of-self-in_default c = λ v.
    subst (λ o. IfSome o (IsRecordOf c.self.inside.types c.self.inside.contexts)) (sym (c.restore.ensures.put v))
    (numbers_back c.self.inside.types c.self.inside.contexts (value_at c.self.inside.records) c.self.invariant c.deref.result.now
    (subst (AllByRecursion (λ m. IfSome m.1 (IsRecordOf c.self.inside.types c.self.inside.contexts))) (sym c.deref.ensures.value)
    (subst (λ (marks : KeptMarks). AllByRecursion (λ m. IfSome m.1 (IsRecordOf marks.types marks.contexts)) c.args.old.now.records.items) (sym c.self.view_is) c.requires.numbers))
    v)
