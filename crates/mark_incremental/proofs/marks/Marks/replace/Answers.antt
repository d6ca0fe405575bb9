-- What was replaced can be put back, and the numbers of all records are of the tables.
use Rattle.std.proofs.Common.{◌≡◌, IfSome, Option, sym, ap, subst, ◌∙◌}
use Rattle.std.specs.List.{AllByRecursion}
use Rattle.grove_edits.specs.declared.vertex.Vertex.{Vertex}
use Rattle.mark_store.specs.declared.record.Record.{Record}
use Rattle.mark_store.specs.Places.{value_at, HasRoom}
use Rattle.mark_incremental.specs.Reading.{IsRecordOf}
use Rattle.mark_incremental.specs.Walking.{AreMadeOf}
use Rattle.mark_incremental.specs.Standing.{KeptMarks, put_in}
use Rattle.mark_incremental.specs.Applying.{AreOld}
use Rattle.mark_incremental.proofs.Puts.{numbers_put, are_old, old_of}
use Rattle.mark_incremental.proofs.marks.Marks.replace.Goals as goal

pub invariant_of-self-2 : goal.invariant_of-self-2
invariant_of-self-2 c = λ v.
    subst (λ o. IfSome o (IsRecordOf c.self.inside.types c.self.inside.contexts)) (sym (c.put.ensures.put v))
    (numbers_put c.self.inside.types c.self.inside.contexts (value_at c.make_room.new.records) v
    (subst (λ o. IfSome o (IsRecordOf c.self.inside.types c.self.inside.contexts)) (sym (c.make_room.ensures.unchanged v)) (c.self.invariant v)) c.args.made.items
    (subst (λ (marks : KeptMarks). AreMadeOf marks.types marks.contexts c.args.made.items) (sym c.self.view_is) c.requires))

pub returns-clause-old : goal.returns-clause-old
returns-clause-old c =
    let before = value_at c.self.inside.records in
    let listed : c.in_ok-old.old.items ≡ old_of before c.args.made.items = c.in_ok-old.ensures ∙ ap (old_of before) c.deref.ensures.value in
    subst (λ (marks : KeptMarks). AreOld marks.types marks.contexts c.in_ok-old.old.items marks.records c.put.new.records) c.self.view_is
    (subst (λ old. AreOld c.self.inside.types c.self.inside.contexts old c.self.inside.records c.put.new.records) (sym listed)
    (are_old c.self.inside.types c.self.inside.contexts c.self.inside.records c.make_room.new.records c.put.new.records c.args.made.items c.self.invariant
    (λ v. c.put.ensures.put v ∙ ap (λ (f : Vertex → Option Record). put_in c.args.made.items f v) (λ j u. c.make_room.ensures.unchanged u j)) c.put.ensures.room_stays
    (subst (AllByRecursion (λ m. HasRoom c.make_room.new.records m.0)) c.deref-2.ensures.value c.in_ok-make_room.ensures.room)))

pub returns-clause-numbers : goal.returns-clause-numbers
returns-clause-numbers c = λ v.
    subst (λ o. IfSome o (IsRecordOf c.self.inside.types c.self.inside.contexts)) (sym (c.put.ensures.put v))
    (numbers_put c.self.inside.types c.self.inside.contexts (value_at c.make_room.new.records) v
    (subst (λ o. IfSome o (IsRecordOf c.self.inside.types c.self.inside.contexts)) (sym (c.make_room.ensures.unchanged v)) (c.self.invariant v)) c.args.made.items
    (subst (λ (marks : KeptMarks). AreMadeOf marks.types marks.contexts c.args.made.items) (sym c.self.view_is) c.requires))
