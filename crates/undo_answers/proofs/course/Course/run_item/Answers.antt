use Rattle.std.proofs.Common.{List, refl, sym, subst}
use Rattle.std.specs.Prelude.{OnOk}
use Rattle.session_script.specs.declared.line.Line.{Line}
use Rattle.session_script.specs.declared.item.Item.{Item}
use Rattle.undo_answers.specs.Course.{after_item, after_lines, opened}
use Rattle.undo_answers.specs.Kept.{StandsFor}
use Rattle.undo_answers.proofs.Courses.{stands_opened}
use Rattle.undo_answers.proofs.course.Course.run_item.Goals as goal

pub returns-in_ok-begin_block-in-Block : goal.returns-in_ok-begin_block-in-Block
returns-in_ok-begin_block-in-Block c = λ before stands.
    subst (λ (item : Item). OnOk c.run_lines.result (StandsFor c.run_lines.new.self (after_item c.args.author item before))) (sym c.in-Block.is)
    (subst (λ (lines : List Line). OnOk c.run_lines.result (StandsFor c.run_lines.new.self (after_lines c.args.author lines (opened before)))) c.as_slice.ensures
    (c.run_lines.ensures (opened before) (stands_opened c.args.self.now _ before stands c.in_ok-begin_block-in-Block.ensures.opened refl refl)))

pub returns-in-Load : goal.returns-in-Load
returns-in-Load c = λ before stands.
    subst (λ (item : Item). OnOk c.load.result (StandsFor c.load.new.self (after_item c.args.author item before))) (sym c.in-Load.is) (c.load.ensures before stands)

pub returns-in-Show : goal.returns-in-Show
returns-in-Show c = λ before stands. subst (λ (item : Item). StandsFor c.args.self.now (after_item c.args.author item before)) (sym c.in-Show.is) stands
