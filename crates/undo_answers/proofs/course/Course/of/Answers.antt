use Rattle.std.proofs.Common.{refl}
use Rattle.undo_answers.specs.Course.{at_start}
use Rattle.undo_answers.proofs.Courses.{item_next, items_end, stands_first}
use Rattle.undo_answers.proofs.course.Course.of.Goals as goal

pub loop-item-init : goal.loop-item-init
loop-item-init c = stands_first _ c.in_ok-with_seed.ensures.empty c.new.ensures.empty refl

pub loop-item-preserved : goal.loop-item-preserved
loop-item-preserved c =
    item_next c.args.author c.args.items.now c.loop-item.item-index c.item-item.result c.run_item.new.self at_start c.loop-item-test.true c.item-item.is
    (c.in_ok-run_item.ensures _ c.loop-item.invariant)

pub returns : goal.returns
returns c = items_end c.args.author c.args.items.now c.loop-item.item-index c.loop-item.course at_start c.loop-item-test.false c.loop-item.invariant
