use Rattle.undo_answers.specs.Course.{Course}
use Rattle.undo_answers.proofs.Courses.{line_next, lines_end}
use Rattle.undo_answers.proofs.course.Course.run_lines.Goals as goal

pub loop-line-init : goal.loop-line-init
loop-line-init c = λ before stands. stands

pub loop-line-preserved : goal.loop-line-preserved
loop-line-preserved c = λ before stands.
    line_next c.args.author c.args.lines.now c.loop-line.line-index c.line-item.result c.run_line.new.self before c.loop-line-test.true c.line-item.is
    (c.in_ok-run_line.ensures _ (c.loop-line.invariant before stands))

pub returns : goal.returns
returns c = λ before stands. lines_end c.args.author c.args.lines.now c.loop-line.line-index c.loop-line.self before c.loop-line-test.false (c.loop-line.invariant before stands)
