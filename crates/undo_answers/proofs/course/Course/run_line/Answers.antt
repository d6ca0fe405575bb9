use Rattle.std.proofs.Common.{sym, subst}
use Rattle.std.specs.Prelude.{OnOk}
use Rattle.session_script.specs.declared.line.Line.{Line}
use Rattle.undo_answers.specs.Course.{after_line}
use Rattle.undo_answers.specs.Kept.{StandsFor}
use Rattle.undo_answers.proofs.course.Course.run_line.Goals as goal

pub returns-in-Author : goal.returns-in-Author
returns-in-Author c = λ before stands.
    subst (λ (line : Line). OnOk c.act.result (StandsFor c.act.new.self (after_line c.args.author line before))) (sym c.in-Author.is) (c.act.ensures before stands)
