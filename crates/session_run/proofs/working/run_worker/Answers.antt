use Rattle.std.proofs.Common.{ap, ◌∙◌}
use Rattle.session_run.specs.Workers.{actor_of}
use Rattle.session_run.proofs.Worked.{author_worked, author_stopped}
use Rattle.session_run.proofs.working.run_worker.Goals as goal

pub returns-in_err-run_lines-in-Author : goal.returns-in_err-run_lines-in-Author
returns-in_err-run_lines-in-Author g c =
    author_stopped c.args.worker.now c.args.pass.now c.run_lines.new.pass c.args.cuts.now c.run_lines.new.cuts c.deref.result.now c.from_residual.result c.from_residual.ensures.0
    c.in_err-run_lines-in-Author.ensures.entered_first c.run_lines.ensures.kept

pub returns-in_ok-run_lines-in-Author : goal.returns-in_ok-run_lines-in-Author
returns-in_ok-run_lines-in-Author g c =
    author_worked c.args.worker.now c.args.pass.now c.run_lines.new.pass c.args.cuts.now c.run_lines.new.cuts c.in-Author.lines tt c.deref.result.now c.in-Author.is
    (c.requires.actor ∙ ap actor_of c.in-Author.is) c.deref.ensures.value c.in_ok-run_lines-in-Author.ensures.entered c.in_ok-run_lines-in-Author.ensures.raised
