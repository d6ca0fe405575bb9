use Rattle.std.proofs.Common.{ℕ, ◌+◌, ◌<◌, ◌^◌, ◌++◌, List, length, refl, sym, ap, subst, ◌∙◌}
use Rattle.std.specs.List.{AllByRecursion}
use Rattle.session_script.specs.declared.author.Declared.{Declared}
use Rattle.session_script.specs.declared.line.Line.{Line}
use Rattle.session_report.specs.Report.{block_heading, journals_text}
use Rattle.replica_core.specs.Content.{Content}
use Rattle.session_run.specs.Asked.{IsNumberIn}
use Rattle.session_answers.specs.Numbers.{numbers_behind}
use Rattle.session_answers.specs.Opened.{all_listed}
use Rattle.session_answers.specs.Running.{HaveRun}
use Rattle.session_answers.proofs.Listed.{all_listed-opened}
use Rattle.session_answers.proofs.running.Running.run_block.Goals as goal

pub count_lines-requires-clause-calls : goal.count_lines-requires-clause-calls
count_lines-requires-clause-calls g c = ap (λ (ns : List ℕ). length ns) c.deref-2.ensures.value ∙ (c.requires.calls ∙ ap (λ (ds : List Declared). length ds) (sym c.as_slice.ensures))

pub count_lines-requires-clause-room : goal.count_lines-requires-clause-room
count_lines-requires-clause-room g c =
    subst (AllByRecursion (λ first. first + length c.as_slice-2.result.now < 2 ^ 64)) (c.deref.ensures.value ∙ sym c.deref-2.ensures.value)
    (subst (λ lines. AllByRecursion (λ first. first + lines < 2 ^ 64) c.deref.result.now) (c.len.ensures ∙ ap (λ (ls : List Line). length ls) (sym c.as_slice-2.ensures)) (c.if-not-can_number.ensures refl))

pub run_on_boards-requires-clause-lists : goal.run_on_boards-requires-clause-lists
run_on_boards-requires-clause-lists g c κs within =
    c.deref-3.ensures.value ∙ c.in_ok-replicas.ensures.lists
    ∙ ap (λ (ls : List Line). all_listed c.args.session.now.authors ls 0 c.args.self.replicas.items) c.as_slice-3.ensures
    ∙ all_listed-opened c.args.session.now.authors c.args.block.now.lines 0 c.args.self.replicas.items
    ∙ ap (all_listed c.args.session.now.authors c.args.block.now.lines 0) (sym c.in_ok-replicas.ensures.opened)

pub run_on_boards-requires-clause-calls : goal.run_on_boards-requires-clause-calls
run_on_boards-requires-clause-calls g c κs within =
    subst (AllByRecursion (λ first. first + length c.args.block.now.lines < 2 ^ 64)) (c.deref.ensures.value ∙ sym c.deref-4.ensures.value)
    (subst (λ lines. AllByRecursion (λ first. first + lines < 2 ^ 64) c.deref.result.now) c.len.ensures (c.if-not-can_number.ensures refl))

pub run_on_boards-requires-clause-asked : goal.run_on_boards-requires-clause-asked
run_on_boards-requires-clause-asked g c κs within = λ author number is.
    c.requires.asked author number (subst (λ (ns : List ℕ). IsNumberIn c.args.session.now.authors ns c.args.block.now.lines author number) c.deref-4.ensures.value is)

pub returns : goal.returns
returns g c =
    let made = c.in_ok-replicas-2.made.items in
    let lines = c.args.block.now.lines in
    let authors = c.args.session.now.authors in
    record {
      journals = made;
      have_run = subst (λ (rs : List Content). HaveRun c.args.session.now c.args.block.now (c.args.self.sends + 1) rs made c.in_ok-replicas-2.replicas.items) c.in_ok-replicas.ensures.opened c.in_ok-replicas-2.ensures.ran;
      kept = c.in_ok-append_journals.ensures;
      text =
          c.in_ok-append_block.ensures.appended
          ∙ ap (λ names. c.args.self.text.items ++ (block_heading (c.args.self.blocks + 1) ++ journals_text names c.deref-5.result.now)) c.as_slice-4.ensures
          ∙ ap (λ js. c.args.self.text.items ++ (block_heading (c.args.self.blocks + 1) ++ journals_text c.args.session.now.replicas js)) c.deref-5.ensures.value;
      blocks = refl;
      sends = ap (λ n. c.args.self.sends + n) c.sends_in.ensures;
      shows = refl;
      calls =
          c.in_ok-behind.ensures
          ∙ (ap (λ (ls : List Line). numbers_behind ls c.as_slice.result.now c.deref-2.result.now) c.as_slice-2.ensures
          ∙ (ap (λ (ds : List Declared). numbers_behind lines ds c.deref-2.result.now) c.as_slice.ensures ∙ ap (numbers_behind lines authors) c.deref-2.ensures.value));
    }
