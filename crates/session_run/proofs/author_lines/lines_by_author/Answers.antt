use Rattle.std.proofs.Common.{◌∙◌, map, drop, ap}
use Rattle.session_run.specs.Workers.{told, first_calls_told}
use Rattle.session_run.proofs.Grouped.{none_grouped, told_differ, action_grouped, send_grouped, all_grouped}
use Rattle.session_run.proofs.author_lines.lines_by_author.Goals.{in-Author+in_ok-append_action-in-Author, in-Send}
use Rattle.session_run.proofs.author_lines.lines_by_author.Goals as goal

pub loop-line-init : goal.loop-line-init
loop-line-init c = (none_grouped c.args.lines.now c.args.authors.now c.in_ok-all.all.items c.in_ok-all.ensures.lines, c.in_ok-all.ensures.first_calls)

pub append_action-requires : goal.append_action-requires
append_action-requires c =
    told_differ (drop c.loop-line.line-index c.args.lines.now) c.args.lines.now c.args.authors.now c.loop-line.all.items c.loop-line.invariant.0 c.requires.once

pub loop-line-preserved : goal.loop-line-preserved
loop-line-preserved c =
    elim c.match-line.branch [
      | in-Author+in_ok-append_action-in-Author w ↦
          let added = w.in_ok-append_action-in-Author.ensures in (
            action_grouped c.args.lines.now c.args.authors.now c.loop-line.line-index c.line-item.result c.loop-line-test.true c.line-item.is w.in-Author.author w.in-Author.action
                c.loop-line.all.items c.match-line.all.items w.in-Author.is c.loop-line.invariant.0 (ap (λ all. map told all.items) w.all-is ∙ added.added),
            ap (λ all. first_calls_told all.items) w.all-is ∙ added.first_calls ∙ c.loop-line.invariant.1,
          )
      | in-Send w ↦ (
        send_grouped c.args.lines.now c.args.authors.now c.loop-line.line-index c.line-item.result c.loop-line-test.true c.line-item.is w.in-Send.field-0
            c.loop-line.all.items c.match-line.all.items w.in-Send.is (ap (λ all. all.items) w.all-is) c.loop-line.invariant.0,
        ap (λ all. first_calls_told all.items) w.all-is ∙ c.loop-line.invariant.1,
      )
    ]

pub returns-clause-lines : goal.returns-clause-lines
returns-clause-lines c = all_grouped c.args.lines.now c.args.authors.now c.loop-line.line-index c.loop-line.all.items c.loop-line-test.false c.loop-line.invariant.0
