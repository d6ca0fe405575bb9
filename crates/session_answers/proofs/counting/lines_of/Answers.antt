use Rattle.std.proofs.Common.{◌≡◌, ℕ, ◌≤◌, length, rules, sym, subst, ◌∙◌}
use Rattle.std.specs.List.{count_by}
use Rattle.std.proofs.lemmas.Iterator.{YieldsList-from_slice}
use Rattle.std.proofs.lemmas.Iterator.Consumers.{count_from_yields_List, YieldsList-from_filter}
use Rattle.std.proofs.lemmas.List.Sums.{length-filter, count_by-le-length}
use borrow.Author.Tests.{tests}
use Rattle.session_run.specs.Boards.{is_line_of}
use Rattle.session_answers.proofs.counting.lines_of.Goals as goal

pub returns-clause-count : goal.returns-clause-count
returns-clause-count c =
    count_from_yields_List _ c.count.result c.count.ensures.ran (YieldsList-from_filter _ (is_line_of c.args.author) (YieldsList-from_slice c.args.lines.now cc) c.filter.ensures.closure (λ x b q k. search (rules, tests)))
    ∙ length-filter (is_line_of c.args.author) c.args.lines.now

pub returns-clause-within : goal.returns-clause-within
returns-clause-within c =
    let p = is_line_of c.args.author in
    let lines = c.args.lines.now in
    let many : c.count.result ≡ count_by p lines =
    count_from_yields_List _ c.count.result c.count.ensures.ran (YieldsList-from_filter _ p (YieldsList-from_slice lines cc) c.filter.ensures.closure (λ x b q k. search (rules, tests))) ∙ length-filter p lines in
    subst (λ (n : ℕ). n ≤ length lines) (sym many) (count_by-le-length p lines)
