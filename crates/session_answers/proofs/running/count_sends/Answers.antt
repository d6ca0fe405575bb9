use Rattle.std.proofs.Common.{rules, ◌∙◌}
use Rattle.std.proofs.lemmas.Iterator.{YieldsList-from_slice}
use Rattle.std.proofs.lemmas.Iterator.Consumers.{count_from_yields_List, YieldsList-from_filter}
use Rattle.std.proofs.lemmas.List.Sums.{length-filter}
use borrow.Author.Tests.{tests}
use Rattle.session_script.specs.Session.{is_send}
use Rattle.session_answers.proofs.running.count_sends.Goals as goal

pub returns : goal.returns
returns c =
    count_from_yields_List _ c.count.result c.count.ensures.ran (YieldsList-from_filter _ is_send (YieldsList-from_slice c.args.lines.now cc) c.filter.ensures.closure (λ x b q k. search (rules, tests)))
    ∙ length-filter is_send c.args.lines.now
