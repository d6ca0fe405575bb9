use Rattle.std.proofs.Common.{◌≡◌, ℕ, List, ◌++◌, ap, ap₂, sym, ◌∙◌}
use Rattle.std.proofs.lemmas.List.{take-append-drop}
use Rattle.std.proofs.lemmas.Result.{IfOk-at_ok}
use Rattle.graph_table.specs.Table.{live}
use Rattle.grove_decompose.specs.Trees.{vertices_of}
use Rattle.grove_answers.proofs.Heads.{vertices-append}
use Rattle.grove_answers.proofs.Reported.{reported_joined}
use Rattle.grove_answers.proofs.parts.+fn-report_in_parts-join+arg2+fn-report_in_parts-join+arg3+report_in_parts.Goals as goal

pub returns-clause-reported : goal.returns-clause-reported
returns-clause-reported g t c =
    let table = c.args.table.now in
    let heads : List ℕ = c.args.heads.now in
    let fronts : List ℕ = c.split_at.result.0.now in
    let backs : List ℕ = c.split_at.result.1.now in
    let whole : heads ≡ fronts ++ backs = sym (ap₂ ◌++◌ c.split_at.ensures.front c.split_at.ensures.back ∙ take-append-drop _ heads) in
    let of_front = IfOk-at_ok _ c.in_ok-front.was c.join-back.ensures.second in
    let of_back = IfOk-at_ok _ c.in_ok-back.was c.join-back.ensures.first in
    reported_joined g.R.PartedReport.is_blank g.R.Report.takes (live table) (g.met.R.Report g.world.𝓛 g.world.𝓜 g.world.𝓡 ((λ s x. x), (λ x. x), (λ x. x), λ x. x)).takes_more (vertices_of table heads) (vertices_of table fronts) (vertices_of table backs)
    c.args.before.report c.in_ok-front.front.report c.blank.result c.in_ok-back.back.report c.join.new.self
    (ap (vertices_of table) whole ∙ vertices-append table fronts backs) of_front.0 c.blank.ensures of_back c.in_ok-join.ensures
