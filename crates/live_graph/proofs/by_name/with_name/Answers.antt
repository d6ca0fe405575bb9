use Rattle.std.proofs.Common.{get_or, sym, ap, ◌∙◌}
use Rattle.std.specs.Prelude.{◌||◌}
use Rattle.std.proofs.lemmas.List.Folds.{list_any_more}
use Rattle.live_graph.specs.ByName.{is_named_edge}
use Rattle.live_graph.proofs.by_name.with_name.Goals as goal

pub loop-number-preserved : goal.loop-number-preserved
loop-number-preserved c e =
    let p = is_named_edge c.args.edges.now c.args.name e in
    let i = c.loop-number.number-index in
    c.in_ok-push_named.ensures e ∙ ap (λ b. b || p (get_or c.args.numbers.now i 0)) (c.loop-number.invariant e)
    ∙ sym (list_any_more p c.args.numbers.now i 0 c.loop-number-test.true)
