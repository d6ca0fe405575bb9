use Rattle.std.proofs.Common.{◌≡◌, ◌<◌, ◌≤◌, length, take, ap, arith, sym, ◌∙◌, ◌++◌, ◌+◌, ◌∷◌, []}
use Rattle.std.proofs.lemmas.Bool.{lt-ltb, le-ltb}
use Rattle.std.proofs.lemmas.List.{take_more}
use Rattle.live_graph.proofs.Listing.{edit_pushed, edit_passed, number_passed}
use Rattle.live_graph.proofs.SameEdits.{Decides-edit}
use Rattle.live_graph.proofs.whole.step_over.Goals as goal

pub returns-then-number-edge_count-clause-told : goal.returns-then-number-edge_count-clause-told
returns-then-number-edge_count-clause-told c =
    let count = length c.args.edges.now.entries in
    let beyond : count ≤ c.args.number = omega (arith, c.edge_count.ensures.count, c.if-number-edge_count.true) in
    number_passed c.args.edges.now c.args.number (take c.args.at c.args.edits.now) (le-ltb c.args.number count beyond)

pub returns-in_default-clause-told : goal.returns-in_default-clause-told
returns-in_default-clause-told c =
    let count = length c.args.edges.now.entries in
    let within : c.args.number < count = omega (arith, c.edge_count.ensures.count, c.if-number-edge_count.false) in
    edit_passed c.args.edges.now c.args.number (take c.args.at c.args.edits.now) c.edge.result c.state_at.result (lt-ltb c.args.number count within) c.edge.ensures c.state_at.ensures c.in_default.ensures

pub returns-then-eq-clause-told : goal.returns-then-eq-clause-told
returns-then-eq-clause-told c =
    let count = length c.args.edges.now.entries in
    let within : c.args.number < count = omega (arith, c.edge_count.ensures.count, c.if-number-edge_count.false) in
    let same : c.index-edits-at.result ≡ c.in-Some.edit = (Decides-edit c.index-edits-at.result c.in-Some.edit).0 (sym c.eq.ensures ∙ c.if-eq.true) in
    edit_pushed c.args.edges.now c.args.number (take c.args.at c.args.edits.now) (take (c.args.at + 1) c.args.edits.now) c.edge.result c.state_at.result c.in-Some.edit (lt-ltb c.args.number count within)
    c.edge.ensures c.state_at.ensures c.in-Some.ensures
    (take_more c.args.edits.now c.args.at c.index-edits-at.result c.if-at-edits.true ∙ ap (λ edit. take c.args.at c.args.edits.now ++ edit ∷ []) (sym c.index-edits-at.is ∙ same))
