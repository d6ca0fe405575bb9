use Rattle.std.proofs.Common.{sym, ap, ◌∙◌}
use Rattle.grove_edits.specs.Edit.{edit_edge}
use Rattle.grove_edits.proofs.Orders.{eq_is_same_edge, one_edge}
use Rattle.grove_edits.proofs.Unique.{edit_from_fields}
use Rattle.shared_edits.proofs.shared_edits.is_same.Goals as goal

pub returns-then-are_alike : goal.returns-then-are_alike
returns-then-are_alike c = λ same.
    let kinds = sym c.kind.ensures ∙ c.are_alike.ensures c.if-are_alike.true ∙ c.kind-2.ensures in
    let edges = sym c.edge.ensures ∙ one_edge c.edge.result c.edge-then-are_alike.result (sym (eq_is_same_edge c.edge.result c.edge-then-are_alike.result) ∙ sym c.eq.ensures ∙ same) ∙ c.edge-then-are_alike.ensures in
    edit_from_fields c.args.a.now c.args.b.now kinds edges
