use Rattle.std.proofs.Common.{sym, ◌∙◌}
use Rattle.grove_names.specs.contracts.name.NamePartialEq.TheImpl as name_eq
use Rattle.grove_edits.specs.Edit.{edit_edge}
use Rattle.grove_edits.specs.Graph.{is_same_edge}
use Rattle.grove_edits.proofs.Orders.{eq_is_same_edge, names_differ}
use Rattle.grove_edits.proofs.canonical.have_same_edge.Goals as goal

pub returns-then-eq : goal.returns-then-eq
returns-then-eq c = c.eq-then-eq.ensures ∙ eq_is_same_edge c.edge.result c.edge-then-eq.result ∙ (λ j. is_same_edge (c.edge.ensures j) (c.edge-then-eq.ensures j))

pub returns-else-eq : goal.returns-else-eq
returns-else-eq c =
    c.if-eq.false
    ∙ sym (names_differ (edit_edge c.args.a.now) (edit_edge c.args.b.now) ((λ j. name_eq.eq-value.it (sym c.name.ensures j) (sym c.name-2.ensures j)) ∙ sym c.eq.ensures ∙ c.if-eq.false))
