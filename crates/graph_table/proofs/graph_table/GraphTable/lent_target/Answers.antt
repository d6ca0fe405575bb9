use Rattle.std.proofs.Common.{sym, ap, subst, ◌∙◌}
use Rattle.graph_table.specs.Table.{vertex_at, IsNumber}
use Rattle.graph_table.proofs.Links.{edge_told}
use Rattle.graph_table.proofs.graph_table.GraphTable.lent_target.Goals as goal

pub lent-requires : goal.lent-requires
lent-requires c =
    let told = edge_told c.self.inside.table c.args.self.now c.self.inside.links.items c.args.index c.index.result.now c.self.view_is c.self.invariant.links_are c.requires c.index.ensures in
    subst (λ table. IsNumber table c.index.result.now.target) (sym c.self.view_is) told.target.0

pub returns : goal.returns
returns c =
    let told = edge_told c.self.inside.table c.args.self.now c.self.inside.links.items c.args.index c.index.result.now c.self.view_is c.self.invariant.links_are c.requires c.index.ensures in
    c.lent.ensures ∙ ap (λ table. vertex_at table c.index.result.now.target) c.self.view_is ∙ told.target.1
