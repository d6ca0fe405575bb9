use Rattle.std.proofs.Common.{arith, ◌∙◌, ap}
use Rattle.graph_table.specs.Table.{few_at}
use Rattle.graph_table.proofs.Lives.{live_in_view}
use Rattle.graph_table.proofs.Readings.{number_inside, parents_told, kept_in_view, indices_kept}
use Rattle.graph_table.proofs.graph_table.GraphTable.parents.Goals as goal

pub index-requires : goal.index-requires
index-requires c =
    let inside = c.self.inside in
    let kept = kept_in_view inside.table c.args.self.now inside.links.items inside.around.items c.self.view_is c.self.invariant.kept in
    omega (arith, number_inside c.args.self.now inside.links.items inside.around.items kept c.args.number c.requires, inside.around.ok.0)

pub returns-clause-edges : goal.returns-clause-edges
returns-clause-edges c =
    let inside = c.self.inside in
    let kept = kept_in_view inside.table c.args.self.now inside.links.items inside.around.items c.self.view_is c.self.invariant.kept in
    ap (few_at c.args.self.now) c.parents.ensures ∙ parents_told c.args.self.now inside.links.items inside.around.items kept c.args.number c.requires c.index.result.now c.index.ensures

pub returns-clause-indices : goal.returns-clause-indices
returns-clause-indices c =
    let inside = c.self.inside in
    let kept = kept_in_view inside.table c.args.self.now inside.links.items inside.around.items c.self.view_is c.self.invariant.kept in
    indices_kept c.args.self.now inside.links.items inside.around.items kept c.args.number c.index.result.now c.parents.result c.requires c.index.ensures c.parents.ensures

pub returns-clause-live : goal.returns-clause-live
returns-clause-live c = live_in_view c.self.inside.table c.args.self.now c.self.view_is c.self.invariant.in_order
