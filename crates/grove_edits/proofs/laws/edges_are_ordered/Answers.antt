use Rattle.grove_edits.proofs.Orders.{vertex_cmp_total, vertex_cmp_exact, edge_cmp_total, edge_cmp_exact, cmp_is_edge_cmp}
use Rattle.grove_edits.proofs.laws.edges_are_ordered.Goals as goal

pub returns-clause-vertices_total : goal.returns-clause-vertices_total
returns-clause-vertices_total c = vertex_cmp_total

pub returns-clause-vertices_exact : goal.returns-clause-vertices_exact
returns-clause-vertices_exact c = vertex_cmp_exact

pub returns-clause-edges_total : goal.returns-clause-edges_total
returns-clause-edges_total c = edge_cmp_total

pub returns-clause-edges_exact : goal.returns-clause-edges_exact
returns-clause-edges_exact c = edge_cmp_exact

pub returns-clause-edges_derived : goal.returns-clause-edges_derived
returns-clause-edges_derived c = cmp_is_edge_cmp
