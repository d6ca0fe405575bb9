use Rattle.std.proofs.Common.{◌≡◌, [], map, refl, sym, ap, subst, ◌∙◌, arith}
use Rattle.edge_numbers.specs.Numbered.{edge_at, vertex_at}
use Rattle.edge_lists.specs.Lists.{AreEdgeNumbers, numbers_at, edges_at}
use Rattle.live_graph.proofs.Children.{parents_listed, nothing_at}
use Rattle.live_graph.proofs.neighbours.parents_of_number.Goals as goal

pub returns-then-number-vertex_count-clause-edges : goal.returns-then-number-vertex_count-clause-edges
returns-then-number-vertex_count-clause-edges c =
    let edges = c.args.edges.now in
    let lists = c.args.parents.now in
    let n = c.args.number in
    let nothing : numbers_at lists n ≡ [] = nothing_at lists n (λ within. omega (arith, within, c.vertex_count.ensures, c.if-number-vertex_count.true)) in
    let none : edges_at edges lists n ≡ [] = ap (map (edge_at edges)) nothing in
    ap (map (edge_at edges)) c.none.ensures
    ∙ sym none
    ∙ parents_listed edges (vertex_at edges n) c.edge_count-edges.ensures.once c.vertex_count-vertices.ensures.once n (c.requires.number, refl) lists c.requires.around

pub returns-clause-known : goal.returns-clause-known
returns-clause-known c = subst (AreEdgeNumbers c.args.edges.now) (sym c.at.ensures.numbers) (c.requires.around.known c.args.number)

pub returns-clause-edges : goal.returns-clause-edges
returns-clause-edges c =
    let edges = c.args.edges.now in
    ap (map (edge_at edges)) c.at.ensures.numbers
    ∙ parents_listed edges (vertex_at edges c.args.number) c.edge_count-edges.ensures.once c.vertex_count-vertices.ensures.once c.args.number (c.requires.number, refl) c.args.parents.now c.requires.around
