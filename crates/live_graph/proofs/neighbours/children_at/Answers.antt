use Rattle.std.proofs.Common.{◌≡◌, ℕ, [], Some, None, map, sym, ap, subst, ◌∙◌, arith}
use Rattle.graph_words.specs.Live.{IsInEdgeOrder}
use Rattle.edge_numbers.specs.Numbered.{edge_at}
use Rattle.edge_lists.specs.Lists.{AreEdgeNumbers, numbers_at, edges_at, with_position}
use Rattle.live_graph.proofs.Children.{children_listed, no_children, nothing_at, known_at_position}
use Rattle.live_graph.proofs.neighbours.children_at.Goals as goal

none_is_some : {n : ℕ} → None ≡ Some n → ⊥
none_is_some h = absurd cc

pub returns-in_default-clause-edges : goal.returns-in_default-clause-edges
returns-in_default-clause-edges c =
    ap (map (edge_at c.args.edges.now)) c.none.ensures
    ∙ sym (no_children c.args.edges.now c.args.vertex.now c.edge_count-edges.ensures.once c.edge_count-edges.ensures.ends (λ n is. none_is_some (c.in_default.ensures.only n is)) c.args.position)

pub returns-then-number-vertex_count-clause-edges : goal.returns-then-number-vertex_count-clause-edges
returns-then-number-vertex_count-clause-edges c =
    let lists = c.args.children.now in
    let n = c.in-Some.number in
    let nothing : numbers_at lists n ≡ [] = nothing_at lists n (λ within. omega (arith, within, c.vertex_count.ensures, c.if-number-vertex_count.true)) in
    let none : with_position c.args.position (edges_at c.args.edges.now lists n) ≡ [] = ap (λ ns. with_position c.args.position (map (edge_at c.args.edges.now) ns)) nothing in
    ap (map (edge_at c.args.edges.now)) c.none-then-number-vertex_count.ensures
    ∙ sym none
    ∙ children_listed c.args.edges.now c.args.vertex.now c.edge_count-edges.ensures.once c.vertex_count-vertices.ensures.once n c.in-Some.ensures.number lists c.requires c.args.position
    (subst IsInEdgeOrder (sym none) tt)

pub returns-clause-known : goal.returns-clause-known
returns-clause-known c =
    subst (AreEdgeNumbers c.args.edges.now) (sym c.at_position.ensures.numbers)
    (known_at_position c.args.edges.now c.args.position (numbers_at c.args.children.now c.in-Some.number) (c.requires.known c.in-Some.number))

pub returns-clause-edges : goal.returns-clause-edges
returns-clause-edges c =
    c.at_position.ensures.edges
    ∙ children_listed c.args.edges.now c.args.vertex.now c.edge_count-edges.ensures.once c.vertex_count-vertices.ensures.once c.in-Some.number c.in-Some.ensures.number c.args.children.now c.requires c.args.position
    (subst IsInEdgeOrder c.at_position.ensures.edges c.at_position.ensures.in_order)
