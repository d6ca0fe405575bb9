-- An edge is another one where all its parts are.
use Rattle.std.proofs.Common.{◌≡◌, true, is_eq, sym, ap, ◌∙◌}
use Rattle.std.specs.Prelude.{◌&&◌}
use Rattle.grove_sorts.specs.contracts.position.PositionPartialEq.TheImpl as position_eq
use Rattle.grove_sorts.specs.contracts.position.PositionOrd.TheImpl.Laws.{matches_eq-law}
use Rattle.grove_sorts.proofs.Orders.{cmp_is_position_cmp, one_position}
use Rattle.grove_edits.specs.declared.edge.Edge.{Edge}
use Rattle.grove_edits.specs.Vertex.{is_same_vertex}
use Rattle.grove_edits.proofs.Orders.{edge_from_fields}
use Rattle.grove_edits.proofs.Vertices.{same_vertex_exact}
use Rattle.numbers_by_name.specs.ByName.{is_same_name}
use Rattle.live_graph.proofs.Ends.{and_left, and_right}
use Rattle.live_graph.proofs.Names.{one_name}

pub one_edge_by_parts : (a b : Edge) → position_eq.eq-value.it a.position b.position ≡ true → is_same_name a.name b.name ≡ true
    → (is_same_vertex a.source b.source && is_same_vertex a.target b.target) ≡ true → a ≡ b
one_edge_by_parts a b same_position same_name same_ends =
    edge_from_fields a b (one_name a.name b.name same_name) (same_vertex_exact a.source b.source (and_left (is_same_vertex a.source b.source) (is_same_vertex a.target b.target) same_ends))
    (one_position a.position b.position (sym (matches_eq-law a.position b.position ∙ ap is_eq (cmp_is_position_cmp a.position b.position)) ∙ same_position))
    (same_vertex_exact a.target b.target (and_right (is_same_vertex a.source b.source) (is_same_vertex a.target b.target) same_ends))
