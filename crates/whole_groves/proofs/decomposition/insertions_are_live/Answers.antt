use Rattle.std.proofs.Common.{◌≡◌, ◌<◌, true, List, [], ◌∷◌, length, refl, inl, arith}
use Rattle.grove_edits.specs.declared.vertex.Vertex.{Vertex}
use Rattle.grove_edits.specs.Vertex.{root, stands_in}
use Rattle.whole_groves.proofs.decomposition.insertions_are_live.Goals as goal

some_vertex : (vertices : List Vertex) (v : Vertex) → stands_in v vertices ≡ true → 0 < length vertices
some_vertex [] v stands = absurd cc
some_vertex (x ∷ vertices) v stands = omega arith

pub returns-else-number_count-gt0 : goal.returns-else-number_count-gt0
returns-else-number_count-gt0 c =
    let some = some_vertex c.args.table.now.vertices root (c.number_count.ensures.each root (inl refl)) in
    absurd (omega (arith, some, c.number_count.ensures.count, c.if-number_count-gt0.false))
