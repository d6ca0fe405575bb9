-- The walk up from the root of a cycle comes back to it, which is the least on it.
use Rattle.std.proofs.Common.{◌≡◌, true, sym, ap, ◌∙◌}
use Rattle.std.specs.Prelude.{List, Option, None, Some}
use Rattle.grove_sorts.proofs.Truths.{both_true}
use Rattle.grove_edits.specs.declared.vertex.Vertex.{Vertex}
use Rattle.grove_edits.specs.declared.edge.Edge.{Edge}
use Rattle.graph_words.specs.Walk.{above_last, walk}
use Rattle.graph_words.specs.Class.{is_vertex_of, is_least, is_cycle_root}
use Rattle.grove_edits.proofs.Vertices.{same_vertex_exact}
use Rattle.graph_words.proofs.Up.{up, walk_len, walk_last}

pub vertex_of_some : (v : Vertex) (o : Option Vertex) → is_vertex_of v o ≡ true → o ≡ Some v
vertex_of_some v None h = absurd cc
vertex_of_some v (Some x) h = ap Some (same_vertex_exact x v h)

pub root_back : (edges : List Edge) (v : Vertex) → is_cycle_root edges v ≡ true → up edges (walk_len edges v) (Some v) ≡ Some v
root_back edges v is =
    sym (walk_last edges v) ∙ vertex_of_some v (above_last edges (walk edges v)) (both_true (is_vertex_of v (above_last edges (walk edges v))) (is_least v (walk edges v)) is).0

pub root_least : (edges : List Edge) (v : Vertex) → is_cycle_root edges v ≡ true → is_least v (walk edges v) ≡ true
root_least edges v is = (both_true (is_vertex_of v (above_last edges (walk edges v))) (is_least v (walk edges v)) is).1
