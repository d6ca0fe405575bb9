-- Tests of vertices tell whether they are one.
use Rattle.std.proofs.Common.{◌≡◌, true, ap, ◌∙◌}
use Rattle.std.specs.declared.cmp.Ordering.TheVariants.{Equal}
use Rattle.std.specs.Ordering.{is_eq}
use Rattle.std.specs.Cmp.{IsEquivalence, eq_by_cmp_equiv}
use Rattle.std.specs.BTreeMap.{is_at}
use Rattle.std.proofs.lemmas.Cmp.{tied_itself}
use Rattle.grove_sorts.proofs.Orders.{equal_from_test}
use Rattle.grove_edits.specs.declared.vertex.Vertex.{Vertex}
use Rattle.grove_edits.specs.Vertex.{vertex_cmp, is_same_vertex}
use Rattle.grove_edits.specs.contracts.vertex.VertexOrd.TheImpl as vertex_impl
use Rattle.grove_edits.specs.contracts.vertex.VertexOrd.TheImpl.Laws.{matches_eq-law}
use Rattle.grove_edits.specs.contracts.vertex.VertexPartialEq.TheImpl as vertex_eq
use Rattle.grove_edits.proofs.Orders.{vertex_cmp_exact, vertex_cmp_total, cmp_is_vertex_cmp}

pub same_vertex_laws : IsEquivalence is_same_vertex
same_vertex_laws = eq_by_cmp_equiv vertex_cmp_total

-- vertices that the test finds the same are one
pub same_vertex_exact : (a b : Vertex) → is_same_vertex a b ≡ true → a ≡ b
same_vertex_exact a b h = vertex_cmp_exact a b (equal_from_test (vertex_cmp a b) h)

pub vertex_cmp_itself : (a : Vertex) → vertex_cmp a a ≡ Equal
vertex_cmp_itself a = tied_itself vertex_cmp_total a

pub same_vertex_itself : (a : Vertex) → is_same_vertex a a ≡ true
same_vertex_itself a = ap is_eq (vertex_cmp_itself a)

-- ---- what the code's maps and sets of vertices compare by

pub order_is_same_vertex : (v k : Vertex) → is_at (vertex_impl.ghosts.cmp v) k ≡ is_same_vertex v k
order_is_same_vertex v k = ap is_eq (cmp_is_vertex_cmp v k)

pub eq_is_same_vertex : (v k : Vertex) → vertex_eq.eq-value.it v k ≡ is_same_vertex v k
eq_is_same_vertex v k = matches_eq-law v k ∙ order_is_same_vertex v k
