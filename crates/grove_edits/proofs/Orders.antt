-- The orders of vertices, edges and edits: total, exact, and those of the code.
use Rattle.std.proofs.Common.{◌≡◌, Bool, true, false, true≢false, refl, sym, ap, ◌∙◌}
use Rattle.std.specs.declared.cmp.Ordering.{Ordering}
use Rattle.std.specs.declared.cmp.Ordering.TheVariants.{Less, Equal, Greater}
use Rattle.std.specs.Ordering.{ordering_then, is_eq, nat_cmp}
use Rattle.std.specs.Cmp.{IsTotalOrder, IsEquivalence, eq_by_cmp_equiv}
use Rattle.std.proofs.lemmas.Cmp.{on_total, then_total, tied_itself}
use Rattle.grove_names.specs.declared.name.Name.{Name}
use Rattle.grove_names.specs.Name.{name_cmp}
use Rattle.grove_names.specs.contracts.name.NamePartialEq.TheImpl as name_eq
use Rattle.grove_names.specs.contracts.name.NameOrd.TheImpl.Laws as names
use Rattle.grove_sorts.specs.declared.ctor.Ctor.{Ctor}
use Rattle.grove_sorts.specs.declared.position.Position.{Position}
use Rattle.grove_sorts.specs.contracts.position.PositionOrd.TheImpl as position_impl
use Rattle.grove_sorts.specs.contracts.plain.PlainOrd.TheImpl as plain_impl
use Rattle.grove_names.proofs.Orders.{name_cmp_total, name_cmp_exact}
use Rattle.grove_sorts.specs.Ctor.{ctor_cmp}
use Rattle.grove_sorts.specs.Plain.{plain_ctor}
use Rattle.grove_sorts.specs.Position.{position_cmp}
use Rattle.grove_sorts.proofs.Plains.{cmp_is_plain_cmp}
use Rattle.grove_sorts.proofs.Orders.{ctor_cmp_total, ctor_cmp_exact, cmp_is_ctor_cmp, equal_from_test, position_cmp_total, position_cmp_exact, cmp_is_position_cmp}
use Rattle.grove_edits.specs.declared.vertex.Vertex.{Vertex}
use Rattle.grove_edits.specs.declared.edge.Edge.{Edge}
use Rattle.grove_edits.specs.declared.edit.Edit.{Edit}
use Rattle.grove_edits.specs.declared.edit.EditKind.{EditKind}
use Rattle.grove_edits.specs.declared.edit.EditKind.TheVariants.{Insert, Delete}
use Rattle.grove_edits.specs.contracts.vertex.VertexOrd.TheImpl as vertex_impl
use Rattle.grove_edits.specs.contracts.edge.EdgeOrd.TheImpl as edge_impl
use Rattle.grove_edits.specs.contracts.edge.EdgePartialEq.TheImpl as edge_eq_impl
use Rattle.grove_edits.specs.contracts.edge.EdgeOrd.TheImpl.Laws.{matches_eq-law}
use Rattle.grove_edits.specs.contracts.edit.EditOrd.TheImpl as edit_impl
use Rattle.grove_edits.specs.contracts.edit.EditKindOrd.TheImpl as kind_impl
use Rattle.grove_edits.specs.Vertex.{vertex_cmp}
use Rattle.grove_edits.specs.Edge.{edge_cmp}
use Rattle.grove_edits.specs.Edit.{edit_kind, edit_cmp, kind_number}
use Rattle.grove_edits.specs.Graph.{is_same_edge}

pub vertex_cmp_total : IsTotalOrder vertex_cmp
vertex_cmp_total = then_total (on_total (λ v. v.name) name_cmp_total) (on_total (λ v. v.ctor) ctor_cmp_total)

pub edge_cmp_total : IsTotalOrder edge_cmp
edge_cmp_total =
    then_total (on_total (λ e. e.name) name_cmp_total)
    (then_total (on_total (λ e. e.source) vertex_cmp_total)
    (then_total (on_total (λ e. e.position) position_cmp_total) (on_total (λ e. e.target) vertex_cmp_total)))

both_equal : (o p : Ordering) → ordering_then o p ≡ Equal → (o ≡ Equal) × (p ≡ Equal)
both_equal Less p h = absurd cc
both_equal Equal p h = (refl, h)
both_equal Greater p h = absurd cc

-- vertices with the same fields are one
pub vertex_from_fields : (a b : Vertex) → a.name ≡ b.name → a.ctor ≡ b.ctor → a ≡ b
vertex_from_fields a b name ctor =
    let with_name : a ≡ record { name = b.name; ctor = a.ctor } = ap (λ (n : Name). record { name = n; ctor = a.ctor }) name in
    with_name ∙ ap (λ (c : Ctor). record { name = b.name; ctor = c }) ctor

-- edges with the same fields are one
pub edge_from_fields : (a b : Edge) → a.name ≡ b.name → a.source ≡ b.source → a.position ≡ b.position → a.target ≡ b.target → a ≡ b
edge_from_fields a b name source position target =
    let one : a ≡ record { name = b.name; source = a.source; position = a.position; target = a.target } =
    ap (λ (n : Name). record { name = n; source = a.source; position = a.position; target = a.target }) name in
    let two : record { name = b.name; source = a.source; position = a.position; target = a.target } ≡ record { name = b.name; source = b.source; position = a.position; target = a.target } =
    ap (λ (v : Vertex). record { name = b.name; source = v; position = a.position; target = a.target }) source in
    let three : record { name = b.name; source = b.source; position = a.position; target = a.target } ≡ record { name = b.name; source = b.source; position = b.position; target = a.target } =
    ap (λ (p : Position). record { name = b.name; source = b.source; position = p; target = a.target }) position in
    one ∙ two ∙ three ∙ ap (λ (v : Vertex). record { name = b.name; source = b.source; position = b.position; target = v }) target

-- vertices that the order finds equal are one
pub vertex_cmp_exact : (a b : Vertex) → vertex_cmp a b ≡ Equal → a ≡ b
vertex_cmp_exact a b h =
    let parts = both_equal (name_cmp a.name b.name) (ctor_cmp a.ctor b.ctor) h in
    vertex_from_fields a b (name_cmp_exact a.name b.name parts.0) (ctor_cmp_exact a.ctor b.ctor parts.1)

-- edges that the order finds equal are one
pub edge_cmp_exact : (a b : Edge) → edge_cmp a b ≡ Equal → a ≡ b
edge_cmp_exact a b h =
    let one = both_equal (name_cmp a.name b.name) _ h in
    let two = both_equal (vertex_cmp a.source b.source) _ one.1 in
    let three = both_equal (position_cmp a.position b.position) (vertex_cmp a.target b.target) two.1 in
    edge_from_fields a b (name_cmp_exact a.name b.name one.0) (vertex_cmp_exact a.source b.source two.0)
    (position_cmp_exact a.position b.position three.0) (vertex_cmp_exact a.target b.target three.1)

-- ---- the test of edges

pub same_edge_laws : IsEquivalence is_same_edge
same_edge_laws = eq_by_cmp_equiv edge_cmp_total

-- edges that the test finds the same are one
pub one_edge : (a b : Edge) → is_same_edge a b ≡ true → a ≡ b
one_edge a b same = edge_cmp_exact a b (equal_from_test (edge_cmp a b) same)

-- ---- the comparisons of the code

pub cmp_is_vertex_cmp : (a b : Vertex) → vertex_impl.ghosts.cmp a b ≡ vertex_cmp a b
cmp_is_vertex_cmp a b = ap (ordering_then (name_cmp a.name b.name)) (cmp_is_ctor_cmp a.ctor b.ctor)

same_then : (o p q r : Ordering) → o ≡ p → q ≡ r → ordering_then o q ≡ ordering_then p r
same_then o p q r first second = ap (λ x. ordering_then x q) first ∙ ap (ordering_then p) second

pub cmp_is_edge_cmp : (a b : Edge) → edge_impl.ghosts.cmp a b ≡ edge_cmp a b
cmp_is_edge_cmp a b =
    let ends = same_then (position_impl.ghosts.cmp a.position b.position) (position_cmp a.position b.position)
    (vertex_impl.ghosts.cmp a.target b.target) (vertex_cmp a.target b.target)
    (cmp_is_position_cmp a.position b.position) (cmp_is_vertex_cmp a.target b.target) in
    ap (ordering_then (name_cmp a.name b.name))
    (same_then (vertex_impl.ghosts.cmp a.source b.source) (vertex_cmp a.source b.source) _ _ (cmp_is_vertex_cmp a.source b.source) ends)

kind_cmp : (k l : EditKind) → kind_impl.ghosts.cmp k l ≡ nat_cmp (kind_number k) (kind_number l)
kind_cmp Insert Insert = refl
kind_cmp Insert Delete = refl
kind_cmp Delete Insert = refl
kind_cmp Delete Delete = refl

then_assoc : (o p q : Ordering) → ordering_then (ordering_then o p) q ≡ ordering_then o (ordering_then p q)
then_assoc Less p q = refl
then_assoc Equal p q = refl
then_assoc Greater p q = refl

-- the comparison of the code goes through the parts of the edge, and the kind last
pub cmp_is_edit_cmp : (a b : Edit) → edit_impl.ghosts.cmp a b ≡ edit_cmp a b
cmp_is_edit_cmp a b =
    let name = name_cmp a.name b.name in
    let source = name_cmp a.source b.source in
    let branch = ctor_cmp (plain_ctor a.branch) (plain_ctor b.branch) in
    let position = position_cmp a.position b.position in
    let target = vertex_cmp a.target b.target in
    let kind = nat_cmp (kind_number (edit_kind a)) (kind_number (edit_kind b)) in
    let last = same_then (vertex_impl.ghosts.cmp a.target b.target) target (kind_impl.ghosts.cmp a.kind b.kind) kind (cmp_is_vertex_cmp a.target b.target) (kind_cmp a.kind b.kind) in
    let placed = same_then (position_impl.ghosts.cmp a.position b.position) position _ (ordering_then target kind) (cmp_is_position_cmp a.position b.position) last in
    let whole = same_then (plain_impl.ghosts.cmp a.branch b.branch) branch _ (ordering_then position (ordering_then target kind)) (cmp_is_plain_cmp a.branch b.branch) placed in
    ap (λ o. ordering_then name (ordering_then source o)) whole
    ∙ sym (then_assoc name (ordering_then (ordering_then source branch) (ordering_then position target)) kind
    ∙ ap (ordering_then name) (then_assoc (ordering_then source branch) (ordering_then position target) kind
    ∙ then_assoc source branch (ordering_then (ordering_then position target) kind)
    ∙ ap (λ o. ordering_then source (ordering_then branch o)) (then_assoc position target kind)))

-- edges whose names differ are not one
pub names_differ : (a b : Edge) → name_eq.eq-value.it a.name b.name ≡ false → is_same_edge a b ≡ false
names_differ a b differ = by_test (is_same_edge a b) refl where
  by_test : (t : Bool) → is_same_edge a b ≡ t → t ≡ false
  by_test false is = refl
  by_test true is =
      let same : is_eq (name_cmp a.name b.name) ≡ true = ap (λ (e : Edge). is_eq (name_cmp a.name e.name)) (sym (one_edge a b is)) ∙ ap is_eq (tied_itself name_cmp_total a.name) in
      absurd (true≢false (sym (names.matches_eq-law a.name b.name ∙ same) ∙ differ))

pub eq_is_same_edge : (a b : Edge) → edge_eq_impl.ghosts.eq a b ≡ is_same_edge a b
eq_is_same_edge a b = matches_eq-law a b ∙ ap is_eq (cmp_is_edge_cmp a b)
