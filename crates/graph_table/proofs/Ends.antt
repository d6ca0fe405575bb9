-- The vertices of the graph of a list are the root and the ends of the list's edits.
use Rattle.std.proofs.Common.{◌≡◌, ◌≢◌, ℕ, zero, suc, ◌<◌, Bool, true, false, cond, List, [], ◌∷◌, length, get_or, ◌⊎◌, inl, inr, refl, sym, ap, subst, ◌∙◌, arith}
use Rattle.std.specs.List.{Contains, IsDistinct}
use Rattle.edge_lattice.specs.declared.state.State.{State}
use Rattle.edge_lattice.specs.declared.state.State.TheVariants.{Absent, Live, Deleted}
use Rattle.edge_lattice.specs.State.{state_join}
use Rattle.edge_lattice.proofs.States.{Absent-state_join}
use Rattle.grove_edits.specs.declared.vertex.Vertex.{Vertex}
use Rattle.grove_edits.specs.declared.edge.Edge.{Edge}
use Rattle.grove_edits.specs.declared.edit.Edit.{Edit}
use Rattle.grove_edits.specs.declared.edit.EditKind.{EditKind}
use Rattle.grove_edits.specs.declared.edit.EditKind.TheVariants.{Insert, Delete}
use Rattle.grove_edits.specs.Edit.{edit_edge, edit_kind}
use Rattle.grove_edits.specs.Graph.{graph, state_of, is_same_edge}
use Rattle.grove_edits.proofs.Orders.{one_edge, same_edge_laws}
use Rattle.graph_words.specs.Whole.{IsVertexOf}
use Rattle.grove_edits.specs.Vertex.{is_same_vertex, stands_in}
use Rattle.graph_table.specs.Table.{Table, IsEndIn, AreEnds}

neither : (s t : State) → state_join s t ≡ Absent → (s ≡ Absent) × (t ≡ Absent)
neither Absent t h = (refl, sym (Absent-state_join t) ∙ h)
neither Live Absent h = absurd cc
neither Live Live h = absurd cc
neither Live Deleted h = absurd cc
neither Deleted Absent h = absurd cc
neither Deleted Live h = absurd cc
neither Deleted Deleted h = absurd cc

asked_something : (k : EditKind) → state_of k ≢ Absent
asked_something Insert e = cc
asked_something Delete e = cc

-- the edge of each edit of a list is not Absent
present : (edits : List Edit) (edit : Edit) (k : ℕ) → k < length edits → get_or edits k edit ≡ edit → graph edits (edit_edge edit) ≢ Absent
present [] edit k lt is absent = omega arith
present (x ∷ xs) edit zero lt is absent =
    let same : is_same_edge (edit_edge x) (edit_edge edit) ≡ true = ap (λ z. is_same_edge (edit_edge z) (edit_edge edit)) is ∙ same_edge_laws.refl (edit_edge edit) in
    let none = neither _ (graph xs (edit_edge edit)) absent in
    asked_something (edit_kind x) (sym (ap (λ b. cond b (state_of (edit_kind x)) Absent) same) ∙ none.0)
present (x ∷ xs) edit (suc k) lt is absent = present xs edit k (omega arith) is (neither _ (graph xs (edit_edge edit)) absent).1

-- an edge that is not Absent is that of an edit
named : (edits : List Edit) (e : Edge) → graph edits e ≢ Absent → (edit : Edit) × Contains edits edit × (edit_edge edit ≡ e)
named [] e is = absurd (is refl)
named (x ∷ xs) e is = by_test (is_same_edge (edit_edge x) e) refl is (named xs e) where
  by_test : (b : Bool) → is_same_edge (edit_edge x) e ≡ b → state_join (cond b (state_of (edit_kind x)) Absent) (graph xs e) ≢ Absent
      → (graph xs e ≢ Absent → (edit : Edit) × Contains xs edit × (edit_edge edit ≡ e)) → (edit : Edit) × Contains (x ∷ xs) edit × (edit_edge edit ≡ e)
  by_test true same is rest = (x, (zero, omega arith, refl), one_edge (edit_edge x) e same)
  by_test false other is rest =
      let found = rest (λ absent. is (Absent-state_join (graph xs e) ∙ absent)) in
      (found.0, (suc found.1.0, omega (arith, found.1.1), found.1.2), found.2)

pub end_is_vertex : (edits : List Edit) (v : Vertex) → IsEndIn edits v → IsVertexOf (graph edits) v
end_is_vertex edits v (inl is) = inl is
end_is_vertex edits v (inr end) = inr (edit_edge end.0, present edits end.0 end.1.0 end.1.1 end.1.2, end.2)

pub vertex_is_end : (edits : List Edit) (v : Vertex) → IsVertexOf (graph edits) v → IsEndIn edits v
vertex_is_end edits v (inl is) = inl is
vertex_is_end edits v (inr end) = inr (found.0, found.1, moved end.2) where
  found : (edit : Edit) × Contains edits edit × (edit_edge edit ≡ end.0)
  found = named edits end.0 end.1

  moved : (end.0.source ≡ v) ⊎ (end.0.target ≡ v) → ((edit_edge found.0).source ≡ v) ⊎ ((edit_edge found.0).target ≡ v)
  moved (inl is) = inl (ap (λ (e : Edge). e.source) found.2 ∙ is)
  moved (inr is) = inr (ap (λ (e : Edge). e.target) found.2 ∙ is)

-- the vertices of a table are those of its graph
pub record IsWhole (table : Table) : Type 0 where
  pub once : IsDistinct is_same_vertex table.vertices
  pub each : (v : Vertex) → IsVertexOf (graph table.edits) v → stands_in v table.vertices ≡ true
  pub no_other : (v : Vertex) → stands_in v table.vertices ≡ true → IsVertexOf (graph table.edits) v

pub whole_in_view : (held table : Table) → held ≡ table → AreEnds held.edits held.vertices → IsWhole table
whole_in_view held table view are = subst IsWhole view (record {
  once = are.once;
  each = λ v is_vertex. are.each v (vertex_is_end held.edits v is_vertex);
  no_other = λ v stands. end_is_vertex held.edits v (are.no_other v stands);
})
