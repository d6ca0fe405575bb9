-- The root and the ends of edits, with one more edit at a time.
use Rattle.std.proofs.Common.{◌≡◌, ◌≢◌, ℕ, zero, suc, ◌<◌, Bool, true, false, cond, List, [], ◌∷◌, ◌++◌, length, get_or, ◌⊎◌, inl, inr, refl, sym, ap, subst, ◌∙◌, arith}
use Rattle.std.specs.Prelude.{◌||◌}
use Rattle.std.specs.List.{IsDistinct, Contains}
use Rattle.std.proofs.lemmas.List.Elements.{Contains-append_left, Contains-push, Contains-push_cases}
use Rattle.edge_lattice.specs.declared.state.State.{State}
use Rattle.edge_lattice.specs.declared.state.State.TheVariants.{Absent, Live, Deleted}
use Rattle.edge_lattice.specs.State.{state_join}
use Rattle.edge_lattice.proofs.States.{Absent-state_join}
use Rattle.grove_edits.specs.declared.vertex.Vertex.{Vertex}
use Rattle.grove_edits.specs.declared.edge.Edge.{Edge}
use Rattle.grove_edits.specs.declared.edit.Edit.{Edit}
use Rattle.grove_edits.specs.declared.edit.EditKind.{EditKind}
use Rattle.grove_edits.specs.declared.edit.EditKind.TheVariants.{Insert, Delete}
use Rattle.grove_edits.specs.Edit.{edit_edge, edit_kind}
use Rattle.grove_edits.specs.Graph.{graph, state_of, is_same_edge, IsSame}
use Rattle.grove_edits.specs.Vertex.{root, is_same_vertex, stands_in}
use Rattle.grove_edits.proofs.Orders.{one_edge, same_edge_laws}
use Rattle.grove_edits.proofs.Vertices.{same_vertex_exact, same_vertex_itself}
use Rattle.edit_table.specs.Keys.{with_vertex, BeginsWith}
use Rattle.edit_table.specs.Table.{AreEnds, IsEndIn}
use Rattle.edit_table.proofs.Lists.{begins_itself}

-- ---- one more vertex

pub begins_with_before : (v : Vertex) (vs : List Vertex) → BeginsWith (with_vertex v vs) vs
begins_with_before v vs = by_test (stands_in v vs) where
  by_test : (b : Bool) → BeginsWith (cond b vs (vs ++ v ∷ [])) vs
  by_test true = begins_itself vs
  by_test false = (v ∷ [], refl)

stands_before : (v : Vertex) (xs ys : List Vertex) → stands_in v xs ≡ true → stands_in v (xs ++ ys) ≡ true
stands_before v [] ys stands = absurd cc
stands_before v (x ∷ xs) ys stands = by_test (is_same_vertex x v) stands (stands_before v xs ys) where
  by_test : (b : Bool) → (b || stands_in v xs) ≡ true → (stands_in v xs ≡ true → stands_in v (xs ++ ys) ≡ true) → (b || stands_in v (xs ++ ys)) ≡ true
  by_test true stands rest = refl
  by_test false stands rest = rest stands

stands_last : (v : Vertex) (xs : List Vertex) → stands_in v (xs ++ v ∷ []) ≡ true
stands_last v [] = ap (λ b. b || false) (same_vertex_itself v)
stands_last v (x ∷ xs) = by_test (is_same_vertex x v) (stands_last v xs) where
  by_test : (b : Bool) → stands_in v (xs ++ v ∷ []) ≡ true → (b || stands_in v (xs ++ v ∷ [])) ≡ true
  by_test true last = refl
  by_test false last = last

stands_or_last : (v w : Vertex) (xs : List Vertex) → stands_in v (xs ++ w ∷ []) ≡ true → (stands_in v xs ≡ true) ⊎ (w ≡ v)
stands_or_last v w [] stands = by_test (is_same_vertex w v) refl stands where
  by_test : (b : Bool) → is_same_vertex w v ≡ b → (b || false) ≡ true → (false ≡ true) ⊎ (w ≡ v)
  by_test true same stands = inr (same_vertex_exact w v same)
  by_test false other stands = inl stands
stands_or_last v w (x ∷ xs) stands = by_test (is_same_vertex x v) stands (stands_or_last v w xs) where
  by_test : (b : Bool) → (b || stands_in v (xs ++ w ∷ [])) ≡ true → (stands_in v (xs ++ w ∷ []) ≡ true → (stands_in v xs ≡ true) ⊎ (w ≡ v)) → ((b || stands_in v xs) ≡ true) ⊎ (w ≡ v)
  by_test true stands rest = inl refl
  by_test false stands rest = rest stands

still_stands : (v w : Vertex) (vs : List Vertex) → stands_in v vs ≡ true → stands_in v (with_vertex w vs) ≡ true
still_stands v w vs stands = by_test (stands_in w vs) where
  by_test : (b : Bool) → stands_in v (cond b vs (vs ++ w ∷ [])) ≡ true
  by_test true = stands
  by_test false = stands_before v vs (w ∷ []) stands

now_stands : (v : Vertex) (vs : List Vertex) → stands_in v (with_vertex v vs) ≡ true
now_stands v vs = by_test (stands_in v vs) refl where
  by_test : (b : Bool) → stands_in v vs ≡ b → stands_in v (cond b vs (vs ++ v ∷ [])) ≡ true
  by_test true stands = stands
  by_test false none = stands_last v vs

stood_or_is : (v w : Vertex) (vs : List Vertex) → stands_in v (with_vertex w vs) ≡ true → (stands_in v vs ≡ true) ⊎ (w ≡ v)
stood_or_is v w vs stands = by_test (stands_in w vs) stands where
  by_test : (b : Bool) → stands_in v (cond b vs (vs ++ w ∷ [])) ≡ true → (stands_in v vs ≡ true) ⊎ (w ≡ v)
  by_test true stands = inl stands
  by_test false stands = stands_or_last v w vs stands

-- ---- no edits

contained_by_none : (edit : Edit) → Contains [] edit → ⊥
contained_by_none edit there = omega (arith, there.1)

one_distinct : (v : Vertex) → IsDistinct is_same_vertex (v ∷ [])
unfolding IsDistinct
one_distinct v = (tt, tt)

-- the root alone is an end of no edits
pub ends_of_none : AreEnds [] (root ∷ [])
ends_of_none = record { once = one_distinct root; each = each; no_other = no_other } where
  each : (v : Vertex) → IsEndIn [] v → stands_in v (root ∷ []) ≡ true
  each v (inl is) = subst (λ w. stands_in w (root ∷ []) ≡ true) (sym is) (now_stands root [])
  each v (inr end) = absurd (contained_by_none end.0 end.1)

  no_other : (v : Vertex) → stands_in v (root ∷ []) ≡ true → IsEndIn [] v
  no_other v stands = by_end (stood_or_is v root [] stands) where
    by_end : (stands_in v [] ≡ true) ⊎ (root ≡ v) → IsEndIn [] v
    by_end (inl before) = absurd cc
    by_end (inr is) = inl (sym is)

-- ---- the ends of one more edit

end_before : (edits more : List Edit) (v : Vertex) → IsEndIn edits v → IsEndIn (edits ++ more) v
end_before edits more v (inl is) = inl is
end_before edits more v (inr end) = inr (end.0, Contains-append_left edits more end.0 end.1, end.2)

module _ (edits : List Edit) (edit : Edit) (vs : List Vertex) where
  abbrev source : Vertex
  source = (edit_edge edit).source

  abbrev target : Vertex
  target = (edit_edge edit).target

  abbrev after : List Vertex
  after = with_vertex target (with_vertex source vs)

  each_after : ((v : Vertex) → IsEndIn edits v → stands_in v vs ≡ true) → (v : Vertex) → IsEndIn (edits ++ edit ∷ []) v → stands_in v after ≡ true
  each_after each v (inl is) = still_stands v target (with_vertex source vs) (still_stands v source vs (each v (inl is)))
  each_after each v (inr end) = by_place (Contains-push_cases edits edit end.0 end.1) end.2 where
    by_end : (edit ≡ end.0) → ((edit_edge end.0).source ≡ v) ⊎ ((edit_edge end.0).target ≡ v) → stands_in v after ≡ true
    by_end is (inl at) =
        let one : source ≡ v = ap (λ e. (edit_edge e).source) is ∙ at in
        subst (λ w. stands_in w after ≡ true) one (still_stands source target (with_vertex source vs) (now_stands source vs))
    by_end is (inr at) =
        let one : target ≡ v = ap (λ e. (edit_edge e).target) is ∙ at in
        subst (λ w. stands_in w after ≡ true) one (now_stands target (with_vertex source vs))

    by_place : Contains edits end.0 ⊎ (edit ≡ end.0) → ((edit_edge end.0).source ≡ v) ⊎ ((edit_edge end.0).target ≡ v) → stands_in v after ≡ true
    by_place (inl before) at = still_stands v target (with_vertex source vs) (still_stands v source vs (each v (inr (end.0, before, at))))
    by_place (inr is) at = by_end is at

  no_other_after : ((v : Vertex) → stands_in v vs ≡ true → IsEndIn edits v) → (v : Vertex) → stands_in v after ≡ true → IsEndIn (edits ++ edit ∷ []) v
  no_other_after no_other v stands = by_target (stood_or_is v target (with_vertex source vs) stands) where
    by_source : (stands_in v vs ≡ true) ⊎ (source ≡ v) → IsEndIn (edits ++ edit ∷ []) v
    by_source (inl before) = end_before edits (edit ∷ []) v (no_other v before)
    by_source (inr is) = inr (edit, Contains-push edits edit, inl is)

    by_target : (stands_in v (with_vertex source vs) ≡ true) ⊎ (target ≡ v) → IsEndIn (edits ++ edit ∷ []) v
    by_target (inl before) = by_source (stood_or_is v source vs before)
    by_target (inr is) = inr (edit, Contains-push edits edit, inr is)

  pub ends_after : (ws : List Vertex) → ws ≡ after → IsDistinct is_same_vertex ws → AreEnds edits vs → AreEnds (edits ++ edit ∷ []) ws
  ends_after ws is once are = record {
    once = once;
    each = λ v end. ap (stands_in v) is ∙ each_after are.each v end;
    no_other = λ v stands. no_other_after are.no_other v (ap (stands_in v) (sym is) ∙ stands);
  }

-- ---- edits of one graph have the same ends

neither : (s t : State) → state_join s t ≡ Absent → (s ≡ Absent) × (t ≡ Absent)
neither Absent t h = (refl, sym (Absent-state_join t) ∙ h)
neither Live Absent h = absurd cc
neither Live Live h = absurd cc
neither Live Deleted h = absurd cc
neither Deleted Absent h = absurd cc
neither Deleted Live h = absurd cc
neither Deleted Deleted h = absurd cc

asked_something : (k : EditKind) → state_of k ≢ Absent
asked_something Insert e = cc
asked_something Delete e = cc

-- the edge of each edit of a list is not Absent
present : (edits : List Edit) (edit : Edit) (k : ℕ) → k < length edits → get_or edits k edit ≡ edit → graph edits (edit_edge edit) ≢ Absent
present [] edit k lt is absent = omega arith
present (x ∷ xs) edit zero lt is absent =
    let same : is_same_edge (edit_edge x) (edit_edge edit) ≡ true = ap (λ z. is_same_edge (edit_edge z) (edit_edge edit)) is ∙ same_edge_laws.refl (edit_edge edit) in
    let none = neither _ (graph xs (edit_edge edit)) absent in
    asked_something (edit_kind x) (sym (ap (λ b. cond b (state_of (edit_kind x)) Absent) same) ∙ none.0)
present (x ∷ xs) edit (suc k) lt is absent = present xs edit k (omega arith) is (neither _ (graph xs (edit_edge edit)) absent).1

-- an edge that is not Absent is that of an edit
named : (edits : List Edit) (e : Edge) → graph edits e ≢ Absent → (edit : Edit) × Contains edits edit × (edit_edge edit ≡ e)
named [] e is = absurd (is refl)
named (x ∷ xs) e is = by_test (is_same_edge (edit_edge x) e) refl is (named xs e) where
  by_test : (b : Bool) → is_same_edge (edit_edge x) e ≡ b → state_join (cond b (state_of (edit_kind x)) Absent) (graph xs e) ≢ Absent
      → (graph xs e ≢ Absent → (edit : Edit) × Contains xs edit × (edit_edge edit ≡ e)) → (edit : Edit) × Contains (x ∷ xs) edit × (edit_edge edit ≡ e)
  by_test true same is rest = (x, (zero, omega arith, refl), one_edge (edit_edge x) e same)
  by_test false other is rest =
      let found = rest (λ absent. is (Absent-state_join (graph xs e) ∙ absent)) in
      (found.0, (suc found.1.0, omega (arith, found.1.1), found.1.2), found.2)

end_moved : (xs ys : List Edit) → IsSame (graph ys) (graph xs) → (v : Vertex) → IsEndIn xs v → IsEndIn ys v
end_moved xs ys same v (inl is) = inl is
end_moved xs ys same v (inr end) = inr (found.0, found.1, moved end.2) where
  there : graph ys (edit_edge end.0) ≢ Absent
  there absent = present xs end.0 end.1.0 end.1.1 end.1.2 (sym (same (edit_edge end.0)) ∙ absent)

  found : (edit : Edit) × Contains ys edit × (edit_edge edit ≡ edit_edge end.0)
  found = named ys (edit_edge end.0) there

  moved : ((edit_edge end.0).source ≡ v) ⊎ ((edit_edge end.0).target ≡ v) → ((edit_edge found.0).source ≡ v) ⊎ ((edit_edge found.0).target ≡ v)
  moved (inl is) = inl (ap (λ (e : Edge). e.source) found.2 ∙ is)
  moved (inr is) = inr (ap (λ (e : Edge). e.target) found.2 ∙ is)

pub ends_moved : (xs ys : List Edit) (vs : List Vertex) → IsSame (graph ys) (graph xs) → AreEnds xs vs → AreEnds ys vs
ends_moved xs ys vs same are = record {
  once = are.once;
  each = λ v end. are.each v (end_moved ys xs (λ e. sym (same e)) v end);
  no_other = λ v stands. end_moved xs ys same v (are.no_other v stands);
}
