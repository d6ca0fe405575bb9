-- Which trees of the new graph are judged again, where an edit makes or ends the root of a cycle, and that their records are all that change.
use Rattle.std.proofs.Common.{◌≡◌, ◌⊎◌, inl, inr, Bool, true, false, cond, not, List, ◌∷◌, refl, sym, ap, subst, ◌∙◌}
use Rattle.std.specs.Prelude.{◌||◌, ◌&&◌, filter}
use Rattle.std.specs.List.{AllByRecursion}
use Rattle.std.proofs.lemmas.Bool.{or_left, or_right}
use Rattle.edge_lattice.specs.declared.state.State.{State}
use Rattle.edge_lattice.specs.declared.state.State.TheVariants.{Absent, Live, Deleted}
use Rattle.edge_lattice.specs.State.{state_join}
use Rattle.grove_edits.specs.declared.vertex.Vertex.{Vertex}
use Rattle.grove_edits.specs.declared.edge.Edge.{Edge}
use Rattle.grove_edits.specs.declared.edit.Edit.{Edit}
use Rattle.grove_edits.specs.Edge.{IsWellFormed}
use Rattle.grove_edits.specs.Edit.{edit_edge, edit_kind}
use Rattle.grove_edits.specs.Vertex.{is_same_vertex, stands_in}
use Rattle.grove_edits.specs.Graph.{graph, state_of, is_same_edge}
use Rattle.grove_edits.proofs.Vertices.{same_vertex_exact, same_vertex_itself}
use Rattle.grove_edits.proofs.Orders.{one_edge}
use Rattle.graph_words.specs.declared.class.Class.TheVariants.{Inner}
use Rattle.graph_words.specs.Live.{holds_edge}
use Rattle.graph_words.specs.Walk.{walk}
use Rattle.graph_words.specs.Class.{class, is_cycle_root}
use Rattle.graph_words.specs.Whole.{AreLive, IsVertexOf}
use Rattle.graph_words.proofs.Chains.{not_inner_from_test}
use Rattle.graph_words.specs.Cycle.{is_on_cycle, leads_to}
use Rattle.graph_words.proofs.Cycles.{leads_from_reaches, reaches_from_leads, leads_to_itself}
use Rattle.grove_terms.proofs.WellSorted.{live_well_formed}
use Rattle.kept_records.specs.Kept.{Records, AreKept, Kept}
use Rattle.kept_records.specs.Local.{is_inner}
use Rattle.kept_records.specs.Change.{Changes, StandsIn, IsConcerned, is_target, is_root, holds_source, holds_parent, refers_to_root, is_on_walks}
use Rattle.kept_records.specs.Renewal.{CoverConcerned, AreAllInTrees, put}
use Rattle.kept_records.proofs.OnWalks.{target_on_walks, on_old_target, on_new_target, on_new_source}
use Rattle.kept_records.proofs.Edits.{change_back}
use Rattle.kept_records.proofs.Raised.{changed}
use Rattle.kept_records.proofs.Edited.{near_vertex, root_ended, root_begun, never_on_both}
use Rattle.kept_records.proofs.Whole.{whole_keeps}
use Rattle.mark_incremental.specs.Rooting.{IsOnlyRoot}
use Rattle.mark_incremental.proofs.Renewed.{stands_filtered, both_parts, not_inner}
use Rattle.grove_sorts.proofs.Truths.{not_true}
use Rattle.mark_incremental.proofs.OneHead.{has_head, reaches_head, one_head}
use Rattle.mark_incremental.proofs.Concerned.{IsOnOne, target_concerned, parent_within}

join_absent : (s : State) → state_join Absent s ≡ s
join_absent Absent = refl
join_absent Live = refl
join_absent Deleted = refl

end_of : (edits : List Edit) (edit : Edit) (v : Vertex) → IsVertexOf (graph (edit ∷ edits)) v → (IsVertexOf (graph edits) v → ⊥) → ((edit_edge edit).source ≡ v) ⊎ ((edit_edge edit).target ≡ v)
end_of edits edit v (inl root) outside = absurd (outside (inl root))
end_of edits edit v (inr end) outside = by_test (is_same_edge (edit_edge edit) end.0) refl where
  of_it : edit_edge edit ≡ end.0 → (end.0.source ≡ v) ⊎ (end.0.target ≡ v) → ((edit_edge edit).source ≡ v) ⊎ ((edit_edge edit).target ≡ v)
  of_it one (inl is) = inl (ap (λ (x : Edge). x.source) one ∙ is)
  of_it one (inr is) = inr (ap (λ (x : Edge). x.target) one ∙ is)

  by_test : (b : Bool) → is_same_edge (edit_edge edit) end.0 ≡ b → ((edit_edge edit).source ≡ v) ⊎ ((edit_edge edit).target ≡ v)
  by_test true one = of_it (one_edge (edit_edge edit) end.0 one) end.2
  by_test false other =
      absurd
      (outside
      (inr (
        end.0,
        (λ absent. end.1 (ap (λ b. state_join (cond b (state_of (edit_kind edit)) Absent) (graph edits end.0)) other ∙ join_absent (graph edits end.0) ∙ absent)),
        end.2,
      )))

module _ (edits : List Edit) (edit : Edit) (old new : List Edge) (are_old : AreLive (graph edits) old) (are_new : AreLive (graph (edit ∷ edits)) new) (r : Vertex) (only : IsOnlyRoot old new r) where
  abbrev pub e : Edge
  e = edit_edge edit

  pub change : Changes e old new
  change = changed edits edit old new are_old are_new

  pub lists_differ : old ≡ new → ⊥
  lists_differ one = only.moves (ap (λ (es : List Edge). is_cycle_root es r) one)

  -- which of both graphs has the root, and the target on a cycle
  record IsRooted (live there : List Edge) : Type 0 where
    on : is_on_cycle live e.target ≡ true
    off : is_on_cycle there e.target ≡ false
    root : is_cycle_root live r ≡ true
    leads : leads_to live e.target r ≡ true

  off_by : (b : Bool) → b ≡ is_on_cycle old e.target → (c : Bool) → c ≡ is_on_cycle new e.target → b ≡ true → c ≡ false
  off_by b is_b true is_c on = absurd (never_on_both edits edit old new are_old are_new lists_differ (sym is_b ∙ on) (sym is_c))
  off_by b is_b false is_c on = refl

  off_back : (b : Bool) → b ≡ is_on_cycle old e.target → (c : Bool) → c ≡ is_on_cycle new e.target → c ≡ true → b ≡ false
  off_back true is_b c is_c on = absurd (never_on_both edits edit old new are_old are_new lists_differ (sym is_b) (sym is_c ∙ on))
  off_back false is_b c is_c on = refl

  rooted : IsRooted old new ⊎ IsRooted new old
  rooted = by (is_cycle_root old r) refl (is_cycle_root new r) refl where
    by : (a : Bool) → is_cycle_root old r ≡ a → (b : Bool) → is_cycle_root new r ≡ b → IsRooted old new ⊎ IsRooted new old
    by true was true is = absurd (only.moves (was ∙ sym is))
    by false was false is = absurd (only.moves (was ∙ sym is))
    by true was false is =
        let there = root_ended edits edit old new are_old are_new r was is in
        inl (record { on = there.0; off = off_by (is_on_cycle old e.target) refl (is_on_cycle new e.target) refl there.0; root = was; leads = there.1 })
    by false was true is =
        let here = root_begun edits edit old new are_old are_new r is was in
        inr (record { on = here.0; off = off_back (is_on_cycle old e.target) refl (is_on_cycle new e.target) refl here.0; root = is; leads = here.1 })

  two_ways : (b : Bool) → b ≡ true → b ≡ false → ⊥
  two_ways b is not_it = let clash : true ≡ false = sym is ∙ not_it in cc

  pub on_one_new : IsOnOne new old e.target
  on_one_new = by rooted where
    by : IsRooted old new ⊎ IsRooted new old → IsOnOne new old e.target
    by (inl i) = inr (i.off, i.on)
    by (inr i) = inl (i.on, i.off)

  pub on_one_old : IsOnOne old new e.target
  on_one_old = by rooted where
    by : IsRooted old new ⊎ IsRooted new old → IsOnOne old new e.target
    by (inl i) = inl (i.on, i.off)
    by (inr i) = inr (i.off, i.on)

  pub rooted_new : is_on_cycle new e.target ≡ true → (is_cycle_root new r ≡ true) × (leads_to new e.target r ≡ true)
  rooted_new on = by rooted where
    by : IsRooted old new ⊎ IsRooted new old → (is_cycle_root new r ≡ true) × (leads_to new e.target r ≡ true)
    by (inl i) = absurd (two_ways (is_on_cycle new e.target) on i.off)
    by (inr i) = (i.root, i.leads)

  pub rooted_old : is_on_cycle old e.target ≡ true → (is_cycle_root old r ≡ true) × (leads_to old e.target r ≡ true)
  rooted_old on = by rooted where
    by : IsRooted old new ⊎ IsRooted new old → (is_cycle_root old r ≡ true) × (leads_to old e.target r ≡ true)
    by (inl i) = (i.root, i.leads)
    by (inr i) = absurd (two_ways (is_on_cycle old e.target) on i.off)

  pub well_new : AllByRecursion IsWellFormed new
  well_new = live_well_formed (edit ∷ edits) new are_new

  pub walked : (v : Vertex) → is_on_walks e old new v ≡ true → IsVertexOf (graph (edit ∷ edits)) v
  walked v on = near_vertex edits edit old new are_old are_new v (inl on)

  root_vertex : IsVertexOf (graph (edit ∷ edits)) r
  root_vertex = by rooted where
    by : IsRooted old new ⊎ IsRooted new old → IsVertexOf (graph (edit ∷ edits)) r
    by (inl i) = walked r (on_old_target e old new r i.leads)
    by (inr i) = walked r (on_new_target e old new r i.leads)

  -- some vertices are the root, the target, and those on the walk up from the source
  module _ (vertices : List Vertex) (are : (v : Vertex) → stands_in v vertices ≡ (is_same_vertex r v || (is_same_vertex e.target v || stands_in v (walk new e.source)))) where
    pub has_root : (v : Vertex) → v ≡ r → stands_in v vertices ≡ true
    has_root v one = are v ∙ or_left (is_same_vertex r v) (is_same_vertex e.target v || stands_in v (walk new e.source)) (ap (is_same_vertex r) one ∙ same_vertex_itself r)

    has_target : (v : Vertex) → v ≡ e.target → stands_in v vertices ≡ true
    has_target v one =
        are v
        ∙ or_right (is_same_vertex r v) (is_same_vertex e.target v || stands_in v (walk new e.source))
        (or_left (is_same_vertex e.target v) (stands_in v (walk new e.source)) (ap (is_same_vertex e.target) one ∙ same_vertex_itself e.target))

    has_walk : (v : Vertex) → stands_in v (walk new e.source) ≡ true → stands_in v vertices ≡ true
    has_walk v on =
        are v
        ∙ or_right (is_same_vertex r v) (is_same_vertex e.target v || stands_in v (walk new e.source)) (or_right (is_same_vertex e.target v) (stands_in v (walk new e.source)) on)

    -- each of them is one of these
    pub cases : (v : Vertex) → stands_in v vertices ≡ true → (r ≡ v) ⊎ ((e.target ≡ v) ⊎ (stands_in v (walk new e.source) ≡ true))
    cases v stands = by_root (is_same_vertex r v) refl (sym (are v) ∙ stands) where
      by_target : (b : Bool) → is_same_vertex e.target v ≡ b → (b || stands_in v (walk new e.source)) ≡ true → (r ≡ v) ⊎ ((e.target ≡ v) ⊎ (stands_in v (walk new e.source) ≡ true))
      by_target true one rest = inr (inl (same_vertex_exact e.target v one))
      by_target false other rest = inr (inr rest)

      by_root : (b : Bool) → is_same_vertex r v ≡ b → (b || (is_same_vertex e.target v || stands_in v (walk new e.source))) ≡ true → (r ≡ v) ⊎ ((e.target ≡ v) ⊎ (stands_in v (walk new e.source) ≡ true))
      by_root true one rest = inl (same_vertex_exact r v one)
      by_root false other rest = by_target (is_same_vertex e.target v) refl rest

    pub of_vertex : (v : Vertex) → stands_in v vertices ≡ true → IsVertexOf (graph (edit ∷ edits)) v
    of_vertex v stands = by (cases v stands) where
      by : (r ≡ v) ⊎ ((e.target ≡ v) ⊎ (stands_in v (walk new e.source) ≡ true)) → IsVertexOf (graph (edit ∷ edits)) v
      by (inl one) = subst (IsVertexOf (graph (edit ∷ edits))) one root_vertex
      by (inr (inl one)) = subst (IsVertexOf (graph (edit ∷ edits))) one (walked e.target (target_on_walks e old new))
      by (inr (inr on)) = walked v (on_new_source e old new v on)

    head_of_source : (v : Vertex) → StandsIn new v e.source → stands_in v vertices ≡ true
    head_of_source v inside = has_walk v (leads_from_reaches new e.source v (reaches_head new well_new v e.source inside))

    of_parent : (d : Edge) (v : Vertex) → StandsIn new v d.source → (v ≡ r) ⊎ ((v ≡ e.target) ⊎ (d ≡ e)) → stands_in v vertices ≡ true
    of_parent d v inside (inl one) = has_root v one
    of_parent d v inside (inr (inl one)) = has_target v one
    of_parent d v inside (inr (inr one)) = head_of_source v (subst (StandsIn new v) (ap (λ (x : Edge). x.source) one) inside)

    within : (d : Edge) (v : Vertex) → holds_edge d new ≡ true → (d.target ≡ e.target) ⊎ (d.target ≡ r) → StandsIn new v d.source → stands_in v vertices ≡ true
    within d v held to inside =
        of_parent d v inside
        (parent_within e new old (change_back e old new change) (λ one. lists_differ (sym one)) well_new r rooted_new rooted_old (λ one. only.moves (sym one)) on_one_new d held to v inside)

    concerned_stands : (v : Vertex) → IsConcerned e new old new v → stands_in v vertices ≡ true
    concerned_stands v (is_target one moves) = has_target v one
    concerned_stands v (is_root moves) = has_root v (only.alone v (λ one. moves (sym one)))
    concerned_stands v (holds_source inside) = head_of_source v inside
    concerned_stands v (holds_parent d held one moves inside) = within d v held (inl one) inside
    concerned_stands v (refers_to_root d held moves inside) = within d v held (inr (only.alone d.target (λ one. moves (sym one)))) inside

    come_stands : (v : Vertex) → (e.source ≡ v) ⊎ (e.target ≡ v) → stands_in v vertices ≡ true
    come_stands v (inl is) = subst (λ x. stands_in x vertices ≡ true) is (has_walk e.source (leads_to_itself new e.source))
    come_stands v (inr is) = has_target v (sym is)

    pub head_parts : (v : Vertex) → stands_in v (filter (λ x. not (is_inner new x)) vertices) ≡ true → (class new v ≡ Inner → ⊥) × (stands_in v vertices ≡ true)
    head_parts v stands =
        let parts = both_parts (not (is_inner new v)) (stands_in v vertices) (sym (stands_filtered (λ x. not (is_inner new x)) v vertices) ∙ stands) in
        (not_inner new v (not_true (is_inner new v) parts.0), parts.1)

    among_heads : (v : Vertex) → (class new v ≡ Inner → ⊥) → stands_in v vertices ≡ true → stands_in v (filter (λ x. not (is_inner new x)) vertices) ≡ true
    among_heads v outer stands = stands_filtered (λ x. not (is_inner new x)) v vertices ∙ ap (λ b. not b && stands_in v vertices) (not_inner_from_test new v outer) ∙ stands

    cover : CoverConcerned e (graph edits) (graph (edit ∷ edits)) old new (filter (λ v. not (is_inner new v)) vertices)
    cover = record {
      are_heads = λ v stands. (head_parts v stands).0;
      are_vertices = λ v stands. of_vertex v (head_parts v stands).1;
      concerned = λ v outer is. among_heads v outer (concerned_stands v is);
      come = λ v vertex outer outside. among_heads v outer (come_stands v (end_of edits edit v vertex outside));
    }

    -- the records of their trees, put over the kept ones, are those of the new graph
    pub their_trees_keep : (records : Records) → AreKept (graph edits) old records → (made : List (Vertex × Kept)) → AreAllInTrees new (filter (λ v. not (is_inner new v)) vertices) made → AreKept (graph (edit ∷ edits)) new (put made records)
    their_trees_keep records kept made are_all = whole_keeps edits edit old new are_old are_new records kept (filter (λ v. not (is_inner new v)) vertices) cover made are_all

    -- an edit concerns each of the heads among them
    pub head_is_concerned : (v : Vertex) → stands_in v (filter (λ x. not (is_inner new x)) vertices) ≡ true → IsConcerned e new old new v
    head_is_concerned v stands = let parts = head_parts v stands in by parts.0 (cases v parts.1) where
      by : (class new v ≡ Inner → ⊥) → (r ≡ v) ⊎ ((e.target ≡ v) ⊎ (stands_in v (walk new e.source) ≡ true)) → IsConcerned e new old new v
      by outer (inl one) = subst (IsConcerned e new old new) one (is_root (λ same_root. only.moves (sym same_root)))
      by outer (inr (inl one)) =
          subst (IsConcerned e new old new) one
          (target_concerned e new old (change_back e old new change) (λ k. lists_differ (sym k)) well_new on_one_new (λ inner. outer (ap (class new) (sym one) ∙ inner)))
      by outer (inr (inr on)) =
          let h = has_head new well_new e.source in
          let one : v ≡ h.head = one_head new well_new h.head e.source v h.inside (reaches_from_leads new e.source v on) outer in
          holds_source (subst (λ x. StandsIn new x e.source) (sym one) h.inside)
