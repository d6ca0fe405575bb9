-- One edit of a graph of edits, and the records of its vertices before and after.
use Rattle.std.proofs.Common.{◌≡◌, ◌≢◌, ◌⊎◌, inl, inr, ◌≤◌, Bool, true, false, cond, List, [], ◌∷◌, map, sum_by, refl, sym, ap, ◌∙◌}
use Rattle.std.specs.Prelude.{if◌then◌else◌, Some, None}
use Rattle.std.specs.List.{AllByRecursion}
use Rattle.edge_lattice.specs.declared.state.State.{State}
use Rattle.edge_lattice.specs.declared.state.State.TheVariants.{Absent, Live, Deleted}
use Rattle.edge_lattice.specs.State.{state_join}
use Rattle.grove_edits.specs.declared.vertex.Vertex.{Vertex}
use Rattle.grove_edits.specs.declared.edge.Edge.{Edge}
use Rattle.grove_edits.specs.declared.edit.Edit.{Edit}
use Rattle.grove_edits.specs.declared.edit.EditKind.{EditKind}
use Rattle.grove_edits.specs.declared.edit.EditKind.TheVariants.{Insert, Delete}
use Rattle.grove_edits.specs.Edge.{IsWellFormed}
use Rattle.grove_edits.specs.Edit.{edit_edge, edit_kind}
use Rattle.grove_edits.specs.Graph.{graph, state_of, is_same_edge}
use Rattle.graph_words.specs.declared.class.Class.TheVariants.{NoParent, Inner}
use Rattle.graph_words.specs.Live.{holds_edge, parents_of}
use Rattle.grove_edits.specs.Vertex.{is_same_vertex, stands_in}
use Rattle.graph_words.specs.Class.{class, class_by, is_cycle_root}
use Rattle.graph_words.specs.Whole.{IsVertexOf, AreVertices, AreLive}
use Rattle.graph_words.specs.Cycle.{is_on_cycle, leads_to}
use Rattle.grove_terms.specs.Forest.{Forest, none, edges_under, StandsUnder}
use Rattle.grove_terms.proofs.InLive.{same_edge_itself, IsFrom, under_lead}
use Rattle.grove_terms.proofs.OneGrove.{vertices_of, vertices_are}
use Rattle.grove_terms.proofs.WellSorted.{live_well_formed, held_first}
use Rattle.mark_step.specs.Expression.{Demanded}
use Rattle.marking.specs.Marking.{marked_tree}
use Rattle.kept_records.specs.Kept.{Kept, Records, AreKept, Stands, IsKeptOf, alone, kept_of}
use Rattle.kept_records.specs.Local.{AreRight}
use Rattle.kept_records.specs.Change.{CyclesStay, is_on_walks, IsNear, StandOnce, AreNear, weight, near_size}
use Rattle.kept_records.specs.Told.{Tells}
use Rattle.kept_records.specs.Renewal.{IsLeft, MakesTrees, AreHeads, names, put}
use Rattle.kept_records.proofs.Children.{all_held, held_in_filter, parents_lead}
use Rattle.kept_records.proofs.Standing.{one_kept, has_kept}
use Rattle.kept_records.proofs.Scratch.{marking_is_right, right_is_marking}
use Rattle.kept_records.proofs.Told.{tree_tells}
use Rattle.kept_records.proofs.Raised.{changed, vertex_was}
use Rattle.kept_records.proofs.Touched.{vertex_stays}
use Rattle.kept_records.proofs.Near.{kept_skipped}
use Rattle.kept_records.proofs.Edits.{change_back}
use Rattle.kept_records.proofs.CyclesStay.{cycles_stay, cycle_ends, not_both, ended_root}
use Rattle.kept_records.proofs.Sizes.{weight_within}
use Rattle.kept_records.proofs.Once.{once_of, on_walks_vertex}
use Rattle.kept_records.proofs.Walked.{makes_trees, some_near, some_heads}
use Rattle.kept_records.proofs.Renewal.{made_are_kept, made_are_near}

-- ---- the records of a graph

pub kept_is_right : (edits : List Edit) (live : List Edge) (records : Records) → AreLive (graph edits) live → AreKept (graph edits) live records → AreRight (graph edits) live records
kept_is_right edits live records are kept = marking_is_right (graph edits) live are (live_well_formed edits live are) records kept

pub right_is_kept : (edits : List Edit) (live : List Edge) (records : Records) → AreLive (graph edits) live → AreRight (graph edits) live records → AreKept (graph edits) live records
right_is_kept edits live records are right = right_is_marking (graph edits) live are (live_well_formed edits live are) records right

pub nodes_tell : (edits : List Edit) (live : List Edge) (v : Vertex) (f : Forest) → AreLive (graph edits) live → (class live v ≡ Inner → ⊥) → StandsUnder live v f → AllByRecursion (λ m. Tells live m) (marked_tree v f)
nodes_tell edits live v f are outer stands = tree_tells live (live_well_formed edits live are) v f outer stands

-- the records of the vertices of a list, as marking has them
abbrev records_in : (live : List Edge) → AllByRecursion IsWellFormed live → List Vertex → Records
records_in live well vertices v = cond (stands_in v vertices) (Some (has_kept live well v).kept) None

pub some_records : (edits : List Edit) (live : List Edge) → AreLive (graph edits) live → (records : Records) × AreKept (graph edits) live records
some_records edits live are = (records_in live well (vertices_of edits), record { each = each; no_other = λ v outside. no_other v outside (stands_in v (vertices_of edits)) refl }) where
  well : AllByRecursion IsWellFormed live
  well = live_well_formed edits live are

  vertices : AreVertices (graph edits) (vertices_of edits)
  vertices = vertices_are edits

  each : (v : Vertex) → IsVertexOf (graph edits) v → (k : Kept) × (records_in live well (vertices_of edits) v ≡ Some k) × IsKeptOf live v k
  each v is =
      let has = has_kept live well v in
      (has.kept, ap (λ b. cond b (Some has.kept) None) (vertices.each v is), has.is)

  no_other : (v : Vertex) → (IsVertexOf (graph edits) v → ⊥) → (b : Bool) → stands_in v (vertices_of edits) ≡ b → records_in live well (vertices_of edits) v ≡ None
  no_other v outside true stands = absurd (outside (vertices.no_other v stands))
  no_other v outside false stands = ap (λ b. cond b (Some (has_kept live well v).kept) None) stands

pub one_record : (edits : List Edit) (live : List Edge) (a b : Records) → AreLive (graph edits) live → AreKept (graph edits) live a → AreKept (graph edits) live b → (v : Vertex) → a v ≡ b v
one_record edits live a b are of_a of_b v = by_test (stands_in v (vertices_of edits)) refl where
  well : AllByRecursion IsWellFormed live
  well = live_well_formed edits live are

  vertices : AreVertices (graph edits) (vertices_of edits)
  vertices = vertices_are edits

  inside : IsVertexOf (graph edits) v → a v ≡ b v
  inside is =
      let k = of_a.each v is in
      let l = of_b.each v is in
      k.1 ∙ ap Some (one_kept live well v k.0 l.0 k.2 l.2) ∙ sym l.1

  by_test : (t : Bool) → stands_in v (vertices_of edits) ≡ t → a v ≡ b v
  by_test true stands = inside (vertices.no_other v stands)
  by_test false stands =
      let outside : IsVertexOf (graph edits) v → ⊥ = λ is. let clash : true ≡ false = sym (vertices.each v is) ∙ stands in cc in
      of_a.no_other v outside ∙ sym (of_b.no_other v outside)

-- ---- a vertex at no end of a live edge

no_parents : (live : List Edge) (v : Vertex) → ((x : Edge) → holds_edge x live ≡ true → (x.source ≡ v) ⊎ (x.target ≡ v) → ⊥) → parents_of v live ≡ []
no_parents live v outside = by_list (parents_of v live) refl where
  by_list : (ps : List Edge) → parents_of v live ≡ ps → ps ≡ []
  by_list [] are = refl
  by_list (p ∷ ps) are =
      let among : holds_edge p (parents_of v live) ≡ true = ap (holds_edge p) are ∙ held_first p ps in
      absurd (outside p (held_in_filter (λ x. is_same_vertex x.target v) p live among) (inr (all_held (λ x. x.target ≡ v) (parents_of v live) (parents_lead v live) p among)))

no_children : (live : List Edge) (v : Vertex) → ((x : Edge) → holds_edge x live ≡ true → (x.source ≡ v) ⊎ (x.target ≡ v) → ⊥) → edges_under live v ≡ []
no_children live v outside = by_list (edges_under live v) refl where
  by_list : (es : List Edge) → edges_under live v ≡ es → es ≡ []
  by_list [] are = refl
  by_list (x ∷ xs) are =
      let from : IsFrom live v x = all_held (IsFrom live v) (edges_under live v) (under_lead live v) x (ap (holds_edge x) are ∙ held_first x xs) in
      absurd (outside x from.held (inl from.source))

-- it is judged by itself, with nothing under it
alone_outside : (live : List Edge) (well : AllByRecursion IsWellFormed live) (v : Vertex) → ((x : Edge) → holds_edge x live ≡ true → (x.source ≡ v) ⊎ (x.target ≡ v) → ⊥)
    → IsKeptOf live v (kept_of v none alone) × (edges_under live v ≡ [])
alone_outside live well v outside =
    let heads : class live v ≡ NoParent = ap (λ ps. class_by ps (is_cycle_root live v)) (no_parents live v outside) in (
      record {
        above = [];
        forest = none;
        demanded = alone;
        stands = (λ inner. let clash : NoParent ≡ Inner = sym heads ∙ inner in cc, record { edges = sym (no_children live v outside); children = tt }, refl);
        is = refl;
      },
      no_children live v outside,
    )

-- ---- one edit

raised_present : (kind : EditKind) (s : State) → state_join (state_of kind) s ≢ Absent
raised_present Insert Absent is = cc
raised_present Insert Live is = cc
raised_present Insert Deleted is = cc
raised_present Delete Absent is = cc
raised_present Delete Live is = cc
raised_present Delete Deleted is = cc

join_live : (s : State) → state_join s Live ≢ Absent
join_live Absent is = cc
join_live Live is = cc
join_live Deleted is = cc

live_present : (s : State) → s ≡ Live → s ≢ Absent
live_present s live absent = let clash : Live ≡ Absent = sym live ∙ absent in cc

module _ (edits : List Edit) (edit : Edit) (old new : List Edge) (live_old : AreLive (graph edits) old) (live_new : AreLive (graph (edit ∷ edits)) new) where
  there : graph (edit ∷ edits) (edit_edge edit) ≢ Absent
  there absent =
      raised_present (edit_kind edit) (graph edits (edit_edge edit))
      (ap (λ b. state_join (cond b (state_of (edit_kind edit)) Absent) (graph edits (edit_edge edit))) (sym (same_edge_itself (edit_edge edit))) ∙ absent)

  present_old : (x : Edge) → holds_edge x old ≡ true → graph (edit ∷ edits) x ≢ Absent
  present_old x held absent =
      join_live (if is_same_edge (edit_edge edit) x then state_of (edit_kind edit) else Absent)
      (ap (state_join (if is_same_edge (edit_edge edit) x then state_of (edit_kind edit) else Absent)) (sym (live_old.no_other x held)) ∙ absent)

  present_new : (x : Edge) → holds_edge x new ≡ true → graph (edit ∷ edits) x ≢ Absent
  present_new x held = live_present (graph (edit ∷ edits) x) (live_new.no_other x held)

  pub on_vertex : (v : Vertex) → is_on_walks (edit_edge edit) old new v ≡ true → IsVertexOf (graph (edit ∷ edits)) v
  on_vertex = on_walks_vertex (edit_edge edit) old new (graph (edit ∷ edits)) there present_old present_new

  pub well_old : AllByRecursion IsWellFormed old
  well_old = live_well_formed edits old live_old

  pub well_new : AllByRecursion IsWellFormed new
  well_new = live_well_formed (edit ∷ edits) new live_new

  -- ---- there is a walk, and a list of the vertices near

  listed : (v : Vertex) → IsVertexOf (graph (edit ∷ edits)) v → stands_in v (vertices_of (edit ∷ edits)) ≡ true
  listed v is = (vertices_are (edit ∷ edits)).each v is

  -- what is no vertex has the same record in both graphs
  pub near_vertex : (v : Vertex) → IsNear (edit_edge edit) old new v → IsVertexOf (graph (edit ∷ edits)) v
  near_vertex v (inl on) = on_vertex v on
  near_vertex v (inr other) = by_test (stands_in v (vertices_of (edit ∷ edits))) refl where
    same_there : (IsVertexOf (graph (edit ∷ edits)) v → ⊥) → ⊥
    same_there outside =
        let a = alone_outside old well_old v (λ x held end. outside (inr (x, present_old x held, end))) in
        let b = alone_outside new well_new v (λ x held end. outside (inr (x, present_new x held, end))) in
        other.other (
          one_kept old well_old v other.kept_before (kept_of v none alone) other.is_before.marked a.0 ∙ sym (one_kept new well_new v other.kept_after (kept_of v none alone) other.is_after.marked b.0),
          other.is_before.children_are ∙ ap (map (λ x. (x, class old x.target))) a.1 ∙ sym (other.is_after.children_are ∙ ap (map (λ x. (x, class new x.target))) b.1),
        )

    by_test : (t : Bool) → stands_in v (vertices_of (edit ∷ edits)) ≡ t → IsVertexOf (graph (edit ∷ edits)) v
    by_test true stands = (vertices_are (edit ∷ edits)).no_other v stands
    by_test false stands = absurd (same_there (λ is. let clash : true ≡ false = sym (listed v is) ∙ stands in cc))

  pub has_near : (near : List Vertex) × AreNear (edit_edge edit) old new near
  has_near = some_near (edit_edge edit) old new well_old well_new (vertices_of (edit ∷ edits)) (λ v near. listed v (near_vertex v near))

  pub has_heads : (heads : List Vertex) × AreHeads (edit_edge edit) old new heads
  has_heads = some_heads (edit_edge edit) old new well_old well_new (vertices_of (edit ∷ edits)) (λ v on. listed v (on_vertex v on))

  pub has_made : (records : Records) (heads : List Vertex) → AreHeads (edit_edge edit) old new heads → (made : List (Vertex × Kept)) × MakesTrees (is_on_walks (edit_edge edit) old new) new records heads made
  has_made records heads are =
      let m = makes_trees (edit_edge edit) old new records heads (λ v stands. (are.no_other v stands).0) in (m.made, m.makes)

  module _ (stay : CyclesStay old new) (records : Records) (kept : AreKept (graph edits) old records) where
    -- what is left as it is has its record still
    pub left_keeps : (us : List Vertex) (v : Vertex) (f : Forest) (d : Demanded) → Stands new us v f d → IsVertexOf (graph (edit ∷ edits)) v → IsLeft (is_on_walks (edit_edge edit) old new) records v d → records v ≡ Some (kept_of v f d)
    left_keeps us v f d s is left =
        kept_skipped (edit_edge edit) old new (changed edits edit old new live_old live_new) stay well_old well_new (graph edits) (graph (edit ∷ edits)) live_old live_new (vertex_was edits edit old new) records kept
        us v f d s is left.0 left.1

  -- ---- what a walk makes

  module _ (stay : CyclesStay old new) (records : Records) (kept : AreKept (graph edits) old records) (heads : List Vertex) (are_heads : AreHeads (edit_edge edit) old new heads)
      (made : List (Vertex × Kept)) (makes : MakesTrees (is_on_walks (edit_edge edit) old new) new records heads made) where
    -- the records that the walk made, put in place of the kept ones, are those of the new graph
    pub edit_keeps : AreKept (graph (edit ∷ edits)) new (put made records)
    edit_keeps =
        made_are_kept (edit_edge edit) old new records (graph (edit ∷ edits)) live_new well_new heads are_heads on_vertex made makes (graph edits) kept (vertex_stays edits edit)
        (changed edits edit old new live_old live_new) stay well_old live_old (vertex_was edits edit old new)

    pub made_near : (v : Vertex) → stands_in v (names made) ≡ true → IsNear (edit_edge edit) old new v
    made_near =
        made_are_near (edit_edge edit) old new records (graph (edit ∷ edits)) live_new well_new heads are_heads on_vertex made makes (graph edits) kept (vertex_stays edits edit)
        (changed edits edit old new live_old live_new) stay well_old live_old (vertex_was edits edit old new)

    pub made_once : StandOnce (names made)
    made_once = (once_of new live_new.in_order well_new (is_on_walks (edit_edge edit) old new) records heads are_heads.once (λ v stands. (are_heads.no_other v stands).0) made makes).once_each

    -- what the vertices weigh that were judged again is within the size of the edit
    pub made_within : (near : List Vertex) → AreNear (edit_edge edit) old new near → sum_by (weight old new) (names made) ≤ near_size old new near
    made_within near are = weight_within (edit_edge edit) old new near are (names made) made_once made_near

-- ---- the roots of cycles

pub roots_stay : (edits : List Edit) (edit : Edit) (old new : List Edge) → AreLive (graph edits) old → AreLive (graph (edit ∷ edits)) new → is_on_cycle old (edit_edge edit).target ≡ false
    → is_on_cycle new (edit_edge edit).target ≡ false → CyclesStay old new
roots_stay edits edit old new live_old live_new = cycles_stay (edit_edge edit) old new (changed edits edit old new live_old live_new)

pub root_ends : (edits : List Edit) (edit : Edit) (old new : List Edge) → AreLive (graph edits) old → AreLive (graph (edit ∷ edits)) new → is_on_cycle old (edit_edge edit).target ≡ true
    → is_on_cycle new (edit_edge edit).target ≡ false → CyclesStay old new → ⊥
root_ends edits edit old new live_old live_new = cycle_ends (edit_edge edit) old new (changed edits edit old new live_old live_new)

pub root_begins : (edits : List Edit) (edit : Edit) (old new : List Edge) → AreLive (graph edits) old → AreLive (graph (edit ∷ edits)) new → is_on_cycle old (edit_edge edit).target ≡ false
    → is_on_cycle new (edit_edge edit).target ≡ true → CyclesStay old new → ⊥
root_begins edits edit old new live_old live_new off on stay =
    cycle_ends (edit_edge edit) new old (change_back (edit_edge edit) old new (changed edits edit old new live_old live_new)) on off (λ v. sym (stay v))

pub never_on_both : (edits : List Edit) (edit : Edit) (old new : List Edge) → AreLive (graph edits) old → AreLive (graph (edit ∷ edits)) new → (old ≡ new → ⊥)
    → is_on_cycle old (edit_edge edit).target ≡ true → is_on_cycle new (edit_edge edit).target ≡ true → ⊥
never_on_both edits edit old new live_old live_new = not_both (edit_edge edit) old new (changed edits edit old new live_old live_new)

pub root_ended : (edits : List Edit) (edit : Edit) (old new : List Edge) → AreLive (graph edits) old → AreLive (graph (edit ∷ edits)) new → (r : Vertex) → is_cycle_root old r ≡ true
    → is_cycle_root new r ≡ false → (is_on_cycle old (edit_edge edit).target ≡ true) × (leads_to old (edit_edge edit).target r ≡ true)
root_ended edits edit old new live_old live_new = ended_root (edit_edge edit) old new (changed edits edit old new live_old live_new)

pub root_begun : (edits : List Edit) (edit : Edit) (old new : List Edge) → AreLive (graph edits) old → AreLive (graph (edit ∷ edits)) new → (r : Vertex) → is_cycle_root new r ≡ true
    → is_cycle_root old r ≡ false → (is_on_cycle new (edit_edge edit).target ≡ true) × (leads_to new (edit_edge edit).target r ≡ true)
root_begun edits edit old new live_old live_new =
    ended_root (edit_edge edit) new old (change_back (edit_edge edit) old new (changed edits edit old new live_old live_new))
