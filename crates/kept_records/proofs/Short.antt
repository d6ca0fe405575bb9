-- Short walks after an edit of a graph of edits: the records that they make, what is demanded where they begin, and what is left below.
use Rattle.std.proofs.Common.{◌≡◌, ◌⊎◌, inl, inr, ◌≤◌, suc, Bool, true, false, List, [], ◌∷◌, ◌++◌, length, sum_by, refl, sym, ap, subst, ◌∙◌, arith}
use Rattle.std.specs.Prelude.{◌||◌, Option, Some, None}
use Rattle.std.proofs.lemmas.Bool.{false_from_ne_true, or_right}
use Rattle.grove_edits.specs.declared.vertex.Vertex.{Vertex}
use Rattle.grove_edits.specs.declared.edge.Edge.{Edge}
use Rattle.grove_edits.specs.declared.edit.Edit.{Edit}
use Rattle.grove_edits.specs.Edge.{IsWellFormed}
use Rattle.grove_edits.specs.Edit.{edit_edge}
use Rattle.grove_edits.specs.Graph.{Graph, graph, is_same_edge}
use Rattle.grove_edits.specs.Vertex.{is_same_vertex, stands_in}
use Rattle.grove_edits.proofs.Orders.{one_edge}
use Rattle.grove_edits.proofs.Vertices.{same_vertex_exact}
use Rattle.graph_words.specs.declared.class.Class.TheVariants.{Inner}
use Rattle.graph_words.specs.Live.{holds_edge}
use Rattle.graph_words.specs.Walk.{above, GoesOn, walk}
use Rattle.graph_words.specs.Class.{class}
use Rattle.graph_words.specs.Whole.{IsVertexOf, AreVertices, AreLive}
use Rattle.graph_words.proofs.Endings.{walk_is}
use Rattle.graph_words.proofs.Chains.{IsChain, has_chain, chain_apart, chain_is_one}
use Rattle.graph_words.proofs.Returns.{some_same}
use Rattle.grove_terms.specs.Forest.{Forest, edges_under}
use Rattle.grove_terms.proofs.WellSorted.{live_well_formed}
use Rattle.grove_terms.proofs.OneGrove.{vertices_of, vertices_are}
use Rattle.mark_step.specs.Expression.{Demanded}
use Rattle.kept_records.specs.Kept.{Kept, Records, AreKept, alone, kept_of, Stands}
use Rattle.kept_records.specs.Local.{kept_demand}
use Rattle.kept_records.specs.Change.{Changes, CyclesStay, IsNear, StandOnce, AreNear, weight, near_size}
use Rattle.kept_records.specs.Renewal.{IsLeft, names, put}
use Rattle.kept_records.specs.Short.{SourceAloneSees, LeadsUp, IsJudgedAnew, IsShortWalk, TypeStays}
use Rattle.grove_sorts.proofs.Truths.{not_both}
use Rattle.kept_records.proofs.Sorts.{IsJudged}
use Rattle.kept_records.proofs.Children.{all_held, held_under}
use Rattle.kept_records.proofs.Standing.{stands_under}
use Rattle.kept_records.proofs.Raised.{changed, vertex_was, other_state}
use Rattle.kept_records.proofs.Touched.{vertex_stays}
use Rattle.kept_records.proofs.CyclesStay.{cycles_stay, headed_off_cycle, off_cycle_by_source, walk_past}
use Rattle.kept_records.proofs.OnWalks.{begins_walk}
use Rattle.kept_records.proofs.Once.{goes_all, IsSource, source_above}
use Rattle.kept_records.proofs.Sizes.{weight_within, sum_within, sum_of_ones}
use Rattle.kept_records.proofs.Edited.{on_vertex, well_old, well_new}
use Rattle.kept_records.proofs.Near.{stood_as_kept, kept_as_stood}
use Rattle.kept_records.proofs.Line as line
use Rattle.kept_records.proofs.Along.{kept_along}
use Rattle.kept_records.proofs.Nearby.{nearby_kept, nearby_near, nearby_once, on_walk_up}
use Rattle.kept_records.proofs.OffLine.{target_off_line}

-- a vertex is one of a graph of edits or not
pub vertex_or : (edits : List Edit) (v : Vertex) → IsVertexOf (graph edits) v ⊎ (IsVertexOf (graph edits) v → ⊥)
vertex_or edits v = by_test (stands_in v (vertices_of edits)) refl where
  are : AreVertices (graph edits) (vertices_of edits)
  are = vertices_are edits

  by_test : (b : Bool) → stands_in v (vertices_of edits) ≡ b → IsVertexOf (graph edits) v ⊎ (IsVertexOf (graph edits) v → ⊥)
  by_test true stands = inl (are.no_other v stands)
  by_test false out = inr (λ is. not_both (stands_in v (vertices_of edits)) (are.each v is) out)

module _ (edits : List Edit) (edit : Edit) (old new : List Edge) (live_old : AreLive (graph edits) old) (live_new : AreLive (graph (edit ∷ edits)) new) where
  abbrev e : Edge
  e = edit_edge edit

  abbrev g : Graph
  g = graph edits

  abbrev h : Graph
  h = graph (edit ∷ edits)

  change : Changes (edit_edge edit) old new
  change = changed edits edit old new live_old live_new

  -- what came is an end of the edge
  at_ends : (v : Vertex) → IsVertexOf h v → (IsVertexOf g v → ⊥) → (v ≡ e.source) ⊎ (v ≡ e.target)
  at_ends v (inl root) outside = absurd (outside (inl root))
  at_ends v (inr end) outside = by_test (is_same_edge e end.0) refl end.2 where
    by_test : (b : Bool) → is_same_edge e end.0 ≡ b → (end.0.source ≡ v) ⊎ (end.0.target ≡ v) → (v ≡ e.source) ⊎ (v ≡ e.target)
    by_test true same (inl is) = inl (sym is ∙ ap (λ (x : Edge). x.source) (sym (one_edge e end.0 same)))
    by_test true same (inr is) = inr (sym is ∙ ap (λ (x : Edge). x.target) (sym (one_edge e end.0 same)))
    by_test false other is = absurd (outside (inr (end.0, λ absent. end.1 (other_state edits edit end.0 other ∙ absent), is)))

  pub held_before : (x : Edge) → holds_edge x new ≡ true → (x ≡ e → ⊥) → holds_edge x old ≡ true
  held_before x held differs =
      live_old.each x (sym (other_state edits edit x (false_from_ne_true (is_same_edge e x) (λ same. differs (sym (one_edge e x same))))) ∙ live_new.no_other x held)

  module _ (stay : CyclesStay old new) (records : Records) (kept : AreKept (graph edits) old records) where
    module _ (way : List Vertex) (top : Vertex) (on : Vertex → Bool) (made : List (Vertex × Kept)) (w : IsShortWalk (edit_edge edit) (graph edits) (graph (edit ∷ edits)) old new records way top on made) where
      pub short_kept : TypeStays new records top w.makes_own.forest → AreKept (graph (edit ∷ edits)) new (put made records)
      short_kept =
          nearby_kept e old new change stay (well_old edits edit old new live_old live_new) (well_new edits edit old new live_old live_new) g h live_old live_new (vertex_was edits edit old new)
          (vertex_stays edits edit) (on_vertex edits edit old new live_old live_new) (vertex_or edits) at_ends held_before records kept way top on made w

      pub short_near : (v : Vertex) → stands_in v (names made) ≡ true → IsNear (edit_edge edit) old new v
      short_near =
          nearby_near e old new change stay (well_old edits edit old new live_old live_new) (well_new edits edit old new live_old live_new) g h live_old live_new (vertex_was edits edit old new)
          (vertex_stays edits edit) (on_vertex edits edit old new live_old live_new) (vertex_or edits) at_ends held_before records kept way top on made w

      pub short_once : StandOnce (names made)
      short_once =
          nearby_once e old new change stay (well_old edits edit old new live_old live_new) (well_new edits edit old new live_old live_new) g h live_old live_new (vertex_was edits edit old new)
          (vertex_stays edits edit) (on_vertex edits edit old new live_old live_new) (vertex_or edits) at_ends held_before records kept way top on made w

      pub short_within : (near : List Vertex) → AreNear (edit_edge edit) old new near → sum_by (weight old new) (names made) ≤ near_size old new near
      short_within near are = weight_within (edit_edge edit) old new near are (names made) short_once short_near

    module _ (sees : SourceAloneSees (edit_edge edit) old new) (way : List Vertex) (top : Vertex) (leads : LeadsUp new (edit_edge edit).source way top) where
      top_on_line : line.on_line e old new change stay top ≡ true
      top_on_line = line.way_on_line e old new change stay way top leads top (line.the_way e old new change stay way top leads).last

      pub demand_at_top : (us : List Vertex) (f : Forest) (d : Demanded) → Stands new us top f d → IsJudged top.ctor → kept_demand records top ≡ d
      demand_at_top us f d s sorted =
          kept_along e old new change stay (well_old edits edit old new live_old live_new) (well_new edits edit old new live_old live_new) sees g live_old records kept (vertex_or edits) us top f d s top_on_line sorted

      module _ (on : Vertex → Bool) (anew : IsJudgedAnew (edit_edge edit) (graph edits) (graph (edit ∷ edits)) way on) where
        left_off_line : (us : List Vertex) (v : Vertex) (f : Forest) (d : Demanded) → Stands new us v f d → IsVertexOf h v → IsLeft on records v d → line.on_line e old new change stay v ≡ false → records v ≡ Some (kept_of v f d)
        left_off_line us v f d s is left off =
            kept_as_stood e old new change stay (well_old edits edit old new live_old live_new) (well_new edits edit old new live_old live_new) g h live_old live_new (vertex_was edits edit old new) records kept v f d
            (stood_as_kept e old new change stay (well_old edits edit old new live_old live_new) (well_new edits edit old new live_old live_new) g h live_old live_new (vertex_was edits edit old new) records kept v f d
            (line.stood_under e old new change stay sees v f off (stands_under new us v f d s)) known left.1) known
          where
            known : IsVertexOf g v
            known = by_known (vertex_or edits v) where
              by_known : IsVertexOf g v ⊎ (IsVertexOf g v → ⊥) → IsVertexOf g v
              by_known (inl is_known) = is_known
              by_known (inr outside) = absurd (not_both (on v) (anew.came_on v is outside) left.0)

        -- what is left below the top has its record still
        pub left_below_top : (us vs : List Vertex) (v : Vertex) (f : Forest) (d : Demanded) → Stands new (us ++ top ∷ vs) v f d → IsVertexOf (graph (edit ∷ edits)) v → IsLeft on records v d → records v ≡ Some (kept_of v f d)
        left_below_top us vs v f d s is left = left_off_line (us ++ top ∷ vs) v f d s is left (false_from_ne_true (line.on_line e old new change stay v) refuted) where
          refuted : line.on_line e old new change stay v ≡ true → ⊥
          refuted there =
              not_both (on v)
              (anew.way_on v (line.below_on_way e old new change stay way top leads v (us ++ top ∷ vs) (line.chain_of new (well_new edits edit old new live_old live_new) (us ++ top ∷ vs) v f d s)
              (line.stands_behind us top (top ∷ vs) (line.itself_first top vs)) there)) left.0

        -- and so has what is left below the target, where that is judged by itself
        pub left_below_target : (class new (edit_edge edit).target ≡ Inner → ⊥) → (stands_in (edit_edge edit).target ((edit_edge edit).source ∷ way) ≡ true → ⊥) → (IsLeft on records (edit_edge edit).target alone → ⊥)
            → (us vs : List Vertex) (v : Vertex) (f : Forest) (d : Demanded) → Stands new (us ++ (edit_edge edit).target ∷ vs) v f d → IsVertexOf (graph (edit ∷ edits)) v → IsLeft on records v d
            → records v ≡ Some (kept_of v f d)
        left_below_target outer not_on_way not_left us vs v f d s is left =
            left_off_line (us ++ e.target ∷ vs) v f d s is left (false_from_ne_true (line.on_line e old new change stay v) refuted) where
              off : line.on_line e old new change stay e.target ≡ false
              off =
                  target_off_line e old new change stay (well_old edits edit old new live_old live_new) (well_new edits edit old new live_old live_new) g h live_old live_new (vertex_was edits edit old new)
                  (vertex_or edits) held_before records kept way on anew sees outer not_on_way not_left

              refuted : line.on_line e old new change stay v ≡ true → ⊥
              refuted there =
                  let chain = line.chain_of new (well_new edits edit old new live_old live_new) (us ++ e.target ∷ vs) v f d s in
                  let r = line.find_on new e.source (line.rises e old new change stay) (has_chain new e.source).is v there in
                  let same = chain_is_one new v r.behind (us ++ e.target ∷ vs) r.chain chain in
                  not_both (line.on_line e old new change stay e.target)
                  (ap (stands_in e.target) (r.split ∙ ap (λ ws. r.before ++ v ∷ ws) same)
                  ∙ line.stands_behind r.before e.target (v ∷ (us ++ e.target ∷ vs))
                  (or_right (is_same_vertex v e.target) (stands_in e.target (us ++ e.target ∷ vs)) (line.stands_behind us e.target (e.target ∷ vs) (line.itself_first e.target vs)))) off

-- ---- the way up

chain_once : (live : List Edge) (v : Vertex) (ws : List Vertex) → IsChain live v ws → StandOnce (v ∷ ws)
chain_once live v [] is = (refl, tt)
chain_once live v (w ∷ ws) is = (chain_apart live v (w ∷ ws) is, chain_once live w ws is.4)

part_once : (xs ys : List Vertex) → StandOnce (xs ++ ys) → StandOnce xs
part_once [] ys once = tt
part_once (x ∷ xs) ys once = (false_from_ne_true (stands_in x xs) (λ is. not_both (stands_in x (xs ++ ys)) (line.stands_ahead xs x ys is) once.0), part_once xs ys once.1)

-- a way is part of the walk up
pub way_within_walk : (live : List Edge) (v : Vertex) (way : List Vertex) (top : Vertex) → LeadsUp live v way top → suc (length way) ≤ length (walk live v)
way_within_walk live v way top leads =
    let c = has_chain live v in
    let r = line.way_of live v c.above way top c.is leads in
    let once : StandOnce (v ∷ way) = part_once (v ∷ way) r.base (subst StandOnce r.split (chain_once live v c.above c.is)) in
    let few = sum_within (λ _. 1) (v ∷ way) (walk live v) once
    (λ x stands. on_walk_up live v v c.above c.is (begins_walk live v) x (ap (stands_in x) r.split ∙ line.stands_ahead (v ∷ way) x r.base stands)) in
    let a = sum_of_ones (v ∷ way) in
    let b = sum_of_ones (walk live v) in
    omega (arith, few, a, b)

-- where nothing is above its top, the vertices of the walk up are those of the way
way_closed : (live : List Edge) (v : Vertex) (way : List Vertex) (top : Vertex) → LeadsUp live v way top → above live top ≡ None → (x w : Vertex) → stands_in x (v ∷ way) ≡ true → above live x ≡ Some w → stands_in w (v ∷ way) ≡ true
way_closed live v [] top leads ends x w stands up = by_test (is_same_vertex v x) refl stands where
  by_test : (b : Bool) → is_same_vertex v x ≡ b → (b || false) ≡ true → stands_in w (v ∷ []) ≡ true
  by_test true same h =
      let clashing : None ≡ Some w = sym ends ∙ ap (above live) (sym leads ∙ same_vertex_exact v x same) ∙ up in cc
  by_test false other h = absurd cc
way_closed live v (y ∷ ys) top leads ends x w stands up = by_test (is_same_vertex v x) refl stands (way_closed live y ys top leads.2 ends x w) where
  by_test : (b : Bool) → is_same_vertex v x ≡ b → (b || stands_in x (y ∷ ys)) ≡ true → (stands_in x (y ∷ ys) ≡ true → above live x ≡ Some w → stands_in w (y ∷ ys) ≡ true) → stands_in w (v ∷ y ∷ ys) ≡ true
  by_test true same h later =
      let next : y ≡ w = some_same y w (sym leads.1 ∙ ap (above live) (same_vertex_exact v x same) ∙ up) in
      or_right (is_same_vertex v w) (stands_in w (y ∷ ys)) (ap (λ z. stands_in w (z ∷ ys)) next ∙ line.itself_first w ys)
  by_test false other h later = or_right (is_same_vertex v w) (stands_in w (y ∷ ys)) (later h up)

goes_within : (live : List Edge) (within : List Vertex) → ((x w : Vertex) → stands_in x within ≡ true → above live x ≡ Some w → stands_in w within ≡ true) → (passed : List Vertex) (o : Option Vertex)
    → ((w : Vertex) → o ≡ Some w → stands_in w within ≡ true) → (xs : List Vertex) → GoesOn live passed o xs → (v : Vertex) → stands_in v xs ≡ true → stands_in v within ≡ true
goes_within live within closed passed o first [] g v stands = absurd cc
goes_within live within closed passed o first (x ∷ xs) g v stands =
    by_test (is_same_vertex x v) refl stands (goes_within live within closed (x ∷ passed) (above live x) (λ w up. closed x w (first x g.0) up) xs g.2 v) where
      by_test : (b : Bool) → is_same_vertex x v ≡ b → (b || stands_in v xs) ≡ true → (stands_in v xs ≡ true → stands_in v within ≡ true) → stands_in v within ≡ true
      by_test true same h later = ap (λ z. stands_in z within) (sym (same_vertex_exact x v same)) ∙ first x g.0
      by_test false other h later = later h

pub off_walk_by_way : (live : List Edge) (target v : Vertex) (way : List Vertex) (top : Vertex) → LeadsUp live v way top → above live top ≡ None → stands_in target (v ∷ way) ≡ false → stands_in target (walk live v) ≡ false
off_walk_by_way live target v way top leads ends off =
    false_from_ne_true (stands_in target (walk live v))
    (λ there. not_both (stands_in target (v ∷ way))
    (goes_within live (v ∷ way) (way_closed live v way top leads ends) [] (Some v) (λ w is. ap (λ z. stands_in z (v ∷ way)) (sym (some_same v w is)) ∙ line.itself_first v way) (walk live v) (walk_is live v) target there) off)

-- a vertex with nothing under it is above no other
pub off_walk_by_leaf : (edits : List Edit) (live : List Edge) → AreLive (graph edits) live → (target v : Vertex) → edges_under live target ≡ [] → (target ≡ v → ⊥) → stands_in target (walk live v) ≡ false
off_walk_by_leaf edits live are target v leaf other =
    false_from_ne_true (stands_in target (walk live v))
    (λ there. refuted (goes_all (λ w. (w ≡ v) ⊎ IsSource live w) live (λ x w up. inr (source_above live x w up)) [] (Some v) (λ w is. inl (sym (some_same v w is))) (walk live v) (walk_is live v) target there)) where
      refuted : (target ≡ v) ⊎ IsSource live target → ⊥
      refuted (inl same) = other same
      refuted (inr s) =
          let well : IsWellFormed s.edge = all_held IsWellFormed live (live_well_formed edits live are) s.edge s.held in
          let held : holds_edge s.edge (edges_under live s.edge.source) ≡ true = held_under live s.edge s.held well in
          not_both (holds_edge s.edge (edges_under live target)) (ap (λ z. holds_edge s.edge (edges_under live z)) (sym s.source) ∙ held) (ap (holds_edge s.edge) leaf)

-- ---- the roots of cycles

module _ (edits : List Edit) (edit : Edit) (old new : List Edge) (live_old : AreLive (graph edits) old) (live_new : AreLive (graph (edit ∷ edits)) new) where
  pub cycles_stay_shared : above old (edit_edge edit).target ≡ None → above new (edit_edge edit).target ≡ None → CyclesStay old new
  cycles_stay_shared none_before none_after =
      cycles_stay (edit_edge edit) old new (changed edits edit old new live_old live_new) (headed_off_cycle old (edit_edge edit).target none_before) (headed_off_cycle new (edit_edge edit).target none_after)

  pub cycles_stay_apart : stands_in (edit_edge edit).target (walk old (edit_edge edit).source) ≡ false → ((w : Vertex) → above old (edit_edge edit).target ≡ Some w → w ≡ (edit_edge edit).source)
      → ((w : Vertex) → above new (edit_edge edit).target ≡ Some w → w ≡ (edit_edge edit).source) → CyclesStay old new
  cycles_stay_apart off before after =
      cycles_stay (edit_edge edit) old new (changed edits edit old new live_old live_new)
      (off_cycle_by_source old (edit_edge edit).source (edit_edge edit).target before off)
      (off_cycle_by_source new (edit_edge edit).source (edit_edge edit).target after
      (ap (stands_in (edit_edge edit).target) (sym (walk_past (edit_edge edit) old new (changed edits edit old new live_old live_new) (edit_edge edit).source off)) ∙ off))
