-- The edges of the edits that actions make are well formed, and their numbers lie in their ranges.
use Rattle.std.proofs.Common.{◌≡◌, ◌≢◌, ℕ, ◌+◌, ◌<◌, ◌≤◌, ◌^◌, Bool, true, false, cond, List, [], ◌∷◌, length, map, refl, sym, ap, subst, ◌∙◌, arith, lt-ltb}
use borrow.Author.Tests.{ltb-false}
use Rattle.std.specs.Prelude.{◌&&◌, ◌==◌, nat_lt, None, Some, IfSome}
use Rattle.edge_lattice.specs.declared.state.State.TheVariants.{Absent}
use Rattle.grove_names.specs.declared.name.Name.{Name}
use Rattle.grove_sorts.specs.declared.sort.Sort.{Sort}
use Rattle.grove_sorts.specs.declared.position.Position.{Position}
use Rattle.grove_sorts.specs.declared.ctor.Ctor.{Ctor}
use Rattle.grove_sorts.specs.Ctor.{sort_at, sort_of_ctor, positions, first_position}
use Rattle.grove_sorts.proofs.Orders.{one_position}
use Rattle.grove_sorts.proofs.Rows.{first_position_found, places_found}
use Rattle.grove_edits.specs.declared.vertex.Vertex.{Vertex}
use Rattle.grove_edits.specs.declared.edge.Edge.{Edge}
use Rattle.grove_edits.specs.declared.edit.Edit.{Edit}
use Rattle.grove_edits.specs.Vertex.{is_vertex, literal, VertexInRange, is_same_vertex, stands_in}
use Rattle.grove_edits.specs.Edge.{IsWellFormed, EdgeInRange}
use Rattle.grove_edits.specs.Graph.{Graph}
use Rattle.graph_words.specs.Live.{holds_edge}
use Rattle.grove_sorts.specs.Position.{is_same_position}
use Rattle.grove_edits.proofs.Vertices.{same_vertex_exact}
use Rattle.grove_edits.proofs.WellFormed.{edit_made, edge_made, one_answer}
use Rattle.graph_words.proofs.Ordered.{holds-filter}
use Rattle.grove_edits.specs.declared.action.Place.{Place}
use Rattle.grove_edits.specs.declared.action.Action.{Action}
use Rattle.grove_edits.specs.declared.act_fault.ActFault.TheVariants.{NamesSpent}
use Rattle.user_actions.specs.Lists.{GraphLists, AreListsOf}
use Rattle.user_actions.specs.Names.{is_same_name, new_name, edges_named, greatest_counter}
use Rattle.user_actions.specs.Place.{edges_at}
use Rattle.user_actions.specs.Faults.{names_spent, last_counter}
use Rattle.user_actions.specs.PlainEdits.{PlainEdit, plain, deletions, insertion, new_vertex, to_new_vertex, put_below, wrap_edits, become_edits, relocate_edits}
use Rattle.user_actions.specs.Carried.{carried}
use Rattle.user_actions.specs.Checks.{edges_cut, else_edges}
use Rattle.user_actions.specs.Actions.{name_count}
use Rattle.user_actions.specs.Good.{AreWellFormed, AreInRange, AreOpening}
use Rattle.grove_sorts.proofs.Truths.{both_true}
use Rattle.user_actions.proofs.GoodEdges.{parts_of, well_formed_from, vertex_good, vertex_in_range, no_root_at}
use Rattle.user_actions.proofs.PlainGraphs.{AllEdits}
use Rattle.user_actions.proofs.EditLists.{all_append, all_deletions, all_put_below, all_carry_over, edge_with, held_first}
use Rattle.user_actions.proofs.NoFault.{only_stands}
use Rattle.user_actions.proofs.OnePlace.{held_at_place, live_known, entry_found, carried_is}
use Rattle.user_actions.proofs.Accepted.{HasPlace}

abbrev pub IsGood : Edge → Type 0
IsGood e = IsWellFormed e × EdgeInRange e

-- ---- the new names fit

within_last : (greatest count : ℕ) → cond (nat_lt 0 count && nat_lt last_counter (greatest + count)) (Some (NamesSpent greatest)) None ≡ None → 0 < count → greatest + count ≤ last_counter
within_last greatest count none positive = by_test (nat_lt last_counter (greatest + count)) refl where
  by_test : (b : Bool) → nat_lt last_counter (greatest + count) ≡ b → greatest + count ≤ last_counter
  by_test true above =
      let both : (nat_lt 0 count && nat_lt last_counter (greatest + count)) ≡ true = ap (λ b. b && nat_lt last_counter (greatest + count)) (lt-ltb 0 count positive) ∙ above in
      let some : Some (NamesSpent greatest) ≡ None = sym (ap (λ b. cond b (Some (NamesSpent greatest)) None) both) ∙ none in
      absurd cc
  by_test false within = ltb-false last_counter (greatest + count) within

-- so many new names are left where no fault says that they are spent
pub names_left : (lists : GraphLists) (author : ℕ) (action : Action) (count : ℕ) → name_count lists action ≡ count → 0 < count → names_spent lists author action ≡ None → greatest_counter lists author + count ≤ last_counter
names_left lists author action count is positive none =
    within_last (greatest_counter lists author) count
    (ap (λ n. cond (nat_lt 0 n && nat_lt last_counter (greatest_counter lists author + n)) (Some (NamesSpent (greatest_counter lists author))) None) (sym is) ∙ none) positive

module _ (g : Graph) (lists : GraphLists) (of : AreListsOf g lists) (well : AreWellFormed g) (ranged : AreInRange g) (author : ℕ) (positive : 0 < author) (small : author < 2 ^ 32) where
  good_present : (e : Edge) → g e ≢ Absent → IsGood e
  good_present e present = (well e present, ranged e present)

  good_vertex : (v : Vertex) → stands_in v lists.vertices ≡ true → (is_vertex v ≡ true) × VertexInRange v
  good_vertex v stands =
      let is = of.vertices.no_other v stands in
      (vertex_good g well v is, vertex_in_range g ranged v is)

  -- an edge with a new name between good vertices, whose target has the sort of the position
  good_new : (count number : ℕ) (v : Vertex) (p : Position) (t : Vertex) → greatest_counter lists author + count ≤ last_counter → 0 < number → number ≤ count
      → (is_vertex v ≡ true) × VertexInRange v → (is_vertex t ≡ true) × VertexInRange t → sort_at v.ctor p ≡ Some (sort_of_ctor t.ctor) → IsGood (edge_with author (greatest_counter lists author) number v p t)
  good_new count number v p t fits from to of_v of_t sort = (
    well_formed_from (edge_with author (greatest_counter lists author) number v p t)
        (record { author = positive; counter = omega arith; source = of_v.0; target = of_t.0; sort = sort }),
    (small, omega arith, of_v.1, of_t.1),
  )

  -- the new vertex is good, since it is no root
  good_made : (count : ℕ) (ctor : Ctor) (above : Ctor) (p : Position) → greatest_counter lists author + count ≤ last_counter → 0 < count → literal ctor < 2 ^ 64
      → sort_at above p ≡ Some (sort_of_ctor ctor) → (is_vertex (new_vertex author (greatest_counter lists author) ctor) ≡ true) × VertexInRange (new_vertex author (greatest_counter lists author) ctor)
  good_made count ctor above p fits some in_range sort =
      let v = new_vertex author (greatest_counter lists author) ctor in
      let a : nat_lt 0 v.name.author ≡ true = lt-ltb 0 author positive in
      let c : nat_lt 0 v.name.counter ≡ true = lt-ltb 0 (greatest_counter lists author + 1) (omega arith) in (
        ap (λ b. cond b ((v.name.author == 0) && (v.name.counter == 0)) (nat_lt 0 v.name.author && nat_lt 0 v.name.counter)) (no_root_at above p ctor sort) ∙ ap (λ b. b && nat_lt 0 v.name.counter) a ∙ c,
        (small, omega arith, in_range),
      )

  good_live : (e : Edge) → holds_edge e lists.live ≡ true → IsGood e
  good_live e held = good_present e (live_known g lists of author e held)

  good_target : (e : Edge) → holds_edge e lists.live ≡ true → (is_vertex e.target ≡ true) × VertexInRange e.target
  good_target e held = let good = good_live e held in ((parts_of e good.0).target, good.1.3)

  -- ---- edits of each kind

  good_deletions : (es : List Edge) → ((e : Edge) → holds_edge e es ≡ true → IsGood e) → AllEdits (λ kind e. IsGood e) (deletions es)
  good_deletions es each = all_deletions (λ kind e. IsGood e) es each

  wanted_by : (place : Place) (has : HasPlace lists place) (sort : Sort) → has.sort ≡ sort → sort_at has.vertex.ctor place.position ≡ Some sort
  wanted_by place has sort is = has.position ∙ ap Some is

  stands : (place : Place) (has : HasPlace lists place) → stands_in has.vertex lists.vertices ≡ true
  stands place has = (only_stands lists place.name has.vertex has.only).0

  pub good_construct : (place : Place) (ctor : Ctor) (has : HasPlace lists place) (count : ℕ) → has.sort ≡ sort_of_ctor ctor → literal ctor < 2 ^ 64
      → greatest_counter lists author + count ≤ last_counter → 2 ≤ count → IsGood (edge_with author (greatest_counter lists author) 2 has.vertex place.position (new_vertex author (greatest_counter lists author) ctor))
  good_construct place ctor has count sort in_range fits enough =
      let wanted = wanted_by place has (sort_of_ctor ctor) sort in
      good_new count 2 has.vertex place.position (new_vertex author (greatest_counter lists author) ctor) fits (omega arith) enough (good_vertex has.vertex (stands place has))
      (good_made count ctor has.vertex.ctor place.position fits (omega arith) in_range wanted) wanted

  -- what stands at a place has the sort that is wanted there
  sort_of_child : (v : Vertex) (place : Place) (e : Edge) (sort : Sort) → holds_edge e (edges_at lists v place) ≡ true → sort_at v.ctor place.position ≡ Some sort → sort ≡ sort_of_ctor e.target.ctor
  sort_of_child v place e sort held wanted =
      let here = held_at_place g lists of author v place e held in
      let parts = both_true (is_same_vertex e.source v) (is_same_position e.position place.position) here.0 in
      let source : e.source ≡ v = same_vertex_exact e.source v parts.0 in
      let position : e.position ≡ place.position = one_position e.position place.position parts.1 in
      let own = (parts_of e (good_live e here.1).0).sort in
      let moved : sort_at v.ctor place.position ≡ Some (sort_of_ctor e.target.ctor) = ap (λ (w : Vertex). sort_at w.ctor place.position) (sym source) ∙ ap (sort_at e.source.ctor) (sym position) ∙ own in
      let both : Some sort ≡ Some (sort_of_ctor e.target.ctor) = sym wanted ∙ moved in
      cc

  pub good_wrap : (place : Place) (ctor : Ctor) (has : HasPlace lists place) (below : Position) → has.sort ≡ sort_of_ctor ctor → literal ctor < 2 ^ 64 → first_position ctor has.sort ≡ Some below
      → greatest_counter lists author + (2 + length (edges_at lists has.vertex place)) ≤ last_counter
      → AllEdits (λ kind e. IsGood e) (wrap_edits author (greatest_counter lists author) ctor has.vertex place (Some below) (edges_at lists has.vertex place))
  good_wrap place ctor has below sort in_range wraps fits =
      let v = has.vertex in
      let es = edges_at lists v place in
      let nv = new_vertex author (greatest_counter lists author) ctor in
      let count : ℕ = 2 + length es in
      let wanted = wanted_by place has (sort_of_ctor ctor) sort in
      let found : sort_at ctor below ≡ Some has.sort = subst (λ o. IfSome o (λ q. sort_at ctor q ≡ Some has.sort)) wraps (first_position_found ctor has.sort) in
      all_append (λ kind e. IsGood e) (deletions es) (to_new_vertex author (greatest_counter lists author) ctor v place ∷ put_below author (greatest_counter lists author) nv below 3 es)
      (good_deletions es (λ e held. good_live e (held_at_place g lists of author v place e held).1)) (
        good_construct place ctor has count sort in_range fits (omega arith),
        all_put_below (λ kind e. IsGood e) author (greatest_counter lists author) nv below 3 es
            (λ k e from to held.
            good_new count k nv below e.target fits (omega arith) (omega arith) (good_made count ctor v.ctor place.position fits (omega arith) in_range wanted)
            (good_target e (held_at_place g lists of author v place e held).1)
            (found ∙ ap Some (sort_of_child v place e has.sort held has.position))),
      )

  -- an edge that is carried over has a position that the other constructor has for the sort of its target
  carried_sort : (ctor : Ctor) (e c : Edge) → holds_edge c (carried ctor e lists.live) ≡ true → (holds_edge c lists.live ≡ true) × (sort_at ctor c.position ≡ Some (sort_of_ctor c.target.ctor))
  carried_sort ctor e c held =
      let is = carried_is (positions e.target.ctor) ctor e.target e lists.live c held in
      let parts = both_true (is_same_vertex c.source e.target) (is_same_position c.position is.entry.0) is.here in
      let source : c.source ≡ e.target = same_vertex_exact c.source e.target parts.0 in
      let position : c.position ≡ is.entry.0 = one_position c.position is.entry.0 parts.1 in
      let own = (parts_of c (good_live c is.live_edge).0).sort in
      let listed : sort_at e.target.ctor is.entry.0 ≡ Some is.entry.1 = entry_found e.target.ctor is.entry (positions e.target.ctor) is.listed (places_found e.target.ctor) in
      let moved : sort_at e.target.ctor is.entry.0 ≡ Some (sort_of_ctor c.target.ctor) = ap (λ (w : Vertex). sort_at w.ctor is.entry.0) (sym source) ∙ ap (sort_at c.source.ctor) (sym position) ∙ own in
      let same : Some is.entry.1 ≡ Some (sort_of_ctor c.target.ctor) = sym listed ∙ moved in
      (is.live_edge, ap (sort_at ctor) position ∙ one_answer (sort_at ctor is.entry.0) is.entry.1 is.sorted ∙ same)

  pub good_become : (place : Place) (ctor : Ctor) (has : HasPlace lists place) (e : Edge) → has.sort ≡ sort_of_ctor ctor → literal ctor < 2 ^ 64 → edges_at lists has.vertex place ≡ e ∷ []
      → greatest_counter lists author + (2 + length (carried ctor e lists.live)) ≤ last_counter
      → AllEdits (λ kind f. IsGood f) (become_edits author (greatest_counter lists author) ctor has.vertex place (e ∷ []) lists.live)
  good_become place ctor has e sort in_range sole fits =
      let v = has.vertex in
      let nv = new_vertex author (greatest_counter lists author) ctor in
      let cs = carried ctor e lists.live in
      let count : ℕ = 2 + length cs in
      let wanted = wanted_by place has (sort_of_ctor ctor) sort in (
        good_live e (held_at_place g lists of author v place e (ap (holds_edge e) sole ∙ held_first e [])).1,
        (
          good_construct place ctor has count sort in_range fits (omega arith),
          all_carry_over (λ kind f. IsGood f) author (greatest_counter lists author) nv 3 cs (λ f held. good_live f (carried_sort ctor e f held).0)
              (λ k f from to held.
              good_new count k nv f.position f.target fits (omega arith) (omega arith) (good_made count ctor v.ctor place.position fits (omega arith) in_range wanted)
              (good_target f (carried_sort ctor e f held).0) (carried_sort ctor e f held).1),
        ),
      )

  -- what stands at a place
  pub good_at_place : (v : Vertex) (place : Place) → AllEdits (λ kind e. IsGood e) (deletions (edges_at lists v place))
  good_at_place v place = good_deletions (edges_at lists v place) (λ e held. good_live e (held_at_place g lists of author v place e held).1)

  pub good_cut : (opening : List Edge) → AreOpening g opening → (edge : Name) → AllEdits (λ kind e. IsGood e) (deletions (edges_cut lists opening edge))
  good_cut opening opened edge = good_deletions (edges_cut lists opening edge) (λ e held. by_opening e (edges_named edge opening) refl held) where
    among : (e : Edge) (es : List Edge) → holds_edge e (edges_named edge es) ≡ true → holds_edge e es ≡ true
    among e es h = (both_true (is_same_name e.name edge) (holds_edge e es) (sym (holds-filter (λ c. is_same_name c.name edge) e es) ∙ h)).1

    by_opening : (e : Edge) (es : List Edge) → edges_named edge opening ≡ es → holds_edge e (else_edges es (edges_named edge lists.present)) ≡ true → IsGood e
    by_opening e [] is h = good_present e (of.present.no_other e (among e lists.present h))
    by_opening e (x ∷ xs) is h = good_present e (opened e (among e opening (ap (holds_edge e) is ∙ h)))

  -- an edge between vertices of the graph, with the first new name
  good_first : (place : Place) (has : HasPlace lists place) (t : Vertex) → (is_vertex t ≡ true) × VertexInRange t → has.sort ≡ sort_of_ctor t.ctor → greatest_counter lists author + 1 ≤ last_counter
      → IsGood (edge_with author (greatest_counter lists author) 1 has.vertex place.position t)
  good_first place has t of_t sort fits = good_new 1 1 has.vertex place.position t fits (omega arith) (omega arith) (good_vertex has.vertex (stands place has)) of_t (wanted_by place has (sort_of_ctor t.ctor) sort)

  pub good_relocate : (place : Place) (edge : Name) (has : HasPlace lists place) (e : Edge) → has.sort ≡ sort_of_ctor e.target.ctor → edges_named edge lists.live ≡ e ∷ [] → greatest_counter lists author + 1 ≤ last_counter
      → AllEdits (λ kind f. IsGood f) (relocate_edits author (greatest_counter lists author) has.vertex place (e ∷ []))
  good_relocate place edge has e sort sole fits = (good_live e held, (good_first place has e.target (good_target e held) sort fits, tt)) where
    held : holds_edge e lists.live ≡ true
    held =
        let named : holds_edge e (edges_named edge lists.live) ≡ true = ap (holds_edge e) sole ∙ held_first e [] in
        (both_true (is_same_name e.name edge) (holds_edge e lists.live) (sym (holds-filter (λ c. is_same_name c.name edge) e lists.live) ∙ named)).1

  pub good_restore : (place : Place) (has : HasPlace lists place) (moved : Vertex) → stands_in moved lists.vertices ≡ true → has.sort ≡ sort_of_ctor moved.ctor → greatest_counter lists author + 1 ≤ last_counter
      → AllEdits (λ kind e. IsGood e) (insertion (new_name author (greatest_counter lists author) 1) has.vertex place.position moved ∷ [])
  good_restore place has moved there sort fits = (good_first place has moved (good_vertex moved there) sort fits, tt)

-- ---- edits that are these

pub edits_from : (ps : List PlainEdit) → AllEdits (λ kind e. IsGood e) ps → (edits : List Edit) × (map plain edits ≡ ps)
edits_from [] all = ([], refl)
edits_from ((kind, e) ∷ ps) all =
    let rest = edits_from ps all.1 in
    let first : Edit = edit_made kind e all.0.0 all.0.1 in
    (first ∷ rest.0, ap (λ x. (kind, x) ∷ map plain rest.0) (edge_made kind e all.0.0 all.0.1) ∙ ap (λ qs. (kind, e) ∷ qs) rest.1)
