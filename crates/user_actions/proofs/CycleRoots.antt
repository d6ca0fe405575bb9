-- An action that moves a vertex makes no vertex the root of a cycle that was none before.
use Rattle.std.proofs.Common.{◌≡◌, ℕ, Bool, true, false, List, [], ◌∷◌, refl, sym, ap, ◌∙◌}
use Rattle.std.specs.Prelude.{◌&&◌, Some}
use Rattle.edge_lattice.specs.declared.state.State.TheVariants.{Live}
use Rattle.grove_edits.specs.declared.vertex.Vertex.{Vertex}
use Rattle.grove_edits.specs.declared.edge.Edge.{Edge}
use Rattle.grove_edits.specs.declared.edit.Edit.{Edit}
use Rattle.grove_edits.specs.Graph.{Graph}
use Rattle.graph_words.specs.Live.{holds_edge, parents_of}
use Rattle.grove_edits.specs.Vertex.{is_same_vertex, stands_in}
use Rattle.graph_words.specs.Walk.{only_source, walk}
use Rattle.graph_words.specs.Class.{is_cycle_root, class, is_same_class}
use Rattle.graph_words.specs.declared.class.Class.{Class}
use Rattle.graph_words.specs.declared.class.Class.TheVariants.{NoParent, Multi, Cycle, Inner}
use Rattle.graph_words.specs.Whole.{AreLive}
use Rattle.grove_edits.proofs.Vertices.{same_vertex_itself}
use Rattle.graph_words.proofs.Ordered.{holds-filter, in_order-filter, same_lists}
use Rattle.graph_words.proofs.Cycles.{class_is_cycle}
use Rattle.grove_terms.proofs.OneGrove.{one_live}
use Rattle.grove_edits.specs.declared.action.Action.{Action}
use Rattle.grove_edits.specs.declared.answer.Answer.{Answer}
use Rattle.user_actions.specs.PlainEdits.{PlainEdit}
use Rattle.user_actions.specs.Plan.{IsPlan}
use Rattle.user_actions.specs.After.{graph_after, IsAccepted}
use Rattle.user_actions.specs.Actions.{edits_of, moves_vertex}
use Rattle.grove_sorts.proofs.Truths.{both_true, and_true, same_tests}
use Rattle.user_actions.proofs.Rerooted.{IsMoved, root_before}
use Rattle.user_actions.proofs.PlainGraphs.{only_edge, plain_graph, AllEdits, after_edits, inserted_live, not_of, join_absent}
use Rattle.user_actions.proofs.NoFault.{no_fault}
use Rattle.user_actions.proofs.Accepted.{made}
use Rattle.user_actions.proofs.GoodPlans.{good_plan}
use Rattle.user_actions.proofs.PlanLaws.{live_along, after_is, moving_fills}

abbrev is_to : Vertex → Edge → Bool
is_to v e = is_same_vertex e.target v

-- where no edit is of an edge to a vertex, the vertex has the parents that it had
parents_kept : (g : Graph) (ps : List PlainEdit) (before after : List Edge) (u : Vertex) → AreLive g before → AreLive (after_edits g ps) after → AllEdits (λ kind e. is_to u e ≡ false) ps
    → parents_of u after ≡ parents_of u before
parents_kept g ps before after u of_g of_h off =
    same_lists (parents_of u after) (parents_of u before) (in_order-filter (is_to u) after of_h.in_order) (in_order-filter (is_to u) before of_g.in_order)
    (λ e. holds-filter (is_to u) e after ∙ same_tests (is_to u e && holds_edge e after) (is_to u e && holds_edge e before) (to e) (from e) ∙ sym (holds-filter (is_to u) e before))
  where
    same : (e : Edge) → is_to u e ≡ true → after_edits g ps e ≡ g e
    same e here = join_absent (g e) (plain_graph ps e) (not_of (is_to u) ps off e here)

    to : (e : Edge) → (is_to u e && holds_edge e after) ≡ true → (is_to u e && holds_edge e before) ≡ true
    to e is =
        let parts = both_true (is_to u e) (holds_edge e after) is in
        and_true (is_to u e) (holds_edge e before) parts.0 (of_g.each e (sym (same e parts.0) ∙ of_h.no_other e parts.1))

    from : (e : Edge) → (is_to u e && holds_edge e before) ≡ true → (is_to u e && holds_edge e after) ≡ true
    from e is =
        let parts = both_true (is_to u e) (holds_edge e before) is in
        and_true (is_to u e) (holds_edge e after) parts.0 (of_h.each e (same e parts.0 ∙ of_g.no_other e parts.1))

-- the one edge of a list that holds an edge is that edge
source_from_only : (x : Edge) (es : List Edge) (y : Vertex) → holds_edge x es ≡ true → only_source es ≡ Some y → y ≡ x.source
source_from_only x [] y held one = absurd cc
source_from_only x (e ∷ []) y held one =
    let same : e ≡ x = only_edge e x held in
    let source : e.source ≡ y = cc in
    sym source ∙ ap (λ (f : Edge). f.source) same
source_from_only x (e ∷ f ∷ es) y held one = absurd cc

-- edits that put an edge to a vertex at a place, and else are of edges to that vertex alone, move it
moved : (g : Graph) (ps : List PlainEdit) (before after : List Edge) (v t : Vertex) (x : Edge) → AreLive g before → AreLive (after_edits g ps) after
    → AllEdits (λ kind e. e.target ≡ t) ps → after_edits g ps x ≡ Live → x.target ≡ t → x.source ≡ v → stands_in t (walk before v) ≡ false → IsMoved before after t v
moved g ps before after v t x of_g of_h all live target source apart = record {
  others = λ u other. ap only_source (parents_kept g ps before after u of_g of_h (off u other ps all));
  only = λ y one. source_from_only x (parents_of t after) y held one ∙ source;
  apart = apart;
} where
  off : (u : Vertex) → is_same_vertex t u ≡ false → (qs : List PlainEdit) → AllEdits (λ kind e. e.target ≡ t) qs → AllEdits (λ kind e. is_to u e ≡ false) qs
  off u other [] each = tt
  off u other (q ∷ qs) each = (ap (λ w. is_same_vertex w u) each.0 ∙ other, off u other qs each.1)

  held : holds_edge x (parents_of t after) ≡ true
  held =
      holds-filter (is_to t) x after
      ∙ and_true (is_to t x) (holds_edge x after) (ap (λ w. is_same_vertex w t) target ∙ same_vertex_itself t) (of_h.each x live)

cycle_from_test : (c : Class) → is_same_class c Cycle ≡ true → c ≡ Cycle
cycle_from_test NoParent h = absurd cc
cycle_from_test Multi h = absurd cc
cycle_from_test Cycle h = refl
cycle_from_test Inner h = absurd cc

class_before : (before after : List Edge) (t v u : Vertex) → IsMoved before after t v → class after u ≡ Cycle → class before u ≡ Cycle
class_before before after t v u is cycle =
    let root : is_cycle_root after u ≡ true = sym (class_is_cycle after u) ∙ ap (λ c. is_same_class c Cycle) cycle in
    cycle_from_test (class before u) (class_is_cycle before u ∙ root_before before after t v u is root)

pub no_new_cycle : (g : Graph) (opening : List Edge) (author : ℕ) (action : Action) (edits : List Edit) (answer : Answer) (before after : List Edge) (u : Vertex)
    → IsPlan g opening author action edits answer → IsAccepted answer → moves_vertex action ≡ true → AreLive g before → AreLive (graph_after g edits) after
    → class after u ≡ Cycle → class before u ≡ Cycle
no_new_cycle g opening author action edits answer before after u planned accepted moves of_g of_h cycle =
    let lists = planned.lists in
    let of = planned.are_lists in
    let is = made lists opening author action edits answer planned.edits_are planned.answer_is accepted in
    let ps = edits_of lists opening author action in
    let f = (good_plan g lists of opening author action (no_fault lists opening author action is.no_fault)).fills (moving_fills action moves) in
    let m = f.moves moves in
    let one : before ≡ lists.live = one_live g before lists.live of_g of.live in
    let after_them = live_along (graph_after g edits) (after_edits g ps) after (after_is g edits ps is.edits_are) of_h in
    let is_moved = moved g ps lists.live after f.vertex f.new.target f.new of.live after_them m.each (inserted_live g f.new ps f.puts.new f.puts.inserted f.puts.known) refl m.source m.apart in
    ap (λ es. class es u) one ∙ class_before lists.live after f.new.target f.vertex u is_moved cycle
