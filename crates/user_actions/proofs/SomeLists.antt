-- A graph with finitely many edges has its lists.
use Rattle.std.proofs.Common.{◌≡◌, ◌≢◌, Bool, true, false, cond, List, [], ◌∷◌, map, filter, refl, sym, ap, ◌∙◌}
use Rattle.std.specs.Prelude.{◌||◌, Some, unwrap_or}
use Rattle.std.specs.Map.{lookup}
use Rattle.edge_lattice.specs.declared.state.State.{State}
use Rattle.edge_lattice.specs.declared.state.State.TheVariants.{Absent, Live, Deleted}
use Rattle.edge_lattice.specs.State.{state_join}
use Rattle.grove_sorts.proofs.Truths.{both_true, or_left, or_right, and_true}
use Rattle.grove_edits.specs.declared.edge.Edge.{Edge}
use Rattle.grove_edits.specs.declared.edit.Edit.{Edit}
use Rattle.grove_edits.specs.Edit.{edit_edge, edit_kind}
use Rattle.grove_edits.specs.Graph.{Graph, graph, state_of, is_same_edge}
use Rattle.grove_edits.proofs.Orders.{one_edge}
use Rattle.graph_words.specs.Live.{holds_edge}
use Rattle.graph_words.specs.States.{is_present, Entries, state_in, is_live}
use Rattle.graph_words.specs.Ordered.{with_edges}
use Rattle.graph_words.proofs.Ordered.{holds-with_edges, holds-filter, in_order-with_edges, in_order-filter}
use Rattle.grove_terms.proofs.InLive.{same_edge_itself}
use Rattle.grove_terms.proofs.OneGrove.{ends_of, vertices_from}
use Rattle.user_actions.specs.Lists.{GraphLists, AreListsOf}
use Rattle.graph_words.proofs.Truths.{live_from_test, present_from_test, test_from_present}

-- each edge that is not Absent stands in the list
abbrev pub HasAll : Graph → List Edge → Type 0
HasAll g edges = (e : Edge) → g e ≢ Absent → holds_edge e edges ≡ true

live_present : (s : State) → s ≡ Live → s ≢ Absent
live_present s live absent = let both : Live ≡ Absent = sym live ∙ absent in cc

module _ (g : Graph) (edges : List Edge) (has : HasAll g edges) where
  abbrev chosen : (State → Bool) → List Edge
  chosen test = filter (λ e. test (g e)) (with_edges edges [])

  held_there : (e : Edge) → g e ≢ Absent → holds_edge e (with_edges edges []) ≡ true
  held_there e some = holds-with_edges e edges [] ∙ or_left (holds_edge e edges) false (has e some)

  is_chosen : (test : State → Bool) (e : Edge) → test (g e) ≡ true → g e ≢ Absent → holds_edge e (chosen test) ≡ true
  is_chosen test e passes some =
      holds-filter (λ x. test (g x)) e (with_edges edges []) ∙ and_true (test (g e)) (holds_edge e (with_edges edges [])) passes (held_there e some)

  passes_test : (test : State → Bool) (e : Edge) → holds_edge e (chosen test) ≡ true → test (g e) ≡ true
  passes_test test e held = (both_true (test (g e)) (holds_edge e (with_edges edges [])) (sym (holds-filter (λ x. test (g x)) e (with_edges edges [])) ∙ held)).0

  abbrev pub lists_from : GraphLists
  lists_from = record { vertices = ends_of (chosen is_present); present = chosen is_present; live = chosen is_live }

  pub lists_are : AreListsOf g lists_from
  lists_are =
      let each : (e : Edge) → g e ≢ Absent → holds_edge e (chosen is_present) ≡ true = λ e some. is_chosen is_present e (test_from_present (g e) some) some in
      let no_other : (e : Edge) → holds_edge e (chosen is_present) ≡ true → g e ≢ Absent = λ e held. present_from_test (g e) (passes_test is_present e held) in
      record {
        vertices = vertices_from g (chosen is_present) each no_other;
        present = record { in_order = in_order-filter (λ e. is_present (g e)) (with_edges edges []) (in_order-with_edges edges [] tt); each = each; no_other = no_other };
        live = record {
          in_order = in_order-filter (λ e. is_live (g e)) (with_edges edges []) (in_order-with_edges edges [] tt);
          each = λ e live. is_chosen is_live e (ap is_live live) (live_present (g e) live);
          no_other = λ e held. live_from_test (g e) (passes_test is_live e held);
        };
      }

-- ---- graphs of edits

pub absent_joined : (b : Bool) (s t : State) → b ≡ false → state_join (cond b s Absent) t ≡ t
absent_joined true s t h = absurd cc
absent_joined false s Absent h = refl
absent_joined false s Live h = refl
absent_joined false s Deleted h = refl

pub edits_have : (edits : List Edit) → HasAll (graph edits) (map edit_edge edits)
edits_have [] e some = absurd (some refl)
edits_have (edit ∷ edits) e some = by_test (is_same_edge (edit_edge edit) e) refl (edits_have edits e) where
  by_test : (b : Bool) → is_same_edge (edit_edge edit) e ≡ b → (graph edits e ≢ Absent → holds_edge e (map edit_edge edits) ≡ true) → (is_same_edge (edit_edge edit) e || holds_edge e (map edit_edge edits)) ≡ true
  by_test true same later = or_left (is_same_edge (edit_edge edit) e) (holds_edge e (map edit_edge edits)) same
  by_test false other later =
      or_right (is_same_edge (edit_edge edit) e) (holds_edge e (map edit_edge edits))
      (later (λ absent. some (absent_joined (is_same_edge (edit_edge edit) e) (state_of (edit_kind edit)) (graph edits e) other ∙ absent)))

-- ---- and of stores

pub entries_have : (entries : Entries) → HasAll (state_in entries) (map (λ entry. entry.0) entries)
entries_have [] e some = absurd (some refl)
entries_have (entry ∷ entries) e some = by_test (is_same_edge e entry.0) refl some (entries_have entries e) where
  edges : List Edge
  edges = map (λ x. x.0) entries

  by_test : (b : Bool) → is_same_edge e entry.0 ≡ b → unwrap_or (cond b (Some entry.1) (lookup (is_same_edge e) entries)) Absent ≢ Absent → (state_in entries e ≢ Absent → holds_edge e edges ≡ true)
      → (is_same_edge entry.0 e || holds_edge e edges) ≡ true
  by_test true same there later =
      let one : is_same_edge entry.0 e ≡ true = ap (is_same_edge entry.0) (one_edge e entry.0 same) ∙ same_edge_itself entry.0 in
      or_left (is_same_edge entry.0 e) (holds_edge e edges) one
  by_test false other there later = or_right (is_same_edge entry.0 e) (holds_edge e edges) (later there)
