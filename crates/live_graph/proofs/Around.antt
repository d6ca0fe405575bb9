-- How the lists around the vertices go on where vertices, edges and places are added.
use Rattle.std.proofs.Common.{◌≡◌, ℕ, ◌+◌, ◌<◌, Bool, true, false, List, [], ◌∷◌, ◌++◌, Some, length, get_or, map, cond, refl, sym, ap, subst, ◌∙◌, arith}
use Rattle.std.specs.Prelude.{◌&&◌, not, unwrap_or}
use Rattle.std.specs.Map.{lookup}
use Rattle.std.specs.List.{AllByRecursion}
use Rattle.std.specs.declared.cmp.Ordering.{Ordering}
use Rattle.edge_lattice.specs.declared.state.State.{State}
use Rattle.edge_lattice.specs.declared.state.State.TheVariants.{Absent}
use Rattle.grove_edits.specs.declared.vertex.Vertex.{Vertex}
use Rattle.grove_edits.specs.declared.edge.Edge.{Edge}
use Rattle.grove_edits.specs.Vertex.{stands_in}
use Rattle.grove_edits.specs.Graph.{is_same_edge}
use Rattle.grove_edits.proofs.Orders.{one_edge}
use Rattle.graph_words.specs.Live.{holds_edge}
use Rattle.edge_numbers.specs.Numbered.{Numbered, edges_of, edge_at, no_edge, BeginsWith, HasEndsIn, KeepsNumbers}
use Rattle.graph_words.specs.States.{Entries, state_in, is_live}
use Rattle.edge_lists.specs.Lists.{Listed, numbers_at, AreEdgeNumbers}
use Rattle.edge_lists.specs.Order.{IsInOrder}
use Rattle.live_graph.specs.Around.{once, is_at, total, idle, idle_weight, AreAround, HasPlace, KeepsLists}
use Rattle.live_graph.proofs.Numbers.{is_at-more, edges_stay, known_still}
use Rattle.live_graph.proofs.Totals.{total-push, total-congr}

-- what is so of each edge with an entry is so of each live one
pub of_live : (P : Edge → Type 0) (entries : Entries) (e : Edge) → is_live (state_in entries e) ≡ true → AllByRecursion P (edges_of entries) → P e
of_live P [] e lives all = absurd cc
of_live P (x ∷ xs) e lives all = by_test (is_same_edge e x.0) refl lives (λ later. of_live P xs e later all.1) where
  by_test : (b : Bool) → is_same_edge e x.0 ≡ b → is_live (unwrap_or (cond b (Some x.1) (lookup (is_same_edge e) xs)) Absent) ≡ true → (is_live (state_in xs e) ≡ true → P e) → P e
  by_test true same _ _ = subst P (sym (one_edge e x.0 same)) all.0
  by_test false _ later rest = rest later

pub same_entries_keep : (edges after : Numbered) → after.entries ≡ edges.entries → KeepsNumbers edges after
same_entries_keep edges after same n number = (subst (λ (es : Entries). n < length es) (sym same) number, ap (λ (es : Entries). get_or (edges_of es) n no_edge) same)

module _ (end : Edge → Vertex) (order : Edge → Edge → Ordering) where
  -- no list changes where places are made
  pub around-places : (edges : Numbered) (before after : List Listed) → KeepsLists before after → AreAround end order edges before → AreAround end order edges after
  around-places edges before after keeps around = record {
    known = λ n. subst (AreEdgeNumbers edges) (sym (keeps n).0) (around.known n);
    in_order = λ n. subst (λ ns. IsInOrder order (map (edge_at edges) ns)) (sym (keeps n).0) (around.in_order n);
    held = λ n e. ap (λ ns. holds_edge e (map (edge_at edges) ns)) (keeps n).0 ∙ around.held n e;
    places = λ n. let count : length (numbers_at after n) ≡ length (numbers_at before n) = ap length (keeps n).0 in omega (arith, count, (keeps n).1, around.places n);
  }

  -- ---- further vertices

  module _ (among : (vs : List Vertex) (e : Edge) → HasEndsIn vs e → stands_in (end e) vs ≡ true) (edges after : Numbered)
      (entries : after.entries ≡ edges.entries) (begins : BeginsWith after.vertices edges.vertices) (ends : AllByRecursion (HasEndsIn edges.vertices) (edges_of edges.entries)) where
    same_place : (e : Edge) (n : ℕ) → HasEndsIn edges.vertices e → is_at after.vertices (end e) n ≡ is_at edges.vertices (end e) n
    same_place e n has = ap (λ vs. is_at vs (end e) n) begins.1 ∙ is_at-more edges.vertices begins.0 (end e) n (among edges.vertices e has)

    same_weight : (n : ℕ) (e : Edge) (s : State) → HasEndsIn edges.vertices e → idle_weight after.vertices end n e s ≡ idle_weight edges.vertices end n e s
    same_weight n e s has = ap (λ b. once (not (is_live s) && b)) (same_place e n has)

    same_idle : (n : ℕ) → idle after end n ≡ idle edges end n
    same_idle n =
        ap (total (idle_weight after.vertices end n)) entries
        ∙ total-congr (idle_weight after.vertices end n) (idle_weight edges.vertices end n) (HasEndsIn edges.vertices) (same_weight n) edges.entries ends

    held_still : (n : ℕ) (e : Edge) → (is_at edges.vertices (end e) n && is_live (state_in edges.entries e)) ≡ (is_at after.vertices (end e) n && is_live (state_in after.entries e))
    held_still n e = by_state (is_live (state_in edges.entries e)) refl ∙ ap (λ (es : Entries). is_at after.vertices (end e) n && is_live (state_in es e)) (sym entries) where
      by_state : (b : Bool) → is_live (state_in edges.entries e) ≡ b
          → (is_at edges.vertices (end e) n && is_live (state_in edges.entries e)) ≡ (is_at after.vertices (end e) n && is_live (state_in edges.entries e))
      by_state true lives = ap (λ b. b && is_live (state_in edges.entries e)) (sym (same_place e n (of_live (HasEndsIn edges.vertices) edges.entries e lives ends)))
      by_state false dead =
          ap (λ b. is_at edges.vertices (end e) n && b) dead ∙ and_false (is_at edges.vertices (end e) n) ∙ sym (and_false (is_at after.vertices (end e) n))
          ∙ ap (λ b. is_at after.vertices (end e) n && b) (sym dead)
        where
          and_false : (b : Bool) → (b && false) ≡ false
          and_false true = refl
          and_false false = refl

    pub around-vertices : (lists : List Listed) → AreAround end order edges lists → AreAround end order after lists
    around-vertices lists around = record {
      known = λ n. known_still edges after (numbers_at lists n) keeps (around.known n);
      in_order = λ n. subst (IsInOrder order) (sym (edges_stay edges after (numbers_at lists n) keeps (around.known n))) (around.in_order n);
      held = λ n e. ap (holds_edge e) (edges_stay edges after (numbers_at lists n) keeps (around.known n)) ∙ around.held n e ∙ held_still n e;
      places = λ n. omega (arith, same_idle n, around.places n);
    }
      where
        keeps : KeepsNumbers edges after
        keeps = same_entries_keep edges after entries

    pub place-vertices : (lists : List Listed) (e : Edge) → HasEndsIn edges.vertices e → HasPlace end edges lists e → HasPlace end after lists e
    place-vertices lists e has place n =
        let counted : once (is_at after.vertices (end e) n) ≡ once (is_at edges.vertices (end e) n) = ap once (same_place e n has) in
        omega (arith, same_idle n, counted, place n)

  -- ---- a further edge

  pub around-push : (edges after : Numbered) (lists : List Listed) (e : Edge) → after.vertices ≡ edges.vertices → after.entries ≡ edges.entries ++ (e, Absent) ∷ [] → KeepsNumbers edges after
      → ((x : Edge) → state_in after.entries x ≡ state_in edges.entries x) → HasPlace end edges lists e → AreAround end order edges lists → AreAround end order after lists
  around-push edges after lists e vertices entries keeps states place around = record {
    known = λ n. known_still edges after (numbers_at lists n) keeps (around.known n);
    in_order = λ n. subst (IsInOrder order) (sym (edges_stay edges after (numbers_at lists n) keeps (around.known n))) (around.in_order n);
    held = λ n x. ap (holds_edge x) (edges_stay edges after (numbers_at lists n) keeps (around.known n)) ∙ around.held n x ∙ (λ j. is_at (sym vertices j) (end x) n && is_live (sym (states x) j));
    places = λ n.
        let more : idle after end n ≡ idle edges end n + once (is_at edges.vertices (end e) n) =
        (λ j. total (idle_weight (vertices j) end n) (entries j)) ∙ total-push (idle_weight edges.vertices end n) edges.entries e Absent in
        omega (arith, more, place n);
  }
