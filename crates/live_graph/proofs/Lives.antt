-- The live edges by the states of edges.
use Rattle.std.proofs.Common.{◌≡◌, Bool, true, false, cond, [], ◌∷◌, ◌++◌, Some, refl, sym, ap, ◌∙◌}
use Rattle.std.specs.Prelude.{◌||◌, unwrap_or}
use Rattle.std.specs.List.{AllByRecursion, IsDistinct, list_any}
use Rattle.std.specs.Map.{lookup}
use Rattle.edge_lattice.specs.declared.state.State.TheVariants.{Absent}
use Rattle.grove_edits.specs.declared.edge.Edge.{Edge}
use Rattle.grove_edits.specs.Graph.{is_same_edge}
use Rattle.grove_edits.proofs.Orders.{one_edge, same_edge_laws}
use Rattle.graph_words.specs.Live.{IsInEdgeOrder, holds_edge}
use Rattle.graph_words.specs.Whole.{AreLive}
use Rattle.graph_words.specs.Ordered.{with_edge}
use Rattle.graph_words.proofs.Ordered.{holds-with_edge, in_order-with_edge}
use Rattle.edge_numbers.specs.Numbered.{edges_of, with_entry}
use Rattle.graph_words.specs.States.{Entries, state_in, is_live}
use Rattle.live_graph.specs.Live.{live}
use Rattle.graph_words.proofs.Truths.{live_from_test}

pub in_order-live : (entries : Entries) → IsInEdgeOrder (live entries)
in_order-live [] = tt
in_order-live (x ∷ xs) = by_test (is_live x.1) (in_order-live xs) where
  by_test : (b : Bool) → IsInEdgeOrder (live xs) → IsInEdgeOrder (cond b (with_edge x.0 (live xs)) (live xs))
  by_test true rest = in_order-with_edge x.0 (live xs) rest
  by_test false rest = rest

-- an edge of which all entries differ is Absent
pub absent_apart : (e : Edge) (entries : Entries) → AllByRecursion (λ x. is_same_edge e x ≡ false) (edges_of entries) → state_in entries e ≡ Absent
absent_apart e [] all = refl
absent_apart e (x ∷ xs) all = ap (λ b. unwrap_or (cond b (Some x.1) (lookup (is_same_edge e) xs)) Absent) all.0 ∙ absent_apart e xs all.1

-- the live edges are those whose state is Live
pub holds-live : (entries : Entries) (e : Edge) → IsDistinct is_same_edge (edges_of entries) → holds_edge e (live entries) ≡ is_live (state_in entries e)
unfolding IsDistinct
holds-live [] e once = refl
holds-live (x ∷ xs) e once = by_edge (is_same_edge e x.0) refl (is_live x.1) refl (holds-live xs e once.1) where
  here : (b : Bool) → is_live x.1 ≡ b → holds_edge e (live (x ∷ xs)) ≡ holds_edge e (cond b (with_edge x.0 (live xs)) (live xs))
  here b is = ap (λ c. holds_edge e (cond c (with_edge x.0 (live xs)) (live xs))) is

  there : (b : Bool) → is_same_edge e x.0 ≡ b → is_live (state_in (x ∷ xs) e) ≡ is_live (unwrap_or (cond b (Some x.1) (lookup (is_same_edge e) xs)) Absent)
  there b is = ap (λ c. is_live (unwrap_or (cond c (Some x.1) (lookup (is_same_edge e) xs)) Absent)) is

  by_edge : (b : Bool) → is_same_edge e x.0 ≡ b → (l : Bool) → is_live x.1 ≡ l → holds_edge e (live xs) ≡ is_live (state_in xs e) → holds_edge e (live (x ∷ xs)) ≡ is_live (state_in (x ∷ xs) e)
  by_edge true same true lives rest =
      here true lives ∙ holds-with_edge e x.0 (live xs) ∙ ap (λ b. b || holds_edge e (live xs)) (same_edge_laws.symm x.0 e ∙ same) ∙ sym (there true same ∙ lives)
  by_edge true same false dead rest =
      let one = one_edge e x.0 same in
      let gone : state_in xs e ≡ Absent = ap (state_in xs) one ∙ absent_apart x.0 xs once.0 in
      here false dead ∙ rest ∙ ap is_live gone ∙ sym (there true same ∙ dead)
  by_edge false other true lives rest =
      here true lives ∙ holds-with_edge e x.0 (live xs) ∙ ap (λ b. b || holds_edge e (live xs)) (same_edge_laws.symm x.0 e ∙ other) ∙ rest ∙ sym (there false other)
  by_edge false other false dead rest = here false dead ∙ rest ∙ sym (there false other)

-- an edge that is entered is not live
live-push : (e : Edge) (entries : Entries) → live (entries ++ (e, Absent) ∷ []) ≡ live entries
live-push e [] = refl
live-push e (x ∷ xs) = ap (λ es. cond (is_live x.1) (with_edge x.0 es) es) (live-push e xs)

pub live-entered : (e : Edge) (entries : Entries) → live (with_entry e entries) ≡ live entries
live-entered e entries = by_test (list_any (is_same_edge e) (edges_of entries)) where
  by_test : (b : Bool) → live (cond b entries (entries ++ (e, Absent) ∷ [])) ≡ live entries
  by_test true = refl
  by_test false = live-push e entries

-- ---- all that is live

pub are_live : (entries : Entries) → IsDistinct is_same_edge (edges_of entries) → AreLive (state_in entries) (live entries)
are_live entries once = record {
  in_order = in_order-live entries;
  each = λ e is. holds-live entries e once ∙ ap is_live is;
  no_other = λ e held. live_from_test (state_in entries e) (sym (holds-live entries e once) ∙ held);
}
