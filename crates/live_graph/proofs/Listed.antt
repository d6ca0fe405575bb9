-- How the lists of a live graph go on where vertices, places and an edge are added.
use Rattle.std.proofs.Common.{◌≡◌, ℕ, ◌+◌, ◌<◌, ◌≤◌, Bool, true, false, cond, List, [], ◌∷◌, ◌++◌, Some, length, refl, sym, ap, subst, ◌∙◌, arith}
use Rattle.std.specs.Prelude.{◌^◌, ◌==◌}
use Rattle.std.specs.List.{AllByRecursion, IsDistinct, list_any}
use Rattle.std.specs.declared.cmp.Ordering.{Ordering}
use Rattle.std.proofs.lemmas.Bool.{eqb-true}
use Rattle.std.proofs.lemmas.List.{append-nil, length_push}
use Rattle.std.proofs.lemmas.Option.{slice_get-get_or}
use Rattle.edge_lattice.specs.declared.state.State.{State}
use Rattle.edge_lattice.specs.declared.state.State.TheVariants.{Absent}
use Rattle.grove_edits.specs.declared.vertex.Vertex.{Vertex}
use Rattle.grove_edits.specs.declared.edge.Edge.{Edge}
use Rattle.grove_edits.specs.Vertex.{is_same_vertex, stands_in, root}
use Rattle.grove_edits.specs.Edge.{edge_cmp}
use Rattle.grove_edits.specs.Graph.{is_same_edge}
use Rattle.edge_numbers.specs.Numbered.{Numbered, edges_of, state_at, with_entry, IsEdgeNumber, BeginsWith, HasEndsIn, IsNumberOfVertex, KeepsNumbers}
use Rattle.graph_words.specs.States.{Entries, state_in, is_live}
use Rattle.edge_numbers.proofs.Vertices.{numbered_stands}
use Rattle.edge_lists.specs.Lists.{Listed, numbers_at, places_at}
use Rattle.edge_lists.specs.Order.{position_first}
use Rattle.live_graph.specs.Around.{once, is_at, idle, AreAround, HasPlace, KeepsLists, IsListed, IsStateSet, source_of, target_of}
use Rattle.live_graph.proofs.Numbers.{is_at-number, kept_fits}
use Rattle.live_graph.proofs.Around.{around-places, around-vertices, place-vertices, around-push}
use Rattle.live_graph.proofs.Changes.{around-kept}

-- ---- vertices

append_twice : (xs ys zs : List Vertex) → (xs ++ ys) ++ zs ≡ xs ++ (ys ++ zs)
append_twice [] ys zs = refl
append_twice (x ∷ xs) ys zs = ap (λ vs. x ∷ vs) (append_twice xs ys zs)

pub begins_twice : (first second third : List Vertex) → BeginsWith second first → BeginsWith third second → BeginsWith third first
begins_twice first second third more further =
    (more.0 ++ further.0, further.1 ∙ ap (λ vs. vs ++ further.0) more.1 ∙ append_twice first more.0 further.0)

-- a vertex keeps its number
pub same_begins : (after vs : List Vertex) → after ≡ vs → BeginsWith after vs
same_begins after vs same = ([], same ∙ sym (append-nil vs))

pub number_stands : (edges : Numbered) (v : Vertex) (k : ℕ) → IsNumberOfVertex edges v k → stands_in v edges.vertices ≡ true
number_stands edges v k number = numbered_stands edges.vertices v k (slice_get-get_or edges.vertices k root number.0 ∙ ap Some number.1)

from_source : (vs : List Vertex) (e : Edge) → HasEndsIn vs e → stands_in (source_of e) vs ≡ true
from_source vs e ends = ends.0

from_target : (vs : List Vertex) (e : Edge) → HasEndsIn vs e → stands_in (target_of e) vs ≡ true
from_target vs e ends = ends.1

pub listed-vertices : (edges after : Numbered) (children parents : List Listed) → after.entries ≡ edges.entries → BeginsWith after.vertices edges.vertices
    → AllByRecursion (HasEndsIn edges.vertices) (edges_of edges.entries) → IsListed edges children parents → IsListed after children parents
listed-vertices edges after children parents entries begins ends is = record {
  fits = subst (λ (es : Entries). length es ≤ 2 ^ 32) (sym entries) is.fits;
  sources = around-vertices source_of position_first from_source edges after entries begins ends children is.sources;
  targets = around-vertices target_of edge_cmp from_target edges after entries begins ends parents is.targets;
}

-- ---- places

pub listed-places : (edges : Numbered) (children parents more_children more_parents : List Listed) → KeepsLists children more_children → KeepsLists parents more_parents
    → IsListed edges children parents → IsListed edges more_children more_parents
listed-places edges children parents more_children more_parents from to is = record {
  fits = is.fits;
  sources = around-places source_of position_first edges children more_children from is.sources;
  targets = around-places target_of edge_cmp edges parents more_parents to is.targets;
}

pub no_lists_change : (lists : List Listed) → KeepsLists lists lists
no_lists_change lists n = (refl, omega arith)

-- a further place at the number of the end of an edge is one for it
pub place_made : (end : Edge → Vertex) (order : Edge → Edge → Ordering) (edges : Numbered) (before after : List Listed) (e : Edge) (k : ℕ) → IsDistinct is_same_vertex edges.vertices
    → IsNumberOfVertex edges (end e) k → KeepsLists before after → places_at before k + 1 ≤ places_at after k → AreAround end order edges before → HasPlace end edges after e
place_made end order edges before after e k once_vertices number keeps more around n = by_test (k == n) refl where
  count : length (numbers_at after n) ≡ length (numbers_at before n)
  count = ap length (keeps n).0

  at : is_at edges.vertices (end e) n ≡ (k == n)
  at = is_at-number edges.vertices (end e) k n once_vertices number.0 number.1

  by_test : (b : Bool) → (k == n) ≡ b → length (numbers_at after n) + idle edges end n + once (is_at edges.vertices (end e) n) ≤ places_at after n
  by_test true here =
      let one : once (is_at edges.vertices (end e) n) ≡ 1 = ap once (at ∙ here) in
      let place : places_at before n + 1 ≤ places_at after n = subst (λ m. places_at before m + 1 ≤ places_at after m) (eqb-true k n here) more in
      omega (arith, count, one, place, around.places n)
  by_test false apart =
      let none : once (is_at edges.vertices (end e) n) ≡ 0 = ap once (at ∙ apart) in
      omega (arith, count, none, (keeps n).1, around.places n)

-- ---- an edge

pub listed-entered : (edges after : Numbered) (children parents : List Listed) (e : Edge) → IsListed edges children parents → length edges.entries < 2 ^ 32
    → HasEndsIn edges.vertices e → HasPlace source_of edges children e → HasPlace target_of edges parents e
    → AllByRecursion (HasEndsIn edges.vertices) (edges_of edges.entries) → BeginsWith after.vertices edges.vertices → after.entries ≡ with_entry e edges.entries
    → KeepsNumbers edges after → ((x : Edge) → state_in after.entries x ≡ state_in edges.entries x) → IsListed after children parents
listed-entered edges after children parents e is fits has from to ends begins entered keeps states = by_test (list_any (is_same_edge e) (edges_of edges.entries)) entered where
  grown : Numbered
  grown = record { vertices = after.vertices; entries = edges.entries }

  by_test : (b : Bool) → after.entries ≡ cond b edges.entries (edges.entries ++ (e, Absent) ∷ []) → IsListed after children parents
  by_test true same = listed-vertices edges after children parents same begins ends is
  by_test false more =
      let before = listed-vertices edges grown children parents refl begins ends is in
      record {
        fits = subst (λ (es : Entries). length es ≤ 2 ^ 32) (sym more) (omega (arith, fits, length_push edges.entries (e, Absent)));
        sources = around-push source_of position_first grown after children e refl more keeps states (place-vertices source_of position_first from_source edges grown refl begins ends children e has from) before.sources;
        targets = around-push target_of edge_cmp grown after parents e refl more keeps states (place-vertices target_of edge_cmp from_target edges grown refl begins ends parents e has to) before.targets;
      }

-- ---- a state that is as live

pub listed-kept : (edges : Numbered) (n : ℕ) (state : State) (after : Numbered) (children parents : List Listed) → IsDistinct is_same_edge (edges_of edges.entries) → IsEdgeNumber edges n
    → IsStateSet edges n state after → is_live state ≡ is_live (state_at edges n) → IsListed edges children parents → IsListed after children parents
listed-kept edges n state after children parents once_edges number set same is = record {
  fits = kept_fits edges after set.kept_edges is.fits;
  sources = around-kept source_of position_first edges n once_edges number children is.sources state after set same;
  targets = around-kept target_of edge_cmp edges n once_edges number parents is.targets state after set same;
}

pub listed-twice : (first second third : Numbered) (children parents : List Listed) → second.entries ≡ first.entries → BeginsWith second.vertices first.vertices
    → third.entries ≡ second.entries → BeginsWith third.vertices second.vertices → AllByRecursion (HasEndsIn first.vertices) (edges_of first.entries)
    → IsListed first children parents → IsListed third children parents
listed-twice first second third children parents same begins again further ends is =
    listed-vertices first third children parents (again ∙ same) (begins_twice first.vertices second.vertices third.vertices begins further) ends is
