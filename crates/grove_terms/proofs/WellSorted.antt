-- What stands under the vertices of a graph of edits is well sorted.
use Rattle.std.proofs.Common.{◌≡◌, ℕ, suc, ◌≤◌, Bool, true, false, cond, ◌&&◌, List, [], ◌∷◌, ◌++◌, is_none, refl, sym, ap, subst, arith}
use Rattle.std.specs.List.{AllByRecursion}
use Rattle.std.proofs.lemmas.Bool.{and_parts, or_left, or_right}
use Rattle.edge_lattice.specs.declared.state.State.TheVariants.{Live}
use Rattle.grove_sorts.specs.declared.position.Position.{Position}
use Rattle.grove_sorts.specs.declared.sort.Sort.{Sort}
use Rattle.grove_sorts.specs.Ctor.{positions, Rises}
use Rattle.grove_sorts.specs.Position.{position_number, is_same_position}
use Rattle.grove_edits.specs.declared.vertex.Vertex.{Vertex}
use Rattle.grove_edits.specs.declared.edge.Edge.{Edge}
use Rattle.grove_edits.specs.declared.edit.Edit.{Edit}
use Rattle.grove_edits.specs.Edge.{IsWellFormed, edge_fault}
use Rattle.grove_edits.specs.Graph.{Graph, graph, is_same_edge}
use Rattle.grove_edits.proofs.Orders.{same_edge_laws}
use Rattle.grove_edits.proofs.Graphs.{unnamed}
use Rattle.graph_words.specs.Live.{children_of, holds_edge}
use Rattle.grove_edits.specs.Vertex.{is_same_vertex}
use Rattle.graph_words.specs.Whole.{AreLive}
use Rattle.grove_edits.proofs.Vertices.{same_vertex_exact}
use Rattle.grove_sorts.proofs.Rows.{positions_rise}
use Rattle.grove_sorts.proofs.Orders.{one_position}
use Rattle.grove_terms.specs.declared.node.Node.{Node}
use Rattle.grove_terms.specs.declared.grove.Grove.{Grove}
use Rattle.grove_terms.specs.Forest.{Forest, none, multi_ref, cycle_ref, tree, child_edges, edges_from, edges_under, AreChildren, StandsUnder, IsChildOf, IsWellSorted}
use Rattle.grove_terms.specs.Grove.{IsTreeOf, AreTreesOf, IsGrove}
use Rattle.grove_terms.specs.Sorted.{IsSortedTree, AreSortedTrees, IsSortedGrove}

-- ---- the live edges of a graph of edits

pub held_first : (e : Edge) (es : List Edge) → holds_edge e (e ∷ es) ≡ true
held_first e es = or_left (is_same_edge e e) (holds_edge e es) (same_edge_laws.refl e)

held_later : (e x : Edge) (es : List Edge) → holds_edge e es ≡ true → holds_edge e (x ∷ es) ≡ true
held_later e x es held = or_right (is_same_edge x e) (holds_edge e es) held

all_from_held : {P : Edge → Type 0} (es : List Edge) → ((e : Edge) → holds_edge e es ≡ true → P e) → AllByRecursion P es
all_from_held [] each = tt
all_from_held (e ∷ es) each = (each e (held_first e es), all_from_held es (λ x held. each x (held_later x e es held)))

well_formed_from_live : (edits : List Edit) (e : Edge) → graph edits e ≡ Live → IsWellFormed e
well_formed_from_live edits e live = by_test (is_none (edge_fault e)) refl where
  by_test : (b : Bool) → is_none (edge_fault e) ≡ b → is_none (edge_fault e) ≡ true
  by_test true well = well
  by_test false ill = let absent = unnamed edits e ill in absurd cc

well_formed_of : (g : Graph) (live : List Edge) → ((e : Edge) → g e ≡ Live → IsWellFormed e) → AreLive g live → AllByRecursion IsWellFormed live
well_formed_of g live each are = all_from_held live (λ e held. each e (are.no_other e held))

pub live_well_formed : (edits : List Edit) (live : List Edge) → AreLive (graph edits) live → AllByRecursion IsWellFormed live
live_well_formed edits live are = well_formed_of (graph edits) live (well_formed_from_live edits) are

-- ---- the edges under a vertex

-- the edges are children of the vertex, in the order of the table
abbrev pub AreSorted : Vertex → List Edge → Type 0
AreSorted v [] = Unit {0}
AreSorted v (e ∷ es) = IsChildOf v e es × AreSorted v es

-- no edge stands at a position before the one of a number
abbrev AreFrom : ℕ → List Edge → Type 0
AreFrom low es = AllByRecursion (λ other. low ≤ position_number other.position) es

from_lower : (low high : ℕ) (es : List Edge) → low ≤ high → AreFrom high es → AreFrom low es
from_lower low high [] le from = tt
from_lower low high (e ∷ es) le from = let first = from.0 in (omega arith, from_lower low high es le from.1)

-- the edges from a position, before others that stand further on
position_first : (live : List Edge) (v : Vertex) (p : Position) (rest : List Edge) → AllByRecursion IsWellFormed live → AreSorted v rest → AreFrom (position_number p) rest
    → AreSorted v (children_of v p live ++ rest) × AreFrom (position_number p) (children_of v p live ++ rest)
position_first [] v p rest well sorted from = (sorted, from)
position_first (e ∷ live) v p rest well sorted from =
    by_test (is_same_vertex e.source v && is_same_position e.position p) refl (position_first live v p rest well.1 sorted from) where
      by_test : (b : Bool) → (is_same_vertex e.source v && is_same_position e.position p) ≡ b
          → AreSorted v (children_of v p live ++ rest) × AreFrom (position_number p) (children_of v p live ++ rest)
          → AreSorted v (cond b (e ∷ children_of v p live) (children_of v p live) ++ rest) × AreFrom (position_number p) (cond b (e ∷ children_of v p live) (children_of v p live) ++ rest)
      by_test false other is = is
      by_test true same is =
          let parts = and_parts (is_same_vertex e.source v) (is_same_position e.position p) same in
          let at : position_number e.position ≡ position_number p = ap position_number (one_position e.position p parts.1) in
          let first : IsChildOf v e (children_of v p live ++ rest) = record {
            well_formed = well.0;
            source = same_vertex_exact e.source v parts.0;
            in_table_order = from_lower (position_number e.position) (position_number p) (children_of v p live ++ rest) (omega arith) is.1;
          } in
          ((first, is.0), (omega arith, is.1))

from_sorted : (live : List Edge) (v : Vertex) → AllByRecursion IsWellFormed live → (low : ℕ) (ps : List (Position × Sort)) → Rises low ps
    → AreSorted v (edges_from live v ps) × AreFrom low (edges_from live v ps)
from_sorted live v well low [] rises = (tt, tt)
from_sorted live v well low (p ∷ ps) rises =
    let rest = from_sorted live v well (suc (position_number p.0)) ps rises.1 in
    let both = position_first live v p.0 (edges_from live v ps) well rest.0 (from_lower (position_number p.0) (suc (position_number p.0)) (edges_from live v ps) (omega arith) rest.1) in
    (both.0, from_lower low (position_number p.0) (edges_from live v (p ∷ ps)) rises.0 both.1)

under_sorted : (live : List Edge) (v : Vertex) → AllByRecursion IsWellFormed live → AreSorted v (edges_under live v)
under_sorted live v well = (from_sorted live v well 0 (positions v.ctor) (positions_rise v.ctor)).0

-- ---- what stands under a vertex

children_sorted : (live : List Edge) (v : Vertex) (forest : Forest) → AllByRecursion IsWellFormed live → AreSorted v (child_edges forest) → AreChildren live forest → IsWellSorted v forest
children_sorted live v none well sorted are = tt
children_sorted live v (multi_ref e rest) well sorted are = (sorted.0, children_sorted live v rest well sorted.1 are.1)
children_sorted live v (cycle_ref e rest) well sorted are = (sorted.0, children_sorted live v rest well sorted.1 are.1)
children_sorted live v (tree e below rest) well sorted are =
    let under : AreSorted e.target (child_edges below) = subst (AreSorted e.target) (sym are.1) (under_sorted live e.target well) in
    (sorted.0, children_sorted live e.target below well under are.2, children_sorted live v rest well sorted.1 are.3)

pub stands_sorted : (live : List Edge) (v : Vertex) (forest : Forest) → AllByRecursion IsWellFormed live → StandsUnder live v forest → IsWellSorted v forest
stands_sorted live v forest well stands =
    children_sorted live v forest well (subst (AreSorted v) (sym stands.edges) (under_sorted live v well)) stands.children

pub trees_sorted : (edits : List Edit) (live : List Edge) (v : Vertex) (forest : Forest) → AreLive (graph edits) live → StandsUnder live v forest → IsWellSorted v forest
trees_sorted edits live v forest are stands = stands_sorted live v forest (live_well_formed edits live are) stands

-- ---- the trees and the grove of a graph

pub sorted_tree : (live : List Edge) (v : Vertex) (nodes : List Node) → AllByRecursion IsWellFormed live → IsTreeOf live v nodes → IsSortedTree nodes
sorted_tree live v nodes well of_v = record { head = v; forest = of_v.forest; well_sorted = stands_sorted live v of_v.forest well of_v.stands; listed = of_v.listed }

sorted_trees : (live : List Edge) (vs : List Vertex) (ts : List (List Node)) → AllByRecursion IsWellFormed live → AreTreesOf live vs ts → AreSortedTrees ts
sorted_trees live [] [] well of_vs = tt
sorted_trees live [] (t ∷ ts) well of_vs = absurd of_vs
sorted_trees live (v ∷ vs) [] well of_vs = absurd of_vs
sorted_trees live (v ∷ vs) (t ∷ ts) well of_vs = (sorted_tree live v t well of_vs.0, sorted_trees live vs ts well of_vs.1)

-- the grove of a graph whose live edges are well formed
pub sorted_grove : (g : Graph) (grove : Grove) → ((e : Edge) → g e ≡ Live → IsWellFormed e) → IsGrove g grove → IsSortedGrove grove
sorted_grove g grove each is =
    let well = well_formed_of g is.live each is.are_live in
    record { none = sorted_trees is.live _ grove.none well is.none; multi = sorted_trees is.live _ grove.multi well is.multi; cycle = sorted_trees is.live _ grove.cycle well is.cycle }

pub groves_sorted : (edits : List Edit) (grove : Grove) → IsGrove (graph edits) grove → IsSortedGrove grove
groves_sorted edits grove is = sorted_grove (graph edits) grove (well_formed_from_live edits) is
