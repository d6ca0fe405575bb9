-- Every edit has exactly one size, and it is the same by the live edges alone.
use Rattle.std.proofs.Common.{◌≡◌, inl, inr, ℕ, Bool, true, false, List, ◌∷◌, refl, sym, ap, subst, ◌∙◌, arith}
use Rattle.grove_edits.specs.declared.vertex.Vertex.{Vertex}
use Rattle.grove_edits.specs.declared.edge.Edge.{Edge}
use Rattle.grove_edits.specs.declared.edit.Edit.{Edit}
use Rattle.grove_edits.specs.Edit.{edit_edge}
use Rattle.grove_edits.specs.Graph.{Graph, IsSame, graph}
use Rattle.grove_edits.specs.Vertex.{stands_in}
use Rattle.graph_words.specs.Class.{is_cycle_root}
use Rattle.graph_words.specs.Whole.{AreLive}
use Rattle.graph_words.specs.Cycle.{is_on_cycle}
use Rattle.grove_terms.specs.declared.node.Node.{Node}
use Rattle.grove_terms.proofs.OneGrove.{vertices_of, vertices_are, one_live, one_grove, some_grove}
use Rattle.kept_records.specs.Kept.{Records, AreKept}
use Rattle.kept_records.specs.Change.{CyclesStay, trees_in, node_count, is_on_walks, IsNear, AreNear, weight, near_size}
use Rattle.kept_records.specs.Size.{HasOtherRecord, differs, came, went, IsNearIn, AreNearIn, IsSizeBy, of_trees, of_near, IsSize}
use Rattle.kept_records.proofs.Decided.{AreSameOrNot, edge_or, list_or}
use Rattle.kept_records.proofs.Nodes.{some_touched, one_touched}
use Rattle.kept_records.proofs.Sizes.{sum_within}
use Rattle.kept_records.proofs.Raised.{vertex_was}
use Rattle.kept_records.proofs.Touched.{vertex_stays}
use Rattle.kept_records.proofs.Edited.{has_near, near_vertex, roots_stay, root_ends, root_begins, never_on_both}

-- ---- vertices that came

module _ (edits : List Edit) (edit : Edit) (old new : List Edge) (live_old : AreLive (graph edits) old) (live_new : AreLive (graph (edit ∷ edits)) new) where
  in_graphs : (v : Vertex) → IsNear (edit_edge edit) old new v → IsNearIn (edit_edge edit) (graph edits) (graph (edit ∷ edits)) old new v
  in_graphs v (inl on) = inl on
  in_graphs v (inr other) = inr (by_test (stands_in v (vertices_of edits)) refl) where
    by_test : (b : Bool) → stands_in v (vertices_of edits) ≡ b → HasOtherRecord (graph edits) (graph (edit ∷ edits)) old new v
    by_test true stands = differs ((vertices_are edits).no_other v stands) (near_vertex edits edit old new live_old live_new v (inr other)) other
    by_test false stands =
        came (λ is. let clash : true ≡ false = sym ((vertices_are edits).each v is) ∙ stands in cc) (near_vertex edits edit old new live_old live_new v (inr other))

  by_edges : (v : Vertex) → IsNearIn (edit_edge edit) (graph edits) (graph (edit ∷ edits)) old new v → IsNear (edit_edge edit) old new v
  by_edges v (inl on) = inl on
  by_edges v (inr (differs was is other)) = inr other
  by_edges v (inr (went was gone)) = absurd (gone (vertex_stays edits edit v was))
  by_edges v (inr (came was_not is)) = by_test (is_on_walks (edit_edge edit) old new v) refl where
    by_test : (b : Bool) → is_on_walks (edit_edge edit) old new v ≡ b → IsNear (edit_edge edit) old new v
    by_test true on = inl on
    by_test false off = absurd (was_not (vertex_was edits edit old new v is off))

  pub near_in_graphs : (near : List Vertex) → AreNear (edit_edge edit) old new near → AreNearIn (edit_edge edit) (graph edits) (graph (edit ∷ edits)) old new near
  near_in_graphs near are = record {
    once = are.once;
    each = λ v is. are.each v (by_edges v is);
    no_other = λ v stands. in_graphs v (are.no_other v stands);
  }

  pub near_by_edges : (near : List Vertex) → AreNearIn (edit_edge edit) (graph edits) (graph (edit ∷ edits)) old new near → AreNear (edit_edge edit) old new near
  near_by_edges near are = record {
    once = are.once;
    each = λ v is. are.each v (in_graphs v is);
    no_other = λ v stands. by_edges v (are.no_other v stands);
  }

-- ---- one size

one_near : (e : Edge) (g h : Graph) (old new : List Edge) (a b : List Vertex) → AreNearIn e g h old new a → AreNearIn e g h old new b → near_size old new a ≡ near_size old new b
one_near e g h old new a b of_a of_b =
    let there = sum_within (weight old new) a b of_a.once (λ v stands. of_b.each v (of_a.no_other v stands)) in
    let back = sum_within (weight old new) b a of_b.once (λ v stands. of_a.each v (of_b.no_other v stands)) in
    omega (arith, there, back)

one_size_by : (e : Edge) (g h : Graph) (old new : List Edge) (before after : List (List Node)) (m n : ℕ) → IsSizeBy e g h old new before after m → IsSizeBy e g h old new before after n → m ≡ n
one_size_by e g h old new before after m n (of_trees moves s s_are is_m) (of_trees also t t_are is_n) = is_m ∙ ap node_count (one_touched before after s t s_are t_are) ∙ sym is_n
one_size_by e g h old new before after m n (of_trees moves s s_are is_m) (of_near stay near near_are is_n) = absurd (moves stay)
one_size_by e g h old new before after m n (of_near stay near near_are is_m) (of_trees moves t t_are is_n) = absurd (moves stay)
one_size_by e g h old new before after m n (of_near stay near near_are is_m) (of_near also others others_are is_n) = is_m ∙ one_near e g h old new near others near_are others_are ∙ sym is_n

pub one_size : (e : Edge) (g h : Graph) (m n : ℕ) → IsSize e g h m → IsSize e g h n → m ≡ n
one_size e g h m n a b =
    let trees_before = ap trees_in (one_grove g b.grove_before a.grove_before b.is_before a.is_before) in
    let trees_after = ap trees_in (one_grove h b.grove_after a.grove_after b.is_after a.is_after) in
    one_size_by e g h a.is_before.live a.is_after.live (trees_in a.grove_before) (trees_in a.grove_after) m n a.size
    (subst (λ old. IsSizeBy e g h old a.is_after.live (trees_in a.grove_before) (trees_in a.grove_after) n) (one_live g b.is_before.live a.is_before.live b.is_before.are_live a.is_before.are_live)
    (subst (λ new. IsSizeBy e g h b.is_before.live new (trees_in a.grove_before) (trees_in a.grove_after) n) (one_live h b.is_after.live a.is_after.live b.is_after.are_live a.is_after.are_live)
    (subst (λ ts. IsSizeBy e g h b.is_before.live b.is_after.live ts (trees_in a.grove_after) n) trees_before
    (subst (λ ts. IsSizeBy e g h b.is_before.live b.is_after.live (trees_in b.grove_before) ts n) trees_after b.size))))

-- ---- some size

abbrev HasSize : List Edit → Edit → List Edge → List Edge → List (List Node) → List (List Node) → Type 0
HasSize edits edit old new before after = (n : ℕ) × IsSizeBy (edit_edge edit) (graph edits) (graph (edit ∷ edits)) old new before after n

some_size_by : (edits : List Edit) (edit : Edit) (old new : List Edge) → AreLive (graph edits) old → AreLive (graph (edit ∷ edits)) new → (before after : List (List Node))
    → HasSize edits edit old new before after
some_size_by edits edit old new live_old live_new before after = by_cycles (is_on_cycle old (edit_edge edit).target) (is_on_cycle new (edit_edge edit).target) refl refl where
  stays : CyclesStay old new → HasSize edits edit old new before after
  stays stay =
      let near = has_near edits edit old new live_old live_new in
      (near_size old new near.0, of_near stay near.0 (near_in_graphs edits edit old new live_old live_new near.0 near.1) refl)

  moves : (CyclesStay old new → ⊥) → HasSize edits edit old new before after
  moves move = let t = some_touched before after in (node_count t.0, of_trees move t.0 t.1 refl)

  on_both : is_on_cycle old (edit_edge edit).target ≡ true → is_on_cycle new (edit_edge edit).target ≡ true → AreSameOrNot old new → HasSize edits edit old new before after
  on_both on_old on_new (inl one) = stays (λ v. ap (λ live. is_cycle_root live v) one)
  on_both on_old on_new (inr differ) = absurd (never_on_both edits edit old new live_old live_new differ on_old on_new)

  by_cycles : (a b : Bool) → is_on_cycle old (edit_edge edit).target ≡ a → is_on_cycle new (edit_edge edit).target ≡ b → HasSize edits edit old new before after
  by_cycles false false off_old off_new = stays (roots_stay edits edit old new live_old live_new off_old off_new)
  by_cycles true false on_old off_new = moves (root_ends edits edit old new live_old live_new on_old off_new)
  by_cycles false true off_old on_new = moves (root_begins edits edit old new live_old live_new off_old on_new)
  by_cycles true true on_old on_new = on_both on_old on_new (list_or edge_or old new)

pub some_size : (edits : List Edit) (edit : Edit) → (n : ℕ) × IsSize (edit_edge edit) (graph edits) (graph (edit ∷ edits)) n
some_size edits edit =
    let a = some_grove edits in
    let b = some_grove (edit ∷ edits) in
    let n = some_size_by edits edit a.1.live b.1.live a.1.are_live b.1.are_live (trees_in a.0) (trees_in b.0) in
    (n.0, record { grove_before = a.0; grove_after = b.0; is_before = a.1; is_after = b.1; size = n.1 })

-- ---- graphs that are the same

pub same_graph : (g h : Graph) → IsSame g h → g ≡ h
same_graph g h same = λ j e. same e j

pub live_along : (g h : Graph) (live : List Edge) → IsSame g h → AreLive g live → AreLive h live
live_along g h live same are = subst (λ (x : Graph). AreLive x live) (same_graph g h same) are

pub kept_along : (g h : Graph) (live : List Edge) (records : Records) → IsSame g h → AreKept g live records → AreKept h live records
kept_along g h live records same are = subst (λ (x : Graph). AreKept x live records) (same_graph g h same) are

pub size_along : (e : Edge) (g h i j : Graph) (n : ℕ) → IsSame g i → IsSame h j → IsSize e g h n → IsSize e i j n
size_along e g h i j n first second is =
    subst (λ (x : Graph). IsSize e x j n) (same_graph g i first) (subst (λ (x : Graph). IsSize e g x n) (same_graph h j second) is)
