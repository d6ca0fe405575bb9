-- The walks up from the ends of an edit are within its size.
use Rattle.std.proofs.Common.{◌≡◌, ℕ, ◌+◌, ◌*◌, ◌≤◌, List, [], ◌∷◌, length, refl, sym, subst, arith}
use Rattle.grove_edits.specs.declared.vertex.Vertex.{Vertex}
use Rattle.grove_edits.specs.declared.edge.Edge.{Edge}
use Rattle.grove_edits.specs.declared.edit.Edit.{Edit}
use Rattle.grove_edits.specs.Edit.{edit_edge}
use Rattle.grove_edits.specs.Graph.{Graph, graph, graph_join, IsSame}
use Rattle.graph_words.specs.Walk.{walk}
use Rattle.graph_words.specs.Whole.{AreLive}
use Rattle.grove_terms.proofs.OneGrove.{one_live}
use Rattle.kept_records.specs.Change.{CyclesStay, AreNear, near_size, trees_in}
use Rattle.kept_records.specs.Size.{IsSize, IsSizeBy, of_trees, of_near}
use Rattle.kept_records.proofs.OneSize.{near_by_edges, live_along, size_along}
use Rattle.kept_records.proofs.OnWalks.{on_old_source, on_old_target, on_new_source, on_new_target}
use Rattle.kept_records.proofs.Sizes.{walk_once, length_within}
use Rattle.mark_incremental.proofs.Raised.{raised_graph}
use Rattle.mark_incremental.proofs.Roots.{some_only_root}
use Rattle.mark_incremental.proofs.WholeCost.{whole_old_source, whole_old_target, whole_new_source, whole_new_target}

-- the four walks are no longer than so much
record AreWithin (e : Edge) (old new : List Edge) (most : ℕ) : Type 0 where
  old_source : length (walk old e.source) ≤ most
  old_target : length (walk old e.target) ≤ most
  new_source : length (walk new e.source) ≤ most
  new_target : length (walk new e.target) ≤ most

near_walks : (e : Edge) (old new : List Edge) (near : List Vertex) → AreNear e old new near → (most : ℕ) → near_size old new near ≤ most → AreWithin e old new most
near_walks e old new near are most under = record {
  old_source = within (walk old e.source) (length_within e old new near are (walk old e.source) (walk_once old e.source) (λ v on. on_old_source e old new v on));
  old_target = within (walk old e.target) (length_within e old new near are (walk old e.target) (walk_once old e.target) (λ v on. on_old_target e old new v on));
  new_source = within (walk new e.source) (length_within e old new near are (walk new e.source) (walk_once new e.source) (λ v on. on_new_source e old new v on));
  new_target = within (walk new e.target) (length_within e old new near are (walk new e.target) (walk_once new e.target) (λ v on. on_new_target e old new v on));
} where
  within : (vs : List Vertex) → length vs ≤ near_size old new near → length vs ≤ most
  within vs less = omega (arith, less, under)

module _ (edits : List Edit) (edit : Edit) where
  pub size_of : (e : Edge) → edit_edge edit ≡ e → (n : ℕ) → IsSize e (graph edits) (graph (edit ∷ edits)) n → IsSize (edit_edge edit) (graph edits) (graph (edit ∷ edits)) n
  size_of e of_edge n size = subst (λ x. IsSize x (graph edits) (graph (edit ∷ edits)) n) (sym of_edge) size

  module _ (old new : List Edge) (are_old : AreLive (graph edits) old) (are_new : AreLive (graph (edit ∷ edits)) new) where
    -- where the roots of cycles stay, the size is that of the vertices near
    pub near_of : CyclesStay old new → (n : ℕ) → IsSize (edit_edge edit) (graph edits) (graph (edit ∷ edits)) n → (near : List Vertex) × AreNear (edit_edge edit) old new near × (n ≡ near_size old new near)
    near_of stay n size =
        subst (λ es. (near : List Vertex) × AreNear (edit_edge edit) es new near × (n ≡ near_size es new near)) old_is
        (subst (λ es. (near : List Vertex) × AreNear (edit_edge edit) size.is_before.live es near × (n ≡ near_size size.is_before.live es near)) new_is (by size.size)) where
          old_is : size.is_before.live ≡ old
          old_is = one_live (graph edits) size.is_before.live old size.is_before.are_live are_old

          new_is : size.is_after.live ≡ new
          new_is = one_live (graph (edit ∷ edits)) size.is_after.live new size.is_after.are_live are_new

          stay_there : CyclesStay size.is_before.live size.is_after.live
          stay_there = subst (λ es. CyclesStay es size.is_after.live) (sym old_is) (subst (λ es. CyclesStay old es) (sym new_is) stay)

          by : IsSizeBy (edit_edge edit) (graph edits) (graph (edit ∷ edits)) size.is_before.live size.is_after.live (trees_in size.grove_before) (trees_in size.grove_after) n
              → (near : List Vertex) × AreNear (edit_edge edit) size.is_before.live size.is_after.live near × (n ≡ near_size size.is_before.live size.is_after.live near)
          by (of_trees moves touched are is) = absurd (moves stay_there)
          by (of_near kept near are is) = (near, near_by_edges edits edit size.is_before.live size.is_after.live size.is_before.are_live size.is_after.are_live near are, is)

    walks_within : (n : ℕ) → IsSize (edit_edge edit) (graph edits) (graph (edit ∷ edits)) n → AreWithin (edit_edge edit) old new (2 * n + 1)
    walks_within n size =
        subst (λ es. AreWithin (edit_edge edit) es new (2 * n + 1)) old_is (subst (λ es. AreWithin (edit_edge edit) size.is_before.live es (2 * n + 1)) new_is (by size.size)) where
          old_is : size.is_before.live ≡ old
          old_is = one_live (graph edits) size.is_before.live old size.is_before.are_live are_old

          new_is : size.is_after.live ≡ new
          new_is = one_live (graph (edit ∷ edits)) size.is_after.live new size.is_after.are_live are_new

          by : IsSizeBy (edit_edge edit) (graph edits) (graph (edit ∷ edits)) size.is_before.live size.is_after.live (trees_in size.grove_before) (trees_in size.grove_after) n
              → AreWithin (edit_edge edit) size.is_before.live size.is_after.live (2 * n + 1)
          by (of_near kept near are is) =
              near_walks (edit_edge edit) size.is_before.live size.is_after.live near (near_by_edges edits edit size.is_before.live size.is_after.live size.is_before.are_live size.is_after.are_live near are) (2 * n + 1)
              (omega (arith, is))
          by (of_trees moves touched are is) =
              let root = some_only_root edits edit size.is_before.live size.is_after.live size.is_before.are_live size.is_after.are_live moves in
              record {
                old_source = whole_old_source edits edit size.is_before.live size.is_after.live size.is_before.are_live size.is_after.are_live root.0 root.1 n size;
                old_target = whole_old_target edits edit size.is_before.live size.is_after.live size.is_before.are_live size.is_after.are_live root.0 root.1 n size;
                new_source = whole_new_source edits edit size.is_before.live size.is_after.live size.is_before.are_live size.is_after.are_live root.0 root.1 n size;
                new_target = whole_new_target edits edit size.is_before.live size.is_after.live size.is_before.are_live size.is_after.are_live root.0 root.1 n size;
              }

    pub walks_before : (e : Edge) → edit_edge edit ≡ e → (n : ℕ) → IsSize e (graph edits) (graph (edit ∷ edits)) n → 3 * (length (walk old e.source) + length (walk old e.target)) ≤ 12 * n + 6
    walks_before e of_edge n size =
        subst (λ (x : Edge). 3 * (length (walk old x.source) + length (walk old x.target)) ≤ 12 * n + 6) of_edge
        (let w = walks_within n (size_of e of_edge n size) in let a = w.old_source in let b = w.old_target in omega (arith, a, b))

    pub source_before : (e : Edge) → edit_edge edit ≡ e → (n : ℕ) → IsSize e (graph edits) (graph (edit ∷ edits)) n → length (walk old e.source) ≤ 2 * n + 1
    source_before e of_edge n size = subst (λ (x : Edge). length (walk old x.source) ≤ 2 * n + 1) of_edge (walks_within n (size_of e of_edge n size)).old_source

    pub walks_after : (e : Edge) → edit_edge edit ≡ e → (n : ℕ) → IsSize e (graph edits) (graph (edit ∷ edits)) n → 3 * (length (walk new e.source) + length (walk new e.target)) ≤ 12 * n + 6
    walks_after e of_edge n size =
        subst (λ (x : Edge). 3 * (length (walk new x.source) + length (walk new x.target)) ≤ 12 * n + 6) of_edge
        (let w = walks_within n (size_of e of_edge n size) in let a = w.new_source in let b = w.new_target in omega (arith, a, b))

-- ---- from the graph before an edit

module _ (edits : List Edit) (edit : Edit) (g : Graph) (made : IsSame g (graph edits)) (e : Edge) (of_edge : edit_edge edit ≡ e) (n : ℕ) (size : IsSize (edit_edge edit) g (graph_join g (graph (edit ∷ []))) n) where
  pub size_at : IsSize e (graph edits) (graph (edit ∷ edits)) n
  size_at =
      subst (λ x. IsSize x (graph edits) (graph (edit ∷ edits)) n) of_edge
      (size_along (edit_edge edit) g (graph_join g (graph (edit ∷ []))) (graph edits) (graph (edit ∷ edits)) n made (raised_graph edits edit g (graph_join g (graph (edit ∷ []))) made (λ x. refl)) size)

  pub before_within : (old : List Edge) → AreLive g old → 3 * (length (walk old e.source) + length (walk old e.target)) ≤ 12 * n + 6
  before_within old are =
      walks_before edits edit old size_at.is_after.live (live_along g (graph edits) old made are) size_at.is_after.are_live e of_edge n size_at

  pub source_within : (old : List Edge) → AreLive g old → length (walk old e.source) ≤ 2 * n + 1
  source_within old are = source_before edits edit old size_at.is_after.live (live_along g (graph edits) old made are) size_at.is_after.are_live e of_edge n size_at
