-- Of the vertices from the source of an edge up to the head of its tree the same is demanded in both graphs.
use Rattle.std.proofs.Common.{◌≡◌, ◌⊎◌, inl, inr, Bool, true, false, List, [], ◌∷◌, ◌++◌, refl, sym, ap, subst, ◌∙◌}
use Rattle.std.specs.Prelude.{Option, Some}
use Rattle.std.specs.List.{AllByRecursion}
use Rattle.grove_sorts.specs.declared.sort.Sort.TheVariants.{Exp}
use Rattle.grove_sorts.specs.Position.{is_same_position}
use Rattle.grove_sorts.specs.Ctor.{sort_at, sort_of_ctor}
use Rattle.grove_sorts.proofs.Orders.{same_position_laws}
use Rattle.grove_edits.specs.declared.vertex.Vertex.{Vertex}
use Rattle.grove_edits.specs.declared.edge.Edge.{Edge}
use Rattle.grove_edits.specs.Edge.{IsWellFormed}
use Rattle.grove_edits.specs.Graph.{Graph}
use Rattle.grove_edits.specs.Vertex.{is_same_vertex, stands_in}
use Rattle.grove_edits.proofs.Vertices.{same_vertex_exact}
use Rattle.graph_words.specs.declared.class.Class.TheVariants.{Inner}
use Rattle.graph_words.specs.Live.{parents_of}
use Rattle.graph_words.specs.Class.{class}
use Rattle.graph_words.specs.Whole.{IsVertexOf, AreLive}
use Rattle.graph_words.proofs.Chains.{IsChain, has_chain, chain_is_one}
use Rattle.grove_terms.specs.Forest.{Forest, child_edges, StandsUnder}
use Rattle.mark_step.specs.Expression.{Demanded}
use Rattle.kept_records.specs.Kept.{Kept, Records, AreKept, expression_of, demanded_at, IsTreeIn, Stands}
use Rattle.kept_records.specs.Local.{scope_in, wanted_in, kept_demand}
use Rattle.kept_records.specs.Change.{Changes, CyclesStay}
use Rattle.kept_records.specs.Short.{SourceAloneSees}
use Rattle.kept_records.proofs.Sorts.{IsJudged}
use Rattle.kept_records.proofs.Children.{sole_parent, tree_inner, tree_stands, IsTreeOf, under_are_of, children_are_of}
use Rattle.kept_records.proofs.Standing.{stands_under, below_inner, edge_of_child, source_of_child, child_stands, has_place}
use Rattle.kept_records.proofs.Scratch.{top_alone, judged_above, kept_there, target_vertex, demand_kept}
use Rattle.kept_records.proofs.Edits.{under_stay}
use Rattle.kept_records.proofs.Alike.{Alike, alike_demand, are_alike}
use Rattle.kept_records.proofs.Once.{longer, same_turn}
use Rattle.kept_records.proofs.Line.{chain_of, find_on, itself_first}
use Rattle.kept_records.proofs.Line as line

one_edge_of : (d e : Edge) → d ∷ [] ≡ e ∷ [] → d ≡ e
one_edge_of d e same = cc

module _ (e : Edge) (old new : List Edge) (change : Changes e old new) (stay : CyclesStay old new) (well_old : AllByRecursion IsWellFormed old) (well_new : AllByRecursion IsWellFormed new) (sees : SourceAloneSees e old new) where
  abbrev on_line : Vertex → Bool
  on_line = line.on_line e old new change stay

  -- a vertex of the line, and what stands above it
  record IsStep (v : Vertex) (us : List Vertex) : Type 0 where
    before : List Vertex
    split : line.line e old new change stay ≡ before ++ v ∷ us

  step_at : (u : Vertex) (us : List Vertex) (v : Vertex) (f : Forest) (d : Demanded) → Stands new (u ∷ us) v f d → on_line v ≡ true → IsStep v (u ∷ us)
  step_at u us v f d s on =
      let r = find_on new e.source (line.rises e old new change stay) (has_chain new e.source).is v on in
      let one = chain_is_one new v r.behind (u ∷ us) r.chain (chain_of new well_new (u ∷ us) v f d s) in
      record { before = r.before; split = r.split ∙ ap (λ ws. r.before ++ v ∷ ws) one }

  -- the vertex above one of the line is on it, and is not the source
  above_on : (u : Vertex) (us : List Vertex) (v : Vertex) (f : Forest) (d : Demanded) → Stands new (u ∷ us) v f d → on_line v ≡ true → on_line u ≡ true
  above_on u us v f d s on =
      let r = step_at u us v f d s on in
      ap (stands_in u) r.split ∙ line.stands_behind r.before u (v ∷ u ∷ us) (line.stands_behind (v ∷ []) u (u ∷ us) (itself_first u us))

  above_no_source : (u : Vertex) (us : List Vertex) (v : Vertex) (f : Forest) (d : Demanded) → Stands new (u ∷ us) v f d → on_line v ≡ true → u ≡ e.source → ⊥
  above_no_source u us v f d s on one =
      let r = find_on new e.source (line.rises e old new change stay) (has_chain new e.source).is v on in
      let chain = chain_is_one new v r.behind (u ∷ us) r.chain (chain_of new well_new (u ∷ us) v f d s) in
      let rises = chain_is_one new e.source us (line.rises e old new change stay) (subst (λ x. IsChain new x us) one (chain_of new well_new us u s.0 s.1 s.2)) (has_chain new e.source).is in
      longer (line.line e old new change stay) r.before v (r.split ∙ ap (λ ws. r.before ++ v ∷ ws) (chain ∙ ap (λ x. x ∷ us) one ∙ ap (λ ws. e.source ∷ ws) rises))

  -- ---- what others than the source have for children

  module _ (u : Vertex) (us : List Vertex) (v : Vertex) (f : Forest) (d : Demanded) (s : Stands new (u ∷ us) v f d) (on : on_line v ≡ true) where
    under_new : StandsUnder new u s.0
    under_new = stands_under new us u s.0 s.1 s.2

    not_source : is_same_vertex e.source u ≡ false
    not_source = by_test (is_same_vertex e.source u) refl where
      by_test : (b : Bool) → is_same_vertex e.source u ≡ b → is_same_vertex e.source u ≡ false
      by_test true same = absurd (above_no_source u us v f d s on (sym (same_vertex_exact e.source u same)))
      by_test false other = other

    classes : AllByRecursion (λ x. class old x.target ≡ class new x.target) (child_edges s.0)
    classes = all (child_edges s.0) (subst (AllByRecursion (IsTreeOf new u)) (sym under_new.edges) (under_are_of new well_new u)) where
      all : (es : List Edge) → AllByRecursion (IsTreeOf new u) es → AllByRecursion (λ x. class old x.target ≡ class new x.target) es
      all [] of = tt
      all (x ∷ xs) of = (line.seen_by_others e old new change stay sees x (inr of.0.held) (λ one. above_no_source u us v f d s on (sym of.0.source ∙ one)), all xs of.1)

    -- a tree at another position is off the line
    other_off : (x : Edge) (c : Forest) → IsTreeIn s.0 x c → is_same_position x.position s.3.edge.position ≡ false → on_line x.target ≡ false
    other_off x c is other = by_test (on_line x.target) refl where
      of : IsTreeOf new u x
      of = children_are_of new well_new u s.0 under_new.edges x c is

      refuted : on_line x.target ≡ true → ⊥
      refuted there =
          let stands = child_stands new well_new u us s.0 s.1 s.2 x c is in
          let a = step_at u us x.target c (demanded_at (expression_of u s.0 s.1) s.0 x.position) stands there in
          let b = step_at u us v f d s on in
          let target : x.target ≡ v = same_turn a.before b.before (u ∷ us) x.target v (sym a.split ∙ b.split) in
          let one : x ≡ s.3.edge =
          one_edge_of x s.3.edge (sym (sole_parent new x of.held (tree_inner new s.0 under_new.children x c is)) ∙ ap (λ z. parents_of z new) target ∙ edge_of_child new well_new u us v f d s) in
          let clash : true ≡ false = sym (same_position_laws.refl s.3.edge.position) ∙ ap (λ (z : Edge). is_same_position z.position s.3.edge.position) (sym one) ∙ other in
          cc

      by_test : (b : Bool) → on_line x.target ≡ b → on_line x.target ≡ false
      by_test true there = absurd (refuted there)
      by_test false off = off

    alike : (g : Forest) → StandsUnder old u g → Alike s.3.edge.position g s.0
    alike g under_old =
        are_alike old new s.3.edge.position g s.0 (under_old.edges ∙ under_stay e old new change u not_source ∙ sym under_new.edges) under_old.children under_new.children classes
        (λ x c is other. line.stood_under e old new change stay sees x.target c (other_off x c is other) (tree_stands new s.0 under_new.children x c is))

  -- ---- along the line

  pub demand_along : (us : List Vertex) (v : Vertex) (f : Forest) (d : Demanded) → Stands new us v f d → on_line v ≡ true → (ws : List Vertex) (f' : Forest) (d' : Demanded) → Stands old ws v f' d' → IsJudged v.ctor → d' ≡ d
  demand_along [] v f d s on [] f' d' s' judged = s'.2 ∙ sym s.2
  demand_along [] v f d s on (w ∷ ws) f' d' s' judged = absurd ((line.line_stays e old new change stay sees v on).heads s.0 (below_inner old w ws v f' d' s'))
  demand_along (u ∷ us) v f d s on [] f' d' s' judged = absurd (s'.0 ((line.line_stays e old new change stay sees v on).inner (below_inner new u us v f d s)))
  demand_along (u ∷ us) v f d s on (w ∷ ws) f' d' s' (inr top) =
      top_alone old well_old (w ∷ ws) v f' d' s' top ∙ sym (top_alone new well_new (u ∷ us) v f d s top)
  demand_along (u ∷ us) v f d s on (w ∷ ws) f' d' s' (inl sort) =
      s'.3.demanded
      ∙ ap (λ (x : Edge). demanded_at (expression_of w s'.0 s'.1) s'.0 x.position) edge
      ∙ ap (λ x. demanded_at (expression_of x s'.0 s'.1) s'.0 s.3.edge.position) above
      ∙ alike_demand s.3.edge.position u wants s'.0 s.0 (alike u us v f d s on s'.0 (subst (λ x. StandsUnder old x s'.0) above (stands_under old ws w s'.0 s'.1 s'.2))) s'.1
      ∙ ap (λ given. demanded_at (expression_of u s.0 given) s.0 s.3.edge.position)
      (demand_along us u s.0 s.1 s.2 (above_on u us v f d s on) ws s'.0 s'.1 (subst (λ x. Stands old ws x s'.0 s'.1) above s'.2) (judged_above new well_new u us v f d s sort))
      ∙ sym s.3.demanded
    where
      inner : class new v ≡ Inner
      inner = below_inner new u us v f d s

      edge : s'.3.edge ≡ s.3.edge
      edge =
          one_edge_of s'.3.edge s.3.edge
          (sym (edge_of_child old well_old w ws v f' d' s') ∙ (line.line_stays e old new change stay sees v on).parents inner ∙ edge_of_child new well_new u us v f d s)

      above : w ≡ u
      above = sym (source_of_child old well_old w ws v f' d' s') ∙ ap (λ (x : Edge). x.source) edge ∙ source_of_child new well_new u us v f d s

      of : IsTreeOf new u s.3.edge
      of = children_are_of new well_new u s.0 (stands_under new us u s.0 s.1 s.2).edges s.3.edge f s.3.is_tree

      wants : sort_at u.ctor s.3.edge.position ≡ Some Exp
      wants = of.sorted ∙ ap (λ (x : Vertex). Some (sort_of_ctor x.ctor)) s.3.target ∙ ap Some sort

  -- so it is what the record says
  module _ (g : Graph) (live_old : AreLive g old) (records : Records) (kept : AreKept g old records) (decided : (v : Vertex) → IsVertexOf g v ⊎ (IsVertexOf g v → ⊥)) where
    pub kept_along : (us : List Vertex) (v : Vertex) (f : Forest) (d : Demanded) → Stands new us v f d → on_line v ≡ true → IsJudged v.ctor → kept_demand records v ≡ d
    kept_along us v f d s on judged = by_vertex (decided v) (has_place old well_old v).above (has_place old well_old v).stands where
      by_vertex : IsVertexOf g v ⊎ (IsVertexOf g v → ⊥) → (ws : List Vertex) → Stands old ws v (has_place old well_old v).forest (has_place old well_old v).demanded → kept_demand records v ≡ d
      by_vertex (inl is) ws s' =
          demand_there is ws s' ∙ demand_along us v f d s on ws (has_place old well_old v).forest (has_place old well_old v).demanded s' judged where
            demand_there : IsVertexOf g v → (ws : List Vertex) → Stands old ws v (has_place old well_old v).forest (has_place old well_old v).demanded → kept_demand records v ≡ (has_place old well_old v).demanded
            demand_there is ws s' =
                demand_kept (sort_of_ctor v.ctor) _ _ _ records v (kept_there g old live_old well_old records kept ws v (has_place old well_old v).forest (has_place old well_old v).demanded s' is) judged
                (λ top. top_alone old well_old ws v (has_place old well_old v).forest (has_place old well_old v).demanded s' top)
      by_vertex (inr outside) [] s' =
          ap (λ (o : Option Kept). let x : Demanded = record { scope = scope_in o; wanted = wanted_in o } in x) (kept.no_other v outside)
          ∙ sym s'.2 ∙ demand_along us v f d s on [] (has_place old well_old v).forest (has_place old well_old v).demanded s' judged
      by_vertex (inr outside) (w ∷ ws) s' =
          let under = stands_under old ws w s'.0 s'.1 s'.2 in
          let of : IsTreeOf old w s'.3.edge = children_are_of old well_old w s'.0 under.edges s'.3.edge (has_place old well_old v).forest s'.3.is_tree in
          absurd (outside (subst (IsVertexOf g) s'.3.target (target_vertex g old live_old well_old s'.3.edge of.held)))
