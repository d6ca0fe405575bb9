-- A target that heads a tree and is judged by itself stands off the line up from the source, and so does what came with the edit.
use Rattle.std.proofs.Common.{◌≡◌, ◌⊎◌, inl, inr, Bool, true, false, List, [], ◌∷◌, refl, sym, ap, subst, ◌∙◌}
use Rattle.std.specs.Prelude.{◌||◌}
use Rattle.std.specs.List.{AllByRecursion}
use Rattle.std.proofs.lemmas.Bool.{false_from_ne_true}
use Rattle.edge_lattice.specs.declared.state.State.TheVariants.{Absent, Live}
use Rattle.grove_edits.specs.declared.vertex.Vertex.{Vertex}
use Rattle.grove_edits.specs.declared.edge.Edge.{Edge}
use Rattle.grove_edits.specs.Edge.{IsWellFormed}
use Rattle.grove_edits.specs.Graph.{Graph}
use Rattle.grove_edits.specs.Vertex.{is_same_vertex, stands_in}
use Rattle.grove_edits.proofs.Vertices.{same_vertex_exact}
use Rattle.graph_words.specs.declared.class.Class.TheVariants.{Inner}
use Rattle.graph_words.specs.Live.{holds_edge}
use Rattle.graph_words.specs.Class.{class}
use Rattle.graph_words.specs.Whole.{IsVertexOf, AreLive}
use Rattle.graph_words.proofs.Chains.{IsChain, has_chain}
use Rattle.grove_terms.specs.Forest.{Forest}
use Rattle.grove_terms.proofs.WellSorted.{held_first}
use Rattle.mark_step.specs.Expression.{Demanded}
use Rattle.kept_records.specs.Kept.{Records, AreKept, alone, Stands}
use Rattle.kept_records.specs.Local.{kept_demand}
use Rattle.kept_records.specs.Change.{Changes, CyclesStay, is_on_walks}
use Rattle.kept_records.specs.Renewal.{IsLeft}
use Rattle.kept_records.specs.Short.{SourceAloneSees, IsJudgedAnew}
use Rattle.kept_records.proofs.Sorts.{IsJudged}
use Rattle.kept_records.proofs.Children.{held_in_filter}
use Rattle.kept_records.proofs.Standing.{below_inner, has_place}
use Rattle.kept_records.proofs.Near.{demand_there}
use Rattle.kept_records.proofs.Apart.{class_or}
use Rattle.kept_records.proofs.Line as line

module _ (e : Edge) (old new : List Edge) (change : Changes e old new) (stay : CyclesStay old new) (well_old : AllByRecursion IsWellFormed old) (well_new : AllByRecursion IsWellFormed new)
    (g h : Graph) (live_old : AreLive g old) (live_new : AreLive h new) (was : (v : Vertex) → IsVertexOf h v → is_on_walks e old new v ≡ false → IsVertexOf g v)
    (decided : (v : Vertex) → IsVertexOf g v ⊎ (IsVertexOf g v → ⊥)) (held_before : (x : Edge) → holds_edge x new ≡ true → (x ≡ e → ⊥) → holds_edge x old ≡ true)
    (records : Records) (kept : AreKept g old records) (way : List Vertex) (on : Vertex → Bool) (anew : IsJudgedAnew e g h way on) where
  abbrev on_line : Vertex → Bool
  on_line = line.on_line e old new change stay

  headed_before : (v : Vertex) → (class old v ≡ Inner → ⊥) → (us : List Vertex) (f : Forest) (d : Demanded) → Stands old us v f d → d ≡ alone
  headed_before v outer [] f d s = s.2
  headed_before v outer (u ∷ us) f d s = absurd (outer (below_inner old u us v f d s))

  known_demand : (v : Vertex) → IsVertexOf g v → IsJudged v.ctor → (class old v ≡ Inner → ⊥) → kept_demand records v ≡ alone
  known_demand v is sorted outer =
      let p = has_place old well_old v in
      demand_there e old new change stay well_old well_new g h live_old live_new was records kept p.above v p.forest p.demanded p.stands is sorted
      ∙ headed_before v outer p.above p.forest p.demanded p.stands

  -- what was no vertex has no edge but that of the edit, so it stands on the line only as its source
  pub came_off_line : (v : Vertex) → (IsVertexOf g v → ⊥) → (v ≡ e.source → ⊥) → on_line v ≡ true → ⊥
  came_off_line v outside not_source is = by_list (line.find_on new e.source (line.rises e old new change stay) (has_chain new e.source).is v is) where
    refuted : (x : Edge) → holds_edge x new ≡ true → x.source ≡ v → ⊥
    refuted x held source =
        outside (subst (IsVertexOf g) source (inr (x, present x (held_before x held (λ one. not_source (sym source ∙ ap (λ (y : Edge). y.source) one))), inl refl))) where
          present : (y : Edge) → holds_edge y old ≡ true → g y ≡ Absent → ⊥
          present y held absent = let lives = live_old.no_other y held in let x : Absent ≡ Live = sym absent ∙ lives in cc

    by_chain : (x : Vertex) (ws : List Vertex) → IsChain new x ws → stands_in v ws ≡ true → ⊥
    by_chain x [] chain stands = absurd cc
    by_chain x (y ∷ ws) chain stands = by_test (is_same_vertex y v) refl stands (by_chain y ws chain.4) where
      by_test : (b : Bool) → is_same_vertex y v ≡ b → (b || stands_in v ws) ≡ true → (stands_in v ws ≡ true → ⊥) → ⊥
      by_test true same stands later =
          refuted chain.0 (held_in_filter (λ z. is_same_vertex z.target x) chain.0 new (ap (holds_edge chain.0) chain.2 ∙ held_first chain.0 [])) (chain.3 ∙ same_vertex_exact y v same)
      by_test false other stands later = later stands

    by_list : line.IsThere new v (line.line e old new change stay) → ⊥
    by_list there = by_test (is_same_vertex e.source v) refl is where
      by_test : (b : Bool) → is_same_vertex e.source v ≡ b → (b || stands_in v (line.rises e old new change stay)) ≡ true → ⊥
      by_test true same stands = not_source (sym (same_vertex_exact e.source v same))
      by_test false other stands = by_chain e.source (line.rises e old new change stay) (has_chain new e.source).is stands

  -- a target that heads a tree and is judged by itself is not above the source
  pub target_off_line : SourceAloneSees e old new → (class new e.target ≡ Inner → ⊥) → (stands_in e.target (e.source ∷ way) ≡ true → ⊥) → (IsLeft on records e.target alone → ⊥) → on_line e.target ≡ false
  target_off_line sees outer not_on_way not_left = off_line (decided e.target) where
    source_inside : stands_in e.source (e.source ∷ way) ≡ true
    source_inside = line.itself_first e.source way

    known_off : IsVertexOf g e.target → on e.target ≡ false
    known_off is = false_from_ne_true (on e.target) (λ there. by_why (anew.no_other e.target there)) where
      by_why : (stands_in e.target (e.source ∷ way) ≡ true) ⊎ (IsVertexOf h e.target × (IsVertexOf g e.target → ⊥)) → ⊥
      by_why (inl there) = not_on_way there
      by_why (inr came) = came.1 is

    off_line : IsVertexOf g e.target ⊎ (IsVertexOf g e.target → ⊥) → on_line e.target ≡ false
    off_line (inr outside) =
        false_from_ne_true (on_line e.target) (came_off_line e.target outside (λ one. not_on_way (ap (λ x. stands_in x (e.source ∷ way)) one ∙ source_inside)))
    off_line (inl is) = by_class (class_or (class old e.target) Inner) sees where
      by_class : (class old e.target ≡ Inner) ⊎ (class old e.target ≡ Inner → ⊥) → SourceAloneSees e old new → on_line e.target ≡ false
      by_class (inr headed) sees = absurd (not_left (known_off is, λ sort. known_demand e.target is (inl sort) headed))
      by_class (inl inner) (inl unchanged) = absurd (outer (sym (ap (λ live. class live e.target) unchanged) ∙ inner))
      by_class (inl inner) (inr (inl shared)) = absurd (outer (sym shared.0 ∙ inner))
      by_class (inl inner) (inr (inr from)) = line.not_above_old e old new change stay from inner
