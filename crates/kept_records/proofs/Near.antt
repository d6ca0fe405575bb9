-- Judging again the vertices that an edit enters gives the records of the new graph, and each of these vertices is near the edit.
use Rattle.std.proofs.Common.{◌≡◌, ◌⊎◌, inl, inr, Bool, true, false, List, [], ◌∷◌, refl, sym, ap, subst, ◌∙◌}
use Rattle.std.specs.Prelude.{Some}
use Rattle.std.specs.List.{AllByRecursion}
use Rattle.grove_sorts.specs.declared.sort.Sort.TheVariants.{Top, Exp}
use Rattle.grove_sorts.specs.Ctor.{sort_of_ctor}
use Rattle.grove_edits.specs.declared.vertex.Vertex.{Vertex}
use Rattle.grove_edits.specs.declared.edge.Edge.{Edge}
use Rattle.grove_edits.specs.Edge.{IsWellFormed}
use Rattle.grove_edits.specs.Graph.{Graph}
use Rattle.graph_words.specs.declared.class.Class.TheVariants.{Inner}
use Rattle.graph_words.specs.Class.{class}
use Rattle.graph_words.specs.Whole.{IsVertexOf, AreLive}
use Rattle.grove_terms.specs.Forest.{Forest, StandsUnder}
use Rattle.grove_terms.proofs.Forests.{one_forest}
use Rattle.mark_step.specs.Expression.{Demanded}
use Rattle.mark_step.specs.Step.{settled}
use Rattle.marking.specs.Types.{tree_type}
use Rattle.marking.specs.Marking.{children_types}
use Rattle.kept_records.specs.Kept.{Kept, Records, AreKept, alone, kept_of, expression_of, demanded_at, Stands, IsKeptOf, children_in}
use Rattle.kept_records.specs.Local.{kept_demand}
use Rattle.kept_records.specs.Change.{Changes, CyclesStay, is_on_walks, Enters, EntersNoOther, Renews, Differs, IsNear}
use Rattle.kept_records.proofs.Standing.{stands_under, above_child, child_stands, HasPlace, has_place}
use Rattle.kept_records.proofs.Scratch.{demand_kept, kept_there, above_vertex, top_alone, judged_above, kept_of_any}
use Rattle.kept_records.proofs.OnWalks.{above_on_walks}
use Rattle.kept_records.proofs.Staying.{stood_under, class_as_before}

-- a vertex stood, with the same under it, where the same was demanded of it
pub record Stood (old : List Edge) (v : Vertex) (f : Forest) (d : Demanded) : Type 0 where
  pub above : List Vertex
  pub given : Demanded
  pub stands : Stands old above v f given
  pub demanded : sort_of_ctor v.ctor ≡ Exp → given ≡ d

module _ (e : Edge) (old new : List Edge) (change : Changes e old new) (stay : CyclesStay old new)
    (well_old : AllByRecursion IsWellFormed old) (well_new : AllByRecursion IsWellFormed new)
    (g h : Graph) (live_old : AreLive g old) (live_new : AreLive h new) (was : (v : Vertex) → IsVertexOf h v → is_on_walks e old new v ≡ false → IsVertexOf g v)
    (records : Records) (kept : AreKept g old records) where
  pub demand_there : (us : List Vertex) (v : Vertex) (f : Forest) (d : Demanded) → Stands old us v f d → IsVertexOf g v → (sort_of_ctor v.ctor ≡ Exp) ⊎ (sort_of_ctor v.ctor ≡ Top) → kept_demand records v ≡ d
  demand_there us v f d s is judged =
      demand_kept (sort_of_ctor v.ctor) d (settled (expression_of v f d) (children_types (expression_of v f d) f)) (tree_type v.ctor f) records v
      (kept_there g old live_old well_old records kept us v f d s is) judged (λ top. top_alone old well_old us v f d s top)

  -- a vertex under which stood what stands there now, and whose record says what is demanded now, stood so before
  pub stood_as_kept : (v : Vertex) (f : Forest) (d : Demanded) → StandsUnder old v f → IsVertexOf g v → (sort_of_ctor v.ctor ≡ Exp → kept_demand records v ≡ d) → Stood old v f d
  stood_as_kept v f d same is demanded =
      let p : HasPlace old well_old v = has_place old well_old v in
      let before : StandsUnder old v p.forest = stands_under old p.above v p.forest p.demanded p.stands in
      let one : p.forest ≡ f = one_forest old p.forest f (before.edges ∙ sym same.edges) before.children same.children in
      record {
        above = p.above;
        given = p.demanded;
        stands = subst (λ x. Stands old p.above v x p.demanded) one p.stands;
        demanded = λ sort. sym (demand_there p.above v p.forest p.demanded p.stands is (inl sort)) ∙ demanded sort;
      }

  -- and so did what stands below it
  pub stood_below : (u : Vertex) (us : List Vertex) (v : Vertex) (f : Forest) (d : Demanded) → (s : Stands new (u ∷ us) v f d) → Stood old u s.0 s.1 → Stood old v f d
  stood_below u us v f d s p = record {
    above = u ∷ p.above;
    given = demanded_at (expression_of u s.0 p.given) s.0 s.3.edge.position;
    stands = subst (λ w. Stands old (u ∷ p.above) w f (demanded_at (expression_of u s.0 p.given) s.0 s.3.edge.position)) s.3.target
        (child_stands old well_old u p.above s.0 p.given p.stands s.3.edge f s.3.is_tree);
    demanded = λ sort. ap (λ given. demanded_at (expression_of u s.0 given) s.0 s.3.edge.position) (same_above (judged_above new well_new u us v f d s sort)) ∙ sym s.3.demanded;
  } where
    same_above : (sort_of_ctor u.ctor ≡ Exp) ⊎ (sort_of_ctor u.ctor ≡ Top) → p.given ≡ s.1
    same_above (inl sort) = p.demanded sort
    same_above (inr top) = top_alone old well_old p.above u s.0 p.given p.stands top ∙ sym (top_alone new well_new us u s.0 s.1 s.2 top)

  -- so its kept record is the record that it has now
  pub kept_as_stood : (v : Vertex) (f : Forest) (d : Demanded) → Stood old v f d → IsVertexOf g v → records v ≡ Some (kept_of v f d)
  kept_as_stood v f d p is = kept_there g old live_old well_old records kept p.above v f p.given p.stands is ∙ ap Some (kept_of_any v f p.given d p.demanded)

  -- a vertex of which the same is demanded as before, and that stands on none of the walks, stood so before
  pub skipped : (us : List Vertex) (v : Vertex) (f : Forest) (d : Demanded) → Stands new us v f d → IsVertexOf h v → is_on_walks e old new v ≡ false
      → (sort_of_ctor v.ctor ≡ Exp → kept_demand records v ≡ d) → Stood old v f d
  skipped us v f d s is off demanded = stood_as_kept v f d (stood_under e old new change stay v f off (stands_under new us v f d s)) (was v is off) demanded

  pub kept_skipped : (us : List Vertex) (v : Vertex) (f : Forest) (d : Demanded) → Stands new us v f d → IsVertexOf h v → is_on_walks e old new v ≡ false
      → (sort_of_ctor v.ctor ≡ Exp → kept_demand records v ≡ d) → records v ≡ Some (kept_of v f d)
  kept_skipped us v f d s is off demanded = kept_as_stood v f d (skipped us v f d s is off demanded) (was v is off)

  -- an expression of which is demanded what its record does not say differs
  pub differs : (us : List Vertex) (v : Vertex) (f : Forest) (d : Demanded) → Stands new us v f d → IsVertexOf g v → sort_of_ctor v.ctor ≡ Exp → (kept_demand records v ≡ d → ⊥) → Differs old new v
  differs us v f d s is sort other =
      let p = has_place old well_old v in
      record {
        kept_before = kept_of v p.forest p.demanded;
        children_before = children_in old v;
        kept_after = kept_of v f d;
        children_after = children_in new v;
        is_before = record { marked = record { above = p.above; forest = p.forest; demanded = p.demanded; stands = p.stands; is = refl }; children_are = refl };
        is_after = record { marked = record { above = us; forest = f; demanded = d; stands = s; is = refl }; children_are = refl };
        other = λ one.
            other (demand_kept (sort_of_ctor v.ctor) d (settled (expression_of v f d) (children_types (expression_of v f d) f)) (tree_type v.ctor f) records v
            (kept_there g old live_old well_old records kept p.above v p.forest p.demanded p.stands is ∙ ap Some one.0) (inl sort) (λ top. top_alone new well_new us v f d s top));
      }

  module _ (entered : Vertex → Bool) (enters : Enters e old new records entered) where
    off_head : (v : Vertex) → (class new v ≡ Inner → ⊥) → entered v ≡ false → (b : Bool) → is_on_walks e old new v ≡ b → is_on_walks e old new v ≡ false
    off_head v outer out true on = let clash : true ≡ false = sym (enters.heads v outer on) ∙ out in absurd cc
    off_head v outer out false off = off

    off_child : (u : Vertex) (us : List Vertex) (v : Vertex) (f : Forest) (d : Demanded) → Stands new (u ∷ us) v f d → entered u ≡ true → entered v ≡ false
        → (b : Bool) → is_on_walks e old new v ≡ b → is_on_walks e old new v ≡ false
    off_child u us v f d s into out true on = let clash : true ≡ false = sym (enters.on_walks u us v f d s into on) ∙ out in absurd cc
    off_child u us v f d s into out false off = off

    -- each vertex that is not judged again stood so before
    stood : (us : List Vertex) (v : Vertex) (f : Forest) (d : Demanded) → Stands new us v f d → IsVertexOf h v → entered v ≡ false → Stood old v f d
    stood [] v f d s is out =
        let off = off_head v s.0 out (is_on_walks e old new v) refl in
        record {
          above = [];
          given = alone;
          stands = (λ inner. s.0 (sym (class_as_before e old new change stay v off) ∙ inner), stood_under e old new change stay v f off s.1, refl);
          demanded = λ _. sym s.2;
        }
    stood (u ∷ us) v f d s is out = by_test (entered u) refl (stood us u s.0 s.1 s.2 (above_vertex h new live_new well_new u us v f d s)) where
      by_test : (b : Bool) → entered u ≡ b → (entered u ≡ false → Stood old u s.0 s.1) → Stood old v f d
      by_test true into higher =
          skipped (u ∷ us) v f d s is (off_child u us v f d s into out (is_on_walks e old new v) refl) (λ sort. enters.demanded u us v f d s into out sort)
      by_test false outside higher = stood_below u us v f d s (higher outside)

    -- each vertex on the walks is judged again
    enters_walks : (us : List Vertex) (v : Vertex) (f : Forest) (d : Demanded) → Stands new us v f d → is_on_walks e old new v ≡ true → entered v ≡ true
    enters_walks [] v f d s on = enters.heads v s.0 on
    enters_walks (u ∷ us) v f d s on =
        enters.on_walks u us v f d s (enters_walks us u s.0 s.1 s.2 (above_on_walks e old new change v u on (above_child new well_new u us v f d s))) on

    off_outside : (us : List Vertex) (v : Vertex) (f : Forest) (d : Demanded) → Stands new us v f d → entered v ≡ false → is_on_walks e old new v ≡ false
    off_outside us v f d s out = by_test (is_on_walks e old new v) refl where
      by_test : (b : Bool) → is_on_walks e old new v ≡ b → is_on_walks e old new v ≡ false
      by_test true on = let clash : true ≡ false = sym (enters_walks us v f d s on) ∙ out in absurd cc
      by_test false off = off

    -- each other vertex has the kept record still
    pub kept_outside : (us : List Vertex) (v : Vertex) (f : Forest) (d : Demanded) → Stands new us v f d → IsVertexOf h v → entered v ≡ false → records v ≡ Some (kept_of v f d)
    kept_outside us v f d s is out = kept_as_stood v f d (stood us v f d s is out) (was v is (off_outside us v f d s out))

    -- so records of which those of the vertices that are judged again are new ones, and the others the kept ones, are those of the new graph
    pub kept_after : (after : Records) → Renews h new records entered after → AreKept h new after
    kept_after after renews = record { each = λ v is. each v is (entered v) refl; no_other = renews.no_other } where
      each : (v : Vertex) → IsVertexOf h v → (b : Bool) → entered v ≡ b → (k : Kept) × (after v ≡ Some k) × IsKeptOf new v k
      each v is true into = renews.inside v is into
      each v is false out =
          let p = has_place new well_new v in (
            kept_of v p.forest p.demanded,
            renews.outside v out ∙ kept_outside p.above v p.forest p.demanded p.stands is out,
            record { above = p.above; forest = p.forest; demanded = p.demanded; stands = p.stands; is = refl },
          )

    -- each vertex that is judged again is near
    pub near_inside : EntersNoOther e old new records entered → (us : List Vertex) (v : Vertex) (f : Forest) (d : Demanded) → Stands new us v f d → IsVertexOf h v → entered v ≡ true → IsNear e old new v
    near_inside no_other us v f d s is into = by_test (is_on_walks e old new v) refl (no_other us v f d s into) where
      by_test : (b : Bool) → is_on_walks e old new v ≡ b → (is_on_walks e old new v ≡ true) ⊎ ((sort_of_ctor v.ctor ≡ Exp) × (kept_demand records v ≡ d → ⊥)) → IsNear e old new v
      by_test true on either = inl on
      by_test false off (inl on) = inl on
      by_test false off (inr other) = inr (differs us v f d s (was v is off) other.0 other.1)
