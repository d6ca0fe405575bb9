-- The vertices near the edit of the worked example, and its size.
use Rattle.std.proofs.Common.{◌≡◌, ◌⊎◌, inl, inr, Bool, true, false, List, [], ◌∷◌, refl, sym, subst}
use Rattle.std.specs.Prelude.{◌||◌}
use Rattle.std.specs.List.{AllByRecursion}
use Rattle.grove_edits.specs.declared.vertex.Vertex.{Vertex}
use Rattle.grove_edits.specs.Edit.{edit_edge}
use Rattle.grove_edits.specs.Graph.{graph}
use Rattle.grove_edits.specs.Vertex.{is_same_vertex, stands_in}
use Rattle.grove_edits.proofs.Vertices.{same_vertex_exact}
use Rattle.graph_words.specs.Whole.{AreLive}
use Rattle.graph_words.proofs.Returns.{some_same}
use Rattle.grove_terms.proofs.OneGrove.{live_are, vertices_of, vertices_are, some_grove, one_live}
use Rattle.kept_records.specs.Change.{IsNear, AreNear, CyclesStay, trees_in}
use Rattle.kept_records.specs.Size.{IsSizeBy, of_near, IsSize}
use Rattle.kept_records.proofs.Edited.{near_vertex}
use Rattle.kept_records.proofs.OneSize.{near_in_graphs}
use Rattle.kept_records.proofs.Short.{cycles_stay_apart}
use Rattle.mark_tests.specs.Near.{function, body, to_annotation, edits, before, after, near}
use Rattle.mark_tests.proofs.Near.{argument_differs, body_is_far}

pub live_before : AreLive (graph edits) before
live_before = live_are edits

pub live_after : AreLive (graph (to_annotation ∷ edits)) after
live_after = live_are (to_annotation ∷ edits)

-- what is true of each vertex of a list
all_stand : (P : Vertex → Type 0) (xs : List Vertex) → AllByRecursion P xs → (v : Vertex) → stands_in v xs ≡ true → P v
all_stand P [] all v stands = absurd cc
all_stand P (x ∷ xs) all v stands = by_test (is_same_vertex x v) refl stands (all_stand P xs all.1 v) where
  by_test : (b : Bool) → is_same_vertex x v ≡ b → (b || stands_in v xs) ≡ true → (stands_in v xs ≡ true → P v) → P v
  by_test true same h later = subst P (same_vertex_exact x v same) all.0
  by_test false other h later = later h

-- ---- the vertices near the edit

near_or_body : AllByRecursion (λ v. (stands_in v near ≡ true) ⊎ (body ≡ v)) (vertices_of (to_annotation ∷ edits))
near_or_body = (inl refl, (inl refl, (inl refl, (inl refl, (inl refl, (inr refl, tt))))))

each_near : (v : Vertex) → IsNear (edit_edge to_annotation) before after v → stands_in v near ≡ true
each_near v is =
    by_place
    (all_stand (λ x. (stands_in x near ≡ true) ⊎ (body ≡ x)) (vertices_of (to_annotation ∷ edits)) near_or_body v
    ((vertices_are (to_annotation ∷ edits)).each v (near_vertex edits to_annotation before after live_before live_after v is))) where
      by_place : (stands_in v near ≡ true) ⊎ (body ≡ v) → stands_in v near ≡ true
      by_place (inl stands) = stands
      by_place (inr one) = absurd (body_is_far (subst (IsNear (edit_edge to_annotation) before after) (sym one) is))

all_near : AllByRecursion (IsNear (edit_edge to_annotation) before after) near
all_near = (inl refl, (inl refl, (inl refl, (inl refl, (inr argument_differs, tt)))))

pub near_are : AreNear (edit_edge to_annotation) before after near
near_are = record {
  once = (refl, (refl, (refl, (refl, (refl, tt)))));
  each = each_near;
  no_other = all_stand (IsNear (edit_edge to_annotation) before after) near all_near;
}

-- ---- the size

cycles_stay : CyclesStay before after
cycles_stay = cycles_stay_apart edits to_annotation before after live_before live_after refl (λ w up. absurd cc) (λ w up. sym (some_same function w up))

pub size : IsSize (edit_edge to_annotation) (graph edits) (graph (to_annotation ∷ edits)) 14
size =
    let a = some_grove edits in
    let b = some_grove (to_annotation ∷ edits) in
    record {
      grove_before = a.0;
      grove_after = b.0;
      is_before = a.1;
      is_after = b.1;
      size =
          subst (λ old. IsSizeBy (edit_edge to_annotation) (graph edits) (graph (to_annotation ∷ edits)) old b.1.live (trees_in a.0) (trees_in b.0) 14)
          (one_live (graph edits) before a.1.live live_before a.1.are_live)
          (subst (λ new. IsSizeBy (edit_edge to_annotation) (graph edits) (graph (to_annotation ∷ edits)) before new (trees_in a.0) (trees_in b.0) 14)
          (one_live (graph (to_annotation ∷ edits)) after b.1.live live_after b.1.are_live)
          (of_near cycles_stay near (near_in_graphs edits to_annotation before after live_before live_after near near_are) refl));
    }
