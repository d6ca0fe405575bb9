-- The records that one walk down the new trees makes, with the kept records of all other vertices, are those of the new graph.
use Rattle.std.proofs.Common.{◌≡◌, ◌⊎◌, inl, inr, Bool, true, false, List, refl, sym, subst, ◌∙◌}
use Rattle.std.specs.Prelude.{Some, None}
use Rattle.std.specs.List.{AllByRecursion}
use Rattle.grove_sorts.specs.declared.sort.Sort.TheVariants.{Exp}
use Rattle.grove_sorts.specs.Ctor.{sort_of_ctor}
use Rattle.grove_edits.specs.declared.vertex.Vertex.{Vertex}
use Rattle.grove_edits.specs.declared.edge.Edge.{Edge}
use Rattle.grove_edits.specs.Edge.{IsWellFormed}
use Rattle.grove_edits.specs.Graph.{Graph}
use Rattle.grove_edits.specs.Vertex.{stands_in}
use Rattle.graph_words.specs.Whole.{IsVertexOf, AreLive}
use Rattle.mark_step.specs.Expression.{Demanded}
use Rattle.kept_records.specs.Kept.{Kept, Records, AreKept, Stands, IsKeptOf}
use Rattle.kept_records.specs.Local.{kept_demand}
use Rattle.kept_records.specs.Change.{Changes, CyclesStay, is_on_walks, Enters, EntersNoOther, Renews, IsNear}
use Rattle.kept_records.specs.Renewal.{HasToBeJudged, IsLeft, MakesTrees, AreHeads, put}
use Rattle.kept_records.proofs.Standing.{ArePlaces, one_place}
use Rattle.kept_records.proofs.Made as judged
use Rattle.kept_records.proofs.Names.{has_name}
use Rattle.kept_records.proofs.Near.{kept_after, near_inside}

module _ (e : Edge) (old new : List Edge) (records : Records) (h : Graph) (live_new : AreLive h new) (well_new : AllByRecursion IsWellFormed new) where
  abbrev judged_again : Vertex → Bool
  judged_again = is_on_walks e old new

  abbrev AreMade : List (Vertex × Kept) → List (Vertex × Kept) → Type 0
  AreMade = judged.AreMade judged_again new records h live_new well_new

  module _ (heads : List Vertex) (are_heads : AreHeads e old new heads) (on_vertex : (v : Vertex) → is_on_walks e old new v ≡ true → IsVertexOf h v)
      (made : List (Vertex × Kept)) (makes : MakesTrees (is_on_walks e old new) new records heads made) where
    all_made : AreMade made made × ((v : Vertex) → stands_in v heads ≡ true → has_name v made ≡ true)
    all_made =
        judged.trees_made judged_again new records h live_new well_new heads (λ v stands. let o = are_heads.no_other v stands in (o.0, o.1, on_vertex v o.1)) made made (λ w h. h) makes

    made_enters : Enters e old new records (λ v. has_name v made)
    made_enters = record {
      heads = λ v outer on. all_made.1 v (are_heads.each v outer on);
      on_walks = λ u us v f d s into on. by_on v d (judged.child_made judged_again new records h live_new well_new made all_made.0 u us v f d s into) on;
      demanded = λ u us v f d s into out sort. by_out v d (judged.child_made judged_again new records h live_new well_new made all_made.0 u us v f d s into) out sort;
    } where
      by_on : (v : Vertex) (d : Demanded) → IsLeft (is_on_walks e old new) records v d ⊎ (has_name v made ≡ true) → is_on_walks e old new v ≡ true → has_name v made ≡ true
      by_on v d (inl left) on = let clash : true ≡ false = sym on ∙ left.0 in absurd cc
      by_on v d (inr named) on = named

      by_out : (v : Vertex) (d : Demanded) → IsLeft (is_on_walks e old new) records v d ⊎ (has_name v made ≡ true) → has_name v made ≡ false → sort_of_ctor v.ctor ≡ Exp → kept_demand records v ≡ d
      by_out v d (inl left) out sort = left.1 sort
      by_out v d (inr named) out sort = let clash : true ≡ false = sym named ∙ out in absurd cc

    made_needed : EntersNoOther e old new records (λ v. has_name v made)
    made_needed us v f d s into =
        let found = judged.find_made judged_again new records h live_new well_new made made all_made.0 v into in
        let r = found.made in
        let there : Stands new r.above v r.forest r.demanded = subst (λ w. Stands new r.above w r.forest r.demanded) found.one r.stands in
        let one : ArePlaces r.above r.forest r.demanded us f d = one_place new well_new r.above us v r.forest f r.demanded d there s in
        subst (λ x. HasToBeJudged (is_on_walks e old new) records v x) one.demanded (subst (λ w. HasToBeJudged (is_on_walks e old new) records w r.demanded) found.one r.cause)

    module _ (g : Graph) (kept : AreKept g old records) (stays : (v : Vertex) → IsVertexOf g v → IsVertexOf h v) where
      made_renews : Renews h new records (λ v. has_name v made) (put made records)
      made_renews = record { inside = inside; outside = λ v out. judged.put_outside judged_again new records h live_new well_new made records v out; no_other = no_other } where
        inside : (v : Vertex) → IsVertexOf h v → has_name v made ≡ true → (k : Kept) × (put made records v ≡ Some k) × IsKeptOf new v k
        inside v vertex into =
            let found = judged.find_made judged_again new records h live_new well_new made made all_made.0 v into in
            let r = found.made in
            let of : IsKeptOf new found.m.0 found.m.1 = record { above = r.above; forest = r.forest; demanded = r.demanded; stands = r.stands; is = r.is } in
            (found.m.1, found.puts records, subst (λ w. IsKeptOf new w found.m.1) found.one of)

        by_name : (v : Vertex) → (IsVertexOf h v → ⊥) → (b : Bool) → has_name v made ≡ b → put made records v ≡ None
        by_name v outside true into =
            let found = judged.find_made judged_again new records h live_new well_new made made all_made.0 v into in
            absurd (outside (subst (IsVertexOf h) found.one found.made.vertex))
        by_name v outside false out = judged.put_outside judged_again new records h live_new well_new made records v out ∙ kept.no_other v (λ was. outside (stays v was))

        no_other : (v : Vertex) → (IsVertexOf h v → ⊥) → put made records v ≡ None
        no_other v outside = by_name v outside (has_name v made) refl

      -- put in place of the kept records, those that were made give the records of the new graph
      pub made_are_kept : (change : Changes e old new) → CyclesStay old new → AllByRecursion IsWellFormed old → AreLive g old
          → ((v : Vertex) → IsVertexOf h v → is_on_walks e old new v ≡ false → IsVertexOf g v) → AreKept h new (put made records)
      made_are_kept change stay well_old live_old was =
          kept_after e old new change stay well_old well_new g h live_old live_new was records kept (λ v. has_name v made) made_enters (put made records) made_renews

      -- and each vertex for which one was made is near
      pub made_are_near : (change : Changes e old new) → CyclesStay old new → AllByRecursion IsWellFormed old → AreLive g old
          → ((v : Vertex) → IsVertexOf h v → is_on_walks e old new v ≡ false → IsVertexOf g v) → (v : Vertex) → has_name v made ≡ true → IsNear e old new v
      made_are_near change stay well_old live_old was v into =
          let found = judged.find_made judged_again new records h live_new well_new made made all_made.0 v into in
          let r = found.made in
          let there : Stands new r.above v r.forest r.demanded = subst (λ w. Stands new r.above w r.forest r.demanded) found.one r.stands in
          let vertex : IsVertexOf h v = subst (IsVertexOf h) found.one r.vertex in
          near_inside e old new change stay well_old well_new g h live_old live_new was records kept (λ x. has_name x made) made_enters made_needed r.above v r.forest r.demanded there vertex into
