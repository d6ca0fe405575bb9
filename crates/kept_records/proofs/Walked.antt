-- There is a walk down the new trees, and a list of the vertices near an edit.
use Rattle.std.proofs.Common.{◌≡◌, ◌⊎◌, inl, inr, Bool, true, false, List, [], ◌∷◌, ◌++◌, refl, sym, ap, subst, ◌∙◌}
use Rattle.std.specs.Prelude.{◌||◌}
use Rattle.std.specs.List.{AllByRecursion}
use Rattle.std.proofs.lemmas.Bool.{or_left, or_right}
use Rattle.grove_sorts.specs.declared.position.Position.{Position}
use Rattle.grove_sorts.specs.declared.sort.Sort.{Sort}
use Rattle.grove_sorts.specs.declared.sort.Sort.TheVariants.{Top, Exp, Pat, Typ as TypeSort}
use Rattle.grove_sorts.specs.Ctor.{sort_of_ctor}
use Rattle.grove_edits.specs.declared.vertex.Vertex.{Vertex}
use Rattle.grove_edits.specs.declared.edge.Edge.{Edge}
use Rattle.grove_edits.specs.Edge.{IsWellFormed}
use Rattle.graph_words.specs.declared.class.Class.TheVariants.{Inner}
use Rattle.grove_edits.specs.Vertex.{is_same_vertex, stands_in}
use Rattle.graph_words.specs.Class.{class, is_same_class}
use Rattle.grove_edits.proofs.Vertices.{same_vertex_exact, same_vertex_itself}
use Rattle.graph_words.proofs.Chains.{is_inner, inner_from_test}
use Rattle.grove_terms.specs.Forest.{Forest, none, multi_ref, cycle_ref, tree}
use Rattle.grove_terms.proofs.Forests.{forest_of, root_stands}
use Rattle.mark_step.specs.Expression.{Demanded}
use Rattle.kept_records.specs.Kept.{Kept, Records, alone, kept_of, expression_of, demanded_at, children_in}
use Rattle.kept_records.specs.Local.{kept_demand}
use Rattle.kept_records.specs.Change.{is_on_walks, Differs, IsNear, StandOnce, AreNear}
use Rattle.kept_records.specs.Renewal.{HasToBeJudged, IsLeft, MakesUnder, MakesTrees, AreHeads}
use Rattle.kept_records.proofs.Standing.{one_kept, HasKept, has_kept}
use Rattle.kept_records.proofs.Decided.{AreSameOrNot, demanded_or, kept_or, children_or}

-- ---- a walk down

sort_or : (s : Sort) → (s ≡ Exp) ⊎ (s ≡ Exp → ⊥)
sort_or Top = inr (λ e. cc)
sort_or Exp = inl refl
sort_or Pat = inr (λ e. cc)
sort_or TypeSort = inr (λ e. cc)

judged_or : (e : Edge) (old new : List Edge) (records : Records) (v : Vertex) (d : Demanded) → IsLeft (is_on_walks e old new) records v d ⊎ HasToBeJudged (is_on_walks e old new) records v d
judged_or e old new records v d = by_walks (is_on_walks e old new v) refl where
  by_demand : is_on_walks e old new v ≡ false → sort_of_ctor v.ctor ≡ Exp → AreSameOrNot (kept_demand records v) d → IsLeft (is_on_walks e old new) records v d ⊎ HasToBeJudged (is_on_walks e old new) records v d
  by_demand off sort (inl is) = inl (off, λ _. is)
  by_demand off sort (inr other) = inr (inr (sort, other))

  by_sort : is_on_walks e old new v ≡ false → (sort_of_ctor v.ctor ≡ Exp) ⊎ (sort_of_ctor v.ctor ≡ Exp → ⊥) → IsLeft (is_on_walks e old new) records v d ⊎ HasToBeJudged (is_on_walks e old new) records v d
  by_sort off (inl sort) = by_demand off sort (demanded_or (kept_demand records v) d)
  by_sort off (inr other) = inl (off, λ sort. absurd (other sort))

  by_walks : (b : Bool) → is_on_walks e old new v ≡ b → IsLeft (is_on_walks e old new) records v d ⊎ HasToBeJudged (is_on_walks e old new) records v d
  by_walks true on = inr (inl on)
  by_walks false off = by_sort off (sort_or (sort_of_ctor v.ctor))

module _ (e : Edge) (old new : List Edge) (records : Records) where
  record HasMade (given : Position → Demanded) (f : Forest) : Type 0 where
    made : List (Vertex × Kept)
    makes : MakesUnder (is_on_walks e old new) records given f made

  makes_under : (f : Forest) (given : Position → Demanded) → HasMade given f
  makes_under none given = record { made = []; makes = refl }
  makes_under (multi_ref d rest) given = let r = makes_under rest given in record { made = r.made; makes = r.makes }
  makes_under (cycle_ref d rest) given = let r = makes_under rest given in record { made = r.made; makes = r.makes }
  makes_under (tree d below rest) given =
      by_cause (judged_or e old new records d.target (given d.position)) (makes_under below (demanded_at (expression_of d.target below (given d.position)) below)) (makes_under rest given) where
        by_cause : IsLeft (is_on_walks e old new) records d.target (given d.position) ⊎ HasToBeJudged (is_on_walks e old new) records d.target (given d.position)
            → HasMade (demanded_at (expression_of d.target below (given d.position)) below) below → HasMade given rest → HasMade given (tree d below rest)
        by_cause (inl left) deep wide = record { made = wide.made; makes = inl (left, wide.makes) }
        by_cause (inr judged) deep wide = record {
          made = deep.made ++ (d.target, kept_of d.target below (given d.position)) ∷ wide.made;
          makes = inr (judged, deep.made, wide.made, refl, deep.makes, wide.makes);
        }

  pub record HasMadeTrees (heads : List Vertex) : Type 0 where
    pub made : List (Vertex × Kept)
    pub makes : MakesTrees (is_on_walks e old new) new records heads made

  pub makes_trees : (heads : List Vertex) → ((v : Vertex) → stands_in v heads ≡ true → class new v ≡ Inner → ⊥) → HasMadeTrees heads
  makes_trees [] outer = record { made = []; makes = refl }
  makes_trees (head ∷ heads) outer =
      let f = forest_of new head in
      let rest = makes_trees heads (λ v stands. outer v (or_right (is_same_vertex head v) (stands_in v heads) stands)) in
      let under = makes_under f (demanded_at (expression_of head f alone) f) in
      let one = under.made ++ (head, kept_of head f alone) ∷ [] in
      let stands = root_stands new head (outer head (or_left (is_same_vertex head head) (stands_in head heads) (same_vertex_itself head))) in
      record {
        made = one ++ rest.made;
        makes = (one, rest.made, refl, record { forest = f; stands = stands; inner = under.made; made_are = refl; under = under.makes }, rest.makes);
      }

-- ---- those of some vertices for which something is so, each once

module _ (P : Vertex → Type 0) (either : (v : Vertex) → P v ⊎ (P v → ⊥)) where
  pub record ArePicked (vs picked : List Vertex) : Type 0 where
    pub once : StandOnce picked
    pub each : (v : Vertex) → stands_in v vs ≡ true → P v → stands_in v picked ≡ true
    pub no_other : (v : Vertex) → stands_in v picked ≡ true → P v

  pub pick : (vs : List Vertex) → (picked : List Vertex) × ArePicked vs picked
  pick [] = ([], record { once = tt; each = λ v stands is. absurd cc; no_other = λ v stands. absurd cc })
  pick (x ∷ xs) = by_first (either x) (pick xs) where
    passed : (picked : List Vertex) → ArePicked xs picked → (P x → stands_in x picked ≡ true) → ArePicked (x ∷ xs) picked
    passed picked are here = record { once = are.once; each = λ v stands is. by_test v (is_same_vertex x v) refl stands is; no_other = are.no_other } where
      by_test : (v : Vertex) (b : Bool) → is_same_vertex x v ≡ b → (b || stands_in v xs) ≡ true → P v → stands_in v picked ≡ true
      by_test v true one stands is =
          let same : x ≡ v = same_vertex_exact x v one in
          ap (λ z. stands_in z picked) (sym same) ∙ here (subst P (sym same) is)
      by_test v false other stands is = are.each v stands is

    put_first : (picked : List Vertex) → ArePicked xs picked → P x → stands_in x picked ≡ false → ArePicked (x ∷ xs) (x ∷ picked)
    put_first picked are here new = record {
      once = (new, are.once);
      each = λ v stands is. by_test v (is_same_vertex x v) refl stands is;
      no_other = λ v stands. by_place v (is_same_vertex x v) refl stands;
    } where
      by_test : (v : Vertex) (b : Bool) → is_same_vertex x v ≡ b → (b || stands_in v xs) ≡ true → P v → stands_in v (x ∷ picked) ≡ true
      by_test v true one stands is = or_left (is_same_vertex x v) (stands_in v picked) one
      by_test v false other stands is = or_right (is_same_vertex x v) (stands_in v picked) (are.each v stands is)

      by_place : (v : Vertex) (b : Bool) → is_same_vertex x v ≡ b → (b || stands_in v picked) ≡ true → P v
      by_place v true one stands = subst P (same_vertex_exact x v one) here
      by_place v false other stands = are.no_other v stands

    by_new : (picked : List Vertex) → ArePicked xs picked → P x → (b : Bool) → stands_in x picked ≡ b → (found : List Vertex) × ArePicked (x ∷ xs) found
    by_new picked are here true stands = (picked, passed picked are (λ _. stands))
    by_new picked are here false new = (x ∷ picked, put_first picked are here new)

    by_first : P x ⊎ (P x → ⊥) → (picked : List Vertex) × ArePicked xs picked → (found : List Vertex) × ArePicked (x ∷ xs) found
    by_first (inl here) rest = by_new rest.0 rest.1 here (stands_in x rest.0) refl
    by_first (inr not_here) rest = (rest.0, passed rest.0 rest.1 (λ is. absurd (not_here is)))

-- ---- vertices near an edit

module _ (e : Edge) (old new : List Edge) (well_old : AllByRecursion IsWellFormed old) (well_new : AllByRecursion IsWellFormed new) where
  other_or : (v : Vertex) → Differs old new v ⊎ (Differs old new v → ⊥)
  other_or v = by_parts (kept_or a.kept b.kept) (children_or (children_in old v) (children_in new v)) where
    a : HasKept old well_old v
    a = has_kept old well_old v

    b : HasKept new well_new v
    b = has_kept new well_new v

    other : ((a.kept ≡ b.kept) × (children_in old v ≡ children_in new v) → ⊥) → Differs old new v
    other differ = record {
      kept_before = a.kept;
      children_before = children_in old v;
      kept_after = b.kept;
      children_after = children_in new v;
      is_before = record { marked = a.is; children_are = refl };
      is_after = record { marked = b.is; children_are = refl };
      other = differ;
    }

    by_parts : AreSameOrNot a.kept b.kept → AreSameOrNot (children_in old v) (children_in new v) → Differs old new v ⊎ (Differs old new v → ⊥)
    by_parts (inl k) (inl c) =
        inr (λ o. o.other (
          one_kept old well_old v o.kept_before a.kept o.is_before.marked a.is ∙ k ∙ sym (one_kept new well_new v o.kept_after b.kept o.is_after.marked b.is),
          o.is_before.children_are ∙ c ∙ sym o.is_after.children_are,
        ))
    by_parts (inr k) c = inl (other (λ both. k both.0))
    by_parts (inl k) (inr c) = inl (other (λ both. c both.1))

  near_or : (v : Vertex) → IsNear e old new v ⊎ (IsNear e old new v → ⊥)
  near_or v = by_walks (is_on_walks e old new v) refl where
    by_record : is_on_walks e old new v ≡ false → Differs old new v ⊎ (Differs old new v → ⊥) → IsNear e old new v ⊎ (IsNear e old new v → ⊥)
    by_record off (inl is) = inl (inr is)
    by_record off (inr not_other) = inr refuted where
      refuted : IsNear e old new v → ⊥
      refuted (inl on) = let clash : true ≡ false = sym on ∙ off in cc
      refuted (inr is) = not_other is

    by_walks : (b : Bool) → is_on_walks e old new v ≡ b → IsNear e old new v ⊎ (IsNear e old new v → ⊥)
    by_walks true on = inl (inl on)
    by_walks false off = by_record off (other_or v)

  -- where the vertices near an edit are among some, there is a list of them
  pub some_near : (vs : List Vertex) → ((v : Vertex) → IsNear e old new v → stands_in v vs ≡ true) → (near : List Vertex) × AreNear e old new near
  some_near vs within =
      let p = pick (IsNear e old new) near_or vs in
      (p.0, record { once = p.1.once; each = λ v is. p.1.each v (within v is) is; no_other = p.1.no_other })

  head_or : (v : Vertex) → ((class new v ≡ Inner → ⊥) × (is_on_walks e old new v ≡ true)) ⊎ ((class new v ≡ Inner → ⊥) × (is_on_walks e old new v ≡ true) → ⊥)
  head_or v = by_tests (is_on_walks e old new v) (is_inner new v) refl refl where
    by_tests : (a b : Bool) → is_on_walks e old new v ≡ a → is_inner new v ≡ b → ((class new v ≡ Inner → ⊥) × (is_on_walks e old new v ≡ true)) ⊎ ((class new v ≡ Inner → ⊥) × (is_on_walks e old new v ≡ true) → ⊥)
    by_tests true false on outer = inl (λ inner. let clash : true ≡ false = sym (ap (λ c. is_same_class c Inner) inner) ∙ outer in cc, on)
    by_tests true true on inner = inr (λ both. both.0 (inner_from_test new v inner))
    by_tests false b off is = inr (λ both. let clash : true ≡ false = sym both.1 ∙ off in cc)

  -- and a list of the heads on the walks
  pub some_heads : (vs : List Vertex) → ((v : Vertex) → is_on_walks e old new v ≡ true → stands_in v vs ≡ true) → (heads : List Vertex) × AreHeads e old new heads
  some_heads vs within =
      let p = pick (λ v. (class new v ≡ Inner → ⊥) × (is_on_walks e old new v ≡ true)) head_or vs in
      (p.0, record { once = p.1.once; each = λ v outer on. p.1.each v (within v on) (outer, on); no_other = p.1.no_other })
