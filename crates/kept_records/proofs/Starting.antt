-- A walk down from a vertex that stands somewhere, whatever stands above it: what it makes, each at its place and once.
use Rattle.std.proofs.Common.{◌≡◌, ◌⊎◌, inl, inr, Bool, true, List, [], ◌∷◌, ◌++◌, refl, sym, ap, subst, ◌∙◌}
use Rattle.std.specs.Prelude.{Some}
use Rattle.std.specs.List.{AllByRecursion}
use Rattle.grove_sorts.specs.declared.position.Position.{Position}
use Rattle.grove_sorts.specs.declared.sort.Sort.{Sort}
use Rattle.grove_sorts.specs.declared.sort.Sort.TheVariants.{Top, Exp, Pat, Typ as TypeSort}
use Rattle.grove_sorts.specs.declared.ctor.Ctor.{Ctor}
use Rattle.grove_sorts.specs.Ctor.{sort_of_ctor}
use Rattle.grove_edits.specs.declared.vertex.Vertex.{Vertex}
use Rattle.grove_edits.specs.declared.edge.Edge.{Edge}
use Rattle.grove_edits.specs.Edge.{IsWellFormed}
use Rattle.grove_edits.specs.Graph.{Graph}
use Rattle.graph_words.specs.Whole.{IsVertexOf, AreLive}
use Rattle.grove_terms.specs.Forest.{Forest, none, multi_ref, cycle_ref, tree, child_edges, AreChildren, StandsUnder}
use Rattle.grove_terms.proofs.Forests.{one_forest}
use Rattle.mark_step.specs.Expression.{Demanded}
use Rattle.kept_records.specs.Kept.{Kept, Records, kept_of, expression_of, demanded_at, Stands}
use Rattle.kept_records.specs.Change.{StandOnce}
use Rattle.kept_records.specs.Renewal.{HasToBeJudged, MakesUnder, names}
use Rattle.kept_records.specs.Short.{MakesFrom}
use Rattle.kept_records.proofs.Sorts.{IsJudged, above_expression, never_top}
use Rattle.kept_records.proofs.Children.{IsTreeOf, under_are_of}
use Rattle.kept_records.proofs.Standing.{stands_under}
use Rattle.kept_records.proofs.Scratch.{kept_of_any}
use Rattle.kept_records.proofs.Names.{has_name, name_first, name_left, name_right}
use Rattle.kept_records.proofs.Made.{IsPartOf, IsMade, AreMade, UnderMade, made_append, under_made}
use Rattle.kept_records.proofs.Once.{EdgesOnce, under_once, Passes, passes_on, not_below, OnceUnder, once_under, name_split, once_join}

-- a vertex is judged as is demanded of it, or it is not
pub judged_or : (c : Ctor) → IsJudged c ⊎ (IsJudged c → ⊥)
judged_or c = by_sort (sort_of_ctor c) refl where
  by_sort : (s : Sort) → sort_of_ctor c ≡ s → IsJudged c ⊎ (IsJudged c → ⊥)
  by_sort Exp is = inl (inl is)
  by_sort Top is = inl (inr is)
  by_sort Pat is = inr (λ judged. refuted judged) where
    refuted : IsJudged c → ⊥
    refuted (inl exp) = let x : Pat ≡ Exp = sym is ∙ exp in cc
    refuted (inr top) = let x : Pat ≡ Top = sym is ∙ top in cc
  by_sort TypeSort is = inr (λ judged. refuted judged) where
    refuted : IsJudged c → ⊥
    refuted (inl exp) = let x : TypeSort ≡ Exp = sym is ∙ exp in cc
    refuted (inr top) = let x : TypeSort ≡ Top = sym is ∙ top in cc

-- ---- where nothing is judged as is demanded, it does not matter what is

-- no tree is that of a vertex that is judged
abbrev AllPlain : Forest → Type 0
AllPlain none = Unit {0}
AllPlain (multi_ref d rest) = AllPlain rest
AllPlain (cycle_ref d rest) = AllPlain rest
AllPlain (tree d below rest) = (IsJudged d.target.ctor → ⊥) × AllPlain below × AllPlain rest

module _ (live : List Edge) (well : AllByRecursion IsWellFormed live) where
  all_plain : (v : Vertex) (f : Forest) → AllByRecursion (IsTreeOf live v) (child_edges f) → AreChildren live f → (IsJudged v.ctor → ⊥) → AllPlain f
  all_plain v none of are plain = tt
  all_plain v (multi_ref d rest) of are plain = all_plain v rest of.1 are.1 plain
  all_plain v (cycle_ref d rest) of are plain = all_plain v rest of.1 are.1 plain
  all_plain v (tree d below rest) of are plain =
      (child, all_plain d.target below (subst (AllByRecursion (IsTreeOf live d.target)) (sym are.1) (under_are_of live well d.target)) are.2 child, all_plain v rest of.1 are.3 plain)
    where
      child : IsJudged d.target.ctor → ⊥
      child (inl exp) = plain (above_expression v.ctor d.position (of.0.sorted ∙ ap Some exp))
      child (inr top) = never_top v.ctor d.position (of.0.sorted ∙ ap Some top)

module _ (on : Vertex → Bool) (records : Records) where
  makes_plain : (given other : Position → Demanded) (f : Forest) → AllPlain f → (made : List (Vertex × Kept)) → MakesUnder on records given f made → MakesUnder on records other f made
  makes_plain given other none plain made makes = makes
  makes_plain given other (multi_ref d rest) plain made makes = makes_plain given other rest plain made makes
  makes_plain given other (cycle_ref d rest) plain made makes = makes_plain given other rest plain made makes
  makes_plain given other (tree d below rest) plain made (inl makes) =
      inl ((makes.0.0, λ sort. absurd (plain.0 (inl sort))), makes_plain given other rest plain.2 made makes.1)
  makes_plain given other (tree d below rest) plain made (inr makes) =
      inr (
        cause makes.0,
        makes.1,
        makes.2,
        makes.3 ∙ ap (λ k. makes.1 ++ (d.target, k) ∷ makes.2) (kept_of_any d.target below (given d.position) (other d.position) (λ sort. absurd (plain.0 (inl sort)))),
        makes_plain (demanded_at (expression_of d.target below (given d.position)) below) (demanded_at (expression_of d.target below (other d.position)) below) below plain.1 makes.1 makes.4,
        makes_plain given other rest plain.2 makes.2 makes.5,
      )
    where
      cause : HasToBeJudged on records d.target (given d.position) → HasToBeJudged on records d.target (other d.position)
      cause (inl is) = inl is
      cause (inr other_demand) = absurd (plain.0 (inl other_demand.0))

-- ---- a walk down from a vertex

module _ (on : Vertex → Bool) (new : List Edge) (records : Records) (h : Graph) (live_new : AreLive h new) (well_new : AllByRecursion IsWellFormed new) where
  -- what is made where the vertex has these children, and this is demanded of it
  pub record StartsAt (v : Vertex) (f : Forest) (d : Demanded) (made : List (Vertex × Kept)) : Type 0 where
    pub inner : List (Vertex × Kept)
    pub made_are : made ≡ inner ++ (v, kept_of v f d) ∷ []
    pub under : MakesUnder on records (demanded_at (expression_of v f d) f) f inner

  pub same_forest : (us : List Vertex) (v : Vertex) (f : Forest) (d : Demanded) → Stands new us v f d → (g : Forest) → StandsUnder new v g → g ≡ f
  same_forest us v f d s g under =
      let there = stands_under new us v f d s in one_forest new g f (under.edges ∙ sym there.edges) under.children there.children

  pub starts_at : (us : List Vertex) (v : Vertex) (f : Forest) (d : Demanded) → Stands new us v f d → (told : Demanded) → (IsJudged v.ctor → told ≡ d) → (made : List (Vertex × Kept)) → MakesFrom on new records v told made
      → StartsAt v f d made
  starts_at us v f d s told demanded made m = by_judged (judged_or v.ctor) where
    under : StandsUnder new v f
    under = stands_under new us v f d s

    one : m.forest ≡ f
    one = same_forest us v f d s m.forest m.stands

    made_are : made ≡ m.inner ++ (v, kept_of v f told) ∷ []
    made_are = m.made_are ∙ ap (λ g. m.inner ++ (v, kept_of v g told) ∷ []) one

    makes : MakesUnder on records (demanded_at (expression_of v f told) f) f m.inner
    makes = subst (λ g. MakesUnder on records (demanded_at (expression_of v g told) g) g m.inner) one m.under

    by_judged : IsJudged v.ctor ⊎ (IsJudged v.ctor → ⊥) → StartsAt v f d made
    by_judged (inl judged) = record {
      inner = m.inner;
      made_are = made_are ∙ ap (λ x. m.inner ++ (v, kept_of v f x) ∷ []) (demanded judged);
      under = subst (λ x. MakesUnder on records (demanded_at (expression_of v f x) f) f m.inner) (demanded judged) makes;
    }
    by_judged (inr plain) = record {
      inner = m.inner;
      made_are = made_are ∙ ap (λ k. m.inner ++ (v, k) ∷ []) (kept_of_any v f told d (λ sort. absurd (plain (inl sort))));
      under = makes_plain on records (demanded_at (expression_of v f told) f) (demanded_at (expression_of v f d) f) f
          (all_plain new well_new v f (subst (AllByRecursion (IsTreeOf new v)) (sym under.edges) (under_are_of new well_new v)) under.children plain) m.inner makes;
    }

  module _ (us : List Vertex) (v : Vertex) (f : Forest) (d : Demanded) (s : Stands new us v f d) (made : List (Vertex × Kept)) (starts : StartsAt v f d made) where
    abbrev m : Vertex × Kept
    m = (v, kept_of v f d)

    none_named : (w : Vertex) → has_name w [] ≡ true → ⊥
    none_named w named = cc

    -- the vertex has a record
    pub start_named : has_name v made ≡ true
    start_named = ap (has_name v) starts.made_are ∙ name_right v starts.inner (m ∷ []) (name_first v m [] refl)

    -- each record is that of a vertex which had to be judged
    pub start_made : IsVertexOf h v → HasToBeJudged on records v d → (whole : List (Vertex × Kept)) → IsPartOf made whole → AreMade on new records h live_new well_new whole made
    start_made vertex cause whole part =
        subst (AreMade on new records h live_new well_new whole) (sym starts.made_are) (made_append on new records h live_new well_new whole starts.inner (m ∷ []) deep.all (here, tt)) where
          split : IsPartOf (starts.inner ++ m ∷ []) whole
          split w named = part w (ap (has_name w) starts.made_are ∙ named)

          deep : UnderMade on new records h live_new well_new whole (demanded_at (expression_of v f d) f) f starts.inner
          deep = under_made on new records h live_new well_new us v f d s whole f (λ y b is. is) starts.inner (λ w named. split w (name_left w starts.inner (m ∷ []) named)) starts.under

          here : IsMade on new records h live_new well_new whole m
          here = record { above = us; forest = f; demanded = d; stands = s; vertex = vertex; is = refl; cause = cause; under = deep.each }

    deep_once : OnceUnder new live_new.in_order well_new on records v us f starts.inner
    deep_once =
        once_under new live_new.in_order well_new on records us v f d s f (λ y b is. is)
        (subst EdgesOnce (sym (stands_under new us v f d s).edges) (under_once new live_new.in_order well_new v)) starts.inner starts.under

    -- each vertex has one
    pub start_once : StandOnce (names made)
    start_once =
        subst (λ ms. StandOnce (names ms)) (sym starts.made_are)
        (once_join starts.inner m [] deep_once.once_each tt
        (λ named. let p = deep_once.pass v named in not_below new live_new.in_order well_new v us f d s p.edge.target p.passes)
        (none_named v) (λ w named nothing. none_named w nothing))

    -- and stands at the vertex or below it
    pub start_pass : (w : Vertex) → has_name w made ≡ true → Passes new live_new.in_order well_new w v us
    start_pass w named = by_place (name_split w starts.inner m [] (ap (has_name w) (sym starts.made_are) ∙ named)) where
      by_place : (has_name w starts.inner ≡ true) ⊎ ((m.0 ≡ w) ⊎ (has_name w [] ≡ true)) → Passes new live_new.in_order well_new w v us
      by_place (inl inside) = let p = deep_once.pass w inside in passes_on new live_new.in_order well_new w v p.edge.target us p.passes
      by_place (inr (inl one)) =
          subst (λ z. Passes new live_new.in_order well_new z v us) one (record { above_it = us; forest = f; demanded = d; stands = s; before = []; chain = refl })
      by_place (inr (inr nothing)) = absurd (none_named w nothing)
