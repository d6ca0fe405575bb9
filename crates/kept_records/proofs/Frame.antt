-- The rules at a vertex read the same off two lists of records in two graphs, where it has the same edges under it, to vertices of the
-- same classes and with the same kept types.
use Rattle.std.proofs.Common.{◌≡◌, Bool, true, false, cond, List, [], ◌∷◌, ◌++◌, refl, ap, ◌∙◌}
use Rattle.std.specs.Prelude.{◌&&◌, if◌then◌else◌, None}
use Rattle.std.specs.List.{AllByRecursion}
use Rattle.grove_sorts.specs.declared.position.Position.{Position}
use Rattle.grove_sorts.specs.declared.position.Position.TheVariants.{Param, Annot, LeftParam, RightParam}
use Rattle.grove_sorts.specs.declared.sort.Sort.{Sort}
use Rattle.grove_sorts.specs.declared.ctor.Ctor.{Ctor}
use Rattle.grove_sorts.specs.declared.ctor.Ctor.TheVariants.{Lam, Let, Case}
use Rattle.grove_sorts.specs.Ctor.{positions, sort_of_ctor}
use Rattle.grove_sorts.specs.Position.{is_same_position}
use Rattle.grove_edits.specs.declared.vertex.Vertex.{Vertex}
use Rattle.grove_edits.specs.declared.edge.Edge.{Edge}
use Rattle.grove_terms.specs.Forest.{edges_under}
use Rattle.type_core.specs.Typ.{Typ, Unknown}
use Rattle.mark_step.specs.Expression.{Bound, Expression, Demanded}
use Rattle.mark_step.specs.Step.{demand, settled}
use Rattle.mark_step.specs.Rows.{is_exp}
use Rattle.marking.specs.Types.{if_sole, type_made, pattern_name}
use Rattle.kept_records.specs.Kept.{Records, kept_as, demanded_among}
use Rattle.kept_records.specs.Local.{is_inner, typ_in, edges_at, kept_child, kept_in, name_of_child, kept_name, kept_bound, kept_types, kept_before, kept_expression_at, kept_demand, demanded_below, settled_at}
use Rattle.kept_records.proofs.Agreement.{type_made_any}

module _ (old new : List Edge) (a b : Records) where
  -- the target of the edge is a tree in both graphs or in none, and the types are the same where it is one
  pub record SeesTheSame (d : Edge) : Type 0 where
    pub inner : is_inner old d.target ≡ is_inner new d.target
    pub typ : is_inner new d.target ≡ true → typ_in (a d.target) ≡ typ_in (b d.target)

  same_child : (es : List Edge) → AllByRecursion SeesTheSame es → (p : Position) → kept_child old a es p ≡ kept_child new b es p
  same_child [] all p = refl
  same_child (d ∷ es) all p =
      ap (λ t. cond (is_inner old d.target && is_same_position d.position p) (typ_in (a d.target)) t) (same_child es all.1 p)
      ∙ ap (λ t. cond (t && is_same_position d.position p) (typ_in (a d.target)) (kept_child new b es p)) all.0.inner
      ∙ by_test (is_inner new d.target) refl (is_same_position d.position p)
    where
      by_test : (t : Bool) → is_inner new d.target ≡ t → (q : Bool) → cond (t && q) (typ_in (a d.target)) (kept_child new b es p) ≡ cond (t && q) (typ_in (b d.target)) (kept_child new b es p)
      by_test true is true = all.0.typ is
      by_test true is false = refl
      by_test false is q = refl

  same_in : (es : List Edge) → AllByRecursion SeesTheSame es → (p : Position) → kept_in old a es p ≡ kept_in new b es p
  same_in es all p = ap (λ t. if_sole (edges_at es p) t Unknown) (same_child es all p)

  same_name_of : (es : List Edge) → AllByRecursion SeesTheSame es → (p : Position) → name_of_child old es p ≡ name_of_child new es p
  same_name_of [] all p = refl
  same_name_of (d ∷ es) all p =
      ap (λ o. cond (is_inner old d.target && is_same_position d.position p) (pattern_name d.target.ctor) o) (same_name_of es all.1 p)
      ∙ ap (λ t. cond (t && is_same_position d.position p) (pattern_name d.target.ctor) (name_of_child new es p)) all.0.inner

  same_name : (es : List Edge) → AllByRecursion SeesTheSame es → (p : Position) → kept_name old es p ≡ kept_name new es p
  same_name es all p = ap (λ o. if_sole (edges_at es p) o None) (same_name_of es all p)

  same_bound : (es : List Edge) → AllByRecursion SeesTheSame es → (c : Ctor) → kept_bound old a c es ≡ kept_bound new b c es
  same_bound es all Lam =
      ap (λ n. let x : Bound = record { name = n; typ = kept_in old a es Annot; second = None } in x) (same_name es all Param)
      ∙ ap (λ t. let x : Bound = record { name = kept_name new es Param; typ = t; second = None } in x) (same_in es all Annot)
  same_bound es all Let = ap (λ n. let x : Bound = record { name = n; typ = Unknown; second = None } in x) (same_name es all Param)
  same_bound es all Case =
      ap (λ n. let x : Bound = record { name = n; typ = Unknown; second = kept_name old es RightParam } in x) (same_name es all LeftParam)
      ∙ ap (λ n. let x : Bound = record { name = kept_name new es LeftParam; typ = Unknown; second = n } in x) (same_name es all RightParam)
  same_bound es all c = refl

  same_types : (es : List Edge) → AllByRecursion SeesTheSame es → (ps : List (Position × Sort)) (before : List Typ) → kept_types old a es ps before ≡ kept_types new b es ps before
  same_types es all [] before = refl
  same_types es all (p ∷ ps) before =
      ap (λ t. kept_types old a es ps (if is_exp p.1 then (before ++ t ∷ []) else before)) (same_in es all p.0)
      ∙ same_types es all ps (if is_exp p.1 then (before ++ kept_in new b es p.0 ∷ []) else before)

  same_before : (es : List Edge) → AllByRecursion SeesTheSame es → (p : Position) (ps : List (Position × Sort)) (before : List Typ) → kept_before old a es p ps before ≡ kept_before new b es p ps before
  same_before es all p [] before = refl
  same_before es all p (q ∷ qs) before =
      ap (λ t. cond (is_same_position q.0 p) before (kept_before old a es p qs (if is_exp q.1 then (before ++ t ∷ []) else before))) (same_in es all q.0)
      ∙ ap (cond (is_same_position q.0 p) before) (same_before es all p qs (if is_exp q.1 then (before ++ kept_in new b es q.0 ∷ []) else before))

  module _ (v : Vertex) (under : edges_under old v ≡ edges_under new v) (all : AllByRecursion SeesTheSame (edges_under new v)) where
    same_expression : (d : Demanded) → kept_expression_at old a v d ≡ kept_expression_at new b v d
    same_expression d =
        ap (λ es. let x : Expression = record { ctor = v.ctor; scope = d.scope; wanted = d.wanted; bound = kept_bound old a v.ctor es } in x) under
        ∙ ap (λ k. let x : Expression = record { ctor = v.ctor; scope = d.scope; wanted = d.wanted; bound = k } in x) (same_bound (edges_under new v) all v.ctor)

    -- the record by the rules is the same
    pub settled_same : (d : Demanded) → settled_at old a v d ≡ settled_at new b v d
    settled_same d =
        ap (λ x. kept_as (sort_of_ctor v.ctor) d (settled x (kept_types old a (edges_under old v) (positions v.ctor) [])) (type_made v.ctor (kept_in old a (edges_under old v)))) (same_expression d)
        ∙ ap (λ es. kept_as (sort_of_ctor v.ctor) d (settled (kept_expression_at new b v d) (kept_types old a es (positions v.ctor) [])) (type_made v.ctor (kept_in old a es))) under
        ∙ ap (λ ts. kept_as (sort_of_ctor v.ctor) d (settled (kept_expression_at new b v d) ts) (type_made v.ctor (kept_in old a (edges_under new v)))) (same_types (edges_under new v) all (positions v.ctor) [])
        ∙ ap (kept_as (sort_of_ctor v.ctor) d (settled (kept_expression_at new b v d) (kept_types new b (edges_under new v) (positions v.ctor) [])))
        (type_made_any v.ctor (kept_in old a (edges_under new v)) (kept_in new b (edges_under new v)) (same_in (edges_under new v) all))

    -- and so is what is demanded of a child, where the records say the same of the vertex
    pub below_same : kept_demand a v ≡ kept_demand b v → (p : Position) → demanded_below old a v p ≡ demanded_below new b v p
    below_same own p =
        ap (λ es. demanded_among (edges_at es p) (demand (kept_expression_at old a v (kept_demand a v)) (kept_before old a es p (positions v.ctor) []))) under
        ∙ ap (λ x. demanded_among (edges_at (edges_under new v) p) (demand (kept_expression_at old a v x) (kept_before old a (edges_under new v) p (positions v.ctor) []))) own
        ∙ ap (λ x. demanded_among (edges_at (edges_under new v) p) (demand x (kept_before old a (edges_under new v) p (positions v.ctor) []))) (same_expression (kept_demand b v))
        ∙ ap (λ ts. demanded_among (edges_at (edges_under new v) p) (demand (kept_expression_at new b v (kept_demand b v)) ts)) (same_before (edges_under new v) all p (positions v.ctor) [])
