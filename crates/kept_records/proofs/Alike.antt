-- Two lists of children of a vertex that differ at most under those at one position: what is demanded there is the same.
use Rattle.std.proofs.Common.{◌≡◌, ◌⊎◌, inl, inr, suc, Bool, true, false, cond, List, [], ◌∷◌, ◌++◌, refl, sym, ap, ◌∙◌}
use Rattle.std.specs.Prelude.{if◌then◌else◌, Some, None}
use Rattle.std.specs.List.{AllByRecursion}
use Rattle.grove_sorts.specs.declared.position.Position.{Position}
use Rattle.grove_sorts.specs.declared.position.Position.TheVariants.{Param, Annot, LeftParam, RightParam}
use Rattle.grove_sorts.specs.declared.sort.Sort.{Sort}
use Rattle.grove_sorts.specs.declared.sort.Sort.TheVariants.{Exp, Typ as TypeSort}
use Rattle.grove_sorts.specs.declared.ctor.Ctor.{Ctor}
use Rattle.grove_sorts.specs.declared.ctor.Ctor.TheVariants.{Lam, Let, Case}
use Rattle.grove_sorts.specs.Ctor.{positions, sort_at}
use Rattle.grove_sorts.specs.Position.{is_same_position}
use Rattle.grove_sorts.proofs.Orders.{one_position}
use Rattle.grove_edits.specs.declared.vertex.Vertex.{Vertex}
use Rattle.grove_edits.specs.declared.edge.Edge.{Edge}
use Rattle.graph_words.specs.Class.{class}
use Rattle.grove_terms.specs.Forest.{Forest, none, multi_ref, cycle_ref, tree, child_edges, edges_under, AreChildren, StandsUnder}
use Rattle.grove_terms.specs.Nodes.{count_at}
use Rattle.grove_terms.proofs.Forests.{one_forest}
use Rattle.type_core.specs.Typ.{Typ, Unknown}
use Rattle.mark_step.specs.Expression.{Bound, Expression, Demanded}
use Rattle.mark_step.specs.Step.{demand}
use Rattle.mark_step.specs.Rows.{is_exp}
use Rattle.marking.specs.Types.{if_sole, child_type, type_in, tree_type, pattern_name, child_name, name_in, bound_in}
use Rattle.marking.specs.Marking.{judged_child, judged_in}
use Rattle.kept_records.specs.Kept.{expression_of, types_before, demanded_among, demanded_at, IsTreeIn}
use Rattle.kept_records.proofs.Sorts.{at_annotation}
use Rattle.kept_records.proofs.Agreement.{type_of}

module _ (p : Position) where
  -- the same edges, of which those to trees at other positions have the same under them
  abbrev pub Alike : Forest → Forest → Type 0
  Alike none none = Unit {0}
  Alike (multi_ref d f) (multi_ref e g) = (d ≡ e) × Alike f g
  Alike (cycle_ref d f) (cycle_ref e g) = (d ≡ e) × Alike f g
  Alike (tree d b f) (tree e c g) = (d ≡ e) × ((is_same_position d.position p ≡ true) ⊎ (b ≡ c)) × Alike f g
  Alike f g = ⊥

  alike_count : (f g : Forest) → Alike f g → (q : Position) → count_at f q ≡ count_at g q
  alike_count none none a q = refl
  alike_count (multi_ref d f) (multi_ref e g) a q =
      ap (λ n. cond (is_same_position d.position q) (suc n) n) (alike_count f g a.1 q) ∙ ap (λ (x : Edge). cond (is_same_position x.position q) (suc (count_at g q)) (count_at g q)) a.0
  alike_count (cycle_ref d f) (cycle_ref e g) a q =
      ap (λ n. cond (is_same_position d.position q) (suc n) n) (alike_count f g a.1 q) ∙ ap (λ (x : Edge). cond (is_same_position x.position q) (suc (count_at g q)) (count_at g q)) a.0
  alike_count (tree d b f) (tree e c g) a q =
      ap (λ n. cond (is_same_position d.position q) (suc n) n) (alike_count f g a.2 q) ∙ ap (λ (x : Edge). cond (is_same_position x.position q) (suc (count_at g q)) (count_at g q)) a.0
  alike_count f g a q = absurd a

  alike_name : (f g : Forest) → Alike f g → (q : Position) → child_name f q ≡ child_name g q
  alike_name none none a q = refl
  alike_name (multi_ref d f) (multi_ref e g) a q = alike_name f g a.1 q
  alike_name (cycle_ref d f) (cycle_ref e g) a q = alike_name f g a.1 q
  alike_name (tree d b f) (tree e c g) a q =
      ap (λ o. cond (is_same_position d.position q) (pattern_name d.target.ctor) o) (alike_name f g a.2 q)
      ∙ ap (λ (x : Edge). cond (is_same_position x.position q) (pattern_name x.target.ctor) (child_name g q)) a.0
  alike_name f g a q = absurd a

  -- a tree at another position has the same under it
  same_below : (d : Edge) (b c : Forest) → (is_same_position d.position p ≡ true) ⊎ (b ≡ c) → (q : Position) → is_same_position q p ≡ false → is_same_position d.position q ≡ true → b ≡ c
  same_below d b c (inl at) q other is =
      let clash : true ≡ false = sym at ∙ ap (λ x. is_same_position x p) (one_position d.position q is) ∙ other in cc
  same_below d b c (inr same) q other is = same

  alike_type : (f g : Forest) → Alike f g → (q : Position) → is_same_position q p ≡ false → child_type f q ≡ child_type g q
  alike_type none none a q other = refl
  alike_type (multi_ref d f) (multi_ref e g) a q other = alike_type f g a.1 q other
  alike_type (cycle_ref d f) (cycle_ref e g) a q other = alike_type f g a.1 q other
  alike_type (tree d b f) (tree e c g) a q other =
      by_test (is_same_position d.position q) refl (alike_type f g a.2 q other)
      ∙ ap (λ (x : Edge). cond (is_same_position x.position q) (tree_type x.target.ctor c) (child_type g q)) a.0 where
        by_test : (t : Bool) → is_same_position d.position q ≡ t → child_type f q ≡ child_type g q → cond t (tree_type d.target.ctor b) (child_type f q) ≡ cond t (tree_type d.target.ctor c) (child_type g q)
        by_test true is later = ap (tree_type d.target.ctor) (same_below d b c a.1 q other is)
        by_test false is later = later
  alike_type f g a q other = absurd a

  alike_judged : (f g : Forest) → Alike f g → (q : Position) → is_same_position q p ≡ false → (d : Demanded) → judged_child f q d ≡ judged_child g q d
  alike_judged none none a q other given = refl
  alike_judged (multi_ref d f) (multi_ref e g) a q other given = alike_judged f g a.1 q other given
  alike_judged (cycle_ref d f) (cycle_ref e g) a q other given = alike_judged f g a.1 q other given
  alike_judged (tree d b f) (tree e c g) a q other given =
      by_test (is_same_position d.position q) refl (alike_judged f g a.2 q other given)
      ∙ ap (λ (x : Edge). cond (is_same_position x.position q) (type_of x.target c given) (judged_child g q given)) a.0 where
        by_test : (t : Bool) → is_same_position d.position q ≡ t → judged_child f q given ≡ judged_child g q given
            → cond t (type_of d.target b given) (judged_child f q given) ≡ cond t (type_of d.target c given) (judged_child g q given)
        by_test true is later = ap (λ x. type_of d.target x given) (same_below d b c a.1 q other is)
        by_test false is later = later
  alike_judged f g a q other given = absurd a

  alike_before : (x : Expression) (a b : Position → Demanded → Typ) → ((q : Position) → is_same_position q p ≡ false → (d : Demanded) → a q d ≡ b q d)
      → (ps : List (Position × Sort)) (before : List Typ) → types_before x a p ps before ≡ types_before x b p ps before
  alike_before x a b same [] before = refl
  alike_before x a b same (q ∷ qs) before = by_test (is_same_position q.0 p) refl (λ more. alike_before x a b same qs more) where
    by_test : (t : Bool) → is_same_position q.0 p ≡ t → ((more : List Typ) → types_before x a p qs more ≡ types_before x b p qs more)
        → cond t before (types_before x a p qs (if is_exp q.1 then (before ++ a q.0 (demand x before) ∷ []) else before))
        ≡ cond t before (types_before x b p qs (if is_exp q.1 then (before ++ b q.0 (demand x before) ∷ []) else before))
    by_test true is later = refl
    by_test false is later =
        later (if is_exp q.1 then (before ++ a q.0 (demand x before) ∷ []) else before)
        ∙ ap (λ t. types_before x b p qs (if is_exp q.1 then (before ++ t ∷ []) else before)) (same q.0 is (demand x before))

  -- at a position for an expression the same is demanded
  module _ (u : Vertex) (wants : sort_at u.ctor p ≡ Some Exp) (f g : Forest) (a : Alike f g) (d : Demanded) where
    not_annotation : is_same_position Annot p ≡ false
    not_annotation = by_test (is_same_position Annot p) refl where
      by_test : (t : Bool) → is_same_position Annot p ≡ t → is_same_position Annot p ≡ false
      by_test true is = let typed : Exp ≡ TypeSort = at_annotation u.ctor Exp (ap (sort_at u.ctor) (one_position Annot p is) ∙ wants) in cc
      by_test false is = is

    names : (q : Position) → name_in f q ≡ name_in g q
    names q = ap (λ n. if_sole n (child_name f q) None) (alike_count f g a q) ∙ ap (λ o. if_sole (count_at g q) o None) (alike_name f g a q)

    ascribed : type_in f Annot ≡ type_in g Annot
    ascribed =
        ap (λ n. if_sole n (child_type f Annot) Unknown) (alike_count f g a Annot) ∙ ap (λ t. if_sole (count_at g Annot) t Unknown) (alike_type f g a Annot not_annotation)

    bound : (c : Ctor) → bound_in c f ≡ bound_in c g
    bound Lam =
        ap (λ n. let b : Bound = record { name = n; typ = type_in f Annot; second = None } in b) (names Param)
        ∙ ap (λ t. let b : Bound = record { name = name_in g Param; typ = t; second = None } in b) ascribed
    bound Let = ap (λ n. let b : Bound = record { name = n; typ = Unknown; second = None } in b) (names Param)
    bound Case =
        ap (λ n. let b : Bound = record { name = n; typ = Unknown; second = name_in f RightParam } in b) (names LeftParam)
        ∙ ap (λ n. let b : Bound = record { name = name_in g LeftParam; typ = Unknown; second = n } in b) (names RightParam)
    bound c = refl

    same_expression : expression_of u f d ≡ expression_of u g d
    same_expression = ap (λ b. let x : Expression = record { ctor = u.ctor; scope = d.scope; wanted = d.wanted; bound = b } in x) (bound u.ctor)

    judged : (q : Position) → is_same_position q p ≡ false → (given : Demanded) → judged_in f q given ≡ judged_in g q given
    judged q other given =
        ap (λ n. if_sole n (judged_child f q given) Unknown) (alike_count f g a q) ∙ ap (λ t. if_sole (count_at g q) t Unknown) (alike_judged f g a q other given)

    pub alike_demand : demanded_at (expression_of u f d) f p ≡ demanded_at (expression_of u g d) g p
    alike_demand =
        ap (λ n. demanded_among n (demand (expression_of u f d) (types_before (expression_of u f d) (judged_in f) p (positions u.ctor) []))) (alike_count f g a p)
        ∙ ap (λ x. demanded_among (count_at g p) (demand x (types_before x (judged_in f) p (positions u.ctor) []))) same_expression
        ∙ ap (λ ts. demanded_among (count_at g p) (demand (expression_of u g d) ts)) (alike_before (expression_of u g d) (judged_in f) (judged_in g) judged (positions u.ctor) [])

-- ---- children of a vertex in two graphs

cons_parts : (d e : Edge) (ds es : List Edge) → d ∷ ds ≡ e ∷ es → (d ≡ e) × (ds ≡ es)
cons_parts d e ds es same = (cc, cc)

module _ (old new : List Edge) (p : Position) where
  -- edges whose targets keep their classes, of which those to trees at other positions have under them what they had, are alike
  pub are_alike : (f g : Forest) → child_edges f ≡ child_edges g → AreChildren old f → AreChildren new g → AllByRecursion (λ d. class old d.target ≡ class new d.target) (child_edges g)
      → ((x : Edge) (c : Forest) → IsTreeIn g x c → is_same_position x.position p ≡ false → StandsUnder old x.target c) → Alike p f g
  are_alike none none same of_f of_g classes below = tt
  are_alike (multi_ref d f) (multi_ref e g) same of_f of_g classes below =
      let parts = cons_parts d e (child_edges f) (child_edges g) same in (parts.0, are_alike f g parts.1 of_f.1 of_g.1 classes.1 below)
  are_alike (cycle_ref d f) (cycle_ref e g) same of_f of_g classes below =
      let parts = cons_parts d e (child_edges f) (child_edges g) same in (parts.0, are_alike f g parts.1 of_f.1 of_g.1 classes.1 below)
  are_alike (tree d b f) (tree e c g) same of_f of_g classes below =
      let parts = cons_parts d e (child_edges f) (child_edges g) same in
      (parts.0, under parts.0 (is_same_position d.position p) refl, are_alike f g parts.1 of_f.3 of_g.3 classes.1 (λ x w is. below x w (inr is)))
    where
      under : d ≡ e → (t : Bool) → is_same_position d.position p ≡ t → (is_same_position d.position p ≡ true) ⊎ (b ≡ c)
      under one true at = inl at
      under one false at =
          let stood : StandsUnder old e.target c = below e c (inl (refl, refl)) (ap (λ (x : Edge). is_same_position x.position p) (sym one) ∙ at) in
          inr (one_forest old b c (of_f.1 ∙ ap (λ (x : Edge). edges_under old x.target) one ∙ sym stood.edges) of_f.2 stood.children)
  are_alike f g same of_f of_g classes below = absurd cc
