-- Where the records of the children of a vertex are what marking says of them, the rules at the vertex read the same off the records
-- as marking reads off the tree.
use Rattle.std.proofs.Common.{◌≡◌, inl, inr, ℕ, zero, suc, Bool, true, false, cond, List, [], ◌∷◌, ◌++◌, refl, sym, ap, subst, ◌∙◌}
use Rattle.std.specs.Prelude.{◌&&◌, if◌then◌else◌, Some, None}
use Rattle.grove_sorts.specs.declared.position.Position.{Position}
use Rattle.grove_sorts.specs.declared.position.Position.TheVariants.{Param, Annot, LeftParam, RightParam}
use Rattle.grove_sorts.specs.declared.sort.Sort.{Sort}
use Rattle.grove_sorts.specs.declared.sort.Sort.TheVariants.{Top, Exp, Pat, Typ as TypeSort}
use Rattle.grove_sorts.specs.declared.ctor.Ctor.{Ctor}
use Rattle.grove_sorts.specs.declared.ctor.Ctor.TheVariants.{Lam, Let, Case}
use Rattle.std.specs.List.{AllByRecursion}
use Rattle.grove_sorts.specs.Row.{row}
use Rattle.grove_sorts.specs.Ctor.{positions, Rises, sort_in, sort_at, sort_of_ctor}
use Rattle.grove_edits.specs.declared.vertex.Vertex.{Vertex}
use Rattle.grove_edits.specs.declared.edge.Edge.{Edge}
use Rattle.grove_sorts.specs.Position.{position_number, is_same_position}
use Rattle.graph_words.specs.Class.{is_same_class}
use Rattle.graph_words.specs.declared.class.Class.TheVariants.{Inner}
use Rattle.grove_terms.specs.Forest.{Forest, none, multi_ref, cycle_ref, tree, child_edges, edges_under, AreChildren, StandsUnder}
use Rattle.grove_terms.specs.Nodes.{count_at}
use Rattle.grove_sorts.proofs.Orders.{one_position, same_position_laws}
use Rattle.grove_sorts.proofs.Rows.{positions_rise, places_found, types_below, found_first, found_behind, other_behind}
use Rattle.type_core.specs.Typ.{Typ, Unknown}
use Rattle.mark_step.specs.Expression.{Bound, Expression, Demanded}
use Rattle.mark_step.specs.Step.{demand, settled}
use Rattle.mark_step.specs.Rows.{is_exp}
use Rattle.marking.specs.Types.{if_sole, type_of_two, at_first, at_second, type_made, child_type, type_in, tree_type, pattern_name, child_name, name_in, bound_in}
use Rattle.marking.specs.Marking.{types_at, judged_child, judged_in, children_types}
use Rattle.kept_records.specs.Kept.{Records, kept_as, kept_of, expression_of, types_before, demanded_among, demanded_at, IsTreeIn}
use Rattle.kept_records.specs.Local.{typ_in, edges_at, kept_child, kept_in, name_of_child, kept_name, kept_bound, kept_types, kept_before, kept_expression_at, kept_demand, demanded_below, settled_at}
use Rattle.kept_records.proofs.Sorts.{at_annotation}

-- ---- what stands at a position

pub edges_at-child_edges : (f : Forest) (p : Position) → edges_at (child_edges f) p ≡ count_at f p
edges_at-child_edges none p = refl
edges_at-child_edges (multi_ref e rest) p = ap (λ n. cond (is_same_position e.position p) (suc n) n) (edges_at-child_edges rest p)
edges_at-child_edges (cycle_ref e rest) p = ap (λ n. cond (is_same_position e.position p) (suc n) n) (edges_at-child_edges rest p)
edges_at-child_edges (tree e below rest) p = ap (λ n. cond (is_same_position e.position p) (suc n) n) (edges_at-child_edges rest p)

module _ (live : List Edge) where
  name_of_child-child_edges : (f : Forest) → AreChildren live f → (p : Position) → name_of_child live (child_edges f) p ≡ child_name f p
  name_of_child-child_edges none are p = refl
  name_of_child-child_edges (multi_ref e rest) are p =
      ap (λ c. cond (is_same_class c Inner && is_same_position e.position p) (pattern_name e.target.ctor) (name_of_child live (child_edges rest) p)) are.0
      ∙ name_of_child-child_edges rest are.1 p
  name_of_child-child_edges (cycle_ref e rest) are p =
      ap (λ c. cond (is_same_class c Inner && is_same_position e.position p) (pattern_name e.target.ctor) (name_of_child live (child_edges rest) p)) are.0
      ∙ name_of_child-child_edges rest are.1 p
  name_of_child-child_edges (tree e below rest) are p =
      ap (λ c. cond (is_same_class c Inner && is_same_position e.position p) (pattern_name e.target.ctor) (name_of_child live (child_edges rest) p)) are.0
      ∙ ap (λ n. cond (is_same_position e.position p) (pattern_name e.target.ctor) n) (name_of_child-child_edges rest are.3 p)

-- the type that marking gives a tree of which this is demanded
abbrev pub type_of : Vertex → Forest → Demanded → Typ
type_of v f d = (settled (expression_of v f d) (children_types (expression_of v f d) f)).typ

module _ (live : List Edge) (records : Records) where
  -- each tree at a position has the kept type that is given for it
  abbrev HaveTypes : Forest → Position → (Edge → Forest → Typ) → Type 0
  HaveTypes f p given = (e : Edge) (b : Forest) → IsTreeIn f e b → is_same_position e.position p ≡ true → typ_in (records e.target) ≡ given e b

  kept_child-child_type : (f : Forest) → AreChildren live f → (p : Position) → HaveTypes f p (λ e b. tree_type e.target.ctor b) → kept_child live records (child_edges f) p ≡ child_type f p
  kept_child-child_type none are p have = refl
  kept_child-child_type (multi_ref e rest) are p have =
      ap (λ c. cond (is_same_class c Inner && is_same_position e.position p) (typ_in (records e.target)) (kept_child live records (child_edges rest) p)) are.0
      ∙ kept_child-child_type rest are.1 p have
  kept_child-child_type (cycle_ref e rest) are p have =
      ap (λ c. cond (is_same_class c Inner && is_same_position e.position p) (typ_in (records e.target)) (kept_child live records (child_edges rest) p)) are.0
      ∙ kept_child-child_type rest are.1 p have
  kept_child-child_type (tree e below rest) are p have =
      ap (λ c. cond (is_same_class c Inner && is_same_position e.position p) (typ_in (records e.target)) (kept_child live records (child_edges rest) p)) are.0
      ∙ by_test (is_same_position e.position p) (have e below (inl (refl, refl))) (kept_child-child_type rest are.3 p (λ d b is. have d b (inr is))) where
        by_test : (b : Bool) → (b ≡ true → typ_in (records e.target) ≡ tree_type e.target.ctor below) → kept_child live records (child_edges rest) p ≡ child_type rest p
            → cond b (typ_in (records e.target)) (kept_child live records (child_edges rest) p) ≡ cond b (tree_type e.target.ctor below) (child_type rest p)
        by_test true here later = here refl
        by_test false here later = later

  kept_child-judged_child : (f : Forest) → AreChildren live f → (p : Position) (d : Demanded) → HaveTypes f p (λ e b. type_of e.target b d) → kept_child live records (child_edges f) p ≡ judged_child f p d
  kept_child-judged_child none are p d have = refl
  kept_child-judged_child (multi_ref e rest) are p d have =
      ap (λ c. cond (is_same_class c Inner && is_same_position e.position p) (typ_in (records e.target)) (kept_child live records (child_edges rest) p)) are.0
      ∙ kept_child-judged_child rest are.1 p d have
  kept_child-judged_child (cycle_ref e rest) are p d have =
      ap (λ c. cond (is_same_class c Inner && is_same_position e.position p) (typ_in (records e.target)) (kept_child live records (child_edges rest) p)) are.0
      ∙ kept_child-judged_child rest are.1 p d have
  kept_child-judged_child (tree e below rest) are p d have =
      ap (λ c. cond (is_same_class c Inner && is_same_position e.position p) (typ_in (records e.target)) (kept_child live records (child_edges rest) p)) are.0
      ∙ by_test (is_same_position e.position p) (have e below (inl (refl, refl))) (kept_child-judged_child rest are.3 p d (λ x b is. have x b (inr is))) where
        by_test : (b : Bool) → (b ≡ true → typ_in (records e.target) ≡ type_of e.target below d) → kept_child live records (child_edges rest) p ≡ judged_child rest p d
            → cond b (typ_in (records e.target)) (kept_child live records (child_edges rest) p) ≡ cond b (type_of e.target below d) (judged_child rest p d)
        by_test true here later = here refl
        by_test false here later = later

-- what is given at the position of an only child matters where there is one
sole_alike : {T : Type 0} (m n : ℕ) (a b other : T) → m ≡ n → (n ≡ 1 → a ≡ b) → if_sole m a other ≡ if_sole n b other
sole_alike m n a b other same alike = ap (λ k. if_sole k a other) same ∙ by_count n alike where
  by_count : (k : ℕ) → (k ≡ 1 → a ≡ b) → if_sole k a other ≡ if_sole k b other
  by_count zero alike = refl
  by_count (suc zero) alike = alike refl
  by_count (suc (suc k)) alike = refl

-- ---- types read off records in table order

exp_from : (s : Sort) → is_exp s ≡ true → s ≡ Exp
exp_from Exp is = refl
exp_from Top is = absurd cc
exp_from Pat is = absurd cc
exp_from TypeSort is = absurd cc

module _ (live : List Edge) (records : Records) (es : List Edge) (x : Expression) (judge : Position → Demanded → Typ) where
  -- the kept type at each position is that of marking, after those of marking before it
  abbrev pub Agrees : List (Position × Sort) → List Typ → Type 0
  Agrees [] before = Unit {0}
  Agrees (q ∷ qs) before = (is_exp q.1 ≡ true → kept_in live records es q.0 ≡ judge q.0 (demand x before)) × Agrees qs (if is_exp q.1 then (before ++ judge q.0 (demand x before) ∷ []) else before)

  -- the same after the kept types before it
  abbrev AgreesAfter : List (Position × Sort) → List Typ → Type 0
  AgreesAfter [] before = Unit {0}
  AgreesAfter (q ∷ qs) before = (is_exp q.1 ≡ true → kept_in live records es q.0 ≡ judge q.0 (demand x before)) × AgreesAfter qs (if is_exp q.1 then (before ++ kept_in live records es q.0 ∷ []) else before)

  agrees_from_after : (ps : List (Position × Sort)) (before : List Typ) → AgreesAfter ps before → Agrees ps before
  agrees_from_after [] before a = tt
  agrees_from_after (q ∷ qs) before a = (a.0, by_test (is_exp q.1) refl a.1 (λ next. agrees_from_after qs next)) where
    by_test : (b : Bool) → is_exp q.1 ≡ b → AgreesAfter qs (cond b (before ++ kept_in live records es q.0 ∷ []) before) → ((next : List Typ) → AgreesAfter qs next → Agrees qs next)
        → Agrees qs (cond b (before ++ judge q.0 (demand x before) ∷ []) before)
    by_test true is rest later = later (before ++ judge q.0 (demand x before) ∷ []) (subst (λ (t : Typ). AgreesAfter qs (before ++ t ∷ [])) (a.0 is) rest)
    by_test false is rest later = later before rest

  pub kept_types-agree : (ps : List (Position × Sort)) (before : List Typ) → Agrees ps before → kept_types live records es ps before ≡ types_at x judge ps before
  kept_types-agree [] before a = refl
  kept_types-agree (q ∷ qs) before a = by_test (is_exp q.1) refl a.1 (λ next. kept_types-agree qs next) where
    by_test : (b : Bool) → is_exp q.1 ≡ b → Agrees qs (cond b (before ++ judge q.0 (demand x before) ∷ []) before)
        → ((next : List Typ) → Agrees qs next → kept_types live records es qs next ≡ types_at x judge qs next)
        → kept_types live records es qs (cond b (before ++ kept_in live records es q.0 ∷ []) before) ≡ cond b (types_at x judge qs (before ++ judge q.0 (demand x before) ∷ [])) (types_at x judge qs before)
    by_test true is rest later = ap (λ t. kept_types live records es qs (before ++ t ∷ [])) (a.0 is) ∙ later (before ++ judge q.0 (demand x before) ∷ []) rest
    by_test false is rest later = later before rest

  pub kept_before-agree : (p : Position) (ps : List (Position × Sort)) (before : List Typ) → Agrees ps before → kept_before live records es p ps before ≡ types_before x judge p ps before
  kept_before-agree p [] before a = refl
  kept_before-agree p (q ∷ qs) before a = by_place (is_same_position q.0 p) (by_test (is_exp q.1) refl a.1 (λ next. kept_before-agree p qs next)) where
    by_test : (b : Bool) → is_exp q.1 ≡ b → Agrees qs (cond b (before ++ judge q.0 (demand x before) ∷ []) before)
        → ((next : List Typ) → Agrees qs next → kept_before live records es p qs next ≡ types_before x judge p qs next)
        → kept_before live records es p qs (cond b (before ++ kept_in live records es q.0 ∷ []) before) ≡ types_before x judge p qs (cond b (before ++ judge q.0 (demand x before) ∷ []) before)
    by_test true is rest later = ap (λ t. kept_before live records es p qs (before ++ t ∷ [])) (a.0 is) ∙ later (before ++ judge q.0 (demand x before) ∷ []) rest
    by_test false is rest later = later before rest

    by_place : (b : Bool)
        → kept_before live records es p qs (if is_exp q.1 then (before ++ kept_in live records es q.0 ∷ []) else before) ≡ types_before x judge p qs (if is_exp q.1 then (before ++ judge q.0 (demand x before) ∷ []) else before)
        → cond b before (kept_before live records es p qs (if is_exp q.1 then (before ++ kept_in live records es q.0 ∷ []) else before))
        ≡ cond b before (types_before x judge p qs (if is_exp q.1 then (before ++ judge q.0 (demand x before) ∷ []) else before))
    by_place true later = refl
    by_place false later = later

  -- where it is so at each position of a row by itself, it is so in order
  agrees_in : (low : ℕ) (ps : List (Position × Sort)) (before : List Typ) → Rises low ps
      → ((q : Position) → sort_in ps q ≡ Some Exp → kept_in live records es q ≡ judge q (demand x (types_before x judge q ps before))) → Agrees ps before
  agrees_in low [] before rises each = tt
  agrees_in low (p ∷ ps) before rises each = (
    λ is. each p.0 (found_first p ps ∙ ap Some (exp_from p.1 is)) ∙ ap (λ b. judge p.0 (demand x (cond b before (types_before x judge p.0 ps (if is_exp p.1 then (before ++ judge p.0 (demand x before) ∷ []) else before))))) (same_position_laws.refl p.0),
    agrees_in (suc (position_number p.0)) ps (if is_exp p.1 then (before ++ judge p.0 (demand x before) ∷ []) else before) rises.1 (λ q there.
        each q (found_behind p ps q Exp rises.1 there)
        ∙ ap (λ b. judge q (demand x (cond b before (types_before x judge q ps (if is_exp p.1 then (before ++ judge p.0 (demand x before) ∷ []) else before))))) (other_behind p ps q Exp rises.1 there)),
  )

  pub agrees : (c : Ctor) → ((q : Position) → sort_at c q ≡ Some Exp → kept_in live records es q ≡ judge q (demand x (types_before x judge q (positions c) []))) → Agrees (positions c) []
  agrees c each = agrees_in 0 (positions c) [] (positions_rise c) each

  agrees_after : (low : ℕ) (ps : List (Position × Sort)) (before : List Typ) → Rises low ps
      → ((q : Position) → sort_in ps q ≡ Some Exp → kept_in live records es q ≡ judge q (demand x (kept_before live records es q ps before))) → AgreesAfter ps before
  agrees_after low [] before rises each = tt
  agrees_after low (p ∷ ps) before rises each = (
    λ is. each p.0 (found_first p ps ∙ ap Some (exp_from p.1 is)) ∙ ap (λ b. judge p.0 (demand x (cond b before (kept_before live records es p.0 ps (if is_exp p.1 then (before ++ kept_in live records es p.0 ∷ []) else before))))) (same_position_laws.refl p.0),
    agrees_after (suc (position_number p.0)) ps (if is_exp p.1 then (before ++ kept_in live records es p.0 ∷ []) else before) rises.1 (λ q there.
        each q (found_behind p ps q Exp rises.1 there)
        ∙ ap (λ b. judge q (demand x (cond b before (kept_before live records es q ps (if is_exp p.1 then (before ++ kept_in live records es p.0 ∷ []) else before))))) (other_behind p ps q Exp rises.1 there)),
  )

  pub agrees_by_kept : (c : Ctor) → ((q : Position) → sort_at c q ≡ Some Exp → kept_in live records es q ≡ judge q (demand x (kept_before live records es q (positions c) []))) → Agrees (positions c) []
  agrees_by_kept c each = agrees_from_after (positions c) [] (agrees_after 0 (positions c) [] (positions_rise c) each)

abbrev AreTypes : List (Position × Sort) → Type 0
AreTypes ps = AllByRecursion (λ p. p.1 ≡ TypeSort) ps

abbrev AreFound : Ctor → List (Position × Sort) → Type 0
AreFound c ps = AllByRecursion (λ p. sort_at c p.0 ≡ Some p.1) ps

module _ (a b : Position → Typ) where
  first_alike : (c : Ctor) (ps : List (Position × Sort)) → ((p : Position) → sort_at c p ≡ Some TypeSort → a p ≡ b p) → AreTypes ps → AreFound c ps → at_first ps a ≡ at_first ps b
  first_alike c [] same types found = refl
  first_alike c (p ∷ ps) same types found = same p.0 (found.0 ∙ ap Some types.0)

  second_alike : (c : Ctor) (ps : List (Position × Sort)) → ((p : Position) → sort_at c p ≡ Some TypeSort → a p ≡ b p) → AreTypes ps → AreFound c ps → at_second ps a ≡ at_second ps b
  second_alike c [] same types found = refl
  second_alike c (p ∷ []) same types found = refl
  second_alike c (p ∷ q ∷ ps) same types found = same q.0 (found.1.0 ∙ ap Some types.1.0)

  first_any : (ps : List (Position × Sort)) → ((p : Position) → a p ≡ b p) → at_first ps a ≡ at_first ps b
  first_any [] same = refl
  first_any (p ∷ ps) same = same p.0

  second_any : (ps : List (Position × Sort)) → ((p : Position) → a p ≡ b p) → at_second ps a ≡ at_second ps b
  second_any [] same = refl
  second_any (p ∷ []) same = refl
  second_any (p ∷ q ∷ ps) same = same q.0

  made_alike : (c : Ctor) → at_first (positions c) a ≡ at_first (positions c) b → at_second (positions c) a ≡ at_second (positions c) b → type_made c a ≡ type_made c b
  made_alike c one two = ap (λ t. type_of_two (row c).makes t (at_second (positions c) a)) one ∙ ap (type_of_two (row c).makes (at_first (positions c) b)) two

-- the types at the positions of types make the type
type_made_alike : (c : Ctor) (a b : Position → Typ) → ((p : Position) → sort_at c p ≡ Some TypeSort → a p ≡ b p) → (sort_of_ctor c ≡ TypeSort) → type_made c a ≡ type_made c b
type_made_alike c a b same sort =
    made_alike a b c (first_alike a b c (positions c) same (types_below c sort) (places_found c)) (second_alike a b c (positions c) same (types_below c sort) (places_found c))

-- the types at all positions make the type
pub type_made_any : (c : Ctor) (a b : Position → Typ) → ((p : Position) → a p ≡ b p) → type_made c a ≡ type_made c b
type_made_any c a b same = made_alike a b c (first_any a b (positions c) same) (second_any a b (positions c) same)

-- ---- at one vertex

some_sort : (s t : Sort) → Some s ≡ Some t → s ≡ t
some_sort s t e = cc

-- the records of the children of a vertex, by which this is demanded of it, tell what marking tells
pub record AgreesAt (live : List Edge) (records : Records) (v : Vertex) (f : Forest) (d : Demanded) : Type 0 where
  pub bound : kept_bound live records v.ctor (child_edges f) ≡ bound_in v.ctor f
  pub types : Agrees live records (child_edges f) (expression_of v f d) (judged_in f) (positions v.ctor) []
  pub made : sort_of_ctor v.ctor ≡ TypeSort → type_made v.ctor (kept_in live records (child_edges f)) ≡ tree_type v.ctor f

module _ (live : List Edge) (records : Records) (v : Vertex) (f : Forest) (are : AreChildren live f)
    (sorted : (e : Edge) (b : Forest) → IsTreeIn f e b → sort_at v.ctor e.position ≡ Some (sort_of_ctor e.target.ctor))
    (types : (e : Edge) (b : Forest) → IsTreeIn f e b → sort_of_ctor e.target.ctor ≡ TypeSort → typ_in (records e.target) ≡ tree_type e.target.ctor b) where
  sort_there : (e : Edge) (b : Forest) → IsTreeIn f e b → (p : Position) → is_same_position e.position p ≡ true → sort_at v.ctor p ≡ Some (sort_of_ctor e.target.ctor)
  sort_there e b is p same = ap (sort_at v.ctor) (sym (one_position e.position p same)) ∙ sorted e b is

  kept_in-type_in : (p : Position) → ((s : Sort) → sort_at v.ctor p ≡ Some s → s ≡ TypeSort) → kept_in live records (child_edges f) p ≡ type_in f p
  kept_in-type_in p wants =
      sole_alike (edges_at (child_edges f) p) (count_at f p) (kept_child live records (child_edges f) p) (child_type f p) Unknown (edges_at-child_edges f p)
      (λ _. kept_child-child_type live records f are p (λ e b is same. types e b is (wants (sort_of_ctor e.target.ctor) (sort_there e b is p same))))

  kept_name-name_in : (p : Position) → kept_name live (child_edges f) p ≡ name_in f p
  kept_name-name_in p =
      sole_alike (edges_at (child_edges f) p) (count_at f p) (name_of_child live (child_edges f) p) (child_name f p) None (edges_at-child_edges f p) (λ _. name_of_child-child_edges live f are p)

  pub bound_agrees : kept_bound live records v.ctor (child_edges f) ≡ bound_in v.ctor f
  bound_agrees = by_ctor v.ctor (kept_in-type_in Annot (at_annotation v.ctor)) where
    by_ctor : (c : Ctor) → kept_in live records (child_edges f) Annot ≡ type_in f Annot → kept_bound live records c (child_edges f) ≡ bound_in c f
    by_ctor Lam ascribed = let name = kept_name-name_in Param in cc
    by_ctor Let ascribed = let name = kept_name-name_in Param in cc
    by_ctor Case ascribed = let left = kept_name-name_in LeftParam in let right = kept_name-name_in RightParam in cc
    by_ctor _ ascribed = refl

  pub made_agrees : sort_of_ctor v.ctor ≡ TypeSort → type_made v.ctor (kept_in live records (child_edges f)) ≡ tree_type v.ctor f
  made_agrees sort =
      type_made_alike v.ctor (kept_in live records (child_edges f)) (type_in f) (λ p is. kept_in-type_in p (λ s wants. some_sort s TypeSort (sym wants ∙ is))) sort

  kept_in-judged_in : (q : Position) (d : Demanded) → (count_at f q ≡ 1 → HaveTypes live records f q (λ e b. type_of e.target b d)) → kept_in live records (child_edges f) q ≡ judged_in f q d
  kept_in-judged_in q d have =
      sole_alike (edges_at (child_edges f) q) (count_at f q) (kept_child live records (child_edges f) q) (judged_child f q d) Unknown (edges_at-child_edges f q)
      (λ one. kept_child-judged_child live records f are q d (have one))

  -- where each child is judged as marking demands of it
  pub agrees_by_marking : (d : Demanded)
      → ((e : Edge) (b : Forest) → IsTreeIn f e b → sort_of_ctor e.target.ctor ≡ Exp → typ_in (records e.target) ≡ type_of e.target b (demanded_at (expression_of v f d) f e.position))
      → AgreesAt live records v f d
  agrees_by_marking d have = record {
    bound = bound_agrees;
    types = agrees live records (child_edges f) (expression_of v f d) (judged_in f) v.ctor each;
    made = made_agrees;
  } where
    each : (q : Position) → sort_at v.ctor q ≡ Some Exp → kept_in live records (child_edges f) q ≡ judged_in f q (demand (expression_of v f d) (types_before (expression_of v f d) (judged_in f) q (positions v.ctor) []))
    each q wants = kept_in-judged_in q (demand (expression_of v f d) (types_before (expression_of v f d) (judged_in f) q (positions v.ctor) [])) at_sole where
      at_sole : count_at f q ≡ 1 → HaveTypes live records f q (λ e b. type_of e.target b (demand (expression_of v f d) (types_before (expression_of v f d) (judged_in f) q (positions v.ctor) [])))
      at_sole one e b is same =
          have e b is (some_sort (sort_of_ctor e.target.ctor) Exp (sym (sort_there e b is q same) ∙ wants))
          ∙ ap (λ p. type_of e.target b (demanded_at (expression_of v f d) f p)) (one_position e.position q same)
          ∙ ap (λ n. type_of e.target b (demanded_among n (demand (expression_of v f d) (types_before (expression_of v f d) (judged_in f) q (positions v.ctor) [])))) one

  -- where each child is judged as the records before it demand
  pub agrees_by_records : (d : Demanded)
      → ((e : Edge) (b : Forest) → IsTreeIn f e b → sort_of_ctor e.target.ctor ≡ Exp
      → typ_in (records e.target) ≡ type_of e.target b (demanded_among (count_at f e.position) (demand (expression_of v f d) (kept_before live records (child_edges f) e.position (positions v.ctor) []))))
      → AgreesAt live records v f d
  agrees_by_records d have = record {
    bound = bound_agrees;
    types = agrees_by_kept live records (child_edges f) (expression_of v f d) (judged_in f) v.ctor each;
    made = made_agrees;
  } where
    each : (q : Position) → sort_at v.ctor q ≡ Some Exp → kept_in live records (child_edges f) q ≡ judged_in f q (demand (expression_of v f d) (kept_before live records (child_edges f) q (positions v.ctor) []))
    each q wants = kept_in-judged_in q (demand (expression_of v f d) (kept_before live records (child_edges f) q (positions v.ctor) [])) at_sole where
      at_sole : count_at f q ≡ 1 → HaveTypes live records f q (λ e b. type_of e.target b (demand (expression_of v f d) (kept_before live records (child_edges f) q (positions v.ctor) [])))
      at_sole one e b is same =
          have e b is (some_sort (sort_of_ctor e.target.ctor) Exp (sym (sort_there e b is q same) ∙ wants))
          ∙ ap (λ p. type_of e.target b (demanded_among (count_at f p) (demand (expression_of v f d) (kept_before live records (child_edges f) p (positions v.ctor) [])))) (one_position e.position q same)
          ∙ ap (λ n. type_of e.target b (demanded_among n (demand (expression_of v f d) (kept_before live records (child_edges f) q (positions v.ctor) [])))) one

-- ---- what follows at the vertex

module _ (live : List Edge) (records : Records) (v : Vertex) (f : Forest) (d : Demanded) (stands : StandsUnder live v f) (bound : kept_bound live records v.ctor (child_edges f) ≡ bound_in v.ctor f) where
  pub expression_agrees : kept_expression_at live records v d ≡ expression_of v f d
  expression_agrees =
      ap (λ (es : List Edge). let x : Expression = record { ctor = v.ctor; scope = d.scope; wanted = d.wanted; bound = kept_bound live records v.ctor es } in x) (sym stands.edges)
      ∙ ap (λ (b : Bound). let x : Expression = record { ctor = v.ctor; scope = d.scope; wanted = d.wanted; bound = b } in x) bound

  -- what the records demand of a child
  pub demanded_below_is : kept_demand records v ≡ d → (p : Position)
      → demanded_below live records v p ≡ demanded_among (count_at f p) (demand (expression_of v f d) (kept_before live records (child_edges f) p (positions v.ctor) []))
  demanded_below_is own p =
      ap (λ (given : Demanded). demanded_among (edges_at (edges_under live v) p) (demand (kept_expression_at live records v given) (kept_before live records (edges_under live v) p (positions v.ctor) []))) own
      ∙ ap (λ x. demanded_among (edges_at (edges_under live v) p) (demand x (kept_before live records (edges_under live v) p (positions v.ctor) []))) expression_agrees
      ∙ ap (λ es. demanded_among (edges_at es p) (demand (expression_of v f d) (kept_before live records es p (positions v.ctor) []))) (sym stands.edges)
      ∙ ap (λ n. demanded_among n (demand (expression_of v f d) (kept_before live records (child_edges f) p (positions v.ctor) []))) (edges_at-child_edges f p)

module _ (live : List Edge) (records : Records) (v : Vertex) (f : Forest) (d : Demanded) (stands : StandsUnder live v f) (agrees_there : AgreesAt live records v f d) where
  types_agree : kept_types live records (edges_under live v) (positions v.ctor) [] ≡ children_types (expression_of v f d) f
  types_agree =
      ap (λ es. kept_types live records es (positions v.ctor) []) (sym stands.edges)
      ∙ kept_types-agree live records (child_edges f) (expression_of v f d) (judged_in f) (positions v.ctor) [] agrees_there.types

  made_agree : sort_of_ctor v.ctor ≡ TypeSort → type_made v.ctor (kept_in live records (edges_under live v)) ≡ tree_type v.ctor f
  made_agree sort = ap (λ es. type_made v.ctor (kept_in live records es)) (sym stands.edges) ∙ agrees_there.made sort

  -- the record by the rules is what marking says
  pub settled_agrees : settled_at live records v d ≡ kept_of v f d
  settled_agrees = by_sort (sort_of_ctor v.ctor) refl where
    by_sort : (s : Sort) → sort_of_ctor v.ctor ≡ s
        → kept_as s d (settled (kept_expression_at live records v d) (kept_types live records (edges_under live v) (positions v.ctor) [])) (type_made v.ctor (kept_in live records (edges_under live v)))
        ≡ kept_as s d (settled (expression_of v f d) (children_types (expression_of v f d) f)) (tree_type v.ctor f)
    by_sort Exp sort =
        ap (λ x. kept_as Exp d (settled x (kept_types live records (edges_under live v) (positions v.ctor) [])) (tree_type v.ctor f)) (expression_agrees live records v f d stands agrees_there.bound)
        ∙ ap (λ ts. kept_as Exp d (settled (expression_of v f d) ts) (tree_type v.ctor f)) types_agree
    by_sort TypeSort sort = ap (λ t. kept_as TypeSort d (settled (expression_of v f d) (children_types (expression_of v f d) f)) t) (made_agree sort)
    by_sort Pat sort = refl
    by_sort Top sort = refl

  -- and what is demanded of a child by the records is what marking demands
  pub demanded_agrees : kept_demand records v ≡ d → (p : Position) → demanded_below live records v p ≡ demanded_at (expression_of v f d) f p
  demanded_agrees own p =
      demanded_below_is live records v f d stands agrees_there.bound own p
      ∙ ap (λ before. demanded_among (count_at f p) (demand (expression_of v f d) before))
      (kept_before-agree live records (child_edges f) (expression_of v f d) (judged_in f) p (positions v.ctor) [] agrees_there.types)
