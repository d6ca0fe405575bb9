-- Two lists of children of a vertex that are the same but at one position, at which both have several: a conflict gives nothing, so the
-- vertex has the same record, and the same is demanded of each child.
use Rattle.std.proofs.Common.{◌≡◌, inl, inr, ℕ, zero, suc, ◌<◌, Bool, true, false, cond, List, [], ◌∷◌, ◌++◌, filter, refl, sym, ap, ◌∙◌, arith}
use Rattle.std.specs.Prelude.{not, if◌then◌else◌, None}
use Rattle.std.specs.List.{AllByRecursion}
use Rattle.grove_sorts.specs.declared.position.Position.{Position}
use Rattle.grove_sorts.specs.declared.position.Position.TheVariants.{Param, Annot, LeftParam, RightParam}
use Rattle.grove_sorts.specs.declared.sort.Sort.{Sort}
use Rattle.grove_sorts.specs.declared.ctor.Ctor.{Ctor}
use Rattle.grove_sorts.specs.declared.ctor.Ctor.TheVariants.{Lam, Let, Case}
use Rattle.grove_sorts.specs.Ctor.{positions, sort_of_ctor}
use Rattle.grove_sorts.specs.Position.{is_same_position}
use Rattle.grove_sorts.proofs.Orders.{one_position}
use Rattle.grove_edits.specs.declared.vertex.Vertex.{Vertex}
use Rattle.grove_edits.specs.declared.edge.Edge.{Edge}
use Rattle.graph_words.specs.Class.{class}
use Rattle.grove_terms.specs.Forest.{Forest, none, multi_ref, cycle_ref, tree, child_edges, AreChildren, StandsUnder}
use Rattle.grove_terms.specs.Nodes.{count_at}
use Rattle.type_core.specs.Typ.{Typ, Unknown}
use Rattle.mark_step.specs.Expression.{Bound, Expression, Demanded}
use Rattle.mark_step.specs.Step.{demand, settled}
use Rattle.mark_step.specs.Rows.{is_exp}
use Rattle.marking.specs.Types.{if_sole, child_type, type_in, tree_type, pattern_name, child_name, name_in, bound_in}
use Rattle.marking.specs.Marking.{types_at, judged_child, judged_in, children_types}
use Rattle.kept_records.specs.Kept.{kept_as, kept_of, expression_of, types_before, demanded_among, demanded_at, IsTreeIn}
use Rattle.kept_records.proofs.Agreement.{type_made_any}
use Rattle.kept_records.proofs.Sole.{first_tree, judged-first, type-first, name-first}

if_sole_several : {X : Type 0} (n : ℕ) (found other : X) → 1 < n → if_sole n found other ≡ other
if_sole_several zero found other several = refl
if_sole_several (suc zero) found other several = absurd (omega (arith, several))
if_sole_several (suc (suc n)) found other several = refl

among_several : (n m : ℕ) (d : Demanded) → 1 < n → 1 < m → demanded_among n d ≡ demanded_among m d
among_several zero m d several also = absurd (omega (arith, several))
among_several (suc zero) m d several also = absurd (omega (arith, several))
among_several (suc (suc n)) zero d several also = absurd (omega (arith, also))
among_several (suc (suc n)) (suc zero) d several also = absurd (omega (arith, also))
among_several (suc (suc n)) (suc (suc m)) d several also = refl

-- ---- where each position gives the same

-- two lists of children give the same at each position, and the same is demanded of each child there
pub record SeemAlike (f g : Forest) : Type 0 where
  pub judged : (q : Position) (d : Demanded) → judged_in f q d ≡ judged_in g q d
  pub typ : (q : Position) → type_in f q ≡ type_in g q
  pub name : (q : Position) → name_in f q ≡ name_in g q
  pub among : (q : Position) (d : Demanded) → demanded_among (count_at f q) d ≡ demanded_among (count_at g q) d

types_alike : (x : Expression) (a b : Position → Demanded → Typ) → ((q : Position) (d : Demanded) → a q d ≡ b q d) → (ps : List (Position × Sort)) (before : List Typ) → types_at x a ps before ≡ types_at x b ps before
types_alike x a b same [] before = refl
types_alike x a b same (p ∷ ps) before = by_sort (is_exp p.1) (λ more. types_alike x a b same ps more) where
  by_sort : (t : Bool) → ((more : List Typ) → types_at x a ps more ≡ types_at x b ps more)
      → cond t (types_at x a ps (before ++ a p.0 (demand x before) ∷ [])) (types_at x a ps before) ≡ cond t (types_at x b ps (before ++ b p.0 (demand x before) ∷ [])) (types_at x b ps before)
  by_sort true later = later (before ++ a p.0 (demand x before) ∷ []) ∙ ap (λ t. types_at x b ps (before ++ t ∷ [])) (same p.0 (demand x before))
  by_sort false later = later before

before_alike : (x : Expression) (a b : Position → Demanded → Typ) → ((q : Position) (d : Demanded) → a q d ≡ b q d) → (p : Position) (ps : List (Position × Sort)) (before : List Typ) → types_before x a p ps before ≡ types_before x b p ps before
before_alike x a b same p [] before = refl
before_alike x a b same p (q ∷ qs) before =
    ap (λ t. cond (is_same_position q.0 p) before (types_before x a p qs (if is_exp q.1 then (before ++ t ∷ []) else before))) (same q.0 (demand x before))
    ∙ ap (cond (is_same_position q.0 p) before) (before_alike x a b same p qs (if is_exp q.1 then (before ++ b q.0 (demand x before) ∷ []) else before))

module _ (u : Vertex) (f g : Forest) (alike : SeemAlike f g) (d : Demanded) where
  bound : (c : Ctor) → bound_in c f ≡ bound_in c g
  bound Lam =
      ap (λ n. let b : Bound = record { name = n; typ = type_in f Annot; second = None } in b) (alike.name Param)
      ∙ ap (λ t. let b : Bound = record { name = name_in g Param; typ = t; second = None } in b) (alike.typ Annot)
  bound Let = ap (λ n. let b : Bound = record { name = n; typ = Unknown; second = None } in b) (alike.name Param)
  bound Case =
      ap (λ n. let b : Bound = record { name = n; typ = Unknown; second = name_in f RightParam } in b) (alike.name LeftParam)
      ∙ ap (λ n. let b : Bound = record { name = name_in g LeftParam; typ = Unknown; second = n } in b) (alike.name RightParam)
  bound c = refl

  same_expression : expression_of u f d ≡ expression_of u g d
  same_expression = ap (λ b. let x : Expression = record { ctor = u.ctor; scope = d.scope; wanted = d.wanted; bound = b } in x) (bound u.ctor)

  -- the record is the same
  pub kept_alike : kept_of u f d ≡ kept_of u g d
  kept_alike =
      ap (λ x. kept_as (sort_of_ctor u.ctor) d (settled x (children_types x f)) (tree_type u.ctor f)) same_expression
      ∙ ap (λ ts. kept_as (sort_of_ctor u.ctor) d (settled (expression_of u g d) ts) (tree_type u.ctor f))
      (types_alike (expression_of u g d) (judged_in f) (judged_in g) alike.judged (positions u.ctor) [])
      ∙ ap (kept_as (sort_of_ctor u.ctor) d (settled (expression_of u g d) (children_types (expression_of u g d) g))) (type_made_any u.ctor (type_in f) (type_in g) alike.typ)

  -- and so is what is demanded of each child
  pub demand_alike : (q : Position) → demanded_at (expression_of u f d) f q ≡ demanded_at (expression_of u g d) g q
  demand_alike q =
      alike.among q (demand (expression_of u f d) (types_before (expression_of u f d) (judged_in f) q (positions u.ctor) []))
      ∙ ap (λ x. demanded_among (count_at g q) (demand x (types_before x (judged_in f) q (positions u.ctor) []))) same_expression
      ∙ ap (λ ts. demanded_among (count_at g q) (demand (expression_of u g d) ts)) (before_alike (expression_of u g d) (judged_in f) (judged_in g) alike.judged q (positions u.ctor) [])

-- ---- the children at other positions

module _ (p : Position) where
  abbrev pub is_elsewhere : Edge → Bool
  is_elsewhere e = not (is_same_position e.position p)

  abbrev pub elsewhere : Forest → Forest
  elsewhere none = none
  elsewhere (multi_ref e rest) = cond (is_elsewhere e) (multi_ref e (elsewhere rest)) (elsewhere rest)
  elsewhere (cycle_ref e rest) = cond (is_elsewhere e) (cycle_ref e (elsewhere rest)) (elsewhere rest)
  elsewhere (tree e below rest) = cond (is_elsewhere e) (tree e below (elsewhere rest)) (elsewhere rest)

  pub edges_elsewhere : (f : Forest) → child_edges (elsewhere f) ≡ filter is_elsewhere (child_edges f)
  edges_elsewhere none = refl
  edges_elsewhere (multi_ref e rest) = by_test (is_elsewhere e) (edges_elsewhere rest) where
    by_test : (b : Bool) → child_edges (elsewhere rest) ≡ filter is_elsewhere (child_edges rest)
        → child_edges (cond b (multi_ref e (elsewhere rest)) (elsewhere rest)) ≡ cond b (e ∷ filter is_elsewhere (child_edges rest)) (filter is_elsewhere (child_edges rest))
    by_test true later = ap (λ es. e ∷ es) later
    by_test false later = later
  edges_elsewhere (cycle_ref e rest) = by_test (is_elsewhere e) (edges_elsewhere rest) where
    by_test : (b : Bool) → child_edges (elsewhere rest) ≡ filter is_elsewhere (child_edges rest)
        → child_edges (cond b (cycle_ref e (elsewhere rest)) (elsewhere rest)) ≡ cond b (e ∷ filter is_elsewhere (child_edges rest)) (filter is_elsewhere (child_edges rest))
    by_test true later = ap (λ es. e ∷ es) later
    by_test false later = later
  edges_elsewhere (tree e below rest) = by_test (is_elsewhere e) (edges_elsewhere rest) where
    by_test : (b : Bool) → child_edges (elsewhere rest) ≡ filter is_elsewhere (child_edges rest)
        → child_edges (cond b (tree e below (elsewhere rest)) (elsewhere rest)) ≡ cond b (e ∷ filter is_elsewhere (child_edges rest)) (filter is_elsewhere (child_edges rest))
    by_test true later = ap (λ es. e ∷ es) later
    by_test false later = later

  pub children_elsewhere : (live : List Edge) (f : Forest) → AreChildren live f → AreChildren live (elsewhere f)
  children_elsewhere live none are = tt
  children_elsewhere live (multi_ref e rest) are = by_test (is_elsewhere e) (children_elsewhere live rest are.1) where
    by_test : (b : Bool) → AreChildren live (elsewhere rest) → AreChildren live (cond b (multi_ref e (elsewhere rest)) (elsewhere rest))
    by_test true later = (are.0, later)
    by_test false later = later
  children_elsewhere live (cycle_ref e rest) are = by_test (is_elsewhere e) (children_elsewhere live rest are.1) where
    by_test : (b : Bool) → AreChildren live (elsewhere rest) → AreChildren live (cond b (cycle_ref e (elsewhere rest)) (elsewhere rest))
    by_test true later = (are.0, later)
    by_test false later = later
  children_elsewhere live (tree e below rest) are = by_test (is_elsewhere e) (children_elsewhere live rest are.3) where
    by_test : (b : Bool) → AreChildren live (elsewhere rest) → AreChildren live (cond b (tree e below (elsewhere rest)) (elsewhere rest))
    by_test true later = (are.0, are.1, are.2, later)
    by_test false later = later

  -- at another position they are all
  module _ (q : Position) (other : is_same_position q p ≡ false) where
    -- a child that is not elsewhere is at the position, and not at another
    not_there : (e : Edge) → is_elsewhere e ≡ false → is_same_position e.position q ≡ false
    not_there e here = by_test (is_same_position e.position q) refl where
      by_test : (b : Bool) → is_same_position e.position q ≡ b → is_same_position e.position q ≡ false
      by_test true is =
          let clash : true ≡ false = sym (ap not (ap (λ x. is_same_position x p) (one_position e.position q is) ∙ other)) ∙ here in cc
      by_test false is = is

    count_elsewhere : (f : Forest) → count_at (elsewhere f) q ≡ count_at f q
    count_elsewhere none = refl
    count_elsewhere (multi_ref e rest) = by_test (is_elsewhere e) refl (count_elsewhere rest) where
      by_test : (b : Bool) → is_elsewhere e ≡ b → count_at (elsewhere rest) q ≡ count_at rest q
          → count_at (cond b (multi_ref e (elsewhere rest)) (elsewhere rest)) q ≡ cond (is_same_position e.position q) (suc (count_at rest q)) (count_at rest q)
      by_test true is later = ap (λ n. cond (is_same_position e.position q) (suc n) n) later
      by_test false is later = later ∙ sym (ap (λ b. cond b (suc (count_at rest q)) (count_at rest q)) (not_there e is))
    count_elsewhere (cycle_ref e rest) = by_test (is_elsewhere e) refl (count_elsewhere rest) where
      by_test : (b : Bool) → is_elsewhere e ≡ b → count_at (elsewhere rest) q ≡ count_at rest q
          → count_at (cond b (cycle_ref e (elsewhere rest)) (elsewhere rest)) q ≡ cond (is_same_position e.position q) (suc (count_at rest q)) (count_at rest q)
      by_test true is later = ap (λ n. cond (is_same_position e.position q) (suc n) n) later
      by_test false is later = later ∙ sym (ap (λ b. cond b (suc (count_at rest q)) (count_at rest q)) (not_there e is))
    count_elsewhere (tree e below rest) = by_test (is_elsewhere e) refl (count_elsewhere rest) where
      by_test : (b : Bool) → is_elsewhere e ≡ b → count_at (elsewhere rest) q ≡ count_at rest q
          → count_at (cond b (tree e below (elsewhere rest)) (elsewhere rest)) q ≡ cond (is_same_position e.position q) (suc (count_at rest q)) (count_at rest q)
      by_test true is later = ap (λ n. cond (is_same_position e.position q) (suc n) n) later
      by_test false is later = later ∙ sym (ap (λ b. cond b (suc (count_at rest q)) (count_at rest q)) (not_there e is))

    first_elsewhere : {X : Type 0} (gives : Edge → Forest → X) (nothing : X) (f : Forest) → first_tree gives nothing (elsewhere f) q ≡ first_tree gives nothing f q
    first_elsewhere gives nothing none = refl
    first_elsewhere gives nothing (multi_ref e rest) = by_test (is_elsewhere e) (first_elsewhere gives nothing rest) where
      by_test : (b : Bool) → first_tree gives nothing (elsewhere rest) q ≡ first_tree gives nothing rest q
          → first_tree gives nothing (cond b (multi_ref e (elsewhere rest)) (elsewhere rest)) q ≡ first_tree gives nothing rest q
      by_test true later = later
      by_test false later = later
    first_elsewhere gives nothing (cycle_ref e rest) = by_test (is_elsewhere e) (first_elsewhere gives nothing rest) where
      by_test : (b : Bool) → first_tree gives nothing (elsewhere rest) q ≡ first_tree gives nothing rest q
          → first_tree gives nothing (cond b (cycle_ref e (elsewhere rest)) (elsewhere rest)) q ≡ first_tree gives nothing rest q
      by_test true later = later
      by_test false later = later
    first_elsewhere gives nothing (tree e below rest) = by_test (is_elsewhere e) refl (first_elsewhere gives nothing rest) where
      by_test : (b : Bool) → is_elsewhere e ≡ b → first_tree gives nothing (elsewhere rest) q ≡ first_tree gives nothing rest q
          → first_tree gives nothing (cond b (tree e below (elsewhere rest)) (elsewhere rest)) q ≡ cond (is_same_position e.position q) (gives e below) (first_tree gives nothing rest q)
      by_test true is later = ap (cond (is_same_position e.position q) (gives e below)) later
      by_test false is later = later ∙ sym (ap (λ b. cond b (gives e below) (first_tree gives nothing rest q)) (not_there e is))

    first_alike : {X : Type 0} (gives : Edge → Forest → X) (nothing : X) (f g : Forest) → elsewhere f ≡ elsewhere g → first_tree gives nothing f q ≡ first_tree gives nothing g q
    first_alike gives nothing f g same =
        sym (first_elsewhere gives nothing f) ∙ ap (λ x. first_tree gives nothing x q) same ∙ first_elsewhere gives nothing g

    count_alike : (f g : Forest) → elsewhere f ≡ elsewhere g → count_at f q ≡ count_at g q
    count_alike f g same = sym (count_elsewhere f) ∙ ap (λ x. count_at x q) same ∙ count_elsewhere g

  -- several children at the position give nothing
  module _ (f g : Forest) (same : elsewhere f ≡ elsewhere g) (several_f : 1 < count_at f p) (several_g : 1 < count_at g p) where
    several_there : (h : Forest) (q : Position) → 1 < count_at h p → is_same_position q p ≡ true → 1 < count_at h q
    several_there h q several at = let one : count_at h q ≡ count_at h p = ap (count_at h) (one_position q p at) in omega (arith, one, several)

    sole_alike : {X : Type 0} (a b nothing : X) (q : Position) → (is_same_position q p ≡ false → a ≡ b) → if_sole (count_at f q) a nothing ≡ if_sole (count_at g q) b nothing
    sole_alike a b nothing q gives = by_test (is_same_position q p) refl where
      by_test : (t : Bool) → is_same_position q p ≡ t → if_sole (count_at f q) a nothing ≡ if_sole (count_at g q) b nothing
      by_test true at = if_sole_several (count_at f q) a nothing (several_there f q several_f at) ∙ sym (if_sole_several (count_at g q) b nothing (several_there g q several_g at))
      by_test false other = ap (λ n. if_sole n a nothing) (count_alike q other f g same) ∙ ap (λ x. if_sole (count_at g q) x nothing) (gives other)

    pub seem_alike : SeemAlike f g
    seem_alike = record { judged = judged; typ = typ; name = name; among = among } where
      judged : (q : Position) (d : Demanded) → judged_in f q d ≡ judged_in g q d
      judged q d =
          sole_alike (judged_child f q d) (judged_child g q d) Unknown q
          (λ other. judged-first f q d ∙ first_alike q other (λ e b. (settled (expression_of e.target b d) (children_types (expression_of e.target b d) b)).typ) Unknown f g same ∙ sym (judged-first g q d))

      typ : (q : Position) → type_in f q ≡ type_in g q
      typ q =
          sole_alike (child_type f q) (child_type g q) Unknown q
          (λ other. type-first f q ∙ first_alike q other (λ e b. tree_type e.target.ctor b) Unknown f g same ∙ sym (type-first g q))

      name : (q : Position) → name_in f q ≡ name_in g q
      name q =
          sole_alike (child_name f q) (child_name g q) None q
          (λ other. name-first f q ∙ first_alike q other (λ e b. pattern_name e.target.ctor) None f g same ∙ sym (name-first g q))

      among : (q : Position) (d : Demanded) → demanded_among (count_at f q) d ≡ demanded_among (count_at g q) d
      among q d = by_test (is_same_position q p) refl where
        by_test : (t : Bool) → is_same_position q p ≡ t → demanded_among (count_at f q) d ≡ demanded_among (count_at g q) d
        by_test true at = among_several (count_at f q) (count_at g q) d (several_there f q several_f at) (several_there g q several_g at)
        by_test false other = ap (λ n. demanded_among n d) (count_alike q other f g same)

-- children stood there before, where their classes stay and under each tree stands what stood there
pub stood_before : (old new : List Edge) (f : Forest) → AreChildren new f → AllByRecursion (λ d. class old d.target ≡ class new d.target) (child_edges f)
    → ((x : Edge) (c : Forest) → IsTreeIn f x c → StandsUnder old x.target c) → AreChildren old f
stood_before old new none are classes below = tt
stood_before old new (multi_ref d rest) are classes below = (classes.0 ∙ are.0, stood_before old new rest are.1 classes.1 below)
stood_before old new (cycle_ref d rest) are classes below = (classes.0 ∙ are.0, stood_before old new rest are.1 classes.1 below)
stood_before old new (tree d b rest) are classes below =
    let stood : StandsUnder old d.target b = below d b (inl (refl, refl)) in
    (classes.0 ∙ are.0, stood.edges, stood.children, stood_before old new rest are.3 classes.1 (λ x c is. below x c (inr is)))
