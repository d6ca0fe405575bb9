-- What an only child gives to the position at which it stands.
use Rattle.std.proofs.Common.{◌≡◌, inl, inr, ℕ, zero, suc, Bool, true, false, cond, refl, sym, ap, ◌∙◌, arith, None}
use Rattle.grove_sorts.specs.declared.position.Position.{Position}
use Rattle.grove_edits.specs.declared.edge.Edge.{Edge}
use Rattle.grove_sorts.specs.Position.{is_same_position}
use Rattle.grove_terms.specs.Forest.{Forest, none, multi_ref, cycle_ref, tree}
use Rattle.grove_terms.specs.Nodes.{count_at}
use Rattle.type_core.specs.Typ.{Unknown}
use Rattle.mark_step.specs.Expression.{Demanded}
use Rattle.mark_step.specs.Step.{settled}
use Rattle.marking.specs.Types.{if_sole, child_type, type_in, tree_type, pattern_name, child_name, name_in}
use Rattle.marking.specs.Marking.{judged_child, judged_in, children_types}
use Rattle.kept_records.specs.Kept.{expression_of, IsTreeIn}

-- the tree stands at the position
pub record IsTreeAt (f : Forest) (p : Position) (e : Edge) (b : Forest) : Type 0 where
  pub is_tree : IsTreeIn f e b
  pub at : is_same_position e.position p ≡ true

some_there : (f : Forest) (p : Position) (e : Edge) (b : Forest) → IsTreeIn f e b → is_same_position e.position p ≡ true → count_at f p ≡ 0 → ⊥
some_there none p e b is at nothing = is
some_there (multi_ref x rest) p e b is at nothing = by_test (is_same_position x.position p) nothing (some_there rest p e b is at) where
  by_test : (t : Bool) → cond t (suc (count_at rest p)) (count_at rest p) ≡ 0 → (count_at rest p ≡ 0 → ⊥) → ⊥
  by_test true nothing later = omega (arith, nothing)
  by_test false nothing later = later nothing
some_there (cycle_ref x rest) p e b is at nothing = by_test (is_same_position x.position p) nothing (some_there rest p e b is at) where
  by_test : (t : Bool) → cond t (suc (count_at rest p)) (count_at rest p) ≡ 0 → (count_at rest p ≡ 0 → ⊥) → ⊥
  by_test true nothing later = omega (arith, nothing)
  by_test false nothing later = later nothing
some_there (tree x below rest) p e b (inl is) at nothing =
    let same : is_same_position x.position p ≡ true = ap (λ (y : Edge). is_same_position y.position p) is.0 ∙ at in
    let one : suc (count_at rest p) ≡ 0 = sym (ap (λ t. cond t (suc (count_at rest p)) (count_at rest p)) same) ∙ nothing in
    omega (arith, one)
some_there (tree x below rest) p e b (inr is) at nothing = by_test (is_same_position x.position p) nothing (some_there rest p e b is at) where
  by_test : (t : Bool) → cond t (suc (count_at rest p)) (count_at rest p) ≡ 0 → (count_at rest p ≡ 0 → ⊥) → ⊥
  by_test true nothing later = omega (arith, nothing)
  by_test false nothing later = later nothing

-- the first child at a position that is a tree, by what each gives
module _ {X : Type 0} (gives : Edge → Forest → X) (other : X) where
  abbrev pub first_tree : Forest → Position → X
  first_tree none p = other
  first_tree (multi_ref e rest) p = first_tree rest p
  first_tree (cycle_ref e rest) p = first_tree rest p
  first_tree (tree e below rest) p = cond (is_same_position e.position p) (gives e below) (first_tree rest p)

  sole_tree : (f : Forest) (p : Position) (e : Edge) (b : Forest) → IsTreeIn f e b → is_same_position e.position p ≡ true → count_at f p ≡ 1 → first_tree f p ≡ gives e b
  sole_tree none p e b is at one = absurd is
  sole_tree (multi_ref x rest) p e b is at one = by_test (is_same_position x.position p) one (sole_tree rest p e b is at) where
    by_test : (t : Bool) → cond t (suc (count_at rest p)) (count_at rest p) ≡ 1 → (count_at rest p ≡ 1 → first_tree rest p ≡ gives e b) → first_tree rest p ≡ gives e b
    by_test true one later = absurd (some_there rest p e b is at (omega (arith, one)))
    by_test false one later = later one
  sole_tree (cycle_ref x rest) p e b is at one = by_test (is_same_position x.position p) one (sole_tree rest p e b is at) where
    by_test : (t : Bool) → cond t (suc (count_at rest p)) (count_at rest p) ≡ 1 → (count_at rest p ≡ 1 → first_tree rest p ≡ gives e b) → first_tree rest p ≡ gives e b
    by_test true one later = absurd (some_there rest p e b is at (omega (arith, one)))
    by_test false one later = later one
  sole_tree (tree x below rest) p e b (inl is) at one =
      ap (λ t. cond t (gives x below) (first_tree rest p)) (ap (λ (y : Edge). is_same_position y.position p) is.0 ∙ at)
      ∙ ap (λ y. gives y below) is.0 ∙ ap (gives e) is.1
  sole_tree (tree x below rest) p e b (inr is) at one = by_test (is_same_position x.position p) one (sole_tree rest p e b is at) where
    by_test : (t : Bool) → cond t (suc (count_at rest p)) (count_at rest p) ≡ 1 → (count_at rest p ≡ 1 → first_tree rest p ≡ gives e b) → cond t (gives x below) (first_tree rest p) ≡ gives e b
    by_test true one later = absurd (some_there rest p e b is at (omega (arith, one)))
    by_test false one later = later one

  no_tree : (f : Forest) (p : Position) → ((e : Edge) (b : Forest) → IsTreeIn f e b → is_same_position e.position p ≡ true → ⊥) → first_tree f p ≡ other
  no_tree none p nowhere = refl
  no_tree (multi_ref x rest) p nowhere = no_tree rest p nowhere
  no_tree (cycle_ref x rest) p nowhere = no_tree rest p nowhere
  no_tree (tree x below rest) p nowhere = by_test (is_same_position x.position p) refl (no_tree rest p (λ e b is. nowhere e b (inr is))) where
    by_test : (t : Bool) → is_same_position x.position p ≡ t → first_tree rest p ≡ other → cond t (gives x below) (first_tree rest p) ≡ other
    by_test true here rest_none = absurd (nowhere x below (inl (refl, refl)) here)
    by_test false elsewhere rest_none = rest_none

pub judged-first : (f : Forest) (p : Position) (d : Demanded) → judged_child f p d ≡ first_tree (λ e b. (settled (expression_of e.target b d) (children_types (expression_of e.target b d) b)).typ) Unknown f p
judged-first none p d = refl
judged-first (multi_ref e rest) p d = judged-first rest p d
judged-first (cycle_ref e rest) p d = judged-first rest p d
judged-first (tree e below rest) p d =
    ap (λ t. cond (is_same_position e.position p) (settled (expression_of e.target below d) (children_types (expression_of e.target below d) below)).typ t) (judged-first rest p d)

pub type-first : (f : Forest) (p : Position) → child_type f p ≡ first_tree (λ e b. tree_type e.target.ctor b) Unknown f p
type-first none p = refl
type-first (multi_ref e rest) p = type-first rest p
type-first (cycle_ref e rest) p = type-first rest p
type-first (tree e below rest) p = ap (λ t. cond (is_same_position e.position p) (tree_type e.target.ctor below) t) (type-first rest p)

pub name-first : (f : Forest) (p : Position) → child_name f p ≡ first_tree (λ e b. pattern_name e.target.ctor) None f p
name-first none p = refl
name-first (multi_ref e rest) p = name-first rest p
name-first (cycle_ref e rest) p = name-first rest p
name-first (tree e below rest) p = ap (λ n. cond (is_same_position e.position p) (pattern_name e.target.ctor) n) (name-first rest p)

-- ---- the name of a pattern, at any position

pub child_name_sole : (f : Forest) (p : Position) (e : Edge) (b : Forest) → count_at f p ≡ 1 → IsTreeIn f e b → is_same_position e.position p ≡ true → child_name f p ≡ pattern_name e.target.ctor
child_name_sole f p e b one is at = name-first f p ∙ sole_tree (λ x c. pattern_name x.target.ctor) None f p e b is at one

pub child_name_without : (f : Forest) (p : Position) → ((e : Edge) (b : Forest) → IsTreeIn f e b → is_same_position e.position p ≡ true → ⊥) → child_name f p ≡ None
child_name_without f p nowhere = name-first f p ∙ no_tree (λ x c. pattern_name x.target.ctor) None f p nowhere

-- ---- an only child that is a tree

pub judged_sole : (f : Forest) (p : Position) (d : Demanded) (e : Edge) (b : Forest) → count_at f p ≡ 1 → IsTreeIn f e b → is_same_position e.position p ≡ true
    → judged_in f p d ≡ (settled (expression_of e.target b d) (children_types (expression_of e.target b d) b)).typ
judged_sole f p d e b one is at =
    ap (λ n. if_sole n (judged_child f p d) Unknown) one ∙ judged-first f p d
    ∙ sole_tree (λ x c. (settled (expression_of x.target c d) (children_types (expression_of x.target c d) c)).typ) Unknown f p e b is at one

pub type_sole : (f : Forest) (p : Position) (e : Edge) (b : Forest) → count_at f p ≡ 1 → IsTreeIn f e b → is_same_position e.position p ≡ true → type_in f p ≡ tree_type e.target.ctor b
type_sole f p e b one is at =
    ap (λ n. if_sole n (child_type f p) Unknown) one ∙ type-first f p ∙ sole_tree (λ x c. tree_type x.target.ctor c) Unknown f p e b is at one

pub name_sole : (f : Forest) (p : Position) (e : Edge) (b : Forest) → count_at f p ≡ 1 → IsTreeIn f e b → is_same_position e.position p ≡ true → name_in f p ≡ pattern_name e.target.ctor
name_sole f p e b one is at = ap (λ n. if_sole n (child_name f p) None) one ∙ child_name_sole f p e b one is at

-- ---- no only child that is a tree

abbrev pub HasNoTree : Forest → Position → Type 0
HasNoTree f p = (e : Edge) (b : Forest) → IsTreeIn f e b → is_same_position e.position p ≡ true → count_at f p ≡ 1 → ⊥

unless_sole : {X : Type 0} (n : ℕ) (found other : X) → (n ≡ 1 → found ≡ other) → if_sole n found other ≡ other
unless_sole zero found other same = refl
unless_sole (suc zero) found other same = same refl
unless_sole (suc (suc n)) found other same = refl

pub judged_without : (f : Forest) (p : Position) (d : Demanded) → HasNoTree f p → judged_in f p d ≡ Unknown
judged_without f p d nowhere =
    unless_sole (count_at f p) (judged_child f p d) Unknown
    (λ one. judged-first f p d ∙ no_tree (λ x c. (settled (expression_of x.target c d) (children_types (expression_of x.target c d) c)).typ) Unknown f p (λ e b is at. nowhere e b is at one))

pub type_without : (f : Forest) (p : Position) → HasNoTree f p → type_in f p ≡ Unknown
type_without f p nowhere =
    unless_sole (count_at f p) (child_type f p) Unknown (λ one. type-first f p ∙ no_tree (λ x c. tree_type x.target.ctor c) Unknown f p (λ e b is at. nowhere e b is at one))

pub name_without : (f : Forest) (p : Position) → HasNoTree f p → name_in f p ≡ None
name_without f p nowhere = unless_sole (count_at f p) (child_name f p) None (λ one. child_name_without f p (λ e b is at. nowhere e b is at one))
