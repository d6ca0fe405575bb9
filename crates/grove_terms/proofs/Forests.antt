-- A forest stands under each root and under each vertex in its tree, and only one.
use Rattle.std.proofs.Common.{◌≡◌, ℕ, zero, suc, ◌+◌, ◌<◌, List, [], ◌∷◌, length, refl, sym, ap, subst, ◌∙◌, arith}
use Rattle.std.specs.Prelude.{Some}
use Rattle.std.specs.List.{AllByRecursion}
use Rattle.grove_edits.specs.declared.vertex.Vertex.{Vertex}
use Rattle.grove_edits.specs.declared.edge.Edge.{Edge}
use Rattle.graph_words.specs.declared.class.Class.{Class}
use Rattle.graph_words.specs.declared.class.Class.TheVariants.{NoParent, Multi, Cycle, Inner}
use Rattle.graph_words.specs.Walk.{above}
use Rattle.graph_words.specs.Class.{class}
use Rattle.graph_words.proofs.Endings.{AreApart}
use Rattle.grove_terms.specs.Forest.{Forest, none, multi_ref, cycle_ref, tree, child_edges, edges_under, AreChildren, StandsUnder}
use Rattle.grove_terms.proofs.InLive.{IsFrom, target_has_parent, above_target, under_lead}
use Rattle.grove_terms.proofs.Descents.{IsDescent, new_below, length-descent}

-- ---- forests made along lists of edges

-- the child along an edge to a vertex of a class
abbrev pub child_of : Class → Edge → Forest → Forest → Forest
child_of Multi e below rest = multi_ref e rest
child_of Cycle e below rest = cycle_ref e rest
child_of Inner e below rest = tree e below rest
child_of NoParent e below rest = tree e below rest

abbrev pub children_along : List Edge → (Vertex → Forest) → List Edge → Forest
children_along live below [] = none
children_along live below (e ∷ es) = child_of (class live e.target) e (below e.target) (children_along live below es)

-- what stands under a vertex, at most so many levels of it
abbrev pub forest_at : ℕ → List Edge → Vertex → Forest
forest_at zero live v = none
forest_at (suc levels) live v = children_along live (forest_at levels live) (edges_under live v)

-- what stands under a vertex
abbrev pub forest_of : List Edge → Vertex → Forest
forest_of live v = forest_at (suc (length live)) live v

child_edges-child_of : (c : Class) (e : Edge) (below rest : Forest) → child_edges (child_of c e below rest) ≡ e ∷ child_edges rest
child_edges-child_of Multi e below rest = refl
child_edges-child_of Cycle e below rest = refl
child_edges-child_of Inner e below rest = refl
child_edges-child_of NoParent e below rest = refl

pub child_edges-children_along : (live : List Edge) (below : Vertex → Forest) (es : List Edge) → child_edges (children_along live below es) ≡ es
child_edges-children_along live below [] = refl
child_edges-children_along live below (e ∷ es) =
    child_edges-child_of (class live e.target) e (below e.target) (children_along live below es) ∙ ap (λ fs. e ∷ fs) (child_edges-children_along live below es)

-- an edge whose target has a parent and, where it is inner, a forest that stands under it
pub record IsGood (live : List Edge) (below : Vertex → Forest) (e : Edge) : Type 0 where
  pub has_parent : class live e.target ≡ NoParent → ⊥
  pub inner : class live e.target ≡ Inner → StandsUnder live e.target (below e.target)

good_child : (live : List Edge) (below : Vertex → Forest) (e : Edge) (rest : Forest) → IsGood live below e → AreChildren live rest → AreChildren live (child_of (class live e.target) e (below e.target) rest)
good_child live below e rest good children = by_class (class live e.target) refl where
  by_class : (c : Class) → class live e.target ≡ c → AreChildren live (child_of c e (below e.target) rest)
  by_class Multi is = (is, children)
  by_class Cycle is = (is, children)
  by_class Inner is = let stands = good.inner is in (is, stands.edges, stands.children, children)
  by_class NoParent is = absurd (good.has_parent is)

good_children : (live : List Edge) (below : Vertex → Forest) (es : List Edge) → AllByRecursion (IsGood live below) es → AreChildren live (children_along live below es)
good_children live below [] all = tt
good_children live below (e ∷ es) all = good_child live below e (children_along live below es) all.0 (good_children live below es all.1)

-- ---- a forest stands under each root

good_from_descent : (live : List Edge) (r v : Vertex) (vs : List Vertex) (below : Vertex → Forest) (es : List Edge) → (class live r ≡ Inner → ⊥) → IsDescent live r (v ∷ vs) → AreApart (v ∷ vs)
    → ((t : Vertex) → IsDescent live r (t ∷ v ∷ vs) → AreApart (t ∷ v ∷ vs) → StandsUnder live t (below t))
    → AllByRecursion (IsFrom live v) es → AllByRecursion (IsGood live below) es
good_from_descent live r v vs below [] outer descent apart stands lead = tt
good_from_descent live r v vs below (e ∷ es) outer descent apart stands lead =
    (record { has_parent = target_has_parent live e lead.0.held; inner = good_inner }, good_from_descent live r v vs below es outer descent apart stands lead.1) where
      good_inner : class live e.target ≡ Inner → StandsUnder live e.target (below e.target)
      good_inner inner =
          let up : above live e.target ≡ Some v = above_target live e lead.0.held inner ∙ ap Some lead.0.source in
          stands e.target (inner, up, descent) (new_below live r e.target v vs outer descent apart inner up, apart)

stands_at : (levels : ℕ) (live : List Edge) (r v : Vertex) (vs : List Vertex) → (class live r ≡ Inner → ⊥) → IsDescent live r (v ∷ vs) → AreApart (v ∷ vs) → suc (length live) < length (v ∷ vs) + levels
    → StandsUnder live v (forest_at levels live v)
stands_at zero live r v vs outer descent apart enough =
    let short = length-descent live r v vs descent apart in absurd (omega arith)
stands_at (suc levels) live r v vs outer descent apart enough =
    record {
      edges = child_edges-children_along live (forest_at levels live) (edges_under live v);
      children = good_children live (forest_at levels live) (edges_under live v)
          (good_from_descent live r v vs (forest_at levels live) (edges_under live v) outer descent apart
          (λ t longer further. stands_at levels live r t (v ∷ vs) outer longer further (omega arith)) (under_lead live v));
    }

-- what stands under a vertex, as far as it goes
abbrev pub Stands : List Edge → Vertex → Type 0
Stands live v = StandsUnder live v (forest_of live v)

pub root_stands : (live : List Edge) (r : Vertex) → (class live r ≡ Inner → ⊥) → Stands live r
root_stands live r outer = stands_at (suc (length live)) live r r [] outer refl (refl, tt) (omega arith)

-- ---- and under each vertex in its tree

same_children : (live : List Edge) (below further : Vertex → Forest) (es : List Edge) → ((t : Vertex) → StandsUnder live t (below t) → further t ≡ below t) → AreChildren live (children_along live below es)
    → children_along live further es ≡ children_along live below es
same_children live below further [] same children = refl
same_children live below further (e ∷ es) same children = by_class (same_children live below further es same) (class live e.target) children where
  by_class : (AreChildren live (children_along live below es) → children_along live further es ≡ children_along live below es) → (c : Class) → AreChildren live (child_of c e (below e.target) (children_along live below es))
      → child_of c e (further e.target) (children_along live further es) ≡ child_of c e (below e.target) (children_along live below es)
  by_class later Multi cs = ap (multi_ref e) (later cs.1)
  by_class later Cycle cs = ap (cycle_ref e) (later cs.1)
  by_class later Inner cs =
      ap (λ f. tree e f (children_along live further es)) (same e.target (record { edges = cs.1; children = cs.2 })) ∙ ap (tree e (below e.target)) (later cs.3)
  by_class later NoParent cs =
      ap (λ f. tree e f (children_along live further es)) (same e.target (record { edges = cs.1; children = cs.2 })) ∙ ap (tree e (below e.target)) (later cs.3)

-- where a forest stands whole, one level more adds nothing
one_more : (levels : ℕ) (live : List Edge) (v : Vertex) → StandsUnder live v (forest_at levels live v) → forest_at (suc levels) live v ≡ forest_at levels live v
one_more zero live v stands = ap (children_along live (forest_at zero live)) (sym stands.edges)
one_more (suc levels) live v stands = same_children live (forest_at levels live) (forest_at (suc levels) live) (edges_under live v) (one_more levels live) stands.children

children_stand : (live : List Edge) (es : List Edge) → AreChildren live (children_along live (forest_at (length live) live) es)
    → AllByRecursion (λ e. class live e.target ≡ Inner → Stands live e.target) es
children_stand live [] children = tt
children_stand live (e ∷ es) children = (λ inner. first (class live e.target) inner children, children_stand live es (later (class live e.target) children)) where
  below : Forest
  below = forest_at (length live) live e.target

  rest : Forest
  rest = children_along live (forest_at (length live) live) es

  whole : StandsUnder live e.target (forest_at (length live) live e.target) → Stands live e.target
  whole stands = subst (StandsUnder live e.target) (sym (one_more (length live) live e.target stands)) stands

  first : (c : Class) → c ≡ Inner → AreChildren live (child_of c e (forest_at (length live) live e.target) (children_along live (forest_at (length live) live) es)) → Stands live e.target
  first Multi is cs = absurd cc
  first Cycle is cs = absurd cc
  first Inner is cs = whole (record { edges = cs.1; children = cs.2 })
  first NoParent is cs = absurd cc

  later : (c : Class) → AreChildren live (child_of c e (forest_at (length live) live e.target) (children_along live (forest_at (length live) live) es)) → AreChildren live (children_along live (forest_at (length live) live) es)
  later Multi cs = cs.1
  later Cycle cs = cs.1
  later Inner cs = cs.3
  later NoParent cs = cs.3

pub below_stands : (live : List Edge) (v : Vertex) → Stands live v → AllByRecursion (λ e. class live e.target ≡ Inner → Stands live e.target) (edges_under live v)
below_stands live v stands = children_stand live (edges_under live v) stands.children

-- ---- only one

two_classes : (live : List Edge) (v : Vertex) (a b : Class) → class live v ≡ a → class live v ≡ b → a ≡ b
two_classes live v a b e f = sym e ∙ f

-- forests with the same edges at their top, each child of which is right, are one
pub one_forest : (live : List Edge) (f g : Forest) → child_edges f ≡ child_edges g → AreChildren live f → AreChildren live g → f ≡ g
one_forest live none none same a b = refl
one_forest live none (multi_ref e rest) same a b = absurd cc
one_forest live none (cycle_ref e rest) same a b = absurd cc
one_forest live none (tree e below rest) same a b = absurd cc
one_forest live (multi_ref d others) none same a b = absurd cc
one_forest live (multi_ref d others) (multi_ref e rest) same a b =
    let first : d ≡ e = cc in let later : child_edges others ≡ child_edges rest = cc in
    ap (λ x. multi_ref x others) first ∙ ap (multi_ref e) (one_forest live others rest later a.1 b.1)
one_forest live (multi_ref d others) (cycle_ref e rest) same a b =
    let first : d ≡ e = cc in let clash = two_classes live e.target Multi Cycle (ap (λ (x : Edge). class live x.target) (sym first) ∙ a.0) b.0 in absurd cc
one_forest live (multi_ref d others) (tree e below rest) same a b =
    let first : d ≡ e = cc in let clash = two_classes live e.target Multi Inner (ap (λ (x : Edge). class live x.target) (sym first) ∙ a.0) b.0 in absurd cc
one_forest live (cycle_ref d others) none same a b = absurd cc
one_forest live (cycle_ref d others) (multi_ref e rest) same a b =
    let first : d ≡ e = cc in let clash = two_classes live e.target Cycle Multi (ap (λ (x : Edge). class live x.target) (sym first) ∙ a.0) b.0 in absurd cc
one_forest live (cycle_ref d others) (cycle_ref e rest) same a b =
    let first : d ≡ e = cc in let later : child_edges others ≡ child_edges rest = cc in
    ap (λ x. cycle_ref x others) first ∙ ap (cycle_ref e) (one_forest live others rest later a.1 b.1)
one_forest live (cycle_ref d others) (tree e below rest) same a b =
    let first : d ≡ e = cc in let clash = two_classes live e.target Cycle Inner (ap (λ (x : Edge). class live x.target) (sym first) ∙ a.0) b.0 in absurd cc
one_forest live (tree d under others) none same a b = absurd cc
one_forest live (tree d under others) (multi_ref e rest) same a b =
    let first : d ≡ e = cc in let clash = two_classes live e.target Inner Multi (ap (λ (x : Edge). class live x.target) (sym first) ∙ a.0) b.0 in absurd cc
one_forest live (tree d under others) (cycle_ref e rest) same a b =
    let first : d ≡ e = cc in let clash = two_classes live e.target Inner Cycle (ap (λ (x : Edge). class live x.target) (sym first) ∙ a.0) b.0 in absurd cc
one_forest live (tree d under others) (tree e below rest) same a b =
    let first : d ≡ e = cc in let later : child_edges others ≡ child_edges rest = cc in
    let deeper : child_edges under ≡ child_edges below = a.1 ∙ ap (λ (x : Edge). edges_under live x.target) first ∙ sym b.1 in
    ap (λ x. tree x under others) first ∙ ap (λ f. tree e f others) (one_forest live under below deeper a.2 b.2) ∙ ap (tree e below) (one_forest live others rest later a.3 b.3)
