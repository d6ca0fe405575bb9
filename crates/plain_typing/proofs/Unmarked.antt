-- Nodes without marks, and the positions under which none has one: those for patterns and types.
use Rattle.std.proofs.Common.{◌≡◌, ℕ, zero, suc, ◌+◌, Bool, true, false, cond, List, [], ◌∷◌, ◌++◌, Some, refl, sym, subst}
use Rattle.std.proofs.lemmas.Bool.{both_ways}
use Rattle.std.specs.List.{AllByRecursion}
use Rattle.grove_sorts.specs.declared.ctor.Ctor.{Ctor}
use Rattle.grove_sorts.specs.declared.position.Position.{Position}
use Rattle.grove_sorts.specs.declared.sort.Sort.{Sort}
use Rattle.grove_sorts.specs.declared.sort.Sort.TheVariants.{Top, Exp, Pat, Typ as TypeSort}
use Rattle.grove_sorts.specs.Ctor.{positions, sort_at, sort_of_ctor}
use Rattle.grove_edits.specs.declared.vertex.Vertex.{Vertex as VertexOf}
use Rattle.grove_sorts.specs.Position.{is_same_position}
use Rattle.grove_sorts.proofs.Rows.{places_found}
use Rattle.grove_terms.specs.declared.node.Node.{Node}
use Rattle.grove_terms.specs.Forest.{Forest, none, multi_ref, cycle_ref, tree, child_edges, IsWellSorted}
use Rattle.grove_terms.specs.Nodes.{count_at}
use Rattle.type_core.specs.Typ.{Typ}
use Rattle.mark_step.specs.declared.node.Mark.{Mark}
use Rattle.mark_step.specs.declared.node.Mark.TheVariants as mark
use Rattle.mark_step.specs.Expression.{Wanted, Expression, Demanded, has_mark}
use Rattle.mark_step.specs.Step.{demand}
use Rattle.mark_step.specs.Rows.{is_exp}
use Rattle.marking.specs.Marking.{MarkedNode, HasNoMark, expression, judged_in, marked_plain, marked_vertex, marked_place, marked_places, marked_children, synthesised_in}
use Rattle.marking.proofs.Judged.{child_has_sort}
use Rattle.marking.proofs.ByRows.{HasNoExpression, type_judges_none, pattern_judges_none, HasNoTop, no_top_in}

-- ---- nodes without marks

pub no_mark-join : (xs ys : List MarkedNode) → HasNoMark xs → HasNoMark ys → HasNoMark (xs ++ ys)
no_mark-join [] ys left right = right
no_mark-join (x ∷ xs) ys left right = (left.0, no_mark-join xs ys left.1 right)

pub no_mark-first : (xs ys : List MarkedNode) → HasNoMark (xs ++ ys) → HasNoMark xs
no_mark-first [] ys both = tt
no_mark-first (x ∷ xs) ys both = (both.0, no_mark-first xs ys both.1)

pub no_mark-rest : (xs ys : List MarkedNode) → HasNoMark (xs ++ ys) → HasNoMark ys
no_mark-rest [] ys both = both
no_mark-rest (x ∷ xs) ys both = no_mark-rest xs ys both.1

pub no_mark-either : (b : Bool) (xs ys : List MarkedNode) → (b ≡ true → HasNoMark xs) → HasNoMark ys → HasNoMark (cond b xs ys)
no_mark-either true xs ys here later = here refl
no_mark-either false xs ys here later = later

-- the test finds every mark
pub unmarked_by_test : (m : Mark) → has_mark m ≡ false → m ≡ mark.None
unmarked_by_test mark.None h = refl
unmarked_by_test _ h = absurd cc

pub unmarked_plain : (s : Sort) (w : Wanted) (n : Node) → has_mark (marked_plain s w n).mark ≡ false
unmarked_plain Exp w n = refl
unmarked_plain TypeSort w n = refl
unmarked_plain Pat w n = refl
unmarked_plain Top w n = refl

-- ---- patterns and types

-- the sort of patterns, or that of types
abbrev pub IsOtherSort : Sort → Type 0
IsOtherSort Pat = Unit {0}
IsOtherSort TypeSort = Unit {0}
IsOtherSort _ = ⊥

-- what the second sort may stand under: nothing stands over a root, and an expression stands under no pattern and no type
abbrev pub MayBeUnder : Sort → Sort → Type 0
MayBeUnder s Top = ⊥
MayBeUnder Pat Exp = ⊥
MayBeUnder TypeSort Exp = ⊥
MayBeUnder s t = Unit {0}

abbrev pub AreUnder : Ctor → List (Position × Sort) → Type 0
AreUnder c ps = AllByRecursion (λ p. (sort_at c p.0 ≡ Some p.1) × MayBeUnder (sort_of_ctor c) p.1) ps

pub positions_under : (c : Ctor) → AreUnder c (positions c)
positions_under c = among (positions c) (places_found c) (no_top_in c) no_expression where
  no_expression : IsOtherSort (sort_of_ctor c) → HasNoExpression (positions c)
  no_expression other = by_sort (sort_of_ctor c) refl other where
    by_sort : (s : Sort) → sort_of_ctor c ≡ s → IsOtherSort s → HasNoExpression (positions c)
    by_sort Pat is other = pattern_judges_none c is
    by_sort TypeSort is other = type_judges_none c is
    by_sort Exp is other = absurd other
    by_sort Top is other = absurd other

  under : (s t : Sort) → (t ≡ Top → ⊥) → (IsOtherSort s → is_exp t ≡ false) → MayBeUnder s t
  under s Top top other = absurd (top refl)
  under Pat Exp top other = absurd (both_ways true (other tt) refl)
  under TypeSort Exp top other = absurd (both_ways true (other tt) refl)
  under Exp Exp top other = tt
  under Top Exp top other = tt
  under s Pat top other = tt
  under s TypeSort top other = tt

  among : (ps : List (Position × Sort)) → AllByRecursion (λ p. sort_at c p.0 ≡ Some p.1) ps → HasNoTop ps → (IsOtherSort (sort_of_ctor c) → HasNoExpression ps) → AreUnder c ps
  among [] found top other = tt
  among (p ∷ ps) found top other = ((found.0, under (sort_of_ctor c) p.1 top.0 (λ h. (other h).0)), among ps found.1 top.1 (λ h. (other h).1))

other_under : (s t : Sort) → IsOtherSort s → MayBeUnder s t → IsOtherSort t
other_under Pat Pat other under = tt
other_under Pat TypeSort other under = tt
other_under Pat Exp other under = absurd under
other_under Pat Top other under = absurd under
other_under TypeSort Pat other under = tt
other_under TypeSort TypeSort other under = tt
other_under TypeSort Exp other under = absurd under
other_under TypeSort Top other under = absurd under
other_under Exp t other under = absurd other
other_under Top t other under = absurd other

unmarked_vertex : (s : Sort) (e : Expression) (f : Forest) (n : Node) → IsOtherSort s → has_mark (marked_vertex s e f n).mark ≡ false
unmarked_vertex Pat e f n other = refl
unmarked_vertex TypeSort e f n other = refl
unmarked_vertex Exp e f n other = absurd other
unmarked_vertex Top e f n other = absurd other

pub unmarked_place : (n : ℕ) (children : ℕ → Demanded → List MarkedNode) (depth : ℕ) (p : Position) (s : Sort) (d : Demanded) → ((at : ℕ) (x : Demanded) → HasNoMark (children at x))
    → HasNoMark (marked_place n children depth p s d)
unmarked_place zero children depth p s d clean = (unmarked_plain s d.wanted _, tt)
unmarked_place (suc zero) children depth p s d clean = clean depth d
unmarked_place (suc (suc n)) children depth p s d clean = (unmarked_plain s d.wanted _, clean (depth + 1) (synthesised_in d))

-- no child at a position for patterns or types has a mark
abbrev pub OthersUnmarked : Ctor → Forest → Type 0
OthersUnmarked c f = (p : Position) (s : Sort) → sort_at c p ≡ Some s → IsOtherSort s → (depth : ℕ) (d : Demanded) → HasNoMark (marked_children f depth p d)

pub unmarked_places : (e : Expression) (c : Ctor) (f : Forest) (depth : ℕ) (ps : List (Position × Sort)) (before : List Typ) → OthersUnmarked c f → IsOtherSort (sort_of_ctor c) → AreUnder c ps
    → HasNoMark (marked_places e (count_at f) (marked_children f) (judged_in f) depth ps before)
unmarked_places e c f depth [] before clean other under = tt
unmarked_places e c f depth (p ∷ ps) before clean other under =
    no_mark-join (marked_place (count_at f p.0) (λ at x. marked_children f at p.0 x) depth p.0 p.1 (demand e before)) _
    (unmarked_place (count_at f p.0) (λ at x. marked_children f at p.0 x) depth p.0 p.1 (demand e before) (clean p.0 p.1 under.0.0 (other_under (sort_of_ctor c) p.1 other under.0.1)))
    (unmarked_places e c f depth ps _ clean other under.1)

pub others_unmarked : (v : VertexOf) (f : Forest) → IsWellSorted v f → OthersUnmarked v.ctor f
others_unmarked v none sorted p s known other depth d = tt
others_unmarked v (multi_ref e rest) sorted p s known other depth d =
    let later = others_unmarked v rest sorted.1 p s known other depth d in
    no_mark-either (is_same_position e.position p) _ (marked_children rest depth p d) (λ here. (unmarked_plain (sort_of_ctor e.target.ctor) d.wanted _, later)) later
others_unmarked v (cycle_ref e rest) sorted p s known other depth d =
    let later = others_unmarked v rest sorted.1 p s known other depth d in
    no_mark-either (is_same_position e.position p) _ (marked_children rest depth p d) (λ here. (unmarked_plain (sort_of_ctor e.target.ctor) d.wanted _, later)) later
others_unmarked v (tree e below rest) sorted p s known other depth d =
    let later = others_unmarked v rest sorted.2 p s known other depth d in
    let x = expression e.target.ctor d.scope d.wanted below in
    let sort : is_same_position e.position p ≡ true → IsOtherSort (sort_of_ctor e.target.ctor) =
    λ here. subst IsOtherSort (sym (child_has_sort v e (child_edges rest) p s sorted.0 here known)) other in
    let places : is_same_position e.position p ≡ true → HasNoMark (marked_places x (count_at below) (marked_children below) (judged_in below) (depth + 1) (positions e.target.ctor) []) =
    λ here. unmarked_places x e.target.ctor below (depth + 1) (positions e.target.ctor) [] (others_unmarked e.target below sorted.1) (sort here) (positions_under e.target.ctor) in
    no_mark-either (is_same_position e.position p) _ (marked_children rest depth p d)
    (λ here. (unmarked_vertex (sort_of_ctor e.target.ctor) x below _ (sort here), no_mark-join _ (marked_children rest depth p d) (places here) later)) later
