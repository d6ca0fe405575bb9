-- Trees are typed exactly where their marked nodes have no mark.
use Rattle.std.proofs.Common.{◌≡◌, ◌↔◌, ℕ, zero, suc, ◌+◌, Bool, true, false, cond, List, [], ◌∷◌, ◌++◌, length, Some, refl, sym, ap, subst, ◌∙◌, append-nil, append_assoc, arith}
use Rattle.grove_sorts.specs.declared.ctor.Ctor.{Ctor}
use Rattle.grove_sorts.specs.declared.ctor.Ctor.TheVariants as ctor
use Rattle.grove_sorts.specs.declared.position.Position.{Position}
use Rattle.grove_sorts.specs.declared.position.Position.TheVariants.{Main}
use Rattle.grove_sorts.specs.declared.sort.Sort.{Sort}
use Rattle.grove_sorts.specs.declared.sort.Sort.TheVariants.{Top, Exp, Pat, Typ as TypeSort}
use Rattle.grove_sorts.specs.Ctor.{positions, sort_at, sort_of_ctor}
use Rattle.grove_edits.specs.declared.vertex.Vertex.{Vertex as VertexOf}
use Rattle.grove_sorts.specs.Position.{is_same_position}
use Rattle.grove_terms.specs.declared.node.Node.{Node}
use Rattle.grove_terms.specs.declared.node.What.TheVariants.{Vertex, MultiRef, CycleRef}
use Rattle.grove_terms.specs.Forest.{Forest, none, multi_ref, cycle_ref, tree, child_edges, IsWellSorted}
use Rattle.grove_terms.specs.Nodes.{child_node, head_node, count_at}
use Rattle.type_core.specs.Typ.{Typ, Unknown}
use Rattle.mark_step.specs.Expression.{Synthesise, Expression, Demanded, Marked, unmarked, has_mark}
use Rattle.mark_step.specs.Step.{demand, settled}
use Rattle.mark_step.specs.Rows.{judgements_after, judgements, child_types, expression_count}
use Rattle.mark_step.proofs.RowLemmas.{functions_follow_rows, rows_demand, rows_give}
use Rattle.marking.specs.Types.{if_sole}
use Rattle.marking.specs.Marking.{MarkedNode, HasNoMark, expression, types_at, judged_child, judged_in, children_types, marked_plain, marked_vertex, marked_place, marked_places, marked_children, synthesised_in, by_itself, marked_tree}
use Rattle.marking.specs.Rules.{Whether, AreJudged}
use Rattle.plain_typing.specs.Typed.{HasTypeByRule, PlaceHasType, EachHasType, HasTypeAt, IsTypedOfSort, IsTyped}
use Rattle.plain_typing.proofs.UnmarkedRows.{row_of_rule, rule_of_row}
use Rattle.marking.proofs.Judged.{types_at-new, length-new, child_has_sort, none_after}
use Rattle.plain_typing.proofs.Unmarked.{no_mark-join, no_mark-first, no_mark-rest, unmarked_by_test, unmarked_plain, IsOtherSort, AreUnder, positions_under, unmarked_place, OthersUnmarked, unmarked_places, others_unmarked}

-- each child has a type
abbrev EachTyped : Forest → Position → Demanded → Type 0
EachTyped f p d = EachHasType f p d (λ t. Unit {0})

-- ---- how many children stand at a position

zero_not_more : (b : Bool) (n : ℕ) (Here Later : Type 0) → (n ≡ 0 → Later) → cond b (suc n) n ≡ 0 → Whether b Here (Unit {0}) × Later
zero_not_more true n Here Later later count = absurd (omega (arith, count))
zero_not_more false n Here Later later count = (tt, later count)

none_has_type : (f : Forest) (p : Position) (d : Demanded) (Like : Typ → Type 0) → count_at f p ≡ 0 → EachHasType f p d Like
none_has_type none p d Like count = tt
none_has_type (multi_ref e rest) p d Like count = zero_not_more (is_same_position e.position p) (count_at rest p) _ _ (none_has_type rest p d Like) count
none_has_type (cycle_ref e rest) p d Like count = zero_not_more (is_same_position e.position p) (count_at rest p) _ _ (none_has_type rest p d Like) count
none_has_type (tree e below rest) p d Like count = zero_not_more (is_same_position e.position p) (count_at rest p) _ _ (none_has_type rest p d Like) count

none_before : (b : Bool) (n : ℕ) (X : Type 0) → (n ≡ 0 → X) → cond b (suc n) n ≡ 0 → X
none_before true n X later count = absurd (omega (arith, count))
none_before false n X later count = later count

none_is_judged : (f : Forest) (p : Position) (d : Demanded) → count_at f p ≡ 0 → judged_child f p d ≡ Unknown
none_is_judged none p d count = refl
none_is_judged (multi_ref e rest) p d count = none_before (is_same_position e.position p) (count_at rest p) _ (none_is_judged rest p d) count
none_is_judged (cycle_ref e rest) p d count = none_before (is_same_position e.position p) (count_at rest p) _ (none_is_judged rest p d) count
none_is_judged (tree e below rest) p d count = by_test (is_same_position e.position p) _ (none_is_judged rest p d) count where
  by_test : (b : Bool) (t : Typ) → (count_at rest p ≡ 0 → judged_child rest p d ≡ Unknown) → cond b (suc (count_at rest p)) (count_at rest p) ≡ 0
      → cond b t (judged_child rest p d) ≡ Unknown
  by_test true t later count = absurd (omega (arith, count))
  by_test false t later count = later count

-- ---- the type by a rule is that of the marking

-- the expressions at the positions of a constructor have no other type than that with which the marking goes on
abbrev OneType : Ctor → Forest → Type 0
OneType c f = (q : Position) (d : Demanded) (u : Typ) → sort_at c q ≡ Some Exp → HasTypeAt f q d u → u ≡ judged_in f q d

module _ (e : Expression) (c : Ctor) (f : Forest) (one : OneType c f) where
  pub types_judged : (ps : List (Position × Sort)) (before ts : List Typ) → AreUnder c ps → AreJudged (HasTypeAt f) ps (judgements_after e before ts)
      → types_at e (judged_in f) ps before ≡ before ++ ts
  types_judged [] before ts under are = sym (ap (λ us. before ++ us) (none_after e before ts are) ∙ append-nil before)
  types_judged ((q, Top) ∷ ps) before ts under are = absurd under.0.1
  types_judged ((q, Pat) ∷ ps) before ts under are = types_judged ps before ts under.1 are
  types_judged ((q, TypeSort) ∷ ps) before ts under are = types_judged ps before ts under.1 are
  types_judged ((q, Exp) ∷ ps) before [] under are = absurd are
  types_judged ((q, Exp) ∷ ps) before (u ∷ us) under are =
      let t = judged_in f q (demand e before) in
      let first : u ≡ t = one q (demand e before) u under.0.0 are.0 in
      let rest = types_judged ps (before ++ t ∷ []) us under.1 (subst (λ (x : Typ). AreJudged (HasTypeAt f) ps (judgements_after e (before ++ x ∷ []) us)) first are.1) in
      rest ∙ append_assoc before (t ∷ []) us ∙ ap (λ x. before ++ x ∷ us) (sym first)

rule_gives : (x : Expression) (f : Forest) (t : Typ) → OneType x.ctor f → HasTypeByRule x (HasTypeAt f) t → unmarked t ≡ settled x (children_types x f)
rule_gives x f t one rule =
    let row = row_of_rule x rule.judgements t rule.rule in
    let js : rule.judgements ≡ judgements x (child_types rule.judgements) = rows_demand x rule.judgements (unmarked t) row in
    let ts = types_judged x x.ctor f one (positions x.ctor) [] (child_types rule.judgements) (positions_under x.ctor) (subst (AreJudged (HasTypeAt f) (positions x.ctor)) js rule.children) in
    rows_give x rule.judgements (unmarked t) row ∙ ap (settled x) (sym ts)

-- where one child stands at a position, it is like its type that the marking gives
abbrev SoleIsLike : Forest → Position → Demanded → Type 1
SoleIsLike f q d = (Like : Typ → Type 0) → count_at f q ≡ 1 → EachHasType f q d Like → Like (judged_child f q d)

one_type : (f : Forest) (q : Position) (d : Demanded) (u : Typ) → SoleIsLike f q d → HasTypeAt f q d u → u ≡ judged_in f q d
one_type f q d u sole = by_count (count_at f q) refl where
  by_count : (n : ℕ) → count_at f q ≡ n → PlaceHasType n (EachHasType f q) d u → u ≡ if_sole n (judged_child f q d) Unknown
  by_count zero count has = has
  by_count (suc zero) count has = sym (sole (λ x. x ≡ u) count has)
  by_count (suc (suc n)) count has = has.0

one_before : (b : Bool) (n : ℕ) (Here Later X : Type 0) → (n ≡ 0 → Here → X) → (n ≡ 1 → Later → X) → cond b (suc n) n ≡ 1 → Whether b Here (Unit {0}) × Later → X
one_before true n Here Later X here later count has = here (omega (arith, count)) has.0
one_before false n Here Later X here later count has = later count has.1

sole_is_like : (v : VertexOf) (f : Forest) (p : Position) (d : Demanded) → IsWellSorted v f → sort_at v.ctor p ≡ Some Exp → SoleIsLike f p d
sole_is_like v none p d sorted wants Like count has = absurd (omega (arith, count))
sole_is_like v (multi_ref e rest) p d sorted wants Like count has =
    one_before (is_same_position e.position p) (count_at rest p) _ _ (Like (judged_child rest p d)) (λ zero like. subst Like (sym (none_is_judged rest p d zero)) like)
    (sole_is_like v rest p d sorted.1 wants Like) count has
sole_is_like v (cycle_ref e rest) p d sorted wants Like count has =
    one_before (is_same_position e.position p) (count_at rest p) _ _ (Like (judged_child rest p d)) (λ zero like. subst Like (sym (none_is_judged rest p d zero)) like)
    (sole_is_like v rest p d sorted.1 wants Like) count has
sole_is_like v (tree e below rest) p d sorted wants Like count has =
    by_test (is_same_position e.position p)
    (λ q y u wanted at. one_type below q y u (λ L. sole_is_like e.target below q y sorted.1 wanted L) at)
    (sole_is_like v rest p d sorted.2 wants Like) count has where
      x : Expression
      x = expression e.target.ctor d.scope d.wanted below

      by_test : (b : Bool) → OneType e.target.ctor below → (count_at rest p ≡ 1 → EachHasType rest p d Like → Like (judged_child rest p d))
          → cond b (suc (count_at rest p)) (count_at rest p) ≡ 1
          → Whether b ((t : Typ) × Like t × HasTypeByRule x (HasTypeAt below) t) (Unit {0}) × EachHasType rest p d Like
          → Like (cond b (settled x (children_types x below)).typ (judged_child rest p d))
      by_test true one later count has = subst Like (ap (λ (m : Marked). m.typ) (rule_gives x below has.0.0 one has.0.2)) has.0.1
      by_test false one later count has = later count has.1

-- what has a type has the one with which the marking goes on
pub has_one_type : (v : VertexOf) (f : Forest) (p : Position) (d : Demanded) (t : Typ) → IsWellSorted v f → sort_at v.ctor p ≡ Some Exp → HasTypeAt f p d t → t ≡ judged_in f p d
has_one_type v f p d t sorted wants = one_type f p d t (sole_is_like v f p d sorted wants)

-- ---- what is typed has no marks

-- each child has a type exactly where none of their nodes has a mark
abbrev EachClean : Forest → Position → Demanded → Type 0
EachClean f p d = (depth : ℕ) → EachTyped f p d ↔ HasNoMark (marked_children f depth p d)

abbrev place : Forest → Position → Demanded → ℕ → Sort → List MarkedNode
place f q d depth s = marked_place (count_at f q) (λ at x. marked_children f at q x) depth q s d

-- what stands at an expression position of a constructor has its type exactly where no node there has a mark
abbrev AreClean : Ctor → Forest → Type 0
AreClean c f = (q : Position) (d : Demanded) (depth : ℕ) → sort_at c q ≡ Some Exp → HasTypeAt f q d (judged_in f q d) ↔ HasNoMark (place f q d depth Exp)

module _ (e : Expression) (c : Ctor) (f : Forest) (one : OneType c f) (clean : AreClean c f) (others : OthersUnmarked c f) (depth : ℕ) where
  abbrev places : List (Position × Sort) → List Typ → List MarkedNode
  places ps before = marked_places e (count_at f) (marked_children f) (judged_in f) depth ps before

  other_place : (q : Position) (s : Sort) (ps : List (Position × Sort)) (before : List Typ) → sort_at c q ≡ Some s → IsOtherSort s → HasNoMark (places ps before)
      → HasNoMark (place f q (demand e before) depth s ++ places ps before)
  other_place q s ps before known other rest =
      no_mark-join (place f q (demand e before) depth s) (places ps before) (unmarked_place (count_at f q) (λ at x. marked_children f at q x) depth q s (demand e before) (others q s known other)) rest

  pub typed_places : (ps : List (Position × Sort)) (before ts : List Typ) → AreUnder c ps → AreJudged (HasTypeAt f) ps (judgements_after e before ts) → HasNoMark (places ps before)
  typed_places [] before ts under are = tt
  typed_places ((q, Top) ∷ ps) before ts under are = absurd under.0.1
  typed_places ((q, Pat) ∷ ps) before ts under are = other_place q Pat ps before under.0.0 tt (typed_places ps before ts under.1 are)
  typed_places ((q, TypeSort) ∷ ps) before ts under are = other_place q TypeSort ps before under.0.0 tt (typed_places ps before ts under.1 are)
  typed_places ((q, Exp) ∷ ps) before [] under are = absurd are
  typed_places ((q, Exp) ∷ ps) before (u ∷ us) under are =
      let d = demand e before in
      let t = judged_in f q d in
      let first : u ≡ t = one q d u under.0.0 are.0 in
      no_mark-join (place f q d depth Exp) (places ps (before ++ t ∷ []))
      ((clean q d depth under.0.0).0 (subst (HasTypeAt f q d) first are.0))
      (typed_places ps (before ++ t ∷ []) us under.1 (subst (λ (x : Typ). AreJudged (HasTypeAt f) ps (judgements_after e (before ++ x ∷ []) us)) first are.1))

  pub unmarked_judged : (ps : List (Position × Sort)) (before : List Typ) → AreUnder c ps → HasNoMark (places ps before)
      → (ts : List Typ) × (types_at e (judged_in f) ps before ≡ before ++ ts) × AreJudged (HasTypeAt f) ps (judgements_after e before ts)
  unmarked_judged [] before under clear = ([], sym (append-nil before), refl)
  unmarked_judged ((q, Top) ∷ ps) before under clear = absurd under.0.1
  unmarked_judged ((q, Pat) ∷ ps) before under clear = unmarked_judged ps before under.1 (no_mark-rest (place f q (demand e before) depth Pat) (places ps before) clear)
  unmarked_judged ((q, TypeSort) ∷ ps) before under clear = unmarked_judged ps before under.1 (no_mark-rest (place f q (demand e before) depth TypeSort) (places ps before) clear)
  unmarked_judged ((q, Exp) ∷ ps) before under clear =
      let d = demand e before in
      let t = judged_in f q d in
      let rest = unmarked_judged ps (before ++ t ∷ []) under.1 (no_mark-rest (place f q d depth Exp) (places ps (before ++ t ∷ [])) clear) in
      (t ∷ rest.0, rest.1 ∙ append_assoc before (t ∷ []) rest.0, ((clean q d depth under.0.0).1 (no_mark-first (place f q d depth Exp) (places ps (before ++ t ∷ [])) clear), rest.2))

types_count : (c : Ctor) (e : Expression) (judge : Position → Demanded → Typ) → length (types_at e judge (positions c) []) ≡ expression_count c
types_count c e judge = ap (λ (ts : List Typ). length ts) (types_at-new e judge (positions c) []) ∙ length-new c e judge

-- the nodes of an expression with these children have no mark
abbrev WholeUnmarked : Expression → Forest → ℕ → Type 0
WholeUnmarked x f depth =
    (has_mark (settled x (children_types x f)).mark ≡ false) × HasNoMark (marked_places x (count_at f) (marked_children f) (judged_in f) depth (positions x.ctor) [])

module _ (x : Expression) (f : Forest) (one : OneType x.ctor f) (clean : AreClean x.ctor f) (others : OthersUnmarked x.ctor f) (depth : ℕ) where
  pub typed_is_unmarked : (t : Typ) → HasTypeByRule x (HasTypeAt f) t → WholeUnmarked x f depth
  typed_is_unmarked t rule =
      let row = row_of_rule x rule.judgements t rule.rule in
      let js : rule.judgements ≡ judgements x (child_types rule.judgements) = rows_demand x rule.judgements (unmarked t) row in (
        ap (λ (m : Marked). has_mark m.mark) (sym (rule_gives x f t one rule)),
        typed_places x x.ctor f one clean others depth (positions x.ctor) [] (child_types rule.judgements) (positions_under x.ctor)
            (subst (AreJudged (HasTypeAt f) (positions x.ctor)) js rule.children),
      )

  pub unmarked_is_typed : sort_of_ctor x.ctor ≡ Exp → WholeUnmarked x f depth → HasTypeByRule x (HasTypeAt f) (settled x (children_types x f)).typ
  unmarked_is_typed sort clear =
      let walk = unmarked_judged x x.ctor f one clean others depth (positions x.ctor) [] (positions_under x.ctor) clear.1 in
      record {
        judgements = judgements x (children_types x f);
        rule = rule_of_row x (judgements x (children_types x f)) (settled x (children_types x f)) (functions_follow_rows x (children_types x f) sort (types_count x.ctor x (judged_in f)))
            (unmarked_by_test (settled x (children_types x f)).mark clear.0);
        children = subst (λ (ts : List Typ). AreJudged (HasTypeAt f) (positions x.ctor) (judgements x ts)) (sym walk.1) walk.2;
      }

-- ---- the children at a position

-- where one child stands at a position and is typed, it has the type that the marking gives it
abbrev SoleHasOwn : Forest → Position → Demanded → Type 0
SoleHasOwn f q d = count_at f q ≡ 1 → EachTyped f q d → EachHasType f q d (λ u. u ≡ judged_child f q d)

own_before : (b : Bool) (n : ℕ) (Here Own Later LaterOwn : Type 0) → (n ≡ 0 → Here → Own × LaterOwn) → (n ≡ 1 → Later → LaterOwn) → cond b (suc n) n ≡ 1
    → Whether b Here (Unit {0}) × Later → Whether b Own (Unit {0}) × LaterOwn
own_before true n Here Own Later LaterOwn here later count has = here (omega (arith, count)) has.0
own_before false n Here Own Later LaterOwn here later count has = (tt, later count has.1)

sole_has_own : (v : VertexOf) (f : Forest) (p : Position) (d : Demanded) → IsWellSorted v f → sort_at v.ctor p ≡ Some Exp → SoleHasOwn f p d
sole_has_own v none p d sorted wants count has = tt
sole_has_own v (multi_ref e rest) p d sorted wants count has =
    own_before (is_same_position e.position p) (count_at rest p) _ _ _ _ (λ zero h. (sym (none_is_judged rest p d zero), none_has_type rest p d _ zero)) (sole_has_own v rest p d sorted.1 wants) count has
sole_has_own v (cycle_ref e rest) p d sorted wants count has =
    own_before (is_same_position e.position p) (count_at rest p) _ _ _ _ (λ zero h. (sym (none_is_judged rest p d zero), none_has_type rest p d _ zero)) (sole_has_own v rest p d sorted.1 wants) count has
sole_has_own v (tree e below rest) p d sorted wants count has =
    by_test (is_same_position e.position p) (λ q y u wanted. has_one_type e.target below q y u sorted.1 wanted) (sole_has_own v rest p d sorted.2 wants) count has where
      x : Expression
      x = expression e.target.ctor d.scope d.wanted below

      own : Bool → Typ
      own b = cond b (settled x (children_types x below)).typ (judged_child rest p d)

      by_test : (b : Bool) → OneType e.target.ctor below → SoleHasOwn rest p d → cond b (suc (count_at rest p)) (count_at rest p) ≡ 1
          → Whether b ((t : Typ) × Unit {0} × HasTypeByRule x (HasTypeAt below) t) (Unit {0}) × EachTyped rest p d
          → Whether b ((t : Typ) × (t ≡ own b) × HasTypeByRule x (HasTypeAt below) t) (Unit {0}) × EachHasType rest p d (λ u. u ≡ own b)
      by_test true one later count has =
          ((has.0.0, ap (λ (m : Marked). m.typ) (rule_gives x below has.0.0 one has.0.2), has.0.2), none_has_type rest p d _ (omega (arith, count)))
      by_test false one later count has = (tt, later count has.1)

each_typed : (f : Forest) (p : Position) (d : Demanded) (Like : Typ → Type 0) → EachHasType f p d Like → EachTyped f p d
each_typed none p d Like has = tt
each_typed (multi_ref e rest) p d Like has = (by_test (is_same_position e.position p), each_typed rest p d Like has.1) where
  by_test : (b : Bool) → Whether b (Unit {0}) (Unit {0})
  by_test true = tt
  by_test false = tt
each_typed (cycle_ref e rest) p d Like has = (by_test (is_same_position e.position p), each_typed rest p d Like has.1) where
  by_test : (b : Bool) → Whether b (Unit {0}) (Unit {0})
  by_test true = tt
  by_test false = tt
each_typed (tree e below rest) p d Like has = (by_test (is_same_position e.position p) has.0, each_typed rest p d Like has.1) where
  by_test : (b : Bool) → Whether b ((t : Typ) × Like t × HasTypeByRule (expression e.target.ctor d.scope d.wanted below) (HasTypeAt below) t) (Unit {0})
      → Whether b ((t : Typ) × Unit {0} × HasTypeByRule (expression e.target.ctor d.scope d.wanted below) (HasTypeAt below) t) (Unit {0})
  by_test true has = (has.0, tt, has.2)
  by_test false has = tt

place_clean : (f : Forest) (q : Position) (d : Demanded) (depth : ℕ) → ((x : Demanded) → SoleHasOwn f q x) → ((x : Demanded) → EachClean f q x)
    → HasTypeAt f q d (judged_in f q d) ↔ HasNoMark (place f q d depth Exp)
place_clean f q d depth own each = by_count (count_at f q) refl where
  by_count : (n : ℕ) → count_at f q ≡ n
      → PlaceHasType n (EachHasType f q) d (if_sole n (judged_child f q d) Unknown) ↔ HasNoMark (marked_place n (λ at x. marked_children f at q x) depth q Exp d)
  by_count zero count = (λ has. (refl, tt), λ clear. refl)
  by_count (suc zero) count = (λ has. (each d depth).0 (each_typed f q d _ has), λ clear. own d count ((each d depth).1 clear))
  by_count (suc (suc n)) count =
      (λ has. (refl, (each (synthesised_in d) (depth + 1)).0 has.1), λ clear. (refl, (each (synthesised_in d) (depth + 1)).1 clear.1))

either_clean : (b : Bool) (Here Later : Type 0) (xs ys : List MarkedNode) → (b ≡ true → Here × Later ↔ HasNoMark xs) → Later ↔ HasNoMark ys → Whether b Here (Unit {0}) × Later ↔ HasNoMark (cond b xs ys)
either_clean true Here Later xs ys here later = here refl
either_clean false Here Later xs ys here later = (λ has. later.0 has.1, λ clear. (tt, later.1 clear))

reference_clean : (m : MarkedNode) (ms : List MarkedNode) (Later : Type 0) → has_mark m.mark ≡ false → Later ↔ HasNoMark ms → Unit {0} × Later ↔ HasNoMark (m ∷ ms)
reference_clean m ms Later plain later = (λ has. (plain, later.0 has.1), λ clear. (tt, later.1 clear.1))

tree_clean : (x : Expression) (below : Forest) (depth : ℕ) (n : Node) (ms : List MarkedNode) (Later : Type 0) → sort_of_ctor x.ctor ≡ Exp → OneType x.ctor below → AreClean x.ctor below
    → OthersUnmarked x.ctor below → Later ↔ HasNoMark ms
    → ((t : Typ) × Unit {0} × HasTypeByRule x (HasTypeAt below) t) × Later
    ↔ HasNoMark (marked_vertex (sort_of_ctor x.ctor) x below n ∷ (marked_places x (count_at below) (marked_children below) (judged_in below) depth (positions x.ctor) [] ++ ms))
tree_clean x below depth n ms Later sort one clean others later =
    subst (λ s. ((t : Typ) × Unit {0} × HasTypeByRule x (HasTypeAt below) t) × Later ↔ HasNoMark (marked_vertex s x below n ∷ (under ++ ms))) (sym sort) (
      λ has. let whole = typed_is_unmarked x below one clean others depth has.0.0 has.0.2 in (whole.0, no_mark-join under ms whole.1 (later.0 has.1)),
      λ clear. (((settled x (children_types x below)).typ, tt, unmarked_is_typed x below one clean others depth sort (clear.0, no_mark-first under ms clear.1)), later.1 (no_mark-rest under ms clear.1)),
    ) where
      under : List MarkedNode
      under = marked_places x (count_at below) (marked_children below) (judged_in below) depth (positions x.ctor) []

-- children at an expression position are typed exactly where they have no mark
pub each_clean : (v : VertexOf) (f : Forest) (p : Position) (d : Demanded) → IsWellSorted v f → sort_at v.ctor p ≡ Some Exp → EachClean f p d
each_clean v none p d sorted wants depth = (λ has. tt, λ clear. tt)
each_clean v (multi_ref e rest) p d sorted wants depth =
    let later = each_clean v rest p d sorted.1 wants depth in
    either_clean (is_same_position e.position p) _ _ _ _ (λ here. reference_clean (marked_plain (sort_of_ctor e.target.ctor) d.wanted (child_node depth p e (MultiRef e.target))) _ _ (unmarked_plain (sort_of_ctor e.target.ctor) d.wanted _) later) later
each_clean v (cycle_ref e rest) p d sorted wants depth =
    let later = each_clean v rest p d sorted.1 wants depth in
    either_clean (is_same_position e.position p) _ _ _ _ (λ here. reference_clean (marked_plain (sort_of_ctor e.target.ctor) d.wanted (child_node depth p e (CycleRef e.target))) _ _ (unmarked_plain (sort_of_ctor e.target.ctor) d.wanted _) later) later
each_clean v (tree e below rest) p d sorted wants depth =
    let later = each_clean v rest p d sorted.2 wants depth in
    let clean : AreClean e.target.ctor below =
    λ q y at wanted. place_clean below q y at (λ z. sole_has_own e.target below q z sorted.1 wanted) (λ z. each_clean e.target below q z sorted.1 wanted) in
    either_clean (is_same_position e.position p) _ _ _ _
    (λ here. tree_clean (expression e.target.ctor d.scope d.wanted below) below (depth + 1) (child_node depth p e (Vertex e.target)) (marked_children rest depth p d) (EachTyped rest p d)
    (child_has_sort v e (child_edges rest) p Exp sorted.0 here wants) (λ q y u wanted. has_one_type e.target below q y u sorted.1 wanted) clean (others_unmarked e.target below sorted.1) later)
    later

-- ---- whole trees

all_clean : (v : VertexOf) (f : Forest) → IsWellSorted v f → AreClean v.ctor f
all_clean v f sorted q d depth wants = place_clean f q d depth (λ x. sole_has_own v f q x sorted wants) (λ x. each_clean v f q x sorted wants)

abbrev marked_under : Ctor → Forest → List MarkedNode
marked_under c f = marked_places (by_itself c f) (count_at f) (marked_children f) (judged_in f) 1 (positions c) []

-- the children of a root all synthesise, in no scope
root_clean : (f : Forest) → ((d : Demanded) → EachClean f Main d) → EachTyped f Main (record { scope = []; wanted = Synthesise }) ↔ HasNoMark (marked_under ctor.Root f)
root_clean f each = by_count (count_at f Main) refl where
  alone : Demanded
  alone = record { scope = []; wanted = Synthesise }

  by_count : (n : ℕ) → count_at f Main ≡ n → EachTyped f Main alone ↔ HasNoMark (marked_place n (λ at x. marked_children f at Main x) 1 Main Exp alone ++ [])
  by_count zero count = (λ has. (refl, tt), λ clear. none_has_type f Main alone _ count)
  by_count (suc zero) count = subst (λ ms. EachTyped f Main alone ↔ HasNoMark ms) (sym (append-nil (marked_children f 1 Main alone))) (each alone 1)
  by_count (suc (suc n)) count =
      let children : EachTyped f Main alone ↔ HasNoMark (marked_children f (1 + 1) Main alone ++ []) =
      subst (λ ms. EachTyped f Main alone ↔ HasNoMark ms) (sym (append-nil (marked_children f (1 + 1) Main alone))) (each alone (1 + 1)) in
      (λ has. (refl, children.0 has), λ clear. children.1 clear.1)

head_clean : (v : VertexOf) (f : Forest) → IsWellSorted v f → (c : Ctor) → v.ctor ≡ c → sort_of_ctor c ≡ Top
    → EachTyped f Main (record { scope = []; wanted = Synthesise }) ↔ HasNoMark (marked_under c f)
head_clean v f sorted ctor.Root is top = root_clean f (λ d. each_clean v f Main d sorted (ap (λ c. sort_at c Main) is))
head_clean v f sorted _ is top = absurd cc

-- trees are typed exactly where their nodes have no mark
pub typed_is_clean : (v : VertexOf) (f : Forest) → IsWellSorted v f → IsTyped v f ↔ HasNoMark (marked_tree v f)
typed_is_clean v f sorted = by_sort (sort_of_ctor v.ctor) refl where
  one : OneType v.ctor f
  one q d u wants = has_one_type v f q d u sorted wants

  others : OthersUnmarked v.ctor f
  others = others_unmarked v f sorted

  by_sort : (s : Sort) → sort_of_ctor v.ctor ≡ s → IsTypedOfSort s v.ctor f ↔ HasNoMark (marked_vertex s (by_itself v.ctor f) f (head_node v) ∷ marked_under v.ctor f)
  by_sort Exp sort = (
    λ has. typed_is_unmarked (by_itself v.ctor f) f one (all_clean v f sorted) others 1 has.0 has.1,
    λ clear. ((settled (by_itself v.ctor f) (children_types (by_itself v.ctor f) f)).typ, unmarked_is_typed (by_itself v.ctor f) f one (all_clean v f sorted) others 1 sort clear),
  )
  by_sort Top sort =
      let under = head_clean v f sorted v.ctor refl sort in
      (λ has. (refl, under.0 has), λ clear. under.1 clear.1)
  by_sort Pat sort = (λ has. (refl, unmarked_places (by_itself v.ctor f) v.ctor f 1 (positions v.ctor) [] others (subst IsOtherSort (sym sort) tt) (positions_under v.ctor)), λ clear. tt)
  by_sort TypeSort sort = (λ has. (refl, unmarked_places (by_itself v.ctor f) v.ctor f 1 (positions v.ctor) [] others (subst IsOtherSort (sym sort) tt) (positions_under v.ctor)), λ clear. tt)
