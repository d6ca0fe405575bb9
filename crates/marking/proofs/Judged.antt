-- By the rules each expression of a tree has exactly one type.
use Rattle.std.proofs.Common.{◌≡◌, ℕ, zero, suc, Bool, true, false, cond, List, [], ◌∷◌, ◌++◌, length, refl, sym, ap, subst, ◌∙◌, append-nil, append_assoc, arith}
use Rattle.std.specs.Prelude.{◌+◌, fold, if◌then◌else◌, Some}
use Rattle.std.specs.List.{AllByRecursion}
use Rattle.grove_sorts.specs.declared.position.Position.{Position}
use Rattle.grove_sorts.specs.declared.sort.Sort.{Sort}
use Rattle.grove_sorts.specs.declared.sort.Sort.TheVariants.{Top, Exp, Pat, Typ as TypeSort}
use Rattle.grove_sorts.specs.declared.ctor.Ctor.{Ctor}
use Rattle.grove_sorts.specs.Ctor.{positions, sort_at, sort_of_ctor}
use Rattle.grove_edits.specs.declared.vertex.Vertex.{Vertex}
use Rattle.grove_edits.specs.declared.edge.Edge.{Edge}
use Rattle.grove_edits.proofs.WellFormed.{place_fits}
use Rattle.grove_sorts.specs.Position.{is_same_position}
use Rattle.grove_sorts.proofs.Orders.{one_position}
use Rattle.grove_sorts.proofs.Rows.{places_found}
use Rattle.grove_terms.specs.Forest.{Forest, none, multi_ref, cycle_ref, tree, child_edges, IsChildOf, IsWellSorted}
use Rattle.grove_terms.specs.Nodes.{count_at}
use Rattle.type_core.specs.Typ.{Typ, Unknown}
use Rattle.mark_step.specs.Expression.{Expression, Demanded, Marked}
use Rattle.mark_step.specs.Step.{demand, settled}
use Rattle.mark_step.specs.Rows.{judgements_after, judgements, child_types, is_exp, expression_count}
use Rattle.mark_step.proofs.RowLemmas.{functions_follow_rows, rows_demand, rows_give}
use Rattle.marking.specs.Types.{if_sole}
use Rattle.marking.specs.Marking.{expression, types_at, judged_child, judged_in, children_types}
use Rattle.marking.specs.Rules.{OfSole, Whether, FirstIsJudged, AreJudged, HasByRule, ChildHas}

-- ---- the types of the expressions at some positions, one after the other

abbrev pub new_types : Expression → (Position → Demanded → Typ) → List (Position × Sort) → List Typ → List Typ
new_types e judge [] before = []
new_types e judge (p ∷ ps) before =
    if is_exp p.1 then (judge p.0 (demand e before) ∷ new_types e judge ps (before ++ judge p.0 (demand e before) ∷ [])) else new_types e judge ps before

pub types_at-new : (e : Expression) (judge : Position → Demanded → Typ) (ps : List (Position × Sort)) (before : List Typ) → types_at e judge ps before ≡ before ++ new_types e judge ps before
types_at-new e judge [] before = sym (append-nil before)
types_at-new e judge (p ∷ ps) before =
    by_test (is_exp p.1) (types_at-new e judge ps (before ++ judge p.0 (demand e before) ∷ [])) (types_at-new e judge ps before) where
      by_test : (b : Bool)
          → types_at e judge ps (before ++ judge p.0 (demand e before) ∷ []) ≡ (before ++ judge p.0 (demand e before) ∷ []) ++ new_types e judge ps (before ++ judge p.0 (demand e before) ∷ [])
          → types_at e judge ps before ≡ before ++ new_types e judge ps before
          → cond b (types_at e judge ps (before ++ judge p.0 (demand e before) ∷ [])) (types_at e judge ps before)
          ≡ before ++ cond b (judge p.0 (demand e before) ∷ new_types e judge ps (before ++ judge p.0 (demand e before) ∷ [])) (new_types e judge ps before)
      by_test true one other = one ∙ append_assoc before (judge p.0 (demand e before) ∷ []) (new_types e judge ps (before ++ judge p.0 (demand e before) ∷ []))
      by_test false one other = other

-- there are as many as expressions among the positions
pub length-new : (c : Ctor) (e : Expression) (judge : Position → Demanded → Typ) → length (new_types e judge (positions c) []) ≡ expression_count c
length-new c e judge =
    let none_before : length (new_types e judge (positions c) []) ≡ 0 + length (new_types e judge (positions c) []) = omega arith in
    none_before ∙ as_many (positions c) [] 0
  where
    one_more : (n m : ℕ) → n + suc m ≡ n + 1 + m
    one_more n m = omega arith

    none_more : (n m : ℕ) → n + m ≡ n + 0 + m
    none_more n m = omega arith

    as_many : (ps : List (Position × Sort)) (before : List Typ) (n : ℕ) → n + length (new_types e judge ps before) ≡ fold (λ a p. a + cond (is_exp p.1) 1 0) n ps
    as_many [] before n = omega arith
    as_many ((q, Exp) ∷ ps) before n =
        let more : List Typ = before ++ judge q (demand e before) ∷ [] in
        one_more n (length (new_types e judge ps more)) ∙ as_many ps more (n + 1)
    as_many ((q, Top) ∷ ps) before n = none_more n (length (new_types e judge ps before)) ∙ as_many ps before (n + 0)
    as_many ((q, Pat) ∷ ps) before n = none_more n (length (new_types e judge ps before)) ∙ as_many ps before (n + 0)
    as_many ((q, TypeSort) ∷ ps) before n = none_more n (length (new_types e judge ps before)) ∙ as_many ps before (n + 0)

-- ---- as judgements

abbrev AreRight : (Position → Demanded → Typ → Type 0) → (Position → Demanded → Typ) → List (Position × Sort) → Type 0
AreRight Has judge ps = AllByRecursion (λ p. is_exp p.1 ≡ true → (d : Demanded) → Has p.0 d (judge p.0 d)) ps

abbrev AreOnly : (Position → Demanded → Typ → Type 0) → (Position → Demanded → Typ) → List (Position × Sort) → Type 0
AreOnly Has judge ps = AllByRecursion (λ p. is_exp p.1 ≡ true → (d : Demanded) (u : Typ) → Has p.0 d u → u ≡ judge p.0 d) ps

are_judged : (e : Expression) (Has : Position → Demanded → Typ → Type 0) (judge : Position → Demanded → Typ) (ps : List (Position × Sort)) (before : List Typ) → AreRight Has judge ps
    → AreJudged Has ps (judgements_after e before (new_types e judge ps before))
are_judged e Has judge [] before right = refl
are_judged e Has judge (p ∷ ps) before right =
    by_test (is_exp p.1) refl (are_judged e Has judge ps (before ++ judge p.0 (demand e before) ∷ []) right.1) (are_judged e Has judge ps before right.1) where
      by_test : (b : Bool) → is_exp p.1 ≡ b
          → AreJudged Has ps (judgements_after e (before ++ judge p.0 (demand e before) ∷ []) (new_types e judge ps (before ++ judge p.0 (demand e before) ∷ [])))
          → AreJudged Has ps (judgements_after e before (new_types e judge ps before))
          → Whether b (FirstIsJudged (Has p.0) (AreJudged Has ps) (judgements_after e before (cond b (judge p.0 (demand e before) ∷ new_types e judge ps (before ++ judge p.0 (demand e before) ∷ [])) (new_types e judge ps before))))
          (AreJudged Has ps (judgements_after e before (cond b (judge p.0 (demand e before) ∷ new_types e judge ps (before ++ judge p.0 (demand e before) ∷ [])) (new_types e judge ps before))))
      by_test true is one other = (right.0 is (demand e before), one)
      by_test false is one other = other

pub none_after : (e : Expression) (before ts : List Typ) → judgements_after e before ts ≡ [] → ts ≡ []
none_after e before [] is = refl
none_after e before (t ∷ ts) is = absurd cc

one_list : (e : Expression) (Has : Position → Demanded → Typ → Type 0) (judge : Position → Demanded → Typ) (ps : List (Position × Sort)) (before ts : List Typ) → AreOnly Has judge ps
    → AreJudged Has ps (judgements_after e before ts) → ts ≡ new_types e judge ps before
one_list e Has judge [] before ts only are = none_after e before ts are
one_list e Has judge (p ∷ ps) before ts only are =
    by_test (is_exp p.1) refl ts (λ us more. one_list e Has judge ps (before ++ judge p.0 (demand e before) ∷ []) us only.1 more) (one_list e Has judge ps before ts only.1) are where
      by_test : (b : Bool) → is_exp p.1 ≡ b → (us : List Typ)
          → ((vs : List Typ) → AreJudged Has ps (judgements_after e (before ++ judge p.0 (demand e before) ∷ []) vs) → vs ≡ new_types e judge ps (before ++ judge p.0 (demand e before) ∷ []))
          → (AreJudged Has ps (judgements_after e before us) → us ≡ new_types e judge ps before)
          → Whether b (FirstIsJudged (Has p.0) (AreJudged Has ps) (judgements_after e before us)) (AreJudged Has ps (judgements_after e before us))
          → us ≡ cond b (judge p.0 (demand e before) ∷ new_types e judge ps (before ++ judge p.0 (demand e before) ∷ [])) (new_types e judge ps before)
      by_test true is [] later other h = absurd h
      by_test true is (u ∷ us) later other h =
          let first : u ≡ judge p.0 (demand e before) = only.0 is (demand e before) u h.0 in
          let rest = later us (subst (λ (t : Typ). AreJudged Has ps (judgements_after e (before ++ t ∷ []) us)) first h.1) in
          ap (λ t. t ∷ us) first ∙ ap (λ vs. judge p.0 (demand e before) ∷ vs) rest
      by_test false is us later other h = other h

-- ---- expressions stand at positions of expressions

-- the sort of a child's position is found by the position
child_fits : (v : Vertex) (e : Edge) (others : List Edge) (p : Position) → IsChildOf v e others → is_same_position e.position p ≡ true → sort_at v.ctor p ≡ Some (sort_of_ctor e.target.ctor)
child_fits v e others p is same =
    ap (sort_at v.ctor) (sym (one_position e.position p same)) ∙ ap (λ (w : Vertex). sort_at w.ctor e.position) (sym is.source) ∙ place_fits e is.well_formed

pub child_has_sort : (v : Vertex) (e : Edge) (others : List Edge) (p : Position) (s : Sort) → IsChildOf v e others → is_same_position e.position p ≡ true → sort_at v.ctor p ≡ Some s → sort_of_ctor e.target.ctor ≡ s
child_has_sort v e others p s is same wants = one (sort_of_ctor e.target.ctor) s (sym (child_fits v e others p is same) ∙ wants) where
  one : (a b : Sort) → Some a ≡ Some b → a ≡ b
  one a b h = cc

-- each position of an expression is found as one
wants_exp : (c : Ctor) → AllByRecursion (λ p. is_exp p.1 ≡ true → sort_at c p.0 ≡ Some Exp) (positions c)
wants_exp c = among (positions c) (places_found c) where
  exp : (s : Sort) → is_exp s ≡ true → s ≡ Exp
  exp Exp h = refl
  exp Top h = absurd cc
  exp Pat h = absurd cc
  exp TypeSort h = absurd cc

  among : (ps : List (Position × Sort)) → AllByRecursion (λ p. sort_at c p.0 ≡ Some p.1) ps → AllByRecursion (λ p. is_exp p.1 ≡ true → sort_at c p.0 ≡ Some Exp) ps
  among [] all = tt
  among (p ∷ ps) all = (λ h. all.0 ∙ ap Some (exp p.1 h), among ps all.1)

-- ---- the type by the rules

abbrev SoleHas : Forest → Position → Demanded → Typ → Type 0
SoleHas f q d u = OfSole (count_at f q) (ChildHas f q d u) u

sole_right : (n : ℕ) (Rule : Typ → Type 0) (t : Typ) → Rule t → OfSole n (Rule (if_sole n t Unknown)) (if_sole n t Unknown)
sole_right zero Rule t h = refl
sole_right (suc zero) Rule t h = h
sole_right (suc (suc n)) Rule t h = refl

sole_only : (n : ℕ) (Rule : Type 0) (t u : Typ) → (Rule → u ≡ t) → OfSole n Rule u → u ≡ if_sole n t Unknown
sole_only zero Rule t u only h = h
sole_only (suc zero) Rule t u only h = only h
sole_only (suc (suc n)) Rule t u only h = h

all_right : (c : Ctor) (f : Forest) (ps : List (Position × Sort)) → ((q : Position) (d : Demanded) → sort_at c q ≡ Some Exp → ChildHas f q d (judged_child f q d))
    → AllByRecursion (λ p. is_exp p.1 ≡ true → sort_at c p.0 ≡ Some Exp) ps → AllByRecursion (λ p. is_exp p.1 ≡ true → (d : Demanded) → SoleHas f p.0 d (judged_in f p.0 d)) ps
all_right c f [] has wants = tt
all_right c f (p ∷ ps) has wants =
    (λ is d. sole_right (count_at f p.0) (λ u. ChildHas f p.0 d u) (judged_child f p.0 d) (has p.0 d (wants.0 is)), all_right c f ps has wants.1)

all_only : (c : Ctor) (f : Forest) (ps : List (Position × Sort)) → ((q : Position) (d : Demanded) (u : Typ) → sort_at c q ≡ Some Exp → ChildHas f q d u → u ≡ judged_child f q d)
    → AllByRecursion (λ p. is_exp p.1 ≡ true → sort_at c p.0 ≡ Some Exp) ps → AllByRecursion (λ p. is_exp p.1 ≡ true → (d : Demanded) (u : Typ) → SoleHas f p.0 d u → u ≡ judged_in f p.0 d) ps
all_only c f [] only wants = tt
all_only c f (p ∷ ps) only wants =
    (λ is d u h. sole_only (count_at f p.0) (ChildHas f p.0 d u) (judged_child f p.0 d) u (only p.0 d u (wants.0 is)) h, all_only c f ps only wants.1)

by_rule : (x : Expression) (f : Forest) → sort_of_ctor x.ctor ≡ Exp → ((q : Position) (d : Demanded) → sort_at x.ctor q ≡ Some Exp → ChildHas f q d (judged_child f q d))
    → HasByRule x (SoleHas f) (settled x (children_types x f)).typ
by_rule x f sort has =
    let types : children_types x f ≡ new_types x (judged_in f) (positions x.ctor) [] = types_at-new x (judged_in f) (positions x.ctor) [] in
    let long : length (children_types x f) ≡ expression_count x.ctor = ap (λ (ts : List Typ). length ts) types ∙ length-new x.ctor x (judged_in f) in
    record {
      judgements = judgements x (children_types x f);
      marked = settled x (children_types x f);
      row = functions_follow_rows x (children_types x f) sort long;
      children = subst (λ (ts : List Typ). AreJudged (SoleHas f) (positions x.ctor) (judgements x ts)) (sym types)
          (are_judged x (SoleHas f) (judged_in f) (positions x.ctor) [] (all_right x.ctor f (positions x.ctor) has (wants_exp x.ctor)));
      typ = refl;
    }

only_by_rule : (x : Expression) (f : Forest) (t : Typ) → ((q : Position) (d : Demanded) (u : Typ) → sort_at x.ctor q ≡ Some Exp → ChildHas f q d u → u ≡ judged_child f q d)
    → HasByRule x (SoleHas f) t → t ≡ (settled x (children_types x f)).typ
only_by_rule x f t only rule =
    let js : rule.judgements ≡ judgements x (child_types rule.judgements) = rows_demand x rule.judgements rule.marked rule.row in
    let ts : child_types rule.judgements ≡ new_types x (judged_in f) (positions x.ctor) [] =
    one_list x (SoleHas f) (judged_in f) (positions x.ctor) [] (child_types rule.judgements) (all_only x.ctor f (positions x.ctor) only (wants_exp x.ctor))
    (subst (AreJudged (SoleHas f) (positions x.ctor)) js rule.children) in
    rule.typ ∙ ap (λ (m : Marked). m.typ) (rows_give x rule.judgements rule.marked rule.row)
    ∙ ap (λ (us : List Typ). (settled x us).typ) (ts ∙ sym (types_at-new x (judged_in f) (positions x.ctor) []))

pub child_has : (v : Vertex) (f : Forest) (p : Position) (d : Demanded) → IsWellSorted v f → sort_at v.ctor p ≡ Some Exp → ChildHas f p d (judged_child f p d)
child_has v none p d sorted wants = refl
child_has v (multi_ref e rest) p d sorted wants = child_has v rest p d sorted.1 wants
child_has v (cycle_ref e rest) p d sorted wants = child_has v rest p d sorted.1 wants
child_has v (tree e below rest) p d sorted wants =
    by_test (is_same_position e.position p) refl
    (λ sort. by_rule (expression e.target.ctor d.scope d.wanted below) below sort (λ q demanded wanted. child_has e.target below q demanded sorted.1 wanted))
    (child_has v rest p d sorted.2 wants) where
      by_test : (b : Bool) → is_same_position e.position p ≡ b
          → (sort_of_ctor e.target.ctor ≡ Exp → HasByRule (expression e.target.ctor d.scope d.wanted below) (SoleHas below) (settled (expression e.target.ctor d.scope d.wanted below) (children_types (expression e.target.ctor d.scope d.wanted below) below)).typ)
          → ChildHas rest p d (judged_child rest p d)
          → Whether b (HasByRule (expression e.target.ctor d.scope d.wanted below) (SoleHas below)
          (cond b (settled (expression e.target.ctor d.scope d.wanted below) (children_types (expression e.target.ctor d.scope d.wanted below) below)).typ (judged_child rest p d)))
          (ChildHas rest p d (cond b (settled (expression e.target.ctor d.scope d.wanted below) (children_types (expression e.target.ctor d.scope d.wanted below) below)).typ (judged_child rest p d)))
      by_test true same rule later = rule (child_has_sort v e (child_edges rest) p Exp sorted.0 same wants)
      by_test false same rule later = later

pub child_has_only : (v : Vertex) (f : Forest) (p : Position) (d : Demanded) (t : Typ) → IsWellSorted v f → sort_at v.ctor p ≡ Some Exp → ChildHas f p d t → t ≡ judged_child f p d
child_has_only v none p d t sorted wants h = h
child_has_only v (multi_ref e rest) p d t sorted wants h = child_has_only v rest p d t sorted.1 wants h
child_has_only v (cycle_ref e rest) p d t sorted wants h = child_has_only v rest p d t sorted.1 wants h
child_has_only v (tree e below rest) p d t sorted wants h =
    by_test (is_same_position e.position p)
    (only_by_rule (expression e.target.ctor d.scope d.wanted below) below t (λ q demanded u wanted. child_has_only e.target below q demanded u sorted.1 wanted))
    (child_has_only v rest p d t sorted.2 wants) h where
      by_test : (b : Bool)
          → (HasByRule (expression e.target.ctor d.scope d.wanted below) (SoleHas below) t → t ≡ (settled (expression e.target.ctor d.scope d.wanted below) (children_types (expression e.target.ctor d.scope d.wanted below) below)).typ)
          → (ChildHas rest p d t → t ≡ judged_child rest p d)
          → Whether b (HasByRule (expression e.target.ctor d.scope d.wanted below) (SoleHas below) t) (ChildHas rest p d t)
          → t ≡ cond b (settled (expression e.target.ctor d.scope d.wanted below) (children_types (expression e.target.ctor d.scope d.wanted below) below)).typ (judged_child rest p d)
      by_test true rule later h = rule h
      by_test false rule later h = later h
