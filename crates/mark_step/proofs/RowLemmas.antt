-- The rules of marking as functions give what the rows of the tables give.
use Rattle.std.proofs.Common.{◌≡◌, ◌≢◌, Bool, true, false, List, [], ◌∷◌, ◌++◌, length, Option, None, Some, is_some, unwrap_or, refl, sym, ap, subst, ◌∙◌, if◌then◌else◌, arith}
use Rattle.std.specs.Option.{option_map}
use Rattle.grove_sorts.specs.declared.ctor.Ctor.{Ctor}
use Rattle.grove_sorts.specs.declared.ctor.Ctor.TheVariants.{Var, Lam, Ap, Num, Plus, LitTrue, LitFalse, Choose, Pair, Fst, Snd, Let, Inl, Inr, Case}
use Rattle.grove_sorts.specs.declared.sort.Sort.TheVariants.{Exp}
use Rattle.grove_sorts.specs.Ctor.{sort_of_ctor}
use Rattle.type_core.specs.declared.former.Former.TheVariants.{Arrow, Product, Sum}
use Rattle.type_core.specs.Typ.{Typ, matched_parts, is_consistent, meet}
use Rattle.type_core.specs.Typ as typ
use Rattle.type_core.proofs.TypLemmas.{meet-inconsistent, is_some-meet}
use Rattle.mark_step.specs.declared.node.Mark.{Mark}
use Rattle.mark_step.specs.declared.node.Mark.TheVariants as mark
use Rattle.mark_step.specs.Scope.{Scope, type_of_name, bind}
use Rattle.mark_step.specs.Expression.{Wanted, Synthesise, Analyse, Bound, Expression, Marked, marked, body_scope}
use Rattle.mark_step.specs.Step.{wanted_next, or_mark, synthesised, analysed, against, mark_against, function_mark, unless_matched, case_result, settled}
use Rattle.mark_step.specs.Rows.{Judgement, syn, ana, Synthesises, syn_var, syn_var_free, syn_lam, syn_ap, syn_ap_not_arrow, syn_num, syn_plus, syn_true, syn_false, syn_if, syn_if_branches, syn_pair, syn_fst, syn_fst_not_product, syn_snd, syn_snd_not_product, syn_let, syn_inl, syn_inr, syn_case, syn_case_not_sum, syn_case_branches, IsOther, Analyses, ana_lam, ana_lam_ascription, ana_lam_against, ana_if, ana_pair, ana_pair_against, ana_let, ana_inl, ana_inl_against, ana_inr, ana_inr_against, ana_case, ana_case_not_sum, ana_marked, ana_inconsistent, ana_other, Follows, FollowsAs, child_types, judgements_after, judgements, expression_count}

abbrev expression : Ctor → Scope → Bound → Wanted → Expression
expression ctor scope b w = record { ctor = ctor; scope = scope; wanted = w; bound = b }

abbrev known : Option (Typ × Typ) → Typ × Typ
known o = unwrap_or o (typ.Unknown, typ.Unknown)

-- the children of a case, by the parts of what it takes apart
abbrev case_children : Scope → Bound → Wanted → Typ → Typ → Typ → Option (Typ × Typ) → List Judgement
case_children scope b w on when_left when_right o =
    syn scope on
    ∷ record { scope = bind b.name (known o).0 scope; wanted = w; typ = when_left }
    ∷ record { scope = bind b.second (known o).1 scope; wanted = w; typ = when_right } ∷ []

-- a row of synthesis demands what the functions do
synthesis_demands : (scope : Scope) (b : Bound) (ctor : Ctor) (js : List Judgement) (t : Typ) (m : Mark)
    → Synthesises scope b ctor js t m → js ≡ judgements (expression ctor scope b Synthesise) (child_types js)
synthesis_demands scope b ctor js t m (syn_ap f from to arg h) = ap (λ o. syn scope f ∷ ana scope (known o).0 arg ∷ []) (sym h)
synthesis_demands scope b ctor js t m (syn_ap_not_arrow f arg h) = ap (λ o. syn scope f ∷ ana scope (known o).0 arg ∷ []) (sym h)
synthesis_demands scope b ctor js t m (syn_case on left right when_left when_right both h e) = ap (case_children scope b Synthesise on when_left when_right) (sym h)
synthesis_demands scope b ctor js t m (syn_case_not_sum on when_left when_right h) = ap (case_children scope b Synthesise on when_left when_right) (sym h)
synthesis_demands scope b ctor js t m (syn_case_branches on left right when_left when_right h e) = ap (case_children scope b Synthesise on when_left when_right) (sym h)
synthesis_demands scope b ctor js t m _ = refl

-- a row of synthesis gives what the functions give
synthesis_gives : (scope : Scope) (b : Bound) (ctor : Ctor) (js : List Judgement) (t : Typ) (m : Mark)
    → Synthesises scope b ctor js t m → marked t m ≡ synthesised ctor scope b (child_types js)
synthesis_gives scope b ctor js t m (syn_var x _ h) = ap (λ o. or_mark o mark.Free) (sym h)
synthesis_gives scope b ctor js t m (syn_var_free x h) = ap (λ o. or_mark o mark.Free) (sym h)
synthesis_gives scope b ctor js t m (syn_ap f from to arg h) = ap (λ (o : Option (Typ × Typ)). or_mark (option_map (λ p. p.1) o) mark.NotArrow) (sym h)
synthesis_gives scope b ctor js t m (syn_ap_not_arrow f arg h) = ap (λ (o : Option (Typ × Typ)). or_mark (option_map (λ p. p.1) o) mark.NotArrow) (sym h)
synthesis_gives scope b ctor js t m (syn_if test when_true when_false both h) = ap (λ o. or_mark o mark.Branches) (sym h)
synthesis_gives scope b ctor js t m (syn_if_branches test when_true when_false h) = ap (λ o. or_mark o mark.Branches) (sym (meet-inconsistent when_true when_false h))
synthesis_gives scope b ctor js t m (syn_fst of first second h) = ap (λ (o : Option (Typ × Typ)). or_mark (option_map (λ p. p.0) o) mark.NotProduct) (sym h)
synthesis_gives scope b ctor js t m (syn_fst_not_product of h) = ap (λ (o : Option (Typ × Typ)). or_mark (option_map (λ p. p.0) o) mark.NotProduct) (sym h)
synthesis_gives scope b ctor js t m (syn_snd of first second h) = ap (λ (o : Option (Typ × Typ)). or_mark (option_map (λ p. p.1) o) mark.NotProduct) (sym h)
synthesis_gives scope b ctor js t m (syn_snd_not_product of h) = ap (λ (o : Option (Typ × Typ)). or_mark (option_map (λ p. p.1) o) mark.NotProduct) (sym h)
synthesis_gives scope b ctor js t m (syn_case on left right when_left when_right both h e) =
    ap (λ o. or_mark o mark.Branches) (sym e) ∙ ap (λ o. case_result o (meet when_left when_right)) (sym h)
synthesis_gives scope b ctor js t m (syn_case_not_sum on when_left when_right h) = ap (λ o. case_result o (meet when_left when_right)) (sym h)
synthesis_gives scope b ctor js t m (syn_case_branches on left right when_left when_right h e) =
    ap (λ o. or_mark o mark.Branches) (sym (meet-inconsistent when_left when_right e)) ∙ ap (λ o. case_result o (meet when_left when_right)) (sym h)
synthesis_gives scope b ctor js t m _ = refl

-- of the children of other constructors the same is wanted in analysis as in synthesis
wanted_next-other : (ctor : Ctor) (t : Typ) (before : List Typ) → IsOther ctor → wanted_next ctor Synthesise before ≡ wanted_next ctor (Analyse t) before
wanted_next-other Lam t before other = absurd other
wanted_next-other Choose t before other = absurd other
wanted_next-other Pair t before other = absurd other
wanted_next-other Let t before other = absurd other
wanted_next-other Inl t before other = absurd other
wanted_next-other Inr t before other = absurd other
wanted_next-other Case t before other = absurd other
wanted_next-other _ t before other = refl

judgements_after-other : (ctor : Ctor) (scope : Scope) (b : Bound) (t : Typ) (before ts : List Typ) → IsOther ctor
    → judgements_after (expression ctor scope b Synthesise) before ts ≡ judgements_after (expression ctor scope b (Analyse t)) before ts
judgements_after-other ctor scope b t before [] other = refl
judgements_after-other ctor scope b t before (u ∷ us) other =
    let first = wanted_next-other ctor t before other in
    let rest = judgements_after-other ctor scope b t (before ++ u ∷ []) us other in
    cc

analysed-other : (ctor : Ctor) (scope : Scope) (b : Bound) (t : Typ) (done : List Typ) → IsOther ctor
    → analysed ctor scope b t done ≡ against t (synthesised ctor scope b done)
analysed-other Lam scope b t done other = absurd other
analysed-other Choose scope b t done other = absurd other
analysed-other Pair scope b t done other = absurd other
analysed-other Let scope b t done other = absurd other
analysed-other Inl scope b t done other = absurd other
analysed-other Inr scope b t done other = absurd other
analysed-other Case scope b t done other = absurd other
analysed-other _ scope b t done other = refl

other_demands : (scope : Scope) (b : Bound) (t : Typ) (ctor : Ctor) (js : List Judgement) (s : Typ) (m : Mark) → IsOther ctor
    → Synthesises scope b ctor js s m → js ≡ judgements (expression ctor scope b (Analyse t)) (child_types js)
other_demands scope b t ctor js s m other r =
    synthesis_demands scope b ctor js s m r ∙ judgements_after-other ctor scope b t [] (child_types js) other

-- a row of analysis demands what the functions do
analysis_demands : (scope : Scope) (b : Bound) (t : Typ) (ctor : Ctor) (js : List Judgement) (s : Typ) (m : Mark)
    → Analyses scope b t ctor js s m → js ≡ judgements (expression ctor scope b (Analyse t)) (child_types js)
analysis_demands scope b t ctor js s m (ana_lam from to body h same) = ap (λ o. ana (body_scope b scope) (known o).1 body ∷ []) (sym h)
analysis_demands scope b t ctor js s m (ana_lam_ascription from to body h differ) = ap (λ o. ana (body_scope b scope) (known o).1 body ∷ []) (sym h)
analysis_demands scope b t ctor js s m (ana_lam_against body h) = ap (λ o. ana (body_scope b scope) (known o).1 body ∷ []) (sym h)
analysis_demands scope b t ctor js s m (ana_pair left right first second h) = ap (λ o. ana scope (known o).0 first ∷ ana scope (known o).1 second ∷ []) (sym h)
analysis_demands scope b t ctor js s m (ana_pair_against first second h) = ap (λ o. ana scope (known o).0 first ∷ ana scope (known o).1 second ∷ []) (sym h)
analysis_demands scope b t ctor js s m (ana_inl left right of h) = ap (λ o. ana scope (known o).0 of ∷ []) (sym h)
analysis_demands scope b t ctor js s m (ana_inl_against of h) = ap (λ o. ana scope (known o).0 of ∷ []) (sym h)
analysis_demands scope b t ctor js s m (ana_inr left right of h) = ap (λ o. ana scope (known o).1 of ∷ []) (sym h)
analysis_demands scope b t ctor js s m (ana_inr_against of h) = ap (λ o. ana scope (known o).1 of ∷ []) (sym h)
analysis_demands scope b t ctor js s m (ana_case on left right when_left when_right h) = ap (case_children scope b (Analyse t) on when_left when_right) (sym h)
analysis_demands scope b t ctor js s m (ana_case_not_sum on when_left when_right h) = ap (case_children scope b (Analyse t) on when_left when_right) (sym h)
analysis_demands scope b t ctor js s m (ana_marked _ _ _ _ other r ne) = other_demands scope b t ctor js s m other r
analysis_demands scope b t ctor js s m (ana_inconsistent _ _ _ other r differ) = other_demands scope b t ctor js s mark.None other r
analysis_demands scope b t ctor js s m (ana_other _ _ _ other r same) = other_demands scope b t ctor js s mark.None other r
analysis_demands scope b t ctor js s m _ = refl

mark_against-marked : (m : Mark) (same : Bool) → m ≢ mark.None → m ≡ mark_against m same
mark_against-marked mark.None same ne = absurd (ne refl)
mark_against-marked mark.Free same ne = refl
mark_against-marked mark.NotArrow same ne = refl
mark_against-marked mark.NotProduct same ne = refl
mark_against-marked mark.Branches same ne = refl
mark_against-marked mark.LamAgainst same ne = refl
mark_against-marked mark.Ascription same ne = refl
mark_against-marked mark.PairAgainst same ne = refl
mark_against-marked mark.Inconsistent same ne = refl
mark_against-marked mark.NotSum same ne = refl
mark_against-marked mark.InjAgainst same ne = refl

other_gives : (scope : Scope) (b : Bound) (t : Typ) (ctor : Ctor) (js : List Judgement) (s : Typ) (m n : Mark) → IsOther ctor
    → Synthesises scope b ctor js s m → n ≡ mark_against m (is_consistent s t) → marked s n ≡ analysed ctor scope b t (child_types js)
other_gives scope b t ctor js s m n other r e =
    ap (marked s) e
    ∙ ap (against t) (synthesis_gives scope b ctor js s m r)
    ∙ sym (analysed-other ctor scope b t (child_types js) other)

-- a row of analysis gives what the functions give
analysis_gives : (scope : Scope) (b : Bound) (t : Typ) (ctor : Ctor) (js : List Judgement) (s : Typ) (m : Mark)
    → Analyses scope b t ctor js s m → marked s m ≡ analysed ctor scope b t (child_types js)
analysis_gives scope b t ctor js s m (ana_lam from to body h same) =
    ap (λ consistent. marked t (if consistent then mark.None else mark.Ascription)) (sym same) ∙ ap (λ o. marked t (function_mark b.typ o)) (sym h)
analysis_gives scope b t ctor js s m (ana_lam_ascription from to body h differ) =
    ap (λ consistent. marked t (if consistent then mark.None else mark.Ascription)) (sym differ) ∙ ap (λ o. marked t (function_mark b.typ o)) (sym h)
analysis_gives scope b t ctor js s m (ana_lam_against body h) = ap (λ o. marked t (function_mark b.typ o)) (sym h)
analysis_gives scope b t ctor js s m (ana_pair left right first second h) = ap (λ o. marked t (unless_matched mark.PairAgainst o)) (sym h)
analysis_gives scope b t ctor js s m (ana_pair_against first second h) = ap (λ o. marked t (unless_matched mark.PairAgainst o)) (sym h)
analysis_gives scope b t ctor js s m (ana_inl left right of h) = ap (λ o. marked t (unless_matched mark.InjAgainst o)) (sym h)
analysis_gives scope b t ctor js s m (ana_inl_against of h) = ap (λ o. marked t (unless_matched mark.InjAgainst o)) (sym h)
analysis_gives scope b t ctor js s m (ana_inr left right of h) = ap (λ o. marked t (unless_matched mark.InjAgainst o)) (sym h)
analysis_gives scope b t ctor js s m (ana_inr_against of h) = ap (λ o. marked t (unless_matched mark.InjAgainst o)) (sym h)
analysis_gives scope b t ctor js s m (ana_case on left right when_left when_right h) = ap (λ o. marked t (unless_matched mark.NotSum o)) (sym h)
analysis_gives scope b t ctor js s m (ana_case_not_sum on when_left when_right h) = ap (λ o. marked t (unless_matched mark.NotSum o)) (sym h)
analysis_gives scope b t ctor js s m (ana_marked _ _ _ _ other r ne) =
    other_gives scope b t ctor js s m m other r (mark_against-marked m (is_consistent s t) ne)
analysis_gives scope b t ctor js s m (ana_inconsistent _ _ _ other r differ) =
    other_gives scope b t ctor js s mark.None mark.Inconsistent other r (ap (mark_against mark.None) (sym differ))
analysis_gives scope b t ctor js s m (ana_other _ _ _ other r same) =
    other_gives scope b t ctor js s mark.None mark.None other r (ap (mark_against mark.None) (sym same))
analysis_gives scope b t ctor js s m _ = refl

-- what is demanded and what is given, by the functions, is a row of synthesis
synthesis_by_row : (ctor : Ctor) (scope : Scope) (b : Bound) (done : List Typ) → sort_of_ctor ctor ≡ Exp → length done ≡ expression_count ctor
    → Synthesises scope b ctor (judgements (expression ctor scope b Synthesise) done) (synthesised ctor scope b done).typ (synthesised ctor scope b done).mark
synthesis_by_row (Var x) scope b [] exp h = by (type_of_name scope x) refl
  where
    by : (o : Option Typ) → type_of_name scope x ≡ o → Synthesises scope b (Var x) [] (or_mark o mark.Free).typ (or_mark o mark.Free).mark
    by (Some t) e = syn_var x t e
    by None e = syn_var_free x e
synthesis_by_row Lam scope b (body ∷ []) exp h = syn_lam body
synthesis_by_row Ap scope b (f ∷ arg ∷ []) exp h = by (matched_parts Arrow f) refl
  where
    by : (o : Option (Typ × Typ)) → matched_parts Arrow f ≡ o
        → Synthesises scope b Ap (syn scope f ∷ ana scope (known o).0 arg ∷ []) (or_mark (option_map (λ p. p.1) o) mark.NotArrow).typ (or_mark (option_map (λ p. p.1) o) mark.NotArrow).mark
    by (Some p) e = syn_ap f p.0 p.1 arg e
    by None e = syn_ap_not_arrow f arg e
synthesis_by_row (Num n) scope b [] exp h = syn_num n
synthesis_by_row Plus scope b (left ∷ right ∷ []) exp h = syn_plus left right
synthesis_by_row LitTrue scope b [] exp h = syn_true
synthesis_by_row LitFalse scope b [] exp h = syn_false
synthesis_by_row Choose scope b (test ∷ when_true ∷ when_false ∷ []) exp h = by (meet when_true when_false) refl
  where
    by : (o : Option Typ) → meet when_true when_false ≡ o
        → Synthesises scope b Choose (ana scope typ.Boolean test ∷ syn scope when_true ∷ syn scope when_false ∷ []) (or_mark o mark.Branches).typ (or_mark o mark.Branches).mark
    by (Some both) e = syn_if test when_true when_false both e
    by None e = syn_if_branches test when_true when_false (sym (is_some-meet when_true when_false) ∙ ap is_some e)
synthesis_by_row Pair scope b (first ∷ second ∷ []) exp h = syn_pair first second
synthesis_by_row Fst scope b (of ∷ []) exp h = by (matched_parts Product of) refl
  where
    by : (o : Option (Typ × Typ)) → matched_parts Product of ≡ o
        → Synthesises scope b Fst (syn scope of ∷ []) (or_mark (option_map (λ p. p.0) o) mark.NotProduct).typ (or_mark (option_map (λ p. p.0) o) mark.NotProduct).mark
    by (Some p) e = syn_fst of p.0 p.1 e
    by None e = syn_fst_not_product of e
synthesis_by_row Snd scope b (of ∷ []) exp h = by (matched_parts Product of) refl
  where
    by : (o : Option (Typ × Typ)) → matched_parts Product of ≡ o
        → Synthesises scope b Snd (syn scope of ∷ []) (or_mark (option_map (λ p. p.1) o) mark.NotProduct).typ (or_mark (option_map (λ p. p.1) o) mark.NotProduct).mark
    by (Some p) e = syn_snd of p.0 p.1 e
    by None e = syn_snd_not_product of e
synthesis_by_row Let scope b (definition ∷ body ∷ []) exp h = syn_let definition body
synthesis_by_row Inl scope b (of ∷ []) exp h = syn_inl of
synthesis_by_row Inr scope b (of ∷ []) exp h = syn_inr of
synthesis_by_row Case scope b (on ∷ when_left ∷ when_right ∷ []) exp h = by (matched_parts Sum on) refl
  where
    with_parts : (p : Typ × Typ) → matched_parts Sum on ≡ Some p → (o : Option Typ) → meet when_left when_right ≡ o
        → Synthesises scope b Case (case_children scope b Synthesise on when_left when_right (Some p)) (or_mark o mark.Branches).typ (or_mark o mark.Branches).mark
    with_parts p e (Some both) same = syn_case on p.0 p.1 when_left when_right both e same
    with_parts p e None same = syn_case_branches on p.0 p.1 when_left when_right e (sym (is_some-meet when_left when_right) ∙ ap is_some same)

    by : (o : Option (Typ × Typ)) → matched_parts Sum on ≡ o
        → Synthesises scope b Case (case_children scope b Synthesise on when_left when_right o) (case_result o (meet when_left when_right)).typ (case_result o (meet when_left when_right)).mark
    by (Some p) e = with_parts p e (meet when_left when_right) refl
    by None e = syn_case_not_sum on when_left when_right e
synthesis_by_row _ scope b _ exp h = absurd (first_of (cc, omega (arith, h)))

analysis_by_other : (ctor : Ctor) (scope : Scope) (b : Bound) (t : Typ) (js : List Judgement) (s : Typ) (m : Mark) → IsOther ctor
    → Synthesises scope b ctor js s m → Analyses scope b t ctor js s (mark_against m (is_consistent s t))
analysis_by_other ctor scope b t js s mark.None other r = by (is_consistent s t) refl
  where
    by : (same : Bool) → is_consistent s t ≡ same → Analyses scope b t ctor js s (mark_against mark.None same)
    by true e = ana_other ctor js s other r e
    by false e = ana_inconsistent ctor js s other r e
analysis_by_other ctor scope b t js s mark.Free other r = ana_marked ctor js s mark.Free other r (λ e. cc)
analysis_by_other ctor scope b t js s mark.NotArrow other r = ana_marked ctor js s mark.NotArrow other r (λ e. cc)
analysis_by_other ctor scope b t js s mark.NotProduct other r = ana_marked ctor js s mark.NotProduct other r (λ e. cc)
analysis_by_other ctor scope b t js s mark.Branches other r = ana_marked ctor js s mark.Branches other r (λ e. cc)
analysis_by_other ctor scope b t js s mark.LamAgainst other r = ana_marked ctor js s mark.LamAgainst other r (λ e. cc)
analysis_by_other ctor scope b t js s mark.Ascription other r = ana_marked ctor js s mark.Ascription other r (λ e. cc)
analysis_by_other ctor scope b t js s mark.PairAgainst other r = ana_marked ctor js s mark.PairAgainst other r (λ e. cc)
analysis_by_other ctor scope b t js s mark.Inconsistent other r = ana_marked ctor js s mark.Inconsistent other r (λ e. cc)
analysis_by_other ctor scope b t js s mark.NotSum other r = ana_marked ctor js s mark.NotSum other r (λ e. cc)
analysis_by_other ctor scope b t js s mark.InjAgainst other r = ana_marked ctor js s mark.InjAgainst other r (λ e. cc)

analysis_by_synthesis : (ctor : Ctor) (scope : Scope) (b : Bound) (t : Typ) (done : List Typ) → IsOther ctor → sort_of_ctor ctor ≡ Exp → length done ≡ expression_count ctor
    → Analyses scope b t ctor (judgements (expression ctor scope b (Analyse t)) done) (analysed ctor scope b t done).typ (analysed ctor scope b t done).mark
analysis_by_synthesis ctor scope b t done other exp h =
    let found = synthesised ctor scope b done in
    let row = analysis_by_other ctor scope b t (judgements (expression ctor scope b Synthesise) done) found.typ found.mark other (synthesis_by_row ctor scope b done exp h) in
    subst (λ (m : Marked). Analyses scope b t ctor (judgements (expression ctor scope b (Analyse t)) done) m.typ m.mark)
    (sym (analysed-other ctor scope b t done other))
    (subst (λ (js : List Judgement). Analyses scope b t ctor js found.typ (mark_against found.mark (is_consistent found.typ t)))
    (judgements_after-other ctor scope b t [] done other) row)

-- what is demanded and what is given, by the functions, is a row of analysis
analysis_by_row : (ctor : Ctor) (scope : Scope) (b : Bound) (t : Typ) (done : List Typ) → sort_of_ctor ctor ≡ Exp → length done ≡ expression_count ctor
    → Analyses scope b t ctor (judgements (expression ctor scope b (Analyse t)) done) (analysed ctor scope b t done).typ (analysed ctor scope b t done).mark
analysis_by_row Lam scope b t (body ∷ []) exp h = by (matched_parts Arrow t) refl
  where
    row : (p : Typ × Typ) → matched_parts Arrow t ≡ Some p → (same : Bool) → is_consistent b.typ p.0 ≡ same
        → Analyses scope b t Lam (ana (body_scope b scope) p.1 body ∷ []) t (if same then mark.None else mark.Ascription)
    row p e true same = ana_lam p.0 p.1 body e same
    row p e false differ = ana_lam_ascription p.0 p.1 body e differ

    by : (o : Option (Typ × Typ)) → matched_parts Arrow t ≡ o
        → Analyses scope b t Lam (ana (body_scope b scope) (known o).1 body ∷ []) t (function_mark b.typ o)
    by (Some p) e = row p e (is_consistent b.typ p.0) refl
    by None e = ana_lam_against body e
analysis_by_row Choose scope b t (test ∷ when_true ∷ when_false ∷ []) exp h = ana_if test when_true when_false
analysis_by_row Pair scope b t (first ∷ second ∷ []) exp h = by (matched_parts Product t) refl
  where
    by : (o : Option (Typ × Typ)) → matched_parts Product t ≡ o
        → Analyses scope b t Pair (ana scope (known o).0 first ∷ ana scope (known o).1 second ∷ []) t (unless_matched mark.PairAgainst o)
    by (Some p) e = ana_pair p.0 p.1 first second e
    by None e = ana_pair_against first second e
analysis_by_row Let scope b t (definition ∷ body ∷ []) exp h = ana_let definition body
analysis_by_row Inl scope b t (of ∷ []) exp h = by (matched_parts Sum t) refl
  where
    by : (o : Option (Typ × Typ)) → matched_parts Sum t ≡ o → Analyses scope b t Inl (ana scope (known o).0 of ∷ []) t (unless_matched mark.InjAgainst o)
    by (Some p) e = ana_inl p.0 p.1 of e
    by None e = ana_inl_against of e
analysis_by_row Inr scope b t (of ∷ []) exp h = by (matched_parts Sum t) refl
  where
    by : (o : Option (Typ × Typ)) → matched_parts Sum t ≡ o → Analyses scope b t Inr (ana scope (known o).1 of ∷ []) t (unless_matched mark.InjAgainst o)
    by (Some p) e = ana_inr p.0 p.1 of e
    by None e = ana_inr_against of e
analysis_by_row Case scope b t (on ∷ when_left ∷ when_right ∷ []) exp h = by (matched_parts Sum on) refl
  where
    by : (o : Option (Typ × Typ)) → matched_parts Sum on ≡ o
        → Analyses scope b t Case (case_children scope b (Analyse t) on when_left when_right o) t (unless_matched mark.NotSum o)
    by (Some p) e = ana_case on p.0 p.1 when_left when_right e
    by None e = ana_case_not_sum on when_left when_right e
analysis_by_row Lam scope b t _ exp h = absurd (omega (arith, h))
analysis_by_row Choose scope b t _ exp h = absurd (omega (arith, h))
analysis_by_row Pair scope b t _ exp h = absurd (omega (arith, h))
analysis_by_row Let scope b t _ exp h = absurd (omega (arith, h))
analysis_by_row Inl scope b t _ exp h = absurd (omega (arith, h))
analysis_by_row Inr scope b t _ exp h = absurd (omega (arith, h))
analysis_by_row Case scope b t _ exp h = absurd (omega (arith, h))
analysis_by_row ctor scope b t done exp h = analysis_by_synthesis ctor scope b t done tt exp h

-- the functions follow the rows
pub functions_follow_rows : (e : Expression) (done : List Typ) → sort_of_ctor e.ctor ≡ Exp → length done ≡ expression_count e.ctor → Follows e (judgements e done) (settled e done)
functions_follow_rows e done exp h = by e.wanted
  where
    by : (w : Wanted) → FollowsAs w e (judgements (expression e.ctor e.scope e.bound w) done) (settled (expression e.ctor e.scope e.bound w) done)
    by Synthesise = synthesis_by_row e.ctor e.scope e.bound done exp h
    by (Analyse t) = analysis_by_row e.ctor e.scope e.bound t done exp h

-- every row demands what the functions do
pub rows_demand : (e : Expression) (js : List Judgement) (m : Marked) → Follows e js m → js ≡ judgements e (child_types js)
rows_demand e js m = by e.wanted
  where
    by : (w : Wanted) → FollowsAs w e js m → js ≡ judgements (expression e.ctor e.scope e.bound w) (child_types js)
    by Synthesise r = synthesis_demands e.scope e.bound e.ctor js m.typ m.mark r
    by (Analyse t) r = analysis_demands e.scope e.bound t e.ctor js m.typ m.mark r

-- every row gives what the functions do
pub rows_give : (e : Expression) (js : List Judgement) (m : Marked) → Follows e js m → m ≡ settled e (child_types js)
rows_give e js m = by e.wanted
  where
    by : (w : Wanted) → FollowsAs w e js m → m ≡ settled (expression e.ctor e.scope e.bound w) (child_types js)
    by Synthesise r = synthesis_gives e.scope e.bound e.ctor js m.typ m.mark r
    by (Analyse t) r = analysis_gives e.scope e.bound t e.ctor js m.typ m.mark r

synthesis_counts : (scope : Scope) (b : Bound) (ctor : Ctor) (js : List Judgement) (t : Typ) (m : Mark) → Synthesises scope b ctor js t m
    → (sort_of_ctor ctor ≡ Exp) × (length js ≡ expression_count ctor)
synthesis_counts scope b ctor js t m (syn_var x _ h) = (refl, refl)
synthesis_counts scope b ctor js t m _ = (refl, refl)

analysis_counts : (scope : Scope) (b : Bound) (t : Typ) (ctor : Ctor) (js : List Judgement) (s : Typ) (m : Mark) → Analyses scope b t ctor js s m
    → (sort_of_ctor ctor ≡ Exp) × (length js ≡ expression_count ctor)
analysis_counts scope b t ctor js s m (ana_marked _ _ _ _ other r ne) = synthesis_counts scope b ctor js s m r
analysis_counts scope b t ctor js s m (ana_inconsistent _ _ _ other r differ) = synthesis_counts scope b ctor js s mark.None r
analysis_counts scope b t ctor js s m (ana_other _ _ _ other r same) = synthesis_counts scope b ctor js s mark.None r
analysis_counts scope b t ctor js s m _ = (refl, refl)

-- only expressions have rows, which judge as many children as there are expressions among them
pub rows_count : (e : Expression) (js : List Judgement) (m : Marked) → Follows e js m → (sort_of_ctor e.ctor ≡ Exp) × (length js ≡ expression_count e.ctor)
rows_count e js m = by e.wanted
  where
    by : (w : Wanted) → FollowsAs w e js m → (sort_of_ctor e.ctor ≡ Exp) × (length js ≡ expression_count e.ctor)
    by Synthesise r = synthesis_counts e.scope e.bound e.ctor js m.typ m.mark r
    by (Analyse t) r = analysis_counts e.scope e.bound t e.ctor js m.typ m.mark r
