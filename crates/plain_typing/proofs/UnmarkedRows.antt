-- The rules of typing are the rows of marking that put no mark.
use Rattle.std.proofs.Common.{◌≡◌, List, refl}
use Rattle.grove_sorts.specs.declared.ctor.Ctor.{Ctor}
use Rattle.type_core.specs.Typ.{Typ}
use Rattle.mark_step.specs.declared.node.Mark.{Mark}
use Rattle.mark_step.specs.declared.node.Mark.TheVariants as mark
use Rattle.mark_step.specs.Scope.{Scope}
use Rattle.mark_step.specs.Expression.{Wanted, Synthesise, Analyse, Bound, Expression, Marked, unmarked}
use Rattle.mark_step.specs.Rows.{Judgement, Synthesises, syn_var, syn_var_free, syn_lam, syn_ap, syn_ap_not_arrow, syn_num, syn_plus, syn_true, syn_false, syn_if, syn_if_branches, syn_pair, syn_fst, syn_fst_not_product, syn_snd, syn_snd_not_product, syn_let, syn_inl, syn_inr, syn_case, syn_case_not_sum, syn_case_branches, Analyses, ana_lam, ana_lam_ascription, ana_lam_against, ana_if, ana_pair, ana_pair_against, ana_let, ana_inl, ana_inl_against, ana_inr, ana_inr_against, ana_case, ana_case_not_sum, ana_marked, ana_inconsistent, ana_other, Follows, FollowsAs}
use Rattle.plain_typing.specs.Rules.{Types, types_var, types_lam, types_ap, types_num, types_plus, types_true, types_false, types_if, types_pair, types_fst, types_snd, types_let, types_inl, types_inr, types_case, Checks, checks_lam, checks_if, checks_pair, checks_let, checks_inl, checks_inr, checks_case, checks_other, HasType, HasTypeAs}

row_of_types : (scope : Scope) (b : Bound) (ctor : Ctor) (js : List Judgement) (t : Typ) → Types scope b ctor js t → Synthesises scope b ctor js t mark.None
row_of_types scope b ctor js t (types_var x _ h) = syn_var x t h
row_of_types scope b ctor js t (types_lam body) = syn_lam body
row_of_types scope b ctor js t (types_ap f from to arg h) = syn_ap f from t arg h
row_of_types scope b ctor js t (types_num n) = syn_num n
row_of_types scope b ctor js t (types_plus left right) = syn_plus left right
row_of_types scope b ctor js t types_true = syn_true
row_of_types scope b ctor js t types_false = syn_false
row_of_types scope b ctor js t (types_if test when_true when_false both h) = syn_if test when_true when_false t h
row_of_types scope b ctor js t (types_pair first second) = syn_pair first second
row_of_types scope b ctor js t (types_fst of first second h) = syn_fst of t second h
row_of_types scope b ctor js t (types_snd of first second h) = syn_snd of first t h
row_of_types scope b ctor js t (types_let definition body) = syn_let definition t
row_of_types scope b ctor js t (types_inl of) = syn_inl of
row_of_types scope b ctor js t (types_inr of) = syn_inr of
row_of_types scope b ctor js t (types_case on left right when_left when_right both h same) = syn_case on left right when_left when_right t h same

row_of_checks : (scope : Scope) (b : Bound) (against : Typ) (ctor : Ctor) (js : List Judgement) (t : Typ) → Checks scope b against ctor js t
    → Analyses scope b against ctor js t mark.None
row_of_checks scope b against ctor js t (checks_lam from to body h same) = ana_lam from to body h same
row_of_checks scope b against ctor js t (checks_if test when_true when_false) = ana_if test when_true when_false
row_of_checks scope b against ctor js t (checks_pair left right first second h) = ana_pair left right first second h
row_of_checks scope b against ctor js t (checks_let definition body) = ana_let definition body
row_of_checks scope b against ctor js t (checks_inl left right of h) = ana_inl left right of h
row_of_checks scope b against ctor js t (checks_inr left right of h) = ana_inr left right of h
row_of_checks scope b against ctor js t (checks_case on left right when_left when_right h) = ana_case on left right when_left when_right h
row_of_checks scope b against ctor js t (checks_other _ _ _ other rule same) = ana_other ctor js t other (row_of_types scope b ctor js t rule) same

-- a rule is a row without a mark
pub row_of_rule : (e : Expression) (js : List Judgement) (t : Typ) → HasType e js t → Follows e js (unmarked t)
row_of_rule e js t = by e.wanted where
  by : (w : Wanted) → HasTypeAs w e js t → FollowsAs w e js (unmarked t)
  by Synthesise rule = row_of_types e.scope e.bound e.ctor js t rule
  by (Analyse against) rule = row_of_checks e.scope e.bound against e.ctor js t rule

types_of_row : (scope : Scope) (b : Bound) (ctor : Ctor) (js : List Judgement) (t : Typ) (m : Mark) → Synthesises scope b ctor js t m → m ≡ mark.None
    → Types scope b ctor js t
types_of_row scope b ctor js t m (syn_var x _ h) plain = types_var x t h
types_of_row scope b ctor js t m (syn_lam body) plain = types_lam body
types_of_row scope b ctor js t m (syn_ap f from to arg h) plain = types_ap f from t arg h
types_of_row scope b ctor js t m (syn_num n) plain = types_num n
types_of_row scope b ctor js t m (syn_plus left right) plain = types_plus left right
types_of_row scope b ctor js t m syn_true plain = types_true
types_of_row scope b ctor js t m syn_false plain = types_false
types_of_row scope b ctor js t m (syn_if test when_true when_false both h) plain = types_if test when_true when_false t h
types_of_row scope b ctor js t m (syn_pair first second) plain = types_pair first second
types_of_row scope b ctor js t m (syn_fst of first second h) plain = types_fst of t second h
types_of_row scope b ctor js t m (syn_snd of first second h) plain = types_snd of first t h
types_of_row scope b ctor js t m (syn_let definition body) plain = types_let definition t
types_of_row scope b ctor js t m (syn_inl of) plain = types_inl of
types_of_row scope b ctor js t m (syn_inr of) plain = types_inr of
types_of_row scope b ctor js t m (syn_case on left right when_left when_right both h same) plain = types_case on left right when_left when_right t h same
types_of_row scope b ctor js t m _ plain = absurd cc

checks_of_row : (scope : Scope) (b : Bound) (against : Typ) (ctor : Ctor) (js : List Judgement) (t : Typ) (m : Mark) → Analyses scope b against ctor js t m → m ≡ mark.None
    → Checks scope b against ctor js t
checks_of_row scope b against ctor js t m (ana_lam from to body h same) plain = checks_lam from to body h same
checks_of_row scope b against ctor js t m (ana_if test when_true when_false) plain = checks_if test when_true when_false
checks_of_row scope b against ctor js t m (ana_pair left right first second h) plain = checks_pair left right first second h
checks_of_row scope b against ctor js t m (ana_let definition body) plain = checks_let definition body
checks_of_row scope b against ctor js t m (ana_inl left right of h) plain = checks_inl left right of h
checks_of_row scope b against ctor js t m (ana_inr left right of h) plain = checks_inr left right of h
checks_of_row scope b against ctor js t m (ana_case on left right when_left when_right h) plain = checks_case on left right when_left when_right h
checks_of_row scope b against ctor js t m (ana_marked _ _ _ _ other row ne) plain = absurd (ne plain)
checks_of_row scope b against ctor js t m (ana_other _ _ _ other row same) plain = checks_other ctor js t other (types_of_row scope b ctor js t mark.None row refl) same
checks_of_row scope b against ctor js t m _ plain = absurd cc

-- a row without a mark is a rule
pub rule_of_row : (e : Expression) (js : List Judgement) (m : Marked) → Follows e js m → m.mark ≡ mark.None → HasType e js m.typ
rule_of_row e js m = by e.wanted where
  by : (w : Wanted) → FollowsAs w e js m → m.mark ≡ mark.None → HasTypeAs w e js m.typ
  by Synthesise row plain = types_of_row e.scope e.bound e.ctor js m.typ m.mark row plain
  by (Analyse against) row plain = checks_of_row e.scope e.bound against e.ctor js m.typ m.mark row plain
