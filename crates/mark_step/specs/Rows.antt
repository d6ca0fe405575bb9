-- The two tables of marking: one rule for each row.
-- The promise of the commands rests on these definitions.
use Rattle.std.specs.Prelude.{◌≡◌, ◌≢◌, ℕ, Bool, true, false, List, [], ◌∷◌, ◌++◌, map, count_by, None, Some}
use Rattle.grove_sorts.specs.declared.ctor.Ctor.{Ctor}
use Rattle.grove_sorts.specs.declared.ctor.Ctor.TheVariants.{Var, Lam, Ap, Num, Plus, LitTrue, LitFalse, Choose, Pair, Fst, Snd, Let, Inl, Inr, Case}
use Rattle.grove_sorts.specs.declared.ident.Ident.{Ident}
use Rattle.grove_sorts.specs.declared.sort.Sort.{Sort}
use Rattle.grove_sorts.specs.declared.sort.Sort.TheVariants.{Top, Exp, Pat, Typ as TypeSort}
use Rattle.grove_sorts.specs.Ctor.{positions}
use Rattle.type_core.specs.declared.former.Former.TheVariants.{Arrow, Product, Sum}
use Rattle.type_core.specs.Typ.{Typ, matched_parts, is_consistent, meet}
use Rattle.type_core.specs.Typ as typ
use Rattle.mark_step.specs.declared.node.Mark.{Mark}
use Rattle.mark_step.specs.declared.node.Mark.TheVariants as mark
use Rattle.mark_step.specs.Scope.{Scope, type_of_name, bind}
use Rattle.mark_step.specs.Expression.{Wanted, Synthesise, Analyse, Bound, Expression, Demanded, Marked, body_scope}
use Rattle.mark_step.specs.Step.{demand}

-- how a child is judged, and the type that it has
pub record Judgement : Type 0 where
  pub scope : Scope
  pub wanted : Wanted
  pub typ : Typ

-- the child synthesises t
abbrev pub syn : Scope → Typ → Judgement
syn scope t = record { scope = scope; wanted = Synthesise; typ = t }

-- the child is analysed against a type, and has t
abbrev pub ana : Scope → Typ → Typ → Judgement
ana scope against t = record { scope = scope; wanted = Analyse against; typ = t }

-- Synthesis: the children are judged so, in table order, and the expression has this type and this mark.
pub data Synthesises (scope : Scope) (b : Bound) : Ctor → List Judgement → Typ → Mark → Type 0 where
  syn_var : (x : Ident) (t : Typ) → type_of_name scope x ≡ Some t → Synthesises scope b (Var x) [] t mark.None
  syn_var_free : (x : Ident) → type_of_name scope x ≡ None → Synthesises scope b (Var x) [] typ.Unknown mark.Free
  syn_lam : (body : Typ) → Synthesises scope b Lam (syn (body_scope b scope) body ∷ []) (typ.Pair Arrow b.typ body) mark.None
  syn_ap : (f from to arg : Typ) → matched_parts Arrow f ≡ Some (from, to)
      → Synthesises scope b Ap (syn scope f ∷ ana scope from arg ∷ []) to mark.None
  syn_ap_not_arrow : (f arg : Typ) → matched_parts Arrow f ≡ None
      → Synthesises scope b Ap (syn scope f ∷ ana scope typ.Unknown arg ∷ []) typ.Unknown mark.NotArrow
  syn_num : (n : ℕ) → Synthesises scope b (Num n) [] typ.Num mark.None
  syn_plus : (left right : Typ) → Synthesises scope b Plus (ana scope typ.Num left ∷ ana scope typ.Num right ∷ []) typ.Num mark.None
  syn_true : Synthesises scope b LitTrue [] typ.Boolean mark.None
  syn_false : Synthesises scope b LitFalse [] typ.Boolean mark.None
  syn_if : (test when_true when_false both : Typ) → meet when_true when_false ≡ Some both
      → Synthesises scope b Choose (ana scope typ.Boolean test ∷ syn scope when_true ∷ syn scope when_false ∷ []) both mark.None
  syn_if_branches : (test when_true when_false : Typ) → is_consistent when_true when_false ≡ false
      → Synthesises scope b Choose (ana scope typ.Boolean test ∷ syn scope when_true ∷ syn scope when_false ∷ []) typ.Unknown mark.Branches
  syn_pair : (first second : Typ) → Synthesises scope b Pair (syn scope first ∷ syn scope second ∷ []) (typ.Pair Product first second) mark.None
  syn_fst : (of first second : Typ) → matched_parts Product of ≡ Some (first, second)
      → Synthesises scope b Fst (syn scope of ∷ []) first mark.None
  syn_fst_not_product : (of : Typ) → matched_parts Product of ≡ None
      → Synthesises scope b Fst (syn scope of ∷ []) typ.Unknown mark.NotProduct
  syn_snd : (of first second : Typ) → matched_parts Product of ≡ Some (first, second)
      → Synthesises scope b Snd (syn scope of ∷ []) second mark.None
  syn_snd_not_product : (of : Typ) → matched_parts Product of ≡ None
      → Synthesises scope b Snd (syn scope of ∷ []) typ.Unknown mark.NotProduct
  syn_let : (definition body : Typ) → Synthesises scope b Let (syn scope definition ∷ syn (bind b.name definition scope) body ∷ []) body mark.None
  syn_inl : (of : Typ) → Synthesises scope b Inl (syn scope of ∷ []) (typ.Pair Sum of typ.Unknown) mark.None
  syn_inr : (of : Typ) → Synthesises scope b Inr (syn scope of ∷ []) (typ.Pair Sum typ.Unknown of) mark.None
  syn_case : (on left right when_left when_right both : Typ) → matched_parts Sum on ≡ Some (left, right) → meet when_left when_right ≡ Some both
      → Synthesises scope b Case (syn scope on ∷ syn (bind b.name left scope) when_left ∷ syn (bind b.second right scope) when_right ∷ []) both mark.None
  syn_case_not_sum : (on when_left when_right : Typ) → matched_parts Sum on ≡ None
      → Synthesises scope b Case (syn scope on ∷ syn (bind b.name typ.Unknown scope) when_left ∷ syn (bind b.second typ.Unknown scope) when_right ∷ []) typ.Unknown mark.NotSum
  syn_case_branches : (on left right when_left when_right : Typ) → matched_parts Sum on ≡ Some (left, right) → is_consistent when_left when_right ≡ false
      → Synthesises scope b Case (syn scope on ∷ syn (bind b.name left scope) when_left ∷ syn (bind b.second right scope) when_right ∷ []) typ.Unknown mark.Branches

-- a constructor whose analysis goes by its synthesis: each but those that have rows of analysis
abbrev pub IsOther : Ctor → Type 0
IsOther Lam = ⊥
IsOther Choose = ⊥
IsOther Pair = ⊥
IsOther Let = ⊥
IsOther Inl = ⊥
IsOther Inr = ⊥
IsOther Case = ⊥
IsOther _ = Unit {0}

-- Analysis against a type: the children are judged so, in table order, and the expression shows this type and this mark.
pub data Analyses (scope : Scope) (b : Bound) (against : Typ) : Ctor → List Judgement → Typ → Mark → Type 0 where
  ana_lam : (from to body : Typ) → matched_parts Arrow against ≡ Some (from, to) → is_consistent b.typ from ≡ true
      → Analyses scope b against Lam (ana (body_scope b scope) to body ∷ []) against mark.None
  ana_lam_ascription : (from to body : Typ) → matched_parts Arrow against ≡ Some (from, to) → is_consistent b.typ from ≡ false
      → Analyses scope b against Lam (ana (body_scope b scope) to body ∷ []) against mark.Ascription
  ana_lam_against : (body : Typ) → matched_parts Arrow against ≡ None
      → Analyses scope b against Lam (ana (body_scope b scope) typ.Unknown body ∷ []) against mark.LamAgainst
  ana_if : (test when_true when_false : Typ)
      → Analyses scope b against Choose (ana scope typ.Boolean test ∷ ana scope against when_true ∷ ana scope against when_false ∷ []) against mark.None
  ana_pair : (left right first second : Typ) → matched_parts Product against ≡ Some (left, right)
      → Analyses scope b against Pair (ana scope left first ∷ ana scope right second ∷ []) against mark.None
  ana_pair_against : (first second : Typ) → matched_parts Product against ≡ None
      → Analyses scope b against Pair (ana scope typ.Unknown first ∷ ana scope typ.Unknown second ∷ []) against mark.PairAgainst
  ana_let : (definition body : Typ)
      → Analyses scope b against Let (syn scope definition ∷ ana (bind b.name definition scope) against body ∷ []) against mark.None
  ana_inl : (left right of : Typ) → matched_parts Sum against ≡ Some (left, right)
      → Analyses scope b against Inl (ana scope left of ∷ []) against mark.None
  ana_inl_against : (of : Typ) → matched_parts Sum against ≡ None
      → Analyses scope b against Inl (ana scope typ.Unknown of ∷ []) against mark.InjAgainst
  ana_inr : (left right of : Typ) → matched_parts Sum against ≡ Some (left, right)
      → Analyses scope b against Inr (ana scope right of ∷ []) against mark.None
  ana_inr_against : (of : Typ) → matched_parts Sum against ≡ None
      → Analyses scope b against Inr (ana scope typ.Unknown of ∷ []) against mark.InjAgainst
  ana_case : (on left right when_left when_right : Typ) → matched_parts Sum on ≡ Some (left, right)
      → Analyses scope b against Case (syn scope on ∷ ana (bind b.name left scope) against when_left ∷ ana (bind b.second right scope) against when_right ∷ []) against mark.None
  ana_case_not_sum : (on when_left when_right : Typ) → matched_parts Sum on ≡ None
      → Analyses scope b against Case (syn scope on ∷ ana (bind b.name typ.Unknown scope) against when_left ∷ ana (bind b.second typ.Unknown scope) against when_right ∷ []) against mark.NotSum
  ana_marked : (ctor : Ctor) (js : List Judgement) (t : Typ) (m : Mark) → IsOther ctor → Synthesises scope b ctor js t m → m ≢ mark.None
      → Analyses scope b against ctor js t m
  ana_inconsistent : (ctor : Ctor) (js : List Judgement) (t : Typ) → IsOther ctor → Synthesises scope b ctor js t mark.None
      → is_consistent t against ≡ false → Analyses scope b against ctor js t mark.Inconsistent
  ana_other : (ctor : Ctor) (js : List Judgement) (t : Typ) → IsOther ctor → Synthesises scope b ctor js t mark.None
      → is_consistent t against ≡ true → Analyses scope b against ctor js t mark.None

abbrev pub FollowsAs : Wanted → Expression → List Judgement → Marked → Type 0
FollowsAs Synthesise e js m = Synthesises e.scope e.bound e.ctor js m.typ m.mark
FollowsAs (Analyse t) e js m = Analyses e.scope e.bound t e.ctor js m.typ m.mark

-- a row of the tables gives the expression this type and mark, its children being judged so
abbrev pub Follows : Expression → List Judgement → Marked → Type 0
Follows e js m = FollowsAs e.wanted e js m

-- the types of some children
abbrev pub child_types : List Judgement → List Typ
child_types js = map (λ j. j.typ) js

abbrev pub judged : Demanded → Typ → Judgement
judged d t = record { scope = d.scope; wanted = d.wanted; typ = t }

-- each of some children with what is demanded of it, after the children before them
abbrev pub judgements_after : Expression → List Typ → List Typ → List Judgement
judgements_after e before [] = []
judgements_after e before (t ∷ ts) = judged (demand e before) t ∷ judgements_after e (before ++ t ∷ []) ts

-- the children of an expression by their types, each with what is demanded of it
abbrev pub judgements : Expression → List Typ → List Judgement
judgements e done = judgements_after e [] done

abbrev pub is_exp : Sort → Bool
is_exp Exp = true
is_exp Top = false
is_exp Pat = false
is_exp TypeSort = false

-- how many children of a constructor are expressions
abbrev pub expression_count : Ctor → ℕ
expression_count ctor = count_by (λ p. is_exp p.1) (positions ctor)
