-- Typing without marks: one rule for each row of the tables of marking that puts no mark.
-- The promise of the commands rests on these definitions.
use Rattle.std.specs.Prelude.{◌≡◌, ℕ, true, List, [], ◌∷◌, Some}
use Rattle.grove_sorts.specs.declared.ctor.Ctor.{Ctor}
use Rattle.grove_sorts.specs.declared.ctor.Ctor.TheVariants.{Var, Lam, Ap, Num, Plus, LitTrue, LitFalse, Choose, Pair, Fst, Snd, Let, Inl, Inr, Case}
use Rattle.grove_sorts.specs.declared.ident.Ident.{Ident}
use Rattle.type_core.specs.declared.former.Former.TheVariants.{Arrow, Product, Sum}
use Rattle.type_core.specs.Typ.{Typ, matched_parts, is_consistent, meet}
use Rattle.type_core.specs.Typ as typ
use Rattle.mark_step.specs.Scope.{Scope, type_of_name, bind}
use Rattle.mark_step.specs.Expression.{Wanted, Synthesise, Analyse, Bound, Expression, body_scope}
use Rattle.mark_step.specs.Rows.{Judgement, syn, ana, IsOther}

-- The expression has this type, its children being judged so, in table order.
pub data Types (scope : Scope) (b : Bound) : Ctor → List Judgement → Typ → Type 0 where
  types_var : (x : Ident) (t : Typ) → type_of_name scope x ≡ Some t → Types scope b (Var x) [] t
  types_lam : (body : Typ) → Types scope b Lam (syn (body_scope b scope) body ∷ []) (typ.Pair Arrow b.typ body)
  types_ap : (f from to arg : Typ) → matched_parts Arrow f ≡ Some (from, to)
      → Types scope b Ap (syn scope f ∷ ana scope from arg ∷ []) to
  types_num : (n : ℕ) → Types scope b (Num n) [] typ.Num
  types_plus : (left right : Typ) → Types scope b Plus (ana scope typ.Num left ∷ ana scope typ.Num right ∷ []) typ.Num
  types_true : Types scope b LitTrue [] typ.Boolean
  types_false : Types scope b LitFalse [] typ.Boolean
  types_if : (test when_true when_false both : Typ) → meet when_true when_false ≡ Some both
      → Types scope b Choose (ana scope typ.Boolean test ∷ syn scope when_true ∷ syn scope when_false ∷ []) both
  types_pair : (first second : Typ) → Types scope b Pair (syn scope first ∷ syn scope second ∷ []) (typ.Pair Product first second)
  types_fst : (of first second : Typ) → matched_parts Product of ≡ Some (first, second) → Types scope b Fst (syn scope of ∷ []) first
  types_snd : (of first second : Typ) → matched_parts Product of ≡ Some (first, second) → Types scope b Snd (syn scope of ∷ []) second
  types_let : (definition body : Typ) → Types scope b Let (syn scope definition ∷ syn (bind b.name definition scope) body ∷ []) body
  types_inl : (of : Typ) → Types scope b Inl (syn scope of ∷ []) (typ.Pair Sum of typ.Unknown)
  types_inr : (of : Typ) → Types scope b Inr (syn scope of ∷ []) (typ.Pair Sum typ.Unknown of)
  types_case : (on left right when_left when_right both : Typ) → matched_parts Sum on ≡ Some (left, right) → meet when_left when_right ≡ Some both
      → Types scope b Case (syn scope on ∷ syn (bind b.name left scope) when_left ∷ syn (bind b.second right scope) when_right ∷ []) both

-- The expression is of the type that it is analysed against, its children being judged so, and shows a type.
pub data Checks (scope : Scope) (b : Bound) (against : Typ) : Ctor → List Judgement → Typ → Type 0 where
  checks_lam : (from to body : Typ) → matched_parts Arrow against ≡ Some (from, to) → is_consistent b.typ from ≡ true
      → Checks scope b against Lam (ana (body_scope b scope) to body ∷ []) against
  checks_if : (test when_true when_false : Typ)
      → Checks scope b against Choose (ana scope typ.Boolean test ∷ ana scope against when_true ∷ ana scope against when_false ∷ []) against
  checks_pair : (left right first second : Typ) → matched_parts Product against ≡ Some (left, right)
      → Checks scope b against Pair (ana scope left first ∷ ana scope right second ∷ []) against
  checks_let : (definition body : Typ) → Checks scope b against Let (syn scope definition ∷ ana (bind b.name definition scope) against body ∷ []) against
  checks_inl : (left right of : Typ) → matched_parts Sum against ≡ Some (left, right) → Checks scope b against Inl (ana scope left of ∷ []) against
  checks_inr : (left right of : Typ) → matched_parts Sum against ≡ Some (left, right) → Checks scope b against Inr (ana scope right of ∷ []) against
  checks_case : (on left right when_left when_right : Typ) → matched_parts Sum on ≡ Some (left, right)
      → Checks scope b against Case (syn scope on ∷ ana (bind b.name left scope) against when_left ∷ ana (bind b.second right scope) against when_right ∷ []) against
  checks_other : (ctor : Ctor) (js : List Judgement) (t : Typ) → IsOther ctor → Types scope b ctor js t
      → is_consistent t against ≡ true → Checks scope b against ctor js t

-- the expression has this type by a rule, its children being judged so
abbrev pub HasTypeAs : Wanted → Expression → List Judgement → Typ → Type 0
HasTypeAs Synthesise e js t = Types e.scope e.bound e.ctor js t
HasTypeAs (Analyse against) e js t = Checks e.scope e.bound against e.ctor js t

abbrev pub HasType : Expression → List Judgement → Typ → Type 0
HasType e js t = HasTypeAs e.wanted e js t
