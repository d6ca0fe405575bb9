-- Looking a name up in a scope.
use Rattle.std.proofs.Common.{◌≡◌, ◌≢◌, Bool, true, false, List, [], ◌∷◌, ◌++◌, All, None, Some, IfSome, refl, sym, ap, ◌∙◌, if◌then◌else◌, true≢false, ◌⊎◌, inl, inr}
use Rattle.std.specs.Option.{option_map}
use Rattle.std.proofs.lemmas.Bool.{cases_Bool}
use Rattle.std.proofs.lemmas.List.Elements.{All-nil, All-cons, All-head, All-tail}
use Rattle.grove_sorts.specs.declared.ident.Ident.{Ident}
use Rattle.type_core.specs.Typ.{Typ}
use Rattle.type_core.specs.TypeTable.{IsTypeOf, type_at}
use Rattle.ctx_table.specs.Context.{Context, is_same_name, look_up}
use Rattle.ctx_table.proofs.ContextLemmas.{is_same_name-same, is_same_name-other}
use Rattle.mark_step.specs.Scope.{Scope, type_of_name, scope_of, IsTyped}

-- what is looked up in a context, read through the types, is what its scope has
pub found_in_scope : (types : List Typ) (ctx : Context) (name : Ident) → option_map (type_at types) (look_up ctx name) ≡ type_of_name (scope_of types ctx) name
found_in_scope types [] name = refl
found_in_scope types (b ∷ bs) name = by (is_same_name b.0 name) (found_in_scope types bs name)
  where
    by : (same : Bool) → option_map (type_at types) (look_up bs name) ≡ type_of_name (scope_of types bs) name → option_map (type_at types) (if same then Some b.1 else look_up bs name)
        ≡ (if same then Some (type_at types b.1) else type_of_name (scope_of types bs) name)
    by true rest = refl
    by false rest = rest

pub found_number : (types : List Typ) (ctx : Context) (name : Ident) → IsTyped types ctx → IfSome (look_up ctx name) (IsTypeOf types)
found_number types [] name all = tt
found_number types (b ∷ bs) name all = by (is_same_name b.0 name) (found_number types bs name (All-tail (λ b. IsTypeOf types b.1) b bs all))
  where
    by : (same : Bool) → IfSome (look_up bs name) (IsTypeOf types) → IfSome (if same then Some b.1 else look_up bs name) (IsTypeOf types)
    by true rest = All-head (λ b. IsTypeOf types b.1) b bs all
    by false rest = rest

pub type_of_name-unbound : (scope : Scope) (name : Ident) → All (λ b. b.0 ≢ name) scope → type_of_name scope name ≡ None
type_of_name-unbound [] name all = refl
type_of_name-unbound (b ∷ bs) name all =
    ap (λ same. if same then Some b.1 else type_of_name bs name) (is_same_name-other b.0 name (All-head (λ b. b.0 ≢ name) b bs all))
    ∙ type_of_name-unbound bs name (All-tail (λ b. b.0 ≢ name) b bs all)

pub type_of_name-innermost : (inner outer : Scope) (name : Ident) (t : Typ) → All (λ b. b.0 ≢ name) inner → type_of_name (inner ++ (name, t) ∷ outer) name ≡ Some t
type_of_name-innermost [] outer name t all = ap (λ same. if same then Some t else type_of_name outer name) (is_same_name-same name)
type_of_name-innermost (b ∷ bs) outer name t all =
    ap (λ same. if same then Some b.1 else type_of_name (bs ++ (name, t) ∷ outer) name) (is_same_name-other b.0 name (All-head (λ b. b.0 ≢ name) b bs all))
    ∙ type_of_name-innermost bs outer name t (All-tail (λ b. b.0 ≢ name) b bs all)

pub unbound-type_of_name : (scope : Scope) (name : Ident) → type_of_name scope name ≡ None → All (λ b. b.0 ≢ name) scope
unbound-type_of_name [] name e = All-nil (λ b. b.0 ≢ name)
unbound-type_of_name (b ∷ bs) name e = by (cases_Bool (is_same_name b.0 name)) (λ e. unbound-type_of_name bs name e)
  where
    some_is_not : (t : Typ) → Some t ≡ None → ⊥
    some_is_not t e = cc

    differ : is_same_name b.0 name ≡ false → b.0 ≢ name
    differ h same = true≢false (sym (is_same_name-same b.0) ∙ ap (is_same_name b.0) same ∙ h)

    by : (is_same_name b.0 name ≡ true) ⊎ (is_same_name b.0 name ≡ false) → (type_of_name bs name ≡ None → All (λ b. b.0 ≢ name) bs) → All (λ b. b.0 ≢ name) (b ∷ bs)
    by (inl h) rest = absurd (some_is_not b.1 (sym (ap (λ same. if same then Some b.1 else type_of_name bs name) h) ∙ e))
    by (inr h) rest =
        All-cons (λ b. b.0 ≢ name) b bs (differ h) (rest (sym (ap (λ same. if same then Some b.1 else type_of_name bs name) h) ∙ e))
