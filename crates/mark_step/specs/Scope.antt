-- Scopes: identifiers with their types, innermost first.
-- The promise of the commands rests on these definitions.
use Rattle.std.specs.Prelude.{List, [], ◌∷◌, map, All, Option, None, Some, if◌then◌else◌}
use Rattle.grove_sorts.specs.declared.ident.Ident.{Ident}
use Rattle.type_core.specs.Typ.{Typ}
use Rattle.type_core.specs.TypeTable.{IsTypeOf, type_at}
use Rattle.ctx_table.specs.declared.ctx_id.CtxId.{CtxId}
use Rattle.ctx_table.specs.Context.{Context, is_same_name}
use Rattle.ctx_table.specs.CtxTable.{context_at}

abbrev pub Scope : Type 0
Scope = List (Ident × Typ)

-- the type of the innermost binding of the name
abbrev pub type_of_name : Scope → Ident → Option Typ
type_of_name [] name = None
type_of_name (b ∷ bs) name = if is_same_name b.0 name then Some b.1 else type_of_name bs name

-- the bindings with a name in front that is bound to t, if there is a name
abbrev pub bind : {T : Type 0} → Option Ident → T → List (Ident × T) → List (Ident × T)
bind None t bindings = bindings
bind (Some x) t bindings = (x, t) ∷ bindings

-- the scope that a context by number is, over a table of types
abbrev pub scope_of : List Typ → Context → Scope
scope_of types ctx = map (λ b. (b.0, type_at types b.1)) ctx

-- the scope with this number
abbrev pub scope_at : List Typ → List Context → CtxId → Scope
scope_at types ctxs id = scope_of types (context_at ctxs id)

-- the types of the context are numbers of the table
abbrev pub IsTyped : List Typ → Context → Type 0
IsTyped types ctx = All (λ b. IsTypeOf types b.1) ctx
