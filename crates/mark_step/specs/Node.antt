-- Nodes by number, and the expressions that they stand for.
use Rattle.std.specs.Prelude.{◌≡◌, ℕ, ◌+◌, ◌<◌, List, [], ◌∷◌, take, Option, None, Some, IsSome, IfSome, slice_get, if◌then◌else◌}
use Rattle.std.specs.Option.{option_map}
use Rattle.std.specs.List.{slice_index_or}
use Rattle.grove_sorts.specs.declared.ctor.Ctor.{Ctor}
use Rattle.grove_sorts.specs.declared.position.Position.{Position}
use Rattle.grove_sorts.specs.declared.sort.Sort.{Sort}
use Rattle.grove_sorts.specs.declared.sort.Sort.TheVariants.{Exp}
use Rattle.grove_sorts.specs.Ctor.{positions}
use Rattle.type_core.specs.declared.type_id.TypeId.{TypeId}
use Rattle.type_core.specs.Typ.{Typ, Unknown}
use Rattle.type_core.specs.TypeTable.{IsTypeOf, type_at}
use Rattle.ctx_table.specs.declared.ctx_id.CtxId.{CtxId}
use Rattle.ctx_table.specs.Context.{Context}
use Rattle.ctx_table.specs.CtxTable.{IsContextOf, context_at}
use Rattle.mark_step.specs.declared.node.Mode.{Mode}
use Rattle.mark_step.specs.declared.node.Mode.TheVariants.{Syn, Ana}
use Rattle.mark_step.specs.declared.node.NodeView.{NodeView}
use Rattle.mark_step.specs.declared.node.Demand.{Demand}
use Rattle.mark_step.specs.declared.node.Settled.{Settled}
use Rattle.mark_step.specs.Scope.{scope_at, IsTyped}
use Rattle.mark_step.specs.Expression.{Wanted, Synthesise, Analyse, Bound, Expression, Demanded, Marked}
use Rattle.mark_step.specs.Rows.{is_exp}

abbrev pub wanted_at : List Typ → Mode → Wanted
wanted_at types Syn = Synthesise
wanted_at types (Ana t) = Analyse (type_at types t)

abbrev pub bound_at : List Typ → NodeView → Bound
bound_at types node = record { name = option_map (λ n. n.now) node.binder.name; typ = type_at types node.binder.typ; second = option_map (λ n. n.now) node.second.name }

-- the expression that a node stands for
abbrev pub expression_at : List Typ → List Context → NodeView → Expression
expression_at types ctxs node = record {
  ctor = node.ctor.now;
  scope = scope_at types ctxs node.ctx;
  wanted = wanted_at types node.mode;
  bound = bound_at types node;
}

abbrev pub demanded_at : List Typ → List Context → Demand → Demanded
demanded_at types ctxs d = record { scope = scope_at types ctxs d.ctx; wanted = wanted_at types d.mode }

abbrev pub marked_at : List Typ → Settled → Marked
marked_at types s = record { typ = type_at types s.typ; mark = s.mark }

-- the mode names a number of the table
abbrev pub IsModeOf : List Typ → Mode → Type 0
IsModeOf types Syn = Unit {0}
IsModeOf types (Ana t) = IsTypeOf types t

-- a context of the table whose types are of the table
pub record IsScopeOf (types : List Typ) (ctxs : List Context) (id : CtxId) : Type 0 where
  pub context : IsContextOf ctxs id
  pub typed : IsTyped types (context_at ctxs id)

-- the types of children that are there are numbers of the table
abbrev pub AreNumbers : List Typ → List (Option TypeId) → Type 0
AreNumbers types done = (i : ℕ) → IfSome (slice_index_or done i None) (IsTypeOf types)

-- all numbers of the node are of the tables
pub record IsNodeOf (types : List Typ) (ctxs : List Context) (node : NodeView) : Type 0 where
  pub ctx : IsScopeOf types ctxs node.ctx
  pub mode : IsModeOf types node.mode
  pub binder : IsTypeOf types node.binder.typ
  pub done : AreNumbers types node.done

-- all numbers of the demand are of the tables
pub record IsDemandOf (types : List Typ) (ctxs : List Context) (d : Demand) : Type 0 where
  pub ctx : IsScopeOf types ctxs d.ctx
  pub mode : IsModeOf types d.mode

-- the sort of the children at the position with this index
abbrev pub sort_at_index : Ctor → ℕ → Option Sort
sort_at_index ctor i = option_map (λ p. p.1) (slice_get (positions ctor) i)

-- the expressions at the positions before an index have types
abbrev pub AreDoneBefore : NodeView → ℕ → Type 0
AreDoneBefore node index = (i : ℕ) → i < index → sort_at_index node.ctor.now i ≡ Some Exp → IsSome (slice_index_or node.done i None)

-- all expressions among the children have types
abbrev pub AreDone : NodeView → Type 0
AreDone node = (i : ℕ) → sort_at_index node.ctor.now i ≡ Some Exp → IsSome (slice_index_or node.done i None)

-- the type of a child, unknown where it has none yet
abbrev pub type_or_unknown : List Typ → Option TypeId → Typ
type_or_unknown types None = Unknown
type_or_unknown types (Some t) = type_at types t

-- the types of the expressions at some positions, the first of which has this index
abbrev pub types_from : List Typ → List (Option TypeId) → ℕ → List (Position × Sort) → List Typ
types_from types done i [] = []
types_from types done i (p ∷ ps) =
    if is_exp p.1 then (type_or_unknown types (slice_index_or done i None) ∷ types_from types done (i + 1) ps)
    else types_from types done (i + 1) ps

-- the types of the expressions at the positions before an index, in table order
abbrev pub types_before : List Typ → NodeView → ℕ → List Typ
types_before types node index = types_from types node.done 0 (take index (positions node.ctor.now))

-- the types of the expressions among the children, in table order
abbrev pub types_done : List Typ → NodeView → List Typ
types_done types node = types_from types node.done 0 (positions node.ctor.now)
