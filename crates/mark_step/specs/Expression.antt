-- Expressions as the rules of marking see them, and what the rules say of them.
-- The promise of the commands rests on these definitions.
use Rattle.std.specs.Prelude.{Bool, true, false, Option}
use Rattle.grove_sorts.specs.declared.ctor.Ctor.{Ctor}
use Rattle.grove_sorts.specs.declared.ident.Ident.{Ident}
use Rattle.type_core.specs.Typ.{Typ}
use Rattle.mark_step.specs.declared.node.Mark.{Mark}
use Rattle.mark_step.specs.declared.node.Mark.TheVariants as mark
use Rattle.mark_step.specs.Scope.{Scope, bind}

-- what is wanted of an expression: to synthesise a type, or to be analysed against one
pub data Wanted : Type 0 where
  Synthesise : Wanted
  Analyse : (against : Typ) → Wanted

-- What an expression binds: the name of its parameter, where it has one, the type that a function ascribes to it, and the name of the
-- second parameter of a case.
pub record Bound : Type 0 where
  pub name : Option Ident
  pub typ : Typ
  pub second : Option Ident

-- an expression without its children
pub record Expression : Type 0 where
  pub ctor : Ctor
  pub scope : Scope
  pub wanted : Wanted
  pub bound : Bound

-- in what scope a child is judged, and how
pub record Demanded : Type 0 where
  pub scope : Scope
  pub wanted : Wanted

-- the type and the mark of an expression
pub record Marked : Type 0 where
  pub typ : Typ
  pub mark : Mark

abbrev pub marked : Typ → Mark → Marked
marked t m = record { typ = t; mark = m }

abbrev pub unmarked : Typ → Marked
unmarked t = marked t mark.None

-- the scope of the body of a function that binds so and stands in this one
abbrev pub body_scope : Bound → Scope → Scope
body_scope b scope = bind b.name b.typ scope

-- something is wrong
abbrev pub has_mark : Mark → Bool
has_mark mark.None = false
has_mark mark.Free = true
has_mark mark.NotArrow = true
has_mark mark.NotProduct = true
has_mark mark.Branches = true
has_mark mark.LamAgainst = true
has_mark mark.Ascription = true
has_mark mark.PairAgainst = true
has_mark mark.Inconsistent = true
has_mark mark.NotSum = true
has_mark mark.InjAgainst = true
