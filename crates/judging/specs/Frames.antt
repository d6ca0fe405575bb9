-- What is open while the nodes of a tree are judged, by numbers, and what it stands for over the tables.
use Rattle.std.specs.Prelude.{◌≡◌, ℕ, zero, suc, ◌<◌, ◌≤◌, ◌+◌, List, [], ◌∷◌, ◌++◌, map, take, drop, length, Option, None, Some, IfSome, slice_get}
use Rattle.std.specs.Option.{option_map}
use Rattle.std.specs.List.{slice_index_or}
use Rattle.grove_sorts.specs.declared.position.Position.{Position}
use Rattle.grove_sorts.specs.declared.sort.Sort.{Sort}
use Rattle.grove_sorts.specs.Ctor.{positions}
use Rattle.type_core.specs.Typ.{Typ}
use Rattle.type_core.specs.TypeTable.{IsTypeOf, type_at}
use Rattle.ctx_table.specs.Context.{Context}
use Rattle.mark_step.specs.Expression.{Demanded, Synthesise}
use Rattle.mark_step.specs.declared.node.NodeView.{NodeView}
use Rattle.mark_step.specs.Node.{wanted_at, bound_at, demanded_at, IsModeOf, IsDemandOf}
use Rattle.judging.specs.declared.frame.Given.{Given}
use Rattle.judging.specs.declared.frame.GivenRow.{GivenRow}
use Rattle.judging.specs.declared.frame.OpenVertex.{OpenVertex}
use Rattle.judging.specs.declared.frame.Frame.{Frame}
use Rattle.judging.specs.declared.frame.Frame.TheVariants.{Open, Several}
use Rattle.judging.specs.declared.frame.Closed.{Closed}
use Rattle.judging.specs.Machine as machine

-- ---- what they stand for

abbrev pub given_at : List Typ → Given → machine.Given
given_at types g = record { typ = type_at types g.typ; name = option_map (λ n. n.now) g.name }

-- what the positions gave, in table order
abbrev pub givens : GivenRow → List Given
givens r = r.first ∷ r.second ∷ r.third ∷ r.fourth ∷ r.fifth ∷ []

-- the row with what the position with an index gave
abbrev pub with_given : GivenRow → ℕ → Given → GivenRow
with_given r zero g = record { first = g; second = r.second; third = r.third; fourth = r.fourth; fifth = r.fifth }
with_given r (suc zero) g = record { first = r.first; second = g; third = r.third; fourth = r.fourth; fifth = r.fifth }
with_given r (suc (suc zero)) g = record { first = r.first; second = r.second; third = g; fourth = r.fourth; fifth = r.fifth }
with_given r (suc (suc (suc zero))) g = record { first = r.first; second = r.second; third = r.third; fourth = g; fifth = r.fifth }
with_given r (suc (suc (suc (suc zero)))) g = record { first = r.first; second = r.second; third = r.third; fourth = r.fourth; fifth = g }
with_given r (suc (suc (suc (suc (suc n))))) g = r

-- what the positions so far gave
abbrev pub given_before : OpenVertex → List Given
given_before o = take o.next (givens o.given)

abbrev pub opened_at : List Typ → List Context → OpenVertex → machine.Opened
opened_at types ctxs o = record { ctor = o.ctor.now; demanded = demanded_at types ctxs o.demand; given = map (given_at types) (given_before o) }

-- the positions of the vertex that are left
abbrev pub left_of : OpenVertex → List (Position × Sort)
left_of o = drop o.next (positions o.ctor.now)

abbrev pub frame_of : ℕ → machine.Opened → List (Position × Sort) → machine.Frame
frame_of place v [] = machine.Several v.demanded 0
frame_of place v (p ∷ ps) = machine.Of place v p ps

-- what is open, where its node stands at a place
abbrev pub frame_at : List Typ → List Context → ℕ → Frame → machine.Frame
frame_at types ctxs place (Open o) = frame_of place (opened_at types ctxs o) (left_of o)
frame_at types ctxs place (Several d n) = machine.Several (demanded_at types ctxs d) n

-- all that is open, each with the place of its node; the last is the innermost
abbrev pub frames_at : List Typ → List Context → List (ℕ × Frame) → List machine.Frame
frames_at types ctxs [] = []
frames_at types ctxs (f ∷ fs) = frames_at types ctxs fs ++ frame_at types ctxs f.0 f.1 ∷ []

-- the same without the places
abbrev pub frames_in : List (ℕ × Frame) → List Frame
frames_in fs = map (λ f. f.1) fs

-- what is demanded of the next node where this is the innermost frame, if there is one
abbrev pub demanded_of : List Typ → List Context → Option Frame → Demanded
demanded_of types ctxs None = record { scope = []; wanted = Synthesise }
demanded_of types ctxs (Some f) = machine.demanded_in (frame_at types ctxs 0 f)

-- what marking adds to the node of a vertex that is closed
abbrev pub added_at : List Typ → Closed → machine.Added
added_at types c = record { wanted = option_map (wanted_at types) c.mode; typ = option_map (type_at types) c.typ; mark = c.mark }

-- ---- their numbers are of the tables

abbrev pub IsGivenOf : List Typ → Given → Type 0
IsGivenOf types g = IsTypeOf types g.typ

-- the types that the positions gave are of the table, and from the next position on nothing is given
pub record IsFilledOf (types : List Typ) (o : OpenVertex) : Type 0 where
  pub numbers : (i : ℕ) → IfSome (slice_get (givens o.given) i) (IsGivenOf types)
  pub rest : (i : ℕ) → o.next ≤ i → IfSome (slice_get (givens o.given) i) (λ g. given_at types g ≡ machine.nothing)
  pub within : o.next ≤ length (positions o.ctor.now)

pub record IsOpenOf (types : List Typ) (ctxs : List Context) (o : OpenVertex) : Type 0 where
  pub demand : IsDemandOf types ctxs o.demand
  pub filled : IsFilledOf types o

abbrev pub IsFrameOf : List Typ → List Context → Frame → Type 0
IsFrameOf types ctxs (Open o) = IsOpenOf types ctxs o × (o.next < length (positions o.ctor.now))
IsFrameOf types ctxs (Several d n) = IsDemandOf types ctxs d

abbrev pub AreFramesOf : List Typ → List Context → List Frame → Type 0
AreFramesOf types ctxs [] = Unit {0}
AreFramesOf types ctxs (f ∷ fs) = IsFrameOf types ctxs f × AreFramesOf types ctxs fs

pub record IsClosedOf (types : List Typ) (c : Closed) : Type 0 where
  pub mode : IfSome c.mode (IsModeOf types)
  pub typ : IfSome c.typ (IsTypeOf types)
  pub given : IsGivenOf types c.given

-- ---- a vertex as its rule sees it

pub record IsViewOf (types : List Typ) (o : OpenVertex) (v : NodeView) : Type 0 where
  pub ctor : v.ctor.now ≡ o.ctor.now
  pub ctx : v.ctx ≡ o.demand.ctx
  pub mode : v.mode ≡ o.demand.mode
  pub bound : bound_at types v ≡ machine.bound_by o.ctor.now (map (given_at types) (given_before o))
  pub number : IsTypeOf types v.binder.typ
  pub done : (i : ℕ) → slice_index_or v.done i None ≡ option_map (λ g. g.typ) (slice_get (given_before o) i)

-- ---- a position is filled

-- the vertex with what its next position gave
abbrev pub filled_with : Given → OpenVertex → OpenVertex
filled_with g o = record { ctor = o.ctor; demand = o.demand; given = with_given o.given o.next g; next = o.next + 1 }
