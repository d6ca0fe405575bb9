-- A walk over the nodes of a tree that keeps no marked nodes, and what it stands for.
use Rattle.std.specs.Prelude.{◌≡◌, ◌↔◌, ℕ, zero, suc, ◌<◌, false, List, [], ◌∷◌, length, Option, None, Some}
use Rattle.type_core.specs.Typ.{Typ}
use Rattle.ctx_table.specs.Context.{Context}
use Rattle.mark_step.specs.Expression.{has_mark}
use Rattle.marking.specs.Marking.{MarkedNode, HasNoMark}
use Rattle.judging.specs.declared.frame.Given.{Given}
use Rattle.judging.specs.Machine as machine
use Rattle.judging.specs.Machine.{Of, Several}
use Rattle.judging.specs.declared.frame.Frame.{Frame}
use Rattle.judging.specs.Frames.{given_at, frames_at, frames_in}
use Rattle.plain_typing.specs.declared.walking.Walk.{Walk}

-- there is a node at the place, and it has no mark
abbrev pub IsUnmarkedAt : List MarkedNode → ℕ → Type 0
IsUnmarkedAt [] place = ⊥
IsUnmarkedAt (m ∷ ms) zero = has_mark m.mark ≡ false
IsUnmarkedAt (m ∷ ms) (suc place) = IsUnmarkedAt ms place

-- The vertices that are open, innermost first, have their nodes below a place, each before that of the one inside it, and these have no
-- marks yet.
abbrev pub AreUnsettled : ℕ → List machine.Frame → List MarkedNode → Type 0
AreUnsettled below [] nodes = Unit {0}
AreUnsettled below (Of place v p ps ∷ frames) nodes = (place < below) × IsUnmarkedAt nodes place × AreUnsettled place frames nodes
AreUnsettled below (Several d n ∷ frames) nodes = AreUnsettled below frames nodes

-- some node has a mark exactly where the walk has met one
abbrev pub IsNoted : Walk → List MarkedNode → Type 0
IsNoted walk nodes = (walk.has_mark ≡ false) ↔ HasNoMark nodes

-- what stands once something may have been given
abbrev pub given_on : List Typ → Option Given → List machine.Frame → List MarkedNode → machine.State
given_on types None frames nodes = machine.at frames nodes
given_on types (Some g) frames nodes = machine.deliver (given_at types g) frames nodes

-- the walk comes to this state with some marked nodes and some places of what is open, once it is given what may still have to be given
pub record StandsFor (types : List Typ) (ctxs : List Context) (given : Option Given) (walk : Walk) (state : machine.State) : Type 0 where
  pub frames : List (ℕ × Frame)
  pub nodes : List MarkedNode
  pub open_here : frames_in frames ≡ walk.frames.items
  pub comes_to : given_on types given (frames_at types ctxs frames) nodes ≡ state
  pub unsettled : AreUnsettled (length nodes) (frames_at types ctxs frames) nodes
  pub noted : IsNoted walk nodes
