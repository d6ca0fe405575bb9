-- A tree of which some nodes are marked, by numbers, and what it stands for over the tables.
use Rattle.std.specs.Prelude.{List, Option, None, Some}
use Rattle.type_core.specs.Typ.{Typ}
use Rattle.ctx_table.specs.Context.{Context}
use Rattle.grove_terms.specs.declared.node.LentNode.{LentNode}
use Rattle.judging.specs.declared.frame.Given.{Given}
use Rattle.judging.specs.declared.frame.Closed.{Closed}
use Rattle.judging.specs.Frames.{given_at, frames_at, frames_in, AreFramesOf}
use Rattle.judging.specs.Machine as machine
use Rattle.mark_rules.specs.declared.taking.Walk.{Walk}
use Rattle.marking.specs.declared.added.Added.{Added}
use Rattle.marking.specs.Added.{marked_nodes}
use Rattle.marking.specs.Reading.{meant_nodes}
use Rattle.marking.specs.Numbers.{AreAddedOf}

-- what is open, and these nodes, as far as something is added to them
abbrev pub state_at : List Typ → List Context → List LentNode → Walk → machine.State
state_at types ctxs nodes w = machine.at (frames_at types ctxs w.frames.items) (meant_nodes types (marked_nodes nodes w.added.items))

-- what stands once something may have been given
abbrev pub given_on : List Typ → List Context → List LentNode → Option Given → Walk → machine.State
given_on types ctxs nodes None w = state_at types ctxs nodes w
given_on types ctxs nodes (Some g) w = machine.deliver (given_at types g) (frames_at types ctxs w.frames.items) (meant_nodes types (marked_nodes nodes w.added.items))

-- what marking adds to the node of a vertex that is closed
abbrev pub added_by : Closed → Added
added_by c = record { mode = c.mode; typ = c.typ; mark = c.mark }

-- the numbers are of the tables

pub record IsWalkOf (types : List Typ) (ctxs : List Context) (w : Walk) : Type 0 where
  pub frames : AreFramesOf types ctxs (frames_in w.frames.items)
  pub added : AreAddedOf types w.added.items
