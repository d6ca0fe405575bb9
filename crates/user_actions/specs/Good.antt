-- Graphs and actions whose edges and numbers are those of the program.
use Rattle.std.specs.Prelude.{◌≡◌, ◌≢◌, ◌<◌, ◌^◌, true, List}
use Rattle.edge_lattice.specs.declared.state.State.TheVariants.{Absent}
use Rattle.grove_edits.specs.declared.edge.Edge.{Edge}
use Rattle.grove_edits.specs.Vertex.{literal}
use Rattle.grove_edits.specs.Edge.{IsWellFormed, EdgeInRange}
use Rattle.grove_edits.specs.Graph.{Graph}
use Rattle.graph_words.specs.Live.{holds_edge}
use Rattle.grove_edits.specs.declared.action.Action.{Action}
use Rattle.grove_edits.specs.declared.action.Action.TheVariants.{Construct, Wrap, Become}

-- each edge that is not Absent is well formed
abbrev pub AreWellFormed : Graph → Type 0
AreWellFormed g = (e : Edge) → g e ≢ Absent → IsWellFormed e

-- the numbers of each edge that is not Absent lie in their ranges
abbrev pub AreInRange : Graph → Type 0
AreInRange g = (e : Edge) → g e ≢ Absent → EdgeInRange e

-- the edges that were not Absent as the block opened are not Absent
abbrev pub AreOpening : Graph → List Edge → Type 0
AreOpening g opening = (e : Edge) → holds_edge e opening ≡ true → g e ≢ Absent

-- where the constructor of an action is a literal, it lies in its range, as those of all actions of the program do
abbrev pub HasLiteralInRange : Action → Type 0
HasLiteralInRange (Construct place ctor) = literal ctor < 2 ^ 64
HasLiteralInRange (Wrap place ctor) = literal ctor < 2 ^ 64
HasLiteralInRange (Become place ctor) = literal ctor < 2 ^ 64
HasLiteralInRange _ = Unit {0}
