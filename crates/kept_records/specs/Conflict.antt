-- A walk down that begins at the target of an edge at a conflict: where it may begin, and what it makes.
use Rattle.std.specs.Prelude.{◌≡◌, ◌⊎◌, ◌<◌, Bool, true, List, [], length}
use Rattle.grove_edits.specs.declared.vertex.Vertex.{Vertex}
use Rattle.grove_edits.specs.declared.edge.Edge.{Edge}
use Rattle.grove_edits.specs.Graph.{Graph}
use Rattle.graph_words.specs.declared.class.Class.TheVariants.{Inner}
use Rattle.graph_words.specs.Live.{holds_edge, children_of}
use Rattle.graph_words.specs.Class.{class}
use Rattle.grove_terms.specs.Forest.{Forest, StandsUnder}
use Rattle.mark_step.specs.Expression.{Demanded}
use Rattle.kept_records.specs.Kept.{Kept, Records, expression_of, demanded_at}
use Rattle.kept_records.specs.Local.{kept_demand}
use Rattle.kept_records.specs.Renewal.{IsLeft}
use Rattle.kept_records.specs.Short.{MakesFrom, IsJudgedAnew, MakesTarget}

-- No position but that of the edge sees that its target is of another class after the edit: the target heads a tree as before, or each
-- parent edge that it has or had is from this position of the source.
abbrev pub PositionAloneSees : Edge → List Edge → List Edge → Type 0
PositionAloneSees e old new =
    ((class old e.target ≡ class new e.target) × (class new e.target ≡ Inner → ⊥))
    ⊎ ((d : Edge) → (holds_edge d old ≡ true) ⊎ (holds_edge d new ≡ true) → d.target ≡ e.target → (d.source ≡ e.source) × (d.position ≡ e.position))

-- What is made for the target: where it heads a tree, what is made for it near an edit; where it stands at the conflict and this is
-- demanded of it there, nothing if it is left as it is, and else what a walk down from it makes.
pub data MakesInConflict (e : Edge) (new : List Edge) (records : Records) (on : Vertex → Bool) (d : Demanded) (made : List (Vertex × Kept)) : Type 0 where
  outer : (class new e.target ≡ Inner → ⊥) → MakesTarget e new records [] on made → MakesInConflict e new records on d made
  left : class new e.target ≡ Inner → IsLeft on records e.target d → made ≡ [] → MakesInConflict e new records on d made
  judged : class new e.target ≡ Inner → (IsLeft on records e.target d → ⊥) → MakesFrom on new records e.target d made → MakesInConflict e new records on d made

-- A walk down from the target of an edge whose position has several children both before and after the edit. No other child is taken, nor
-- is the source judged again: a conflict gives it nothing.
pub record IsConflictWalk (e : Edge) (before after : Graph) (old new : List Edge) (records : Records) (on : Vertex → Bool) (made : List (Vertex × Kept)) : Type 0 where
  pub position_sees : PositionAloneSees e old new
  pub anew : IsJudgedAnew e before after [] on
  pub several_before : 1 < length (children_of e.source e.position old)
  pub several_after : 1 < length (children_of e.source e.position new)
  pub forest : Forest
  pub stands : StandsUnder new e.source forest
  pub makes : MakesInConflict e new records on (demanded_at (expression_of e.source forest (kept_demand records e.source)) forest e.position) made
