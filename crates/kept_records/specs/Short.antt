-- A walk down that begins near the edit, and not at the heads of trees: where it may begin, and what it makes.
use Rattle.std.specs.Prelude.{◌≡◌, ◌⊎◌, Bool, true, List, [], ◌∷◌, ◌++◌, Some}
use Rattle.grove_edits.specs.declared.vertex.Vertex.{Vertex}
use Rattle.grove_edits.specs.declared.edge.Edge.{Edge}
use Rattle.grove_edits.specs.Graph.{Graph}
use Rattle.grove_edits.specs.Vertex.{stands_in}
use Rattle.graph_words.specs.declared.class.Class.TheVariants.{Inner}
use Rattle.graph_words.specs.Live.{holds_edge}
use Rattle.graph_words.specs.Walk.{above}
use Rattle.graph_words.specs.Class.{class}
use Rattle.graph_words.specs.Whole.{IsVertexOf}
use Rattle.grove_terms.specs.Forest.{Forest, StandsUnder}
use Rattle.mark_step.specs.Expression.{Demanded}
use Rattle.kept_records.specs.Kept.{Kept, Records, alone, kept_of, expression_of, demanded_at}
use Rattle.kept_records.specs.Local.{typ_in, kept_demand}
use Rattle.kept_records.specs.Renewal.{MakesUnder, IsLeft}

-- what is made where a vertex is judged again of which this is demanded: the records under it, and then its own
pub record MakesFrom (on : Vertex → Bool) (new : List Edge) (records : Records) (start : Vertex) (d : Demanded) (made : List (Vertex × Kept)) : Type 0 where
  pub forest : Forest
  pub stands : StandsUnder new start forest
  pub inner : List (Vertex × Kept)
  pub made_are : made ≡ inner ++ (start, kept_of start forest d) ∷ []
  pub under : MakesUnder on records (demanded_at (expression_of start forest d) forest) forest inner

-- No vertex but the source of the edge sees that its target is of another class after the edit: no live edge comes or goes, or the target
-- heads a tree as before, or each parent edge that it has or had is from the source.
abbrev pub SourceAloneSees : Edge → List Edge → List Edge → Type 0
SourceAloneSees e old new =
    (old ≡ new)
    ⊎ (((class old e.target ≡ class new e.target) × (class new e.target ≡ Inner → ⊥))
    ⊎ ((d : Edge) → (holds_edge d old ≡ true) ⊎ (holds_edge d new ≡ true) → d.target ≡ e.target → d.source ≡ e.source))

-- from a vertex one comes up to the last of some others, each above the one before it in the tree of the same head
abbrev pub LeadsUp : List Edge → Vertex → List Vertex → Vertex → Type 0
LeadsUp live v [] top = v ≡ top
LeadsUp live v (w ∷ ws) top = (class live v ≡ Inner) × (above live v ≡ Some w) × LeadsUp live w ws top

-- The vertices that are judged again whatever is demanded of them: those on the way up from the source, and what was no vertex before.
pub record IsJudgedAnew (e : Edge) (before after : Graph) (way : List Vertex) (on : Vertex → Bool) : Type 0 where
  pub way_on : (v : Vertex) → stands_in v (e.source ∷ way) ≡ true → on v ≡ true
  pub came_on : (v : Vertex) → IsVertexOf after v → (IsVertexOf before v → ⊥) → on v ≡ true
  pub no_other : (v : Vertex) → on v ≡ true → (stands_in v (e.source ∷ way) ≡ true) ⊎ (IsVertexOf after v × (IsVertexOf before v → ⊥))

-- What is made for the target where it heads a tree: nothing where it stands on the way, or has what it had.
pub data MakesTarget (e : Edge) (new : List Edge) (records : Records) (way : List Vertex) (on : Vertex → Bool) (made : List (Vertex × Kept)) : Type 0 where
  within : class new e.target ≡ Inner → made ≡ [] → MakesTarget e new records way on made
  on_way : stands_in e.target (e.source ∷ way) ≡ true → made ≡ [] → MakesTarget e new records way on made
  left : IsLeft on records e.target alone → made ≡ [] → MakesTarget e new records way on made
  judged : (class new e.target ≡ Inner → ⊥) → (stands_in e.target (e.source ∷ way) ≡ true → ⊥) → (IsLeft on records e.target alone → ⊥)
      → MakesFrom on new records e.target alone made → MakesTarget e new records way on made

-- A walk down from a vertex above the source of the edge, as its record says what is demanded of it, behind one from the target where it
-- heads a tree of its own.
pub record IsShortWalk (e : Edge) (before after : Graph) (old new : List Edge) (records : Records) (way : List Vertex) (top : Vertex) (on : Vertex → Bool) (made : List (Vertex × Kept)) : Type 0 where
  pub alone_sees : SourceAloneSees e old new
  pub leads : LeadsUp new e.source way top
  pub anew : IsJudgedAnew e before after way on
  pub target : List (Vertex × Kept)
  pub makes_target : MakesTarget e new records way on target
  pub own : List (Vertex × Kept)
  pub makes_own : MakesFrom on new records top (kept_demand records top) own
  pub all : made ≡ target ++ own

-- the type of the vertex where the walk begins is what it was, if the vertex above sees it
abbrev pub TypeStays : List Edge → Records → Vertex → Forest → Type 0
TypeStays new records top forest = class new top ≡ Inner → typ_in (Some (kept_of top forest (kept_demand records top))) ≡ typ_in (records top)
