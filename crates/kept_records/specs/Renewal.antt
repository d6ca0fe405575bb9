-- One walk down the new trees from their heads: which vertices are judged again after an edit, and the records that are made for them,
-- in the order in which the vertices are settled.
use Rattle.std.specs.Prelude.{◌≡◌, ◌⊎◌, Bool, true, false, List, [], ◌∷◌, ◌++◌, map, Some, if◌then◌else◌}
use Rattle.grove_sorts.specs.declared.position.Position.{Position}
use Rattle.grove_sorts.specs.declared.sort.Sort.TheVariants.{Exp}
use Rattle.grove_sorts.specs.Ctor.{sort_of_ctor}
use Rattle.grove_edits.specs.declared.vertex.Vertex.{Vertex}
use Rattle.grove_edits.specs.declared.edge.Edge.{Edge}
use Rattle.grove_edits.specs.Graph.{Graph}
use Rattle.graph_words.specs.declared.class.Class.TheVariants.{Inner}
use Rattle.grove_edits.specs.Vertex.{is_same_vertex, stands_in}
use Rattle.graph_words.specs.Class.{class}
use Rattle.graph_words.specs.Whole.{IsVertexOf}
use Rattle.grove_terms.specs.Forest.{Forest, none, multi_ref, cycle_ref, tree, StandsUnder}
use Rattle.mark_step.specs.Expression.{Demanded}
use Rattle.kept_records.specs.Kept.{Kept, Records, alone, kept_of, expression_of, demanded_at}
use Rattle.kept_records.specs.Local.{kept_demand}
use Rattle.kept_records.specs.Change.{is_on_walks, StandOnce, IsConcerned}

-- of some vertices each is judged again, as of those on the walks, and so is an expression of which is demanded what was not demanded before
abbrev pub HasToBeJudged : (Vertex → Bool) → Records → Vertex → Demanded → Type 0
HasToBeJudged on records v d = (on v ≡ true) ⊎ ((sort_of_ctor v.ctor ≡ Exp) × (kept_demand records v ≡ d → ⊥))

-- any other is left as it is, with all that stands under it
abbrev pub IsLeft : (Vertex → Bool) → Records → Vertex → Demanded → Type 0
IsLeft on records v d = (on v ≡ false) × (sort_of_ctor v.ctor ≡ Exp → kept_demand records v ≡ d)

-- The records that are made under a vertex, of whose children this is demanded at each position: the children are taken in order, and
-- a vertex that is judged again gets its record after those under it.
abbrev pub MakesUnder : (Vertex → Bool) → Records → (Position → Demanded) → Forest → List (Vertex × Kept) → Type 0
MakesUnder on records given none made = made ≡ []
MakesUnder on records given (multi_ref d rest) made = MakesUnder on records given rest made
MakesUnder on records given (cycle_ref d rest) made = MakesUnder on records given rest made
MakesUnder on records given (tree d below rest) made =
    (IsLeft on records d.target (given d.position) × MakesUnder on records given rest made)
    ⊎ (HasToBeJudged on records d.target (given d.position)
    × (inner : List (Vertex × Kept)) × (later : List (Vertex × Kept))
    × (made ≡ inner ++ (d.target, kept_of d.target below (given d.position)) ∷ later)
    × MakesUnder on records (demanded_at (expression_of d.target below (given d.position)) below) below inner
    × MakesUnder on records given rest later)

-- These records are made for the children before those that are left: with whatever is made for these, they are what is made for all.
pub record AreMadeSoFar (on : Vertex → Bool) (records : Records) (given : Position → Demanded) (f left : Forest) (so_far : List (Vertex × Kept)) : Type 0 where
  pub goes_on : (later : List (Vertex × Kept)) → MakesUnder on records given left later → MakesUnder on records given f (so_far ++ later)

-- the records that are made for a tree, whose head is judged again
pub record MakesTree (on : Vertex → Bool) (new : List Edge) (records : Records) (head : Vertex) (made : List (Vertex × Kept)) : Type 0 where
  pub forest : Forest
  pub stands : StandsUnder new head forest
  pub inner : List (Vertex × Kept)
  pub made_are : made ≡ inner ++ (head, kept_of head forest alone) ∷ []
  pub under : MakesUnder on records (demanded_at (expression_of head forest alone) forest) forest inner

-- for the trees of some heads, one after the other
abbrev pub MakesTrees : (Vertex → Bool) → List Edge → Records → List Vertex → List (Vertex × Kept) → Type 0
MakesTrees on new records [] made = made ≡ []
MakesTrees on new records (head ∷ heads) made =
    (one : List (Vertex × Kept)) × (others : List (Vertex × Kept)) × (made ≡ one ++ others) × MakesTree on new records head one × MakesTrees on new records heads others

-- the vertices on the walks that head a tree, each once
pub record AreHeads (e : Edge) (old new : List Edge) (heads : List Vertex) : Type 0 where
  pub once : StandOnce heads
  pub each : (v : Vertex) → (class new v ≡ Inner → ⊥) → is_on_walks e old new v ≡ true → stands_in v heads ≡ true
  pub no_other : (v : Vertex) → stands_in v heads ≡ true → (class new v ≡ Inner → ⊥) × (is_on_walks e old new v ≡ true)

abbrev pub names : List (Vertex × Kept) → List Vertex
names made = map (λ m. m.0) made

-- the records with those that were made in place of the kept ones
abbrev pub put : List (Vertex × Kept) → Records → Records
put [] records v = records v
put (m ∷ ms) records v = if is_same_vertex m.0 v then Some m.1 else put ms records v

-- ---- whole trees

-- the records of all vertices under a vertex, of whose children this is demanded at each position
abbrev pub all_under : (Position → Demanded) → Forest → List (Vertex × Kept)
all_under given none = []
all_under given (multi_ref d rest) = all_under given rest
all_under given (cycle_ref d rest) = all_under given rest
all_under given (tree d below rest) =
    all_under (demanded_at (expression_of d.target below (given d.position)) below) below ++ (d.target, kept_of d.target below (given d.position)) ∷ all_under given rest

-- of all vertices of a tree
abbrev pub all_in_tree : Vertex → Forest → List (Vertex × Kept)
all_in_tree head f = all_under (demanded_at (expression_of head f alone) f) f ++ (head, kept_of head f alone) ∷ []

-- the records of all vertices of the trees of some heads, one tree after the other
abbrev pub AreAllInTrees : List Edge → List Vertex → List (Vertex × Kept) → Type 0
AreAllInTrees live [] made = made ≡ []
AreAllInTrees live (head ∷ heads) made =
    (f : Forest) × (others : List (Vertex × Kept)) × StandsUnder live head f × (made ≡ all_in_tree head f ++ others) × AreAllInTrees live heads others

-- the heads are of trees of the new graph, and among them are all that an edit concerns, and each that was no vertex before
pub record CoverConcerned (e : Edge) (before after : Graph) (old new : List Edge) (heads : List Vertex) : Type 0 where
  pub are_heads : (v : Vertex) → stands_in v heads ≡ true → class new v ≡ Inner → ⊥
  pub are_vertices : (v : Vertex) → stands_in v heads ≡ true → IsVertexOf after v
  pub concerned : (v : Vertex) → (class new v ≡ Inner → ⊥) → IsConcerned e new old new v → stands_in v heads ≡ true
  pub come : (v : Vertex) → IsVertexOf after v → (class new v ≡ Inner → ⊥) → (IsVertexOf before v → ⊥) → stands_in v heads ≡ true
