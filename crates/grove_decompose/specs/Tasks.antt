-- Inner model, which no public contract cites: what is left to be listed of a tree, as tasks, the last one first.
use Rattle.std.specs.Prelude.{◌≡◌, ℕ, ◌+◌, ◌≤◌, suc, Bool, true, false, ◌||◌, List, [], ◌∷◌, ◌++◌, length, Some}
use Rattle.grove_sorts.specs.declared.position.Position.{Position}
use Rattle.grove_sorts.specs.declared.sort.Sort.{Sort}
use Rattle.grove_sorts.specs.Ctor.{positions}
use Rattle.grove_edits.specs.declared.vertex.Vertex.{Vertex}
use Rattle.grove_edits.specs.declared.edge.Edge.{Edge}
use Rattle.graph_words.specs.declared.class.Class.{Class}
use Rattle.graph_words.specs.declared.class.Class.TheVariants.{NoParent, Multi, Cycle, Inner}
use Rattle.graph_words.specs.Live.{holds_edge, parents_of, children_of}
use Rattle.grove_sorts.specs.Position.{is_same_position}
use Rattle.graph_words.specs.Class.{class}
use Rattle.graph_words.proofs.Up.{up}
use Rattle.grove_terms.specs.declared.node.Node.{Node}
use Rattle.grove_terms.specs.declared.node.What.{What}
use Rattle.grove_terms.specs.declared.node.What.TheVariants as whats
use Rattle.grove_terms.specs.Nodes.{node_at, child_node, place_nodes, nodes_under}
use Rattle.grove_terms.proofs.Forests.{forest_of, Stands}
use Rattle.grove_decompose.specs.declared.task.Task.{Task as TaskOf}
use Rattle.grove_decompose.specs.declared.task.Task.TheVariants.{Place, Child}

-- a task of vertices and edges themselves
abbrev pub Task : Type 0
Task = TaskOf Vertex Edge

-- ---- the parents of a vertex

abbrev pub are_several : List Edge → Bool
are_several [] = false
are_several (e ∷ []) = false
are_several (e ∷ f ∷ _) = true

-- two or more live edges lead to the vertex
abbrev pub is_shared : Vertex → List Edge → Bool
is_shared v live = are_several (parents_of v live)

-- ---- what tasks are for

-- what a child of a class is
abbrev pub what_by : Class → Vertex → What
what_by Multi v = whats.MultiRef v
what_by Cycle v = whats.CycleRef v
what_by NoParent v = whats.Vertex v
what_by Inner v = whats.Vertex v

abbrev pub under_by : Class → List Edge → Vertex → ℕ → List Node
under_by Multi live v depth = []
under_by Cycle live v depth = []
under_by NoParent live v depth = nodes_under v (forest_of live v) (depth + 1)
under_by Inner live v depth = nodes_under v (forest_of live v) (depth + 1)

-- the nodes of a child
abbrev pub child_list : List Edge → ℕ → Position → Edge → List Node
child_list live depth p e = child_node depth p e (what_by (class live e.target) e.target) ∷ under_by (class live e.target) live e.target depth

abbrev pub child_lists : List Edge → ℕ → Position → List Edge → List Node
child_lists live depth p [] = []
child_lists live depth p (e ∷ es) = child_list live depth p e ++ child_lists live depth p es

-- the nodes that a task is for
abbrev pub task_nodes : List Edge → Task → List Node
task_nodes live (Place v p s depth) = place_nodes (length (children_of v p live)) (λ d. child_lists live d p (children_of v p live)) depth p s
task_nodes live (Child e depth) = child_list live depth e.position e

-- the nodes that some tasks are for, the last task first
abbrev pub todo : List Edge → List Task → List Node
todo live [] = []
todo live (task ∷ tasks) = todo live tasks ++ task_nodes live task

-- ---- how a task is taken

abbrev pub place_tasks : {S L : Type 0} → S → ℕ → List (Position × Sort) → List (TaskOf S L)
place_tasks spot depth [] = []
place_tasks spot depth (p ∷ ps) = place_tasks spot depth ps ++ Place spot p.0 p.1 depth ∷ []

abbrev pub child_tasks : {S L : Type 0} → ℕ → List L → List (TaskOf S L)
child_tasks depth [] = []
child_tasks depth (link ∷ links) = child_tasks depth links ++ Child link depth ∷ []

-- the node that a position with these children has of its own
abbrev pub place_head : {L : Type 0} → List L → ℕ → Position → Sort → List Node
place_head [] depth p s = node_at depth p (whats.Hole s) ∷ []
place_head (e ∷ []) depth p s = []
place_head (e ∷ f ∷ es) depth p s = node_at depth p (whats.Conflict s (suc (suc (length es)))) ∷ []

abbrev pub place_rest : {S L : Type 0} → List L → ℕ → List (TaskOf S L)
place_rest [] depth = []
place_rest (e ∷ []) depth = Child e depth ∷ []
place_rest (e ∷ f ∷ es) depth = child_tasks (depth + 1) (e ∷ f ∷ es)

abbrev pub child_rest : Class → Vertex → ℕ → List Task
child_rest Multi v depth = []
child_rest Cycle v depth = []
child_rest NoParent v depth = place_tasks v (depth + 1) (positions v.ctor)
child_rest Inner v depth = place_tasks v (depth + 1) (positions v.ctor)

abbrev pub step_nodes : List Edge → Task → List Node
step_nodes live (Place v p s depth) = place_head (children_of v p live) depth p s
step_nodes live (Child e depth) = child_node depth e.position e (what_by (class live e.target) e.target) ∷ []

abbrev pub step_tasks : List Edge → Task → List Task
step_tasks live (Place v p s depth) = place_rest (children_of v p live) depth
step_tasks live (Child e depth) = child_rest (class live e.target) e.target depth

-- the task of the vertices and edges that are found by these
abbrev pub task_at : {S L : Type 0} → (S → Vertex) → (L → Edge) → TaskOf S L → Task
task_at vertex_at edge_at (Place spot p s depth) = Place (vertex_at spot) p s depth
task_at vertex_at edge_at (Child link depth) = Child (edge_at link) depth

-- what a task finds its vertex or its edge by is of the graph
abbrev pub IsFound : {S L : Type 0} → (S → Type 0) → (L → Type 0) → TaskOf S L → Type 0
IsFound IsSpot IsLink (Place spot p s depth) = IsSpot spot
IsFound IsSpot IsLink (Child link depth) = IsLink link

-- ---- what holds of a task

-- the walk up from a vertex leads to a root
pub record IsUnder (live : List Edge) (root v : Vertex) : Type 0 where
  pub steps : ℕ
  pub leads : up live steps (Some v) ≡ Some root

-- the position is one of these
abbrev pub knows : Position → List (Position × Sort) → Bool
knows p [] = false
knows p (q ∷ qs) = is_same_position q.0 p || knows p qs

pub record IsSoundPlace (live : List Edge) (root : Vertex) (nodes : ℕ) (v : Vertex) (p : Position) (depth : ℕ) : Type 0 where
  pub stands : Stands live v
  pub known : knows p (positions v.ctor) ≡ true
  pub under : IsUnder live root v
  pub depth_within : depth ≤ nodes

pub record IsSoundChild (live : List Edge) (root : Vertex) (nodes : ℕ) (e : Edge) (depth : ℕ) : Type 0 where
  pub held : holds_edge e live ≡ true
  pub under : IsUnder live root e.source
  pub stands : class live e.target ≡ Inner → Stands live e.target
  pub depth_within : depth ≤ nodes

-- a task in a tree of which so many nodes are listed
abbrev pub IsSound : List Edge → Vertex → ℕ → Task → Type 0
IsSound live root nodes (Place v p s depth) = IsSoundPlace live root nodes v p depth
IsSound live root nodes (Child e depth) = IsSoundChild live root nodes e depth
