-- A tree that is being listed, with tasks that find their vertices and edges in the graph.
use Rattle.std.proofs.Common.{◌≡◌, ◌<◌, List, [], ◌∷◌, ◌++◌, length, map, sym, ap, subst, ◌∙◌}
use Rattle.std.specs.List.{AllByRecursion}
use Rattle.grove_sorts.specs.Ctor.{positions}
use Rattle.grove_edits.specs.declared.vertex.Vertex.{Vertex}
use Rattle.grove_edits.specs.declared.edge.Edge.{Edge}
use Rattle.graph_words.specs.declared.class.Class.TheVariants.{Inner}
use Rattle.graph_words.specs.Class.{class}
use Rattle.grove_terms.specs.declared.node.Node.{Node}
use Rattle.grove_terms.specs.Nodes.{head_node}
use Rattle.grove_terms.specs.Grove.{IsTreeOf}
use Rattle.grove_decompose.specs.declared.task.Task.{Task as TaskOf}
use Rattle.grove_decompose.specs.Tasks.{place_tasks, step_nodes, step_tasks, task_at, IsFound, IsSound}
use Rattle.grove_decompose.proofs.Taking.{weight}
use Rattle.grove_decompose.proofs.Mapped.{map_last, all_before, all_behind, places_found, map-place_tasks}
use Rattle.grove_decompose.proofs.Going.{IsListing, begun, task_is_sound, gone_on, less_left, listed_whole}

pub record IsListingBy {S L : Type 0} (vertex_at : S → Vertex) (edge_at : L → Edge) (IsSpot : S → Type 0) (IsLink : L → Type 0) (live : List Edge) (root : Vertex) (tree : List Node) (tasks : List (TaskOf S L)) : Type 0 where
  pub listing : IsListing live root tree (map (task_at vertex_at edge_at) tasks)
  pub found : AllByRecursion (IsFound IsSpot IsLink) tasks

pub started : {S L : Type 0} (vertex_at : S → Vertex) (edge_at : L → Edge) (IsSpot : S → Type 0) (IsLink : L → Type 0) (live : List Edge) (root : Vertex) (spot : S) (tree : List Node) (tasks : List (TaskOf S L))
    → IsSpot spot → vertex_at spot ≡ root → (class live root ≡ Inner → ⊥) → tree ≡ head_node root ∷ [] → tasks ≡ place_tasks spot 1 (positions root.ctor)
    → IsListingBy vertex_at edge_at IsSpot IsLink live root tree tasks
started {L = L} vertex_at edge_at IsSpot IsLink live root spot tree tasks found at outer is left = record {
  listing = begun live root tree (map (task_at vertex_at edge_at) tasks) outer is
      (ap (map (task_at vertex_at edge_at)) left ∙ map-place_tasks vertex_at edge_at spot 1 (positions root.ctor) ∙ ap (λ (v : Vertex). place_tasks v 1 (positions root.ctor)) at);
  found = subst (AllByRecursion (IsFound IsSpot IsLink)) (sym left) (places_found {L = L} IsSpot IsLink spot 1 (positions root.ctor) found);
}

-- what holds of the task that is taken, and of those before it
pub record IsTaken {S L : Type 0} (vertex_at : S → Vertex) (edge_at : L → Edge) (IsSpot : S → Type 0) (IsLink : L → Type 0) (live : List Edge) (root : Vertex) (tree : List Node) (task : TaskOf S L) (rest : List (TaskOf S L)) : Type 0 where
  pub sound : IsSound live root (length tree) (task_at vertex_at edge_at task)
  pub found : IsFound IsSpot IsLink task
  pub rest_found : AllByRecursion (IsFound IsSpot IsLink) rest

pub last_taken : {S L : Type 0} (vertex_at : S → Vertex) (edge_at : L → Edge) (IsSpot : S → Type 0) (IsLink : L → Type 0) (live : List Edge) (root : Vertex) (tree : List Node) (tasks rest : List (TaskOf S L)) (task : TaskOf S L)
    → IsListingBy vertex_at edge_at IsSpot IsLink live root tree tasks → tasks ≡ rest ++ task ∷ [] → IsTaken vertex_at edge_at IsSpot IsLink live root tree task rest
last_taken vertex_at edge_at IsSpot IsLink live root tree tasks rest task listing is =
    let found : AllByRecursion (IsFound IsSpot IsLink) (rest ++ task ∷ []) = subst (AllByRecursion (IsFound IsSpot IsLink)) is listing.found in
    record {
      sound = task_is_sound live root tree _ _ _ listing.listing (map_last (task_at vertex_at edge_at) tasks rest task is);
      found = (all_behind (IsFound IsSpot IsLink) rest (task ∷ []) found).0;
      rest_found = all_before (IsFound IsSpot IsLink) rest (task ∷ []) found;
    }

pub went_on : {S L : Type 0} (vertex_at : S → Vertex) (edge_at : L → Edge) (IsSpot : S → Type 0) (IsLink : L → Type 0) (live : List Edge) (root : Vertex) (tree more : List Node) (tasks rest left : List (TaskOf S L)) (task : TaskOf S L)
    → IsListingBy vertex_at edge_at IsSpot IsLink live root tree tasks → tasks ≡ rest ++ task ∷ [] → more ≡ tree ++ step_nodes live (task_at vertex_at edge_at task)
    → map (task_at vertex_at edge_at) left ≡ map (task_at vertex_at edge_at) rest ++ step_tasks live (task_at vertex_at edge_at task) → AllByRecursion (IsFound IsSpot IsLink) left
    → IsListingBy vertex_at edge_at IsSpot IsLink live root more left
went_on vertex_at edge_at IsSpot IsLink live root tree more tasks rest left task listing is listed leaves found = record {
  listing = gone_on live root tree more _ _ _ _ listing.listing (map_last (task_at vertex_at edge_at) tasks rest task is) listed leaves;
  found = found;
}

pub less_to_list : {S L : Type 0} (vertex_at : S → Vertex) (edge_at : L → Edge) (IsSpot : S → Type 0) (IsLink : L → Type 0) (live : List Edge) (root : Vertex) (tree : List Node) (tasks rest left : List (TaskOf S L)) (task : TaskOf S L)
    → IsListingBy vertex_at edge_at IsSpot IsLink live root tree tasks → tasks ≡ rest ++ task ∷ [] → map (task_at vertex_at edge_at) left ≡ map (task_at vertex_at edge_at) rest ++ step_tasks live (task_at vertex_at edge_at task)
    → weight live (map (task_at vertex_at edge_at) left) < weight live (map (task_at vertex_at edge_at) tasks)
less_to_list vertex_at edge_at IsSpot IsLink live root tree tasks rest left task listing is leaves =
    less_left live root tree _ _ _ _ listing.listing (map_last (task_at vertex_at edge_at) tasks rest task is) leaves

pub none_left : {S L : Type 0} (vertex_at : S → Vertex) (edge_at : L → Edge) (IsSpot : S → Type 0) (IsLink : L → Type 0) (live : List Edge) (root : Vertex) (tree : List Node) (tasks : List (TaskOf S L))
    → (class live root ≡ Inner → ⊥) → IsListingBy vertex_at edge_at IsSpot IsLink live root tree tasks → tasks ≡ [] → IsTreeOf live root tree
none_left vertex_at edge_at IsSpot IsLink live root tree tasks outer listing none = listed_whole live root tree _ outer listing.listing (ap (map (task_at vertex_at edge_at)) none)
