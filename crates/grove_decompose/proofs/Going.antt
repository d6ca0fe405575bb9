-- The nodes that are listed and those that tasks are for are together those of the tree.
use Rattle.std.proofs.Common.{◌≡◌, ◌+◌, ◌<◌, List, [], ◌∷◌, ◌++◌, length, refl, sym, ap, subst, ◌∙◌, append-nil, append_assoc, arith, length-append}
use Rattle.grove_sorts.specs.Ctor.{positions}
use Rattle.grove_edits.specs.declared.vertex.Vertex.{Vertex}
use Rattle.grove_edits.specs.declared.edge.Edge.{Edge}
use Rattle.std.specs.List.{AllByRecursion}
use Rattle.graph_words.specs.declared.class.Class.{Class}
use Rattle.graph_words.specs.declared.class.Class.TheVariants.{Inner}
use Rattle.graph_words.specs.Class.{class, of_class}
use Rattle.grove_terms.specs.declared.node.Node.{Node}
use Rattle.grove_terms.specs.Nodes.{head_node, tree_nodes}
use Rattle.grove_terms.specs.Grove.{IsTreeOf, AreTreesOf}
use Rattle.grove_terms.proofs.Forests.{forest_of, root_stands}
use Rattle.grove_terms.proofs.OneGrove.{all_of_class}
use Rattle.grove_decompose.specs.Tasks.{Task, todo, place_tasks, step_nodes, step_tasks, IsSound}
use Rattle.grove_decompose.proofs.Places.{todo-append, under-tasks}
use Rattle.grove_decompose.proofs.Taking.{taken, AreSound, sound_append, sound_before, sound_behind, all_still_sound, all_places_sound, rest_is_sound, weight, weight-append, lighter}

pub record IsListing (live : List Edge) (root : Vertex) (tree : List Node) (tasks : List Task) : Type 0 where
  pub nodes : tree ++ todo live tasks ≡ tree_nodes root (forest_of live root)
  pub sound : AreSound live root (length tree) tasks

pub begun : (live : List Edge) (root : Vertex) (tree : List Node) (tasks : List Task) → (class live root ≡ Inner → ⊥) → tree ≡ head_node root ∷ [] → tasks ≡ place_tasks root 1 (positions root.ctor)
    → IsListing live root tree tasks
begun live root tree tasks outer is left = record {
  nodes = ap (λ xs. xs ++ todo live tasks) is ∙ ap (λ ts. head_node root ∷ todo live ts) left ∙ ap (λ xs. head_node root ∷ xs) (sym (under-tasks live root 1 (root_stands live root outer)));
  sound = subst (AreSound live root (length tree)) (sym left) (all_places_sound live root root (length tree) 1 (record { steps = 0; leads = refl }) (root_stands live root outer) (omega (arith, ap (λ (xs : List Node). length xs) is)));
}

pub task_is_sound : (live : List Edge) (root : Vertex) (tree : List Node) (tasks rest : List Task) (task : Task) → IsListing live root tree tasks → tasks ≡ rest ++ task ∷ [] → IsSound live root (length tree) task
task_is_sound live root tree tasks rest task listing is = (sound_behind live root (length tree) rest (task ∷ []) (subst (AreSound live root (length tree)) is listing.sound)).0

pub gone_on : (live : List Edge) (root : Vertex) (tree more : List Node) (tasks rest left : List Task) (task : Task) → IsListing live root tree tasks → tasks ≡ rest ++ task ∷ []
    → more ≡ tree ++ step_nodes live task → left ≡ rest ++ step_tasks live task → IsListing live root more left
gone_on live root tree more tasks rest left task listing is listed leaves =
    let sound = task_is_sound live root tree tasks rest task listing is in
    let before : AreSound live root (length tree) rest = sound_before live root (length tree) rest (task ∷ []) (subst (AreSound live root (length tree)) is listing.sound) in
    let long : length more ≡ length tree + length (step_nodes live task) = ap (λ (xs : List Node). length xs) listed ∙ length-append tree (step_nodes live task) in
    let behind : AreSound live root (length more) (step_tasks live task) = subst (λ n. AreSound live root n (step_tasks live task)) (sym long) (rest_is_sound live root (length tree) task sound) in
    record {
      nodes =
          ap (λ xs. xs ++ todo live left) listed ∙ ap (λ ts. (tree ++ step_nodes live task) ++ todo live ts) leaves
          ∙ ap (λ xs. (tree ++ step_nodes live task) ++ xs) (todo-append live rest (step_tasks live task))
          ∙ append_assoc tree (step_nodes live task) (todo live (step_tasks live task) ++ todo live rest)
          ∙ ap (λ xs. tree ++ xs) (sym (append_assoc (step_nodes live task) (todo live (step_tasks live task)) (todo live rest)) ∙ ap (λ xs. xs ++ todo live rest) (taken live root (length tree) task sound)
          ∙ sym (todo-append live rest (task ∷ [])) ∙ ap (todo live) (sym is))
          ∙ listing.nodes;
      sound = subst (AreSound live root (length more)) (sym leaves) (sound_append live root (length more) rest (step_tasks live task) (all_still_sound live root (length tree) (length more) rest (omega arith) before) behind);
    }

pub less_left : (live : List Edge) (root : Vertex) (tree : List Node) (tasks rest left : List Task) (task : Task) → IsListing live root tree tasks → tasks ≡ rest ++ task ∷ [] → left ≡ rest ++ step_tasks live task
    → weight live left < weight live tasks
less_left live root tree tasks rest left task listing is leaves =
    let after = ap (weight live) leaves ∙ weight-append live rest (step_tasks live task) in
    let before = ap (weight live) is ∙ weight-append live rest (task ∷ []) in
    let less = lighter live root (length tree) task (task_is_sound live root tree tasks rest task listing is) in
    omega (arith, after, before, less)

pub listed_whole : (live : List Edge) (root : Vertex) (tree : List Node) (tasks : List Task) → (class live root ≡ Inner → ⊥) → IsListing live root tree tasks → tasks ≡ [] → IsTreeOf live root tree
listed_whole live root tree tasks outer listing none = record {
  forest = forest_of live root;
  stands = root_stands live root outer;
  listed = sym (append-nil tree) ∙ ap (λ ts. tree ++ todo live ts) (sym none) ∙ listing.nodes;
}

outer_from : (c : Class) (live : List Edge) (vs : List Vertex) → (c ≡ Inner → ⊥) → AllByRecursion (λ v. class live v ≡ c) vs → AllByRecursion (λ v. class live v ≡ Inner → ⊥) vs
outer_from c live [] other all = tt
outer_from c live (v ∷ vs) other all = (λ inner. other (sym all.0 ∙ inner), outer_from c live vs other all.1)

-- vertices of another class are not inner
pub outer_of_class : (c : Class) (live : List Edge) (vertices roots : List Vertex) → (c ≡ Inner → ⊥) → roots ≡ of_class c live vertices → AllByRecursion (λ v. class live v ≡ Inner → ⊥) roots
outer_of_class c live vertices roots other are =
    subst (AllByRecursion (λ v. class live v ≡ Inner → ⊥)) (sym are) (outer_from c live (of_class c live vertices) other (all_of_class c live vertices))

pub trees_along : (live : List Edge) (roots vs : List Vertex) (trees : List (List Node)) → roots ≡ vs → AreTreesOf live roots trees → AreTreesOf live vs trees
trees_along live roots vs trees are of_roots = subst (λ (us : List Vertex). AreTreesOf live us trees) are of_roots
