-- Tasks, and those of the vertices and edges that they find.
use Rattle.std.proofs.Common.{◌≡◌, ℕ, suc, ◌+◌, List, [], ◌∷◌, ◌++◌, length, map, refl, sym, ap, subst, ◌∙◌}
use Rattle.std.specs.List.{AllByRecursion}
use Rattle.grove_sorts.specs.declared.position.Position.{Position}
use Rattle.grove_sorts.specs.declared.sort.Sort.{Sort}
use Rattle.grove_edits.specs.declared.vertex.Vertex.{Vertex}
use Rattle.grove_edits.specs.declared.edge.Edge.{Edge}
use Rattle.graph_words.specs.Live.{children_of}
use Rattle.grove_terms.specs.declared.node.Node.{Node}
use Rattle.grove_terms.specs.declared.node.What.TheVariants as whats
use Rattle.grove_terms.specs.Nodes.{node_at}
use Rattle.grove_decompose.specs.declared.task.Task.{Task as TaskOf}
use Rattle.grove_decompose.specs.declared.task.Task.TheVariants.{Place, Child}
use Rattle.grove_decompose.specs.Tasks.{Task, place_tasks, child_tasks, place_head, place_rest, step_nodes, step_tasks, task_at, IsFound}

pub map_joined : {A B : Type 0} (f : A → B) (xs ys : List A) → map f (xs ++ ys) ≡ map f xs ++ map f ys
map_joined f [] ys = refl
map_joined f (x ∷ xs) ys = ap (λ zs. f x ∷ zs) (map_joined f xs ys)

pub all_joined : {A : Type 0} (P : A → Type 0) (xs ys : List A) → AllByRecursion P xs → AllByRecursion P ys → AllByRecursion P (xs ++ ys)
all_joined P [] ys a b = b
all_joined P (x ∷ xs) ys a b = (a.0, all_joined P xs ys a.1 b)

pub all_before : {A : Type 0} (P : A → Type 0) (xs ys : List A) → AllByRecursion P (xs ++ ys) → AllByRecursion P xs
all_before P [] ys a = tt
all_before P (x ∷ xs) ys a = (a.0, all_before P xs ys a.1)

pub all_behind : {A : Type 0} (P : A → Type 0) (xs ys : List A) → AllByRecursion P (xs ++ ys) → AllByRecursion P ys
all_behind P [] ys a = a
all_behind P (x ∷ xs) ys a = all_behind P xs ys a.1

-- ---- positions

pub map-place_tasks : {S L : Type 0} (vertex_at : S → Vertex) (edge_at : L → Edge) (spot : S) (d : ℕ) (ps : List (Position × Sort))
    → map (task_at vertex_at edge_at) (place_tasks {L = L} spot d ps) ≡ place_tasks (vertex_at spot) d ps
map-place_tasks vertex_at edge_at spot d [] = refl
map-place_tasks {L = L} vertex_at edge_at spot d (p ∷ ps) =
    map_joined (task_at vertex_at edge_at) (place_tasks {L = L} spot d ps) (Place spot p.0 p.1 d ∷ [])
    ∙ ap (λ (ts : List Task). ts ++ Place (vertex_at spot) p.0 p.1 d ∷ []) (map-place_tasks vertex_at edge_at spot d ps)

pub places_found : {S L : Type 0} (IsSpot : S → Type 0) (IsLink : L → Type 0) (spot : S) (d : ℕ) (ps : List (Position × Sort)) → IsSpot spot
    → AllByRecursion (IsFound IsSpot IsLink) (place_tasks {L = L} spot d ps)
places_found IsSpot IsLink spot d [] found = tt
places_found {L = L} IsSpot IsLink spot d (p ∷ ps) found =
    all_joined (IsFound IsSpot IsLink) (place_tasks {L = L} spot d ps) (Place spot p.0 p.1 d ∷ []) (places_found IsSpot IsLink spot d ps found) (found, tt)

-- ---- children

map-child_tasks : {S L : Type 0} (vertex_at : S → Vertex) (edge_at : L → Edge) (d : ℕ) (links : List L)
    → map (task_at vertex_at edge_at) (child_tasks {S = S} d links) ≡ child_tasks d (map edge_at links)
map-child_tasks vertex_at edge_at d [] = refl
map-child_tasks {S = S} vertex_at edge_at d (link ∷ links) =
    map_joined (task_at vertex_at edge_at) (child_tasks {S = S} d links) (Child link d ∷ [])
    ∙ ap (λ (ts : List Task). ts ++ Child (edge_at link) d ∷ []) (map-child_tasks vertex_at edge_at d links)

pub map-place_rest : {S L : Type 0} (vertex_at : S → Vertex) (edge_at : L → Edge) (links : List L) (d : ℕ)
    → map (task_at vertex_at edge_at) (place_rest {S = S} links d) ≡ place_rest (map edge_at links) d
map-place_rest vertex_at edge_at [] d = refl
map-place_rest vertex_at edge_at (a ∷ []) d = refl
map-place_rest vertex_at edge_at (a ∷ b ∷ links) d = map-child_tasks vertex_at edge_at (d + 1) (a ∷ b ∷ links)

children_found : {S L : Type 0} (IsSpot : S → Type 0) (IsLink : L → Type 0) (d : ℕ) (links : List L) → AllByRecursion IsLink links
    → AllByRecursion (IsFound IsSpot IsLink) (child_tasks {S = S} d links)
children_found IsSpot IsLink d [] found = tt
children_found {S = S} IsSpot IsLink d (link ∷ links) found =
    all_joined (IsFound IsSpot IsLink) (child_tasks {S = S} d links) (Child link d ∷ []) (children_found IsSpot IsLink d links found.1) (found.0, tt)

pub rest_found : {S L : Type 0} (IsSpot : S → Type 0) (IsLink : L → Type 0) (links : List L) (d : ℕ) → AllByRecursion IsLink links
    → AllByRecursion (IsFound IsSpot IsLink) (place_rest {S = S} links d)
rest_found IsSpot IsLink [] d found = tt
rest_found IsSpot IsLink (a ∷ []) d found = found
rest_found IsSpot IsLink (a ∷ b ∷ links) d found = children_found IsSpot IsLink (d + 1) (a ∷ b ∷ links) found

map-length : {A B : Type 0} (f : A → B) (xs : List A) → length (map f xs) ≡ length xs
map-length f [] = refl
map-length f (x ∷ xs) = ap suc (map-length f xs)

-- the node of a position is that of the edges which are found
pub place_head-map : {L : Type 0} (edge_at : L → Edge) (links : List L) (d : ℕ) (p : Position) (s : Sort) → place_head links d p s ≡ place_head (map edge_at links) d p s
place_head-map edge_at [] d p s = refl
place_head-map edge_at (a ∷ []) d p s = refl
place_head-map edge_at (a ∷ b ∷ links) d p s = ap (λ n. node_at d p (whats.Conflict s (suc (suc n))) ∷ []) (sym (map-length edge_at links))

-- ---- a task taken

-- positions that are pushed are those of the vertex that is found
pub places_pushed : {S L : Type 0} (vertex_at : S → Vertex) (edge_at : L → Edge) (old new : List (TaskOf S L)) (spot : S) (d : ℕ) (ps : List (Position × Sort)) (rest : List Task)
    → new ≡ old ++ place_tasks spot d ps → place_tasks (vertex_at spot) d ps ≡ rest → map (task_at vertex_at edge_at) new ≡ map (task_at vertex_at edge_at) old ++ rest
places_pushed {L = L} vertex_at edge_at old new spot d ps rest pushed is =
    ap (map (task_at vertex_at edge_at)) pushed ∙ map_joined (task_at vertex_at edge_at) old (place_tasks {L = L} spot d ps)
    ∙ ap (λ (ts : List Task). map (task_at vertex_at edge_at) old ++ ts) (map-place_tasks vertex_at edge_at spot d ps ∙ is)

pub found_with_places : {S L : Type 0} (IsSpot : S → Type 0) (IsLink : L → Type 0) (old new : List (TaskOf S L)) (spot : S) (d : ℕ) (ps : List (Position × Sort)) → new ≡ old ++ place_tasks spot d ps
    → IsSpot spot → AllByRecursion (IsFound IsSpot IsLink) old → AllByRecursion (IsFound IsSpot IsLink) new
found_with_places {L = L} IsSpot IsLink old new spot d ps pushed found before =
    subst (AllByRecursion (IsFound IsSpot IsLink)) (sym pushed) (all_joined (IsFound IsSpot IsLink) old (place_tasks {L = L} spot d ps) before (places_found IsSpot IsLink spot d ps found))

-- the children of a position that are pushed are those of the vertex that is found
pub children_pushed : {S L : Type 0} (vertex_at : S → Vertex) (edge_at : L → Edge) (live : List Edge) (task : TaskOf S L) (spot : S) (p : Position) (s : Sort) (d : ℕ) (links shown : List L) (old new : List (TaskOf S L))
    → task ≡ Place spot p s d → map edge_at links ≡ children_of (vertex_at spot) p live → shown ≡ links → new ≡ old ++ place_rest shown d
    → map (task_at vertex_at edge_at) new ≡ map (task_at vertex_at edge_at) old ++ step_tasks live (task_at vertex_at edge_at task)
children_pushed {S = S} {L = L} vertex_at edge_at live task spot p s d links shown old new is are same pushed =
    ap (map (task_at vertex_at edge_at)) pushed ∙ map_joined (task_at vertex_at edge_at) old (place_rest {S = S} shown d)
    ∙ ap (λ (ts : List Task). map (task_at vertex_at edge_at) old ++ ts)
    (map-place_rest vertex_at edge_at shown d ∙ ap (λ (ls : List L). place_rest (map edge_at ls) d) same ∙ ap (λ (es : List Edge). place_rest es d) are ∙ ap (λ (t : TaskOf S L). step_tasks live (task_at vertex_at edge_at t)) (sym is))

pub found_with_children : {S L : Type 0} (IsSpot : S → Type 0) (IsLink : L → Type 0) (d : ℕ) (links shown : List L) (old new : List (TaskOf S L)) → shown ≡ links → new ≡ old ++ place_rest shown d
    → AllByRecursion IsLink links → AllByRecursion (IsFound IsSpot IsLink) old → AllByRecursion (IsFound IsSpot IsLink) new
found_with_children {S = S} IsSpot IsLink d links shown old new same pushed found before =
    subst (AllByRecursion (IsFound IsSpot IsLink)) (sym pushed)
    (all_joined (IsFound IsSpot IsLink) old (place_rest {S = S} shown d) before (rest_found IsSpot IsLink shown d (subst (AllByRecursion IsLink) (sym same) found)))

-- and so is the node of the position
pub place_listed : {S L : Type 0} (vertex_at : S → Vertex) (edge_at : L → Edge) (live : List Edge) (task : TaskOf S L) (spot : S) (p : Position) (s : Sort) (d : ℕ) (links shown : List L) (old new : List Node)
    → task ≡ Place spot p s d → map edge_at links ≡ children_of (vertex_at spot) p live → shown ≡ links → new ≡ old ++ place_head shown d p s → new ≡ old ++ step_nodes live (task_at vertex_at edge_at task)
place_listed {S = S} {L = L} vertex_at edge_at live task spot p s d links shown old new is are same listed =
    listed
    ∙ ap (λ (ns : List Node). old ++ ns)
    (place_head-map edge_at shown d p s ∙ ap (λ (ls : List L). place_head (map edge_at ls) d p s) same ∙ ap (λ (es : List Edge). place_head es d p s) are ∙ ap (λ (t : TaskOf S L). step_nodes live (task_at vertex_at edge_at t)) (sym is))

pub map_last : {A B : Type 0} (f : A → B) (xs ys : List A) (x : A) → xs ≡ ys ++ x ∷ [] → map f xs ≡ map f ys ++ f x ∷ []
map_last f xs ys x is = ap (map f) is ∙ map_joined f ys (x ∷ [])
