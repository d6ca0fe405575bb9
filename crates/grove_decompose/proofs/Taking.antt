-- Taking a task lists its first nodes and leaves tasks for the rest of them.
use Rattle.std.proofs.Common.{◌≡◌, ℕ, suc, ◌+◌, ◌*◌, ◌<◌, ◌≤◌, true, List, [], ◌∷◌, ◌++◌, length, refl, sym, ap, subst, ◌∙◌, arith, length-append}
use Rattle.std.specs.Prelude.{Some}
use Rattle.std.specs.List.{AllByRecursion}
use Rattle.grove_sorts.specs.declared.position.Position.{Position}
use Rattle.grove_sorts.specs.declared.sort.Sort.{Sort}
use Rattle.grove_sorts.specs.Ctor.{positions}
use Rattle.grove_sorts.proofs.Orders.{one_position}
use Rattle.grove_sorts.proofs.Rows.{row_short}
use Rattle.grove_edits.specs.declared.vertex.Vertex.{Vertex}
use Rattle.grove_edits.specs.declared.edge.Edge.{Edge}
use Rattle.graph_words.specs.declared.class.Class.{Class}
use Rattle.graph_words.specs.declared.class.Class.TheVariants.{NoParent, Multi, Cycle, Inner}
use Rattle.graph_words.specs.Live.{children_of}
use Rattle.graph_words.specs.Walk.{above}
use Rattle.graph_words.specs.Class.{class}
use Rattle.graph_words.proofs.Up.{up, up-shift}
use Rattle.grove_terms.specs.declared.node.Node.{Node}
use Rattle.grove_terms.specs.declared.node.What.TheVariants as whats
use Rattle.grove_terms.specs.Nodes.{node_at, child_node, place_nodes}
use Rattle.grove_terms.proofs.InLive.{IsFromPlace, children_lead, target_has_parent, above_target}
use Rattle.grove_terms.proofs.Forests.{Stands, below_stands}
use Rattle.grove_decompose.specs.declared.task.Task.TheVariants.{Place, Child}
use Rattle.grove_decompose.specs.Tasks.{Task, what_by, under_by, child_list, child_lists, task_nodes, todo, place_tasks, child_tasks, place_head, place_rest, child_rest, step_nodes, step_tasks, knows, IsUnder, IsSoundChild, IsSound}
use Rattle.grove_decompose.proofs.Places.{all_known, all_at, BelowStands, todo-append, under-tasks}

-- ---- nodes

-- the children at a position, taken one by one
todo-child_tasks : (live : List Edge) (v : Vertex) (p : Position) (d : ℕ) (es : List Edge) → AllByRecursion (IsFromPlace live v p) es → todo live (child_tasks d es) ≡ child_lists live d p es
todo-child_tasks live v p d [] all = refl
todo-child_tasks live v p d (e ∷ es) all =
    todo-append live (child_tasks d es) (Child e d ∷ [])
    ∙ ap (λ (q : Position). child_list live d q e ++ todo live (child_tasks d es)) (one_position e.position p all.0.position)
    ∙ ap (λ xs. child_list live d p e ++ xs) (todo-child_tasks live v p d es all.1)

place_taken : (live : List Edge) (v : Vertex) (p : Position) (s : Sort) (d : ℕ) (es : List Edge) → AllByRecursion (IsFromPlace live v p) es
    → place_head es d p s ++ todo live (place_rest es d) ≡ place_nodes (length es) (λ at. child_lists live at p es) d p s
place_taken live v p s d [] all = refl
place_taken live v p s d (e ∷ []) all = todo-child_tasks live v p d (e ∷ []) all
place_taken live v p s d (e ∷ f ∷ es) all = ap (λ xs. node_at d p (whats.Conflict s (suc (suc (length es)))) ∷ xs) (todo-child_tasks live v p (d + 1) (e ∷ f ∷ es) all)

child_taken : (live : List Edge) (c : Class) (e : Edge) (d : ℕ) → (c ≡ NoParent → ⊥) → (c ≡ Inner → Stands live e.target)
    → (child_node d e.position e (what_by c e.target) ∷ []) ++ todo live (child_rest c e.target d) ≡ child_node d e.position e (what_by c e.target) ∷ under_by c live e.target d
child_taken live Multi e d some stands = refl
child_taken live Cycle e d some stands = refl
child_taken live NoParent e d some stands = absurd (some refl)
child_taken live Inner e d some stands = ap (λ xs. child_node d e.position e (whats.Vertex e.target) ∷ xs) (sym (under-tasks live e.target (d + 1) (stands refl)))

pub taken : (live : List Edge) (root : Vertex) (n : ℕ) (task : Task) → IsSound live root n task → step_nodes live task ++ todo live (step_tasks live task) ≡ task_nodes live task
taken live root n (Place v p s d) sound = place_taken live v p s d (children_of v p live) (children_lead live v p)
taken live root n (Child e d) sound = child_taken live (class live e.target) e d (target_has_parent live e sound.held) sound.stands

-- ---- what holds of the tasks

abbrev pub AreSound : List Edge → Vertex → ℕ → List Task → Type 0
AreSound live root n tasks = AllByRecursion (IsSound live root n) tasks

pub sound_append : (live : List Edge) (root : Vertex) (n : ℕ) (xs ys : List Task) → AreSound live root n xs → AreSound live root n ys → AreSound live root n (xs ++ ys)
sound_append live root n [] ys a b = b
sound_append live root n (x ∷ xs) ys a b = (a.0, sound_append live root n xs ys a.1 b)

pub sound_before : (live : List Edge) (root : Vertex) (n : ℕ) (xs ys : List Task) → AreSound live root n (xs ++ ys) → AreSound live root n xs
sound_before live root n [] ys a = tt
sound_before live root n (x ∷ xs) ys a = (a.0, sound_before live root n xs ys a.1)

pub sound_behind : (live : List Edge) (root : Vertex) (n : ℕ) (xs ys : List Task) → AreSound live root n (xs ++ ys) → AreSound live root n ys
sound_behind live root n [] ys a = a
sound_behind live root n (x ∷ xs) ys a = sound_behind live root n xs ys a.1

still_sound : (live : List Edge) (root : Vertex) (n m : ℕ) (task : Task) → n ≤ m → IsSound live root n task → IsSound live root m task
still_sound live root n m (Place v p s d) le sound = let within = sound.depth_within in record { stands = sound.stands; known = sound.known; under = sound.under; depth_within = omega arith }
still_sound live root n m (Child e d) le sound = let within = sound.depth_within in record { held = sound.held; under = sound.under; stands = sound.stands; depth_within = omega arith }

pub all_still_sound : (live : List Edge) (root : Vertex) (n m : ℕ) (tasks : List Task) → n ≤ m → AreSound live root n tasks → AreSound live root m tasks
all_still_sound live root n m [] le all = tt
all_still_sound live root n m (task ∷ tasks) le all = (still_sound live root n m task le all.0, all_still_sound live root n m tasks le all.1)

children_sound : (live : List Edge) (root v : Vertex) (p : Position) (n d : ℕ) (es : List Edge) → IsUnder live root v → d ≤ n → AllByRecursion (IsFromPlace live v p) es → AllByRecursion (BelowStands live) es
    → AreSound live root n (child_tasks d es)
children_sound live root v p n d [] under within lead below = tt
children_sound live root v p n d (e ∷ es) under within lead below =
    sound_append live root n (child_tasks d es) (Child e d ∷ []) (children_sound live root v p n d es under within lead.1 below.1)
    (record { held = lead.0.held; under = subst (IsUnder live root) (sym lead.0.source) under; stands = below.0; depth_within = within }, tt)

places_sound : (live : List Edge) (root v : Vertex) (n d : ℕ) (ps : List (Position × Sort)) → IsUnder live root v → Stands live v → d ≤ n → AllByRecursion (λ p. knows p.0 (positions v.ctor) ≡ true) ps
    → AreSound live root n (place_tasks v d ps)
places_sound live root v n d [] under stands within known = tt
places_sound live root v n d (p ∷ ps) under stands within known =
    sound_append live root n (place_tasks v d ps) (Place v p.0 p.1 d ∷ []) (places_sound live root v n d ps under stands within known.1)
    (record { stands = stands; known = known.0; under = under; depth_within = within }, tt)

-- the tasks for the positions of a vertex are sound
pub all_places_sound : (live : List Edge) (root v : Vertex) (n d : ℕ) → IsUnder live root v → Stands live v → d ≤ n → AreSound live root n (place_tasks v d (positions v.ctor))
all_places_sound live root v n d under stands within = places_sound live root v n d (positions v.ctor) under stands within (all_known (positions v.ctor))

-- a vertex below one that is under a root is under it too
below_under : (live : List Edge) (root v w : Vertex) → above live v ≡ Some w → IsUnder live root w → IsUnder live root v
below_under live root v w is under = record { steps = suc under.steps; leads = sym (up-shift live (Some v) under.steps) ∙ ap (up live under.steps) is ∙ under.leads }

rest_sound : (live : List Edge) (root v : Vertex) (p : Position) (s : Sort) (n d : ℕ) (es : List Edge) → IsUnder live root v → d ≤ n → AllByRecursion (IsFromPlace live v p) es → AllByRecursion (BelowStands live) es
    → AreSound live root (n + length (place_head es d p s)) (place_rest es d)
rest_sound live root v p s n d [] under within lead below = tt
rest_sound live root v p s n d (e ∷ []) under within lead below = children_sound live root v p (n + 0) d (e ∷ []) under (omega arith) lead below
rest_sound live root v p s n d (e ∷ f ∷ es) under within lead below = children_sound live root v p (n + 1) (d + 1) (e ∷ f ∷ es) under (omega arith) lead below

child_sound : (live : List Edge) (root : Vertex) (n d : ℕ) (c : Class) (e : Edge) → class live e.target ≡ c → IsSoundChild live root n e d → AreSound live root (n + 1) (child_rest c e.target d)
child_sound live root n d Multi e is sound = tt
child_sound live root n d Cycle e is sound = tt
child_sound live root n d NoParent e is sound = absurd (target_has_parent live e sound.held is)
child_sound live root n d Inner e is sound =
    let within = sound.depth_within in
    all_places_sound live root e.target (n + 1) (d + 1) (below_under live root e.target e.source (above_target live e sound.held is) sound.under) (sound.stands is) (omega arith)

-- the tasks that are left of a task are sound once its first nodes are listed
pub rest_is_sound : (live : List Edge) (root : Vertex) (n : ℕ) (task : Task) → IsSound live root n task → AreSound live root (n + length (step_nodes live task)) (step_tasks live task)
rest_is_sound live root n (Place v p s d) sound =
    rest_sound live root v p s n d (children_of v p live) sound.under sound.depth_within (children_lead live v p) (all_at (BelowStands live) live v p sound.known (below_stands live v sound.stands))
rest_is_sound live root n (Child e d) sound = child_sound live root n d (class live e.target) e refl sound

-- ---- how much is left

abbrev pub weight_of : List Edge → Task → ℕ
weight_of live (Place v p s d) = 6 * length (task_nodes live (Place v p s d)) + 1
weight_of live (Child e d) = 6 * length (task_nodes live (Child e d))

abbrev pub weight : List Edge → List Task → ℕ
weight live [] = 0
weight live (task ∷ tasks) = weight_of live task + weight live tasks

pub weight-append : (live : List Edge) (xs ys : List Task) → weight live (xs ++ ys) ≡ weight live xs + weight live ys
weight-append live [] ys = omega arith
weight-append live (x ∷ xs) ys = let rest = weight-append live xs ys in omega arith

weight-child_tasks : (live : List Edge) (p : Position) (d : ℕ) (es : List Edge) → weight live (child_tasks d es) ≡ 6 * length (child_lists live d p es)
weight-child_tasks live p d [] = refl
weight-child_tasks live p d (e ∷ es) =
    let rest = weight-child_tasks live p d es in
    let sum = weight-append live (child_tasks d es) (Child e d ∷ []) in
    let both = length-append (child_list live d p e) (child_lists live d p es) in
    let here : length (child_list live d e.position e) ≡ length (child_list live d p e) = refl in
    omega arith

weight-place_tasks : (live : List Edge) (v : Vertex) (d : ℕ) (ps : List (Position × Sort)) → weight live (place_tasks v d ps) ≡ 6 * length (todo live (place_tasks v d ps)) + length ps
weight-place_tasks live v d [] = refl
weight-place_tasks live v d (p ∷ ps) =
    let rest = weight-place_tasks live v d ps in
    let sum = weight-append live (place_tasks v d ps) (Place v p.0 p.1 d ∷ []) in
    let both = length-append (task_nodes live (Place v p.0 p.1 d)) (todo live (place_tasks v d ps)) in
    let listed = ap (λ (xs : List Node). length xs) (todo-append live (place_tasks v d ps) (Place v p.0 p.1 d ∷ [])) in
    omega arith

lighter_place : (live : List Edge) (p : Position) (s : Sort) (d : ℕ) (es : List Edge) → weight live (place_rest es d) < 6 * length (place_nodes (length es) (λ at. child_lists live at p es) d p s) + 1
lighter_place live p s d [] = omega arith
lighter_place live p s d (e ∷ []) = let same = weight-child_tasks live p d (e ∷ []) in omega arith
lighter_place live p s d (e ∷ f ∷ es) = let same = weight-child_tasks live p (d + 1) (e ∷ f ∷ es) in omega arith

lighter_child : (live : List Edge) (c : Class) (e : Edge) (d : ℕ) → (c ≡ NoParent → ⊥) → (c ≡ Inner → Stands live e.target) → weight live (child_rest c e.target d) < 6 * suc (length (under_by c live e.target d))
lighter_child live Multi e d some stands = omega arith
lighter_child live Cycle e d some stands = omega arith
lighter_child live NoParent e d some stands = absurd (some refl)
lighter_child live Inner e d some stands =
    let tasks = weight-place_tasks live e.target (d + 1) (positions e.target.ctor) in
    let listed = ap (λ (xs : List Node). length xs) (under-tasks live e.target (d + 1) (stands refl)) in
    let few = row_short e.target.ctor in
    omega arith

-- less is left after a task was taken
pub lighter : (live : List Edge) (root : Vertex) (n : ℕ) (task : Task) → IsSound live root n task → weight live (step_tasks live task) < weight_of live task
lighter live root n (Place v p s d) sound = lighter_place live p s d (children_of v p live)
lighter live root n (Child e d) sound = lighter_child live (class live e.target) e d (target_has_parent live e sound.held) sound.stands
