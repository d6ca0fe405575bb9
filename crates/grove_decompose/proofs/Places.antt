-- The nodes under a vertex, position by position.
use Rattle.std.proofs.Common.{◌≡◌, ℕ, zero, suc, ◌+◌, ◌<◌, Bool, true, false, cond, List, [], ◌∷◌, ◌++◌, length, refl, sym, ap, subst, ◌∙◌, append-nil, append_assoc, arith}
use Rattle.std.specs.Prelude.{◌||◌, filter}
use Rattle.std.specs.List.{AllByRecursion}
use Rattle.grove_sorts.proofs.Truths.{or_left, or_right}
use Rattle.grove_sorts.specs.declared.position.Position.{Position}
use Rattle.grove_sorts.specs.declared.sort.Sort.{Sort}
use Rattle.grove_sorts.specs.declared.ctor.Ctor.{Ctor}
use Rattle.grove_sorts.specs.Ctor.{positions, Rises}
use Rattle.grove_sorts.specs.Position.{position_number, is_same_position}
use Rattle.grove_sorts.proofs.Orders.{one_position, other_position, same_position_laws}
use Rattle.grove_sorts.proofs.Rows.{positions_rise}
use Rattle.grove_edits.specs.declared.vertex.Vertex.{Vertex}
use Rattle.grove_edits.specs.declared.edge.Edge.{Edge}
use Rattle.graph_words.specs.declared.class.Class.{Class}
use Rattle.graph_words.specs.declared.class.Class.TheVariants.{Inner}
use Rattle.graph_words.specs.Live.{children_of}
use Rattle.graph_words.specs.Class.{class}
use Rattle.grove_terms.specs.declared.node.Node.{Node}
use Rattle.grove_terms.specs.declared.node.What.TheVariants as whats
use Rattle.grove_terms.specs.Forest.{Forest, none, multi_ref, cycle_ref, tree, child_edges, edges_from, edges_under, AreChildren}
use Rattle.grove_terms.specs.Nodes.{node_at, child_node, place_nodes, places_nodes, count_at, child_nodes, nodes_under}
use Rattle.grove_terms.proofs.InLive.{IsFromPlace, children_lead}
use Rattle.grove_terms.proofs.Forests.{forest_of, Stands, below_stands, one_forest}
use Rattle.grove_decompose.specs.declared.task.Task.TheVariants.{Place}
use Rattle.grove_decompose.specs.Tasks.{Task, what_by, under_by, child_lists, task_nodes, todo, place_tasks, knows}

-- ---- positions

-- a position stands in a table once
abbrev AreDistinct : List (Position × Sort) → Type 0
AreDistinct [] = Unit {0}
AreDistinct (p ∷ ps) = (knows p.0 ps ≡ false) × AreDistinct ps

unknown_below : (p : Position) (low : ℕ) (ps : List (Position × Sort)) → Rises low ps → position_number p < low → knows p ps ≡ false
unknown_below p low [] rises below = refl
unknown_below p low (q ∷ qs) rises below =
    let first = rises.0 in
    ap (λ b. b || knows p qs) (other_position q.0 p (λ e. omega arith)) ∙ unknown_below p (suc (position_number q.0)) qs rises.1 (omega arith)

distinct_from_rises : (low : ℕ) (ps : List (Position × Sort)) → Rises low ps → AreDistinct ps
distinct_from_rises low [] rises = tt
distinct_from_rises low (p ∷ ps) rises =
    (unknown_below p.0 (suc (position_number p.0)) ps rises.1 (omega arith), distinct_from_rises (suc (position_number p.0)) ps rises.1)

positions_distinct : (c : Ctor) → AreDistinct (positions c)
positions_distinct c = distinct_from_rises 0 (positions c) (positions_rise c)

or_split : (a b : Bool) → (a || b) ≡ true → (c : Bool) → a ≡ c → (c ≡ false → b ≡ true)
or_split a b h true e f = absurd cc
or_split true b h false e f = absurd cc
or_split false b h false e f = h

-- each position of a table is known to it
known_later : (q : Position × Sort) (known ps : List (Position × Sort)) → AllByRecursion (λ p. knows p.0 known ≡ true) ps → AllByRecursion (λ p. knows p.0 (q ∷ known) ≡ true) ps
known_later q known [] all = tt
known_later q known (p ∷ ps) all = (or_right (is_same_position q.0 p.0) (knows p.0 known) all.0, known_later q known ps all.1)

pub all_known : (ps : List (Position × Sort)) → AllByRecursion (λ p. knows p.0 ps ≡ true) ps
all_known [] = tt
all_known (p ∷ ps) = (or_left (is_same_position p.0 p.0) (knows p.0 ps) (same_position_laws.refl p.0), known_later p ps ps (all_known ps))

-- ---- the edges at one position

filter-append : (p : Edge → Bool) (xs ys : List Edge) → filter p (xs ++ ys) ≡ filter p xs ++ filter p ys
filter-append p [] ys = refl
filter-append p (x ∷ xs) ys = by_test (p x) (filter-append p xs ys) where
  by_test : (b : Bool) → filter p (xs ++ ys) ≡ filter p xs ++ filter p ys → cond b (x ∷ filter p (xs ++ ys)) (filter p (xs ++ ys)) ≡ cond b (x ∷ filter p xs) (filter p xs) ++ filter p ys
  by_test true rest = ap (λ zs. x ∷ zs) rest
  by_test false rest = rest

filter_all : (p : Edge → Bool) (xs : List Edge) → AllByRecursion (λ x. p x ≡ true) xs → filter p xs ≡ xs
filter_all p [] all = refl
filter_all p (x ∷ xs) all = ap (λ b. cond b (x ∷ filter p xs) (filter p xs)) all.0 ∙ ap (λ zs. x ∷ zs) (filter_all p xs all.1)

filter_none : (p : Edge → Bool) (xs : List Edge) → AllByRecursion (λ x. p x ≡ false) xs → filter p xs ≡ []
filter_none p [] all = refl
filter_none p (x ∷ xs) all = ap (λ b. cond b (x ∷ filter p xs) (filter p xs)) all.0 ∙ filter_none p xs all.1

abbrev pub is_at : Position → Edge → Bool
is_at p e = is_same_position e.position p

at_all : (live : List Edge) (v : Vertex) (p q : Position) (b : Bool) → is_same_position p q ≡ b → (xs : List Edge) → AllByRecursion (IsFromPlace live v p) xs → AllByRecursion (λ e. is_at q e ≡ b) xs
at_all live v p q b same [] all = tt
at_all live v p q b same (x ∷ xs) all =
    (ap (λ y. is_same_position y q) (one_position x.position p all.0.position) ∙ same, at_all live v p q b same xs all.1)

at_none : (live : List Edge) (v : Vertex) (q : Position) (ps : List (Position × Sort)) → knows q ps ≡ false → filter (is_at q) (edges_from live v ps) ≡ []
at_none live v q [] unknown = refl
at_none live v q (p ∷ ps) unknown =
    let parts = neither (is_same_position p.0 q) (knows q ps) unknown in
    filter-append (is_at q) (children_of v p.0 live) (edges_from live v ps)
    ∙ ap (λ xs. xs ++ filter (is_at q) (edges_from live v ps)) (filter_none (is_at q) (children_of v p.0 live) (at_all live v p.0 q false parts.0 (children_of v p.0 live) (children_lead live v p.0)))
    ∙ at_none live v q ps parts.1 where
      neither : (a b : Bool) → (a || b) ≡ false → (a ≡ false) × (b ≡ false)
      neither true b h = absurd cc
      neither false b h = (refl, h)

at_one : (live : List Edge) (v : Vertex) (q : Position) (ps : List (Position × Sort)) → AreDistinct ps → knows q ps ≡ true → filter (is_at q) (edges_from live v ps) ≡ children_of v q live
at_one live v q [] apart known = absurd cc
at_one live v q (p ∷ ps) apart known =
    filter-append (is_at q) (children_of v p.0 live) (edges_from live v ps) ∙ by_test (is_same_position p.0 q) refl (λ rest. at_one live v q ps apart.1 rest) where
      by_test : (b : Bool) → is_same_position p.0 q ≡ b → (knows q ps ≡ true → filter (is_at q) (edges_from live v ps) ≡ children_of v q live)
          → filter (is_at q) (children_of v p.0 live) ++ filter (is_at q) (edges_from live v ps) ≡ children_of v q live
      by_test true same later =
          let one : p.0 ≡ q = one_position p.0 q same in
          let unknown : knows q ps ≡ false = ap (λ z. knows z ps) (sym one) ∙ apart.0 in
          ap (λ xs. filter (is_at q) (children_of v p.0 live) ++ xs) (at_none live v q ps unknown) ∙ append-nil (filter (is_at q) (children_of v p.0 live))
          ∙ filter_all (is_at q) (children_of v p.0 live) (at_all live v p.0 q true same (children_of v p.0 live) (children_lead live v p.0)) ∙ ap (λ z. children_of v z live) one
      by_test false other later =
          ap (λ xs. xs ++ filter (is_at q) (edges_from live v ps)) (filter_none (is_at q) (children_of v p.0 live) (at_all live v p.0 q false other (children_of v p.0 live) (children_lead live v p.0)))
          ∙ later (or_split (is_same_position p.0 q) (knows q ps) known false other refl)

-- of the edges under a vertex, those at one of its positions are its children there
pub under_at : (live : List Edge) (v : Vertex) (q : Position) → knows q (positions v.ctor) ≡ true → filter (is_at q) (edges_under live v) ≡ children_of v q live
under_at live v q known = at_one live v q (positions v.ctor) (positions_distinct v.ctor) known

-- what holds of the edges under a vertex holds of its children at a position
all_from : (P : Edge → Type 0) (live : List Edge) (v : Vertex) (q : Position) (ps : List (Position × Sort)) → knows q ps ≡ true → AllByRecursion P (edges_from live v ps) → AllByRecursion P (children_of v q live)
all_from P live v q [] known all = absurd cc
all_from P live v q (p ∷ ps) known all = by_test (is_same_position p.0 q) refl (λ rest. all_from P live v q ps rest (behind (children_of v p.0 live) (edges_from live v ps) all)) where
  before : (xs ys : List Edge) → AllByRecursion P (xs ++ ys) → AllByRecursion P xs
  before [] ys a = tt
  before (x ∷ xs) ys a = (a.0, before xs ys a.1)

  behind : (xs ys : List Edge) → AllByRecursion P (xs ++ ys) → AllByRecursion P ys
  behind [] ys a = a
  behind (x ∷ xs) ys a = behind xs ys a.1

  by_test : (b : Bool) → is_same_position p.0 q ≡ b → (knows q ps ≡ true → AllByRecursion P (children_of v q live)) → AllByRecursion P (children_of v q live)
  by_test true same later = subst (λ (z : Position). AllByRecursion P (children_of v z live)) (one_position p.0 q same) (before (children_of v p.0 live) (edges_from live v ps) all)
  by_test false other later = later (or_split (is_same_position p.0 q) (knows q ps) known false other refl)

pub all_at : (P : Edge → Type 0) (live : List Edge) (v : Vertex) (q : Position) → knows q (positions v.ctor) ≡ true → AllByRecursion P (edges_under live v) → AllByRecursion P (children_of v q live)
all_at P live v q known all = all_from P live v q (positions v.ctor) known all

-- ---- the nodes at one position

count_at-filter : (f : Forest) (p : Position) → count_at f p ≡ length (filter (is_at p) (child_edges f))
count_at-filter none p = refl
count_at-filter (multi_ref e rest) p = by_test (is_same_position e.position p) (count_at-filter rest p) where
  by_test : (b : Bool) → count_at rest p ≡ length (filter (is_at p) (child_edges rest)) → cond b (suc (count_at rest p)) (count_at rest p) ≡ length (cond b (e ∷ filter (is_at p) (child_edges rest)) (filter (is_at p) (child_edges rest)))
  by_test true same = ap suc same
  by_test false same = same
count_at-filter (cycle_ref e rest) p = by_test (is_same_position e.position p) (count_at-filter rest p) where
  by_test : (b : Bool) → count_at rest p ≡ length (filter (is_at p) (child_edges rest)) → cond b (suc (count_at rest p)) (count_at rest p) ≡ length (cond b (e ∷ filter (is_at p) (child_edges rest)) (filter (is_at p) (child_edges rest)))
  by_test true same = ap suc same
  by_test false same = same
count_at-filter (tree e below rest) p = by_test (is_same_position e.position p) (count_at-filter rest p) where
  by_test : (b : Bool) → count_at rest p ≡ length (filter (is_at p) (child_edges rest)) → cond b (suc (count_at rest p)) (count_at rest p) ≡ length (cond b (e ∷ filter (is_at p) (child_edges rest)) (filter (is_at p) (child_edges rest)))
  by_test true same = ap suc same
  by_test false same = same

abbrev pub BelowStands : List Edge → Edge → Type 0
BelowStands live e = class live e.target ≡ Inner → Stands live e.target

-- the children of a forest at a position, listed edge by edge
child_nodes-lists : (live : List Edge) (f : Forest) (d : ℕ) (p : Position) → AreChildren live f → AllByRecursion (BelowStands live) (child_edges f)
    → child_nodes f d p ≡ child_lists live d p (filter (is_at p) (child_edges f))
child_nodes-lists live none d p children below = refl
child_nodes-lists live (multi_ref e rest) d p children below = by_test (is_same_position e.position p) (child_nodes-lists live rest d p children.1 below.1) where
  by_test : (b : Bool) → child_nodes rest d p ≡ child_lists live d p (filter (is_at p) (child_edges rest))
      → cond b (child_node d p e (whats.MultiRef e.target) ∷ child_nodes rest d p) (child_nodes rest d p) ≡ child_lists live d p (cond b (e ∷ filter (is_at p) (child_edges rest)) (filter (is_at p) (child_edges rest)))
  by_test true same =
      ap (λ xs. child_node d p e (whats.MultiRef e.target) ∷ xs) same
      ∙ ap (λ (c : Class). (child_node d p e (what_by c e.target) ∷ under_by c live e.target d) ++ child_lists live d p (filter (is_at p) (child_edges rest))) (sym children.0)
  by_test false same = same
child_nodes-lists live (cycle_ref e rest) d p children below = by_test (is_same_position e.position p) (child_nodes-lists live rest d p children.1 below.1) where
  by_test : (b : Bool) → child_nodes rest d p ≡ child_lists live d p (filter (is_at p) (child_edges rest))
      → cond b (child_node d p e (whats.CycleRef e.target) ∷ child_nodes rest d p) (child_nodes rest d p) ≡ child_lists live d p (cond b (e ∷ filter (is_at p) (child_edges rest)) (filter (is_at p) (child_edges rest)))
  by_test true same =
      ap (λ xs. child_node d p e (whats.CycleRef e.target) ∷ xs) same
      ∙ ap (λ (c : Class). (child_node d p e (what_by c e.target) ∷ under_by c live e.target d) ++ child_lists live d p (filter (is_at p) (child_edges rest))) (sym children.0)
  by_test false same = same
child_nodes-lists live (tree e deeper rest) d p children below = by_test (is_same_position e.position p) (child_nodes-lists live rest d p children.3 below.1) where
  one : deeper ≡ forest_of live e.target
  one = let stands = below.0 children.0 in one_forest live deeper (forest_of live e.target) (children.1 ∙ sym stands.edges) children.2 stands.children

  by_test : (b : Bool) → child_nodes rest d p ≡ child_lists live d p (filter (is_at p) (child_edges rest))
      → cond b (child_node d p e (whats.Vertex e.target) ∷ (nodes_under e.target deeper (d + 1) ++ child_nodes rest d p)) (child_nodes rest d p)
      ≡ child_lists live d p (cond b (e ∷ filter (is_at p) (child_edges rest)) (filter (is_at p) (child_edges rest)))
  by_test true same =
      ap (λ xs. child_node d p e (whats.Vertex e.target) ∷ (nodes_under e.target deeper (d + 1) ++ xs)) same
      ∙ ap (λ (f : Forest). child_node d p e (whats.Vertex e.target) ∷ (nodes_under e.target f (d + 1) ++ child_lists live d p (filter (is_at p) (child_edges rest)))) one
      ∙ ap (λ (c : Class). (child_node d p e (what_by c e.target) ∷ under_by c live e.target d) ++ child_lists live d p (filter (is_at p) (child_edges rest))) (sym children.0)
  by_test false same = same

pub todo-append : (live : List Edge) (xs ys : List Task) → todo live (xs ++ ys) ≡ todo live ys ++ todo live xs
todo-append live [] ys = sym (append-nil (todo live ys))
todo-append live (x ∷ xs) ys = ap (λ zs. zs ++ task_nodes live x) (todo-append live xs ys) ∙ append_assoc (todo live ys) (todo live xs) (task_nodes live x)

-- the nodes at a known position of a vertex are those of its task
place-task : (live : List Edge) (v : Vertex) (d : ℕ) (p : Position) (s : Sort) → Stands live v → knows p (positions v.ctor) ≡ true
    → place_nodes (count_at (forest_of live v) p) (λ at. child_nodes (forest_of live v) at p) d p s ≡ task_nodes live (Place v p s d)
place-task live v d p s stands known =
    let edges : filter (is_at p) (child_edges (forest_of live v)) ≡ children_of v p live = ap (filter (is_at p)) stands.edges ∙ under_at live v p known in
    let below : AllByRecursion (BelowStands live) (child_edges (forest_of live v)) = subst (AllByRecursion (BelowStands live)) (sym stands.edges) (below_stands live v stands) in
    let counts : count_at (forest_of live v) p ≡ length (children_of v p live) = count_at-filter (forest_of live v) p ∙ ap (λ (es : List Edge). length es) edges in
    let lists : (at : ℕ) → child_nodes (forest_of live v) at p ≡ child_lists live at p (children_of v p live) = λ at. child_nodes-lists live (forest_of live v) at p stands.children below ∙ ap (child_lists live at p) edges in
    ap (λ (n : ℕ). place_nodes n (λ at. child_nodes (forest_of live v) at p) d p s) counts ∙ by_count (length (children_of v p live)) (λ at. child_nodes (forest_of live v) at p) (λ at. child_lists live at p (children_of v p live)) lists where
      by_count : (n : ℕ) (xs ys : ℕ → List Node) → ((at : ℕ) → xs at ≡ ys at) → place_nodes n xs d p s ≡ place_nodes n ys d p s
      by_count zero xs ys same = refl
      by_count (suc zero) xs ys same = same d
      by_count (suc (suc n)) xs ys same = ap (λ zs. node_at d p (whats.Conflict s (suc (suc n))) ∷ zs) (same (d + 1))

places-tasks : (live : List Edge) (v : Vertex) (d : ℕ) (ps : List (Position × Sort)) → Stands live v → AllByRecursion (λ p. knows p.0 (positions v.ctor) ≡ true) ps
    → places_nodes ps (count_at (forest_of live v)) (child_nodes (forest_of live v)) d ≡ todo live (place_tasks v d ps)
places-tasks live v d [] stands known = refl
places-tasks live v d (p ∷ ps) stands known =
    ap (λ xs. xs ++ places_nodes ps (count_at (forest_of live v)) (child_nodes (forest_of live v)) d) (place-task live v d p.0 p.1 stands known.0)
    ∙ ap (λ xs. task_nodes live (Place v p.0 p.1 d) ++ xs) (places-tasks live v d ps stands known.1)
    ∙ sym (todo-append live (place_tasks v d ps) (Place v p.0 p.1 d ∷ []))

-- the nodes under a vertex are those of the tasks for its positions
pub under-tasks : (live : List Edge) (v : Vertex) (d : ℕ) → Stands live v → nodes_under v (forest_of live v) d ≡ todo live (place_tasks v d (positions v.ctor))
under-tasks live v d stands = places-tasks live v d (positions v.ctor) stands (all_known (positions v.ctor))
