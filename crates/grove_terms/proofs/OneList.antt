-- A list of nodes is that of one tree.
use Rattle.std.proofs.Common.{◌≡◌, ℕ, zero, suc, ◌+◌, ◌<◌, ◌≤◌, Bool, true, false, cond, List, [], ◌∷◌, ◌++◌, append_assoc, Some, None, refl, sym, ap, subst, ◌∙◌, inl, inr, ◌⊎◌, arith}
use Rattle.std.specs.List.{AllByRecursion}
use Rattle.std.proofs.lemmas.Bool.{cases_lt}
use Rattle.grove_sorts.specs.declared.position.Position.{Position}
use Rattle.grove_sorts.specs.declared.sort.Sort.{Sort}
use Rattle.grove_sorts.specs.Ctor.{positions, Rises}
use Rattle.grove_sorts.specs.Position.{position_number, is_same_position}
use Rattle.grove_edits.specs.declared.vertex.Vertex.{Vertex as VertexOf}
use Rattle.grove_edits.specs.declared.edge.Edge.{Edge}
use Rattle.grove_terms.specs.declared.node.Node.{Node}
use Rattle.grove_terms.specs.declared.node.What.TheVariants.{Vertex, Hole, Conflict, MultiRef, CycleRef}
use Rattle.grove_terms.specs.Forest.{Forest, none, multi_ref, cycle_ref, tree, child_edges, IsWellSorted}
use Rattle.grove_terms.specs.Nodes.{node_at, child_node, head_node, place_nodes, places_nodes, count_at, child_nodes, nodes_under, tree_nodes}
use Rattle.grove_terms.proofs.Table.{occurs, occurs_not}
use Rattle.grove_sorts.proofs.Rows.{positions_rise}
use Rattle.grove_sorts.proofs.Orders.{one_position, other_position}
use Rattle.grove_terms.proofs.Weights.{child_once}

-- ---- the children at one position

-- the children at a position
abbrev chosen : Position → Forest → Forest
chosen p none = none
chosen p (multi_ref e rest) = cond (is_same_position e.position p) (multi_ref e (chosen p rest)) (chosen p rest)
chosen p (cycle_ref e rest) = cond (is_same_position e.position p) (cycle_ref e (chosen p rest)) (chosen p rest)
chosen p (tree e below rest) = cond (is_same_position e.position p) (tree e below (chosen p rest)) (chosen p rest)

-- how many children there are
abbrev width : Forest → ℕ
width none = 0
width (multi_ref e rest) = suc (width rest)
width (cycle_ref e rest) = suc (width rest)
width (tree e below rest) = suc (width rest)

-- the nodes of all children, as those of one position
abbrev listed : Forest → ℕ → Position → List Node
listed none depth p = []
listed (multi_ref e rest) depth p = child_node depth p e (MultiRef e.target) ∷ listed rest depth p
listed (cycle_ref e rest) depth p = child_node depth p e (CycleRef e.target) ∷ listed rest depth p
listed (tree e below rest) depth p = child_node depth p e (Vertex e.target) ∷ (nodes_under e.target below (depth + 1) ++ listed rest depth p)

child_nodes-chosen : (forest : Forest) (depth : ℕ) (p : Position) → child_nodes forest depth p ≡ listed (chosen p forest) depth p
child_nodes-chosen none depth p = refl
child_nodes-chosen (multi_ref e rest) depth p = by_test (is_same_position e.position p) (child_nodes-chosen rest depth p) where
  by_test : (b : Bool) → child_nodes rest depth p ≡ listed (chosen p rest) depth p
      → cond b (child_node depth p e (MultiRef e.target) ∷ child_nodes rest depth p) (child_nodes rest depth p) ≡ listed (cond b (multi_ref e (chosen p rest)) (chosen p rest)) depth p
  by_test true later = ap (λ ns. child_node depth p e (MultiRef e.target) ∷ ns) later
  by_test false later = later
child_nodes-chosen (cycle_ref e rest) depth p = by_test (is_same_position e.position p) (child_nodes-chosen rest depth p) where
  by_test : (b : Bool) → child_nodes rest depth p ≡ listed (chosen p rest) depth p
      → cond b (child_node depth p e (CycleRef e.target) ∷ child_nodes rest depth p) (child_nodes rest depth p) ≡ listed (cond b (cycle_ref e (chosen p rest)) (chosen p rest)) depth p
  by_test true later = ap (λ ns. child_node depth p e (CycleRef e.target) ∷ ns) later
  by_test false later = later
child_nodes-chosen (tree e below rest) depth p = by_test (is_same_position e.position p) (child_nodes-chosen rest depth p) where
  by_test : (b : Bool) → child_nodes rest depth p ≡ listed (chosen p rest) depth p
      → cond b (child_node depth p e (Vertex e.target) ∷ (nodes_under e.target below (depth + 1) ++ child_nodes rest depth p)) (child_nodes rest depth p)
      ≡ listed (cond b (tree e below (chosen p rest)) (chosen p rest)) depth p
  by_test true later = ap (λ ns. child_node depth p e (Vertex e.target) ∷ (nodes_under e.target below (depth + 1) ++ ns)) later
  by_test false later = later

count_at-chosen : (forest : Forest) (p : Position) → count_at forest p ≡ width (chosen p forest)
count_at-chosen none p = refl
count_at-chosen (multi_ref e rest) p = by_test (is_same_position e.position p) (count_at-chosen rest p) where
  by_test : (b : Bool) → count_at rest p ≡ width (chosen p rest) → cond b (suc (count_at rest p)) (count_at rest p) ≡ width (cond b (multi_ref e (chosen p rest)) (chosen p rest))
  by_test true later = ap suc later
  by_test false later = later
count_at-chosen (cycle_ref e rest) p = by_test (is_same_position e.position p) (count_at-chosen rest p) where
  by_test : (b : Bool) → count_at rest p ≡ width (chosen p rest) → cond b (suc (count_at rest p)) (count_at rest p) ≡ width (cond b (cycle_ref e (chosen p rest)) (chosen p rest))
  by_test true later = ap suc later
  by_test false later = later
count_at-chosen (tree e below rest) p = by_test (is_same_position e.position p) (count_at-chosen rest p) where
  by_test : (b : Bool) → count_at rest p ≡ width (chosen p rest) → cond b (suc (count_at rest p)) (count_at rest p) ≡ width (cond b (tree e below (chosen p rest)) (chosen p rest))
  by_test true later = ap suc later
  by_test false later = later

place_alike : (n : ℕ) (one other : ℕ → List Node) → ((depth : ℕ) → one depth ≡ other depth) → (depth : ℕ) (p : Position) (sort : Sort) → place_nodes n one depth p sort ≡ place_nodes n other depth p sort
place_alike zero one other alike depth p sort = refl
place_alike (suc zero) one other alike depth p sort = alike depth
place_alike (suc (suc n)) one other alike depth p sort = ap (λ ns. node_at depth p (Conflict sort (suc (suc n))) ∷ ns) (alike (depth + 1))

-- the nodes of a position are those of the children at it
place-chosen : (forest : Forest) (depth : ℕ) (p : Position) (sort : Sort)
    → place_nodes (count_at forest p) (λ d. child_nodes forest d p) depth p sort ≡ place_nodes (width (chosen p forest)) (λ d. listed (chosen p forest) d p) depth p sort
place-chosen forest depth p sort =
    place_alike (count_at forest p) (λ d. child_nodes forest d p) (λ d. listed (chosen p forest) d p) (λ d. child_nodes-chosen forest d p) depth p sort
    ∙ ap (λ n. place_nodes n (λ d. listed (chosen p forest) d p) depth p sort) (count_at-chosen forest p)

-- ---- what stands under a vertex is what stands at its positions, one after the other

abbrev follow : Forest → Forest → Forest
follow none more = more
follow (multi_ref e rest) more = multi_ref e (follow rest more)
follow (cycle_ref e rest) more = cycle_ref e (follow rest more)
follow (tree e below rest) more = tree e below (follow rest more)

abbrev joined : List (Position × Sort) → Forest → Forest
joined [] forest = none
joined (p ∷ ps) forest = follow (chosen p.0 forest) (joined ps forest)

follow_assoc : (a b c : Forest) → follow (follow a b) c ≡ follow a (follow b c)
follow_assoc none b c = refl
follow_assoc (multi_ref e rest) b c = ap (multi_ref e) (follow_assoc rest b c)
follow_assoc (cycle_ref e rest) b c = ap (cycle_ref e) (follow_assoc rest b c)
follow_assoc (tree e below rest) b c = ap (tree e below) (follow_assoc rest b c)

-- no child stands at a position before those of all
chosen_none : (p : Position) (low : ℕ) (forest : Forest) → AllByRecursion (λ other. low ≤ position_number other.position) (child_edges forest) → position_number p < low → chosen p forest ≡ none
chosen_none p low none from below = refl
chosen_none p low (multi_ref e rest) from under =
    let first = from.0 in
    ap (λ b. cond b (multi_ref e (chosen p rest)) (chosen p rest)) (other_position e.position p (λ same. omega arith)) ∙ chosen_none p low rest from.1 under
chosen_none p low (cycle_ref e rest) from under =
    let first = from.0 in
    ap (λ b. cond b (cycle_ref e (chosen p rest)) (chosen p rest)) (other_position e.position p (λ same. omega arith)) ∙ chosen_none p low rest from.1 under
chosen_none p low (tree e below rest) from under =
    let first = from.0 in
    ap (λ b. cond b (tree e below (chosen p rest)) (chosen p rest)) (other_position e.position p (λ same. omega arith)) ∙ chosen_none p low rest from.1 under

-- a child, alone or before others
record IsChild (child : Forest) (q : Position) : Type 0 where
  here : (p : Position) (rest : Forest) → is_same_position q p ≡ true → chosen p (follow child rest) ≡ follow child (chosen p rest)
  elsewhere : (p : Position) (rest : Forest) → is_same_position q p ≡ false → chosen p (follow child rest) ≡ chosen p rest

multi_ref_is : (e : Edge) → IsChild (multi_ref e none) e.position
multi_ref_is e = record {
  here = λ p rest same. ap (λ b. cond b (multi_ref e (chosen p rest)) (chosen p rest)) same;
  elsewhere = λ p rest other. ap (λ b. cond b (multi_ref e (chosen p rest)) (chosen p rest)) other;
}

cycle_ref_is : (e : Edge) → IsChild (cycle_ref e none) e.position
cycle_ref_is e = record {
  here = λ p rest same. ap (λ b. cond b (cycle_ref e (chosen p rest)) (chosen p rest)) same;
  elsewhere = λ p rest other. ap (λ b. cond b (cycle_ref e (chosen p rest)) (chosen p rest)) other;
}

tree_is : (e : Edge) (below : Forest) → IsChild (tree e below none) e.position
tree_is e below = record {
  here = λ p rest same. ap (λ b. cond b (tree e below (chosen p rest)) (chosen p rest)) same;
  elsewhere = λ p rest other. ap (λ b. cond b (tree e below (chosen p rest)) (chosen p rest)) other;
}

-- a child is not at positions further on
joined_passed : (child rest : Forest) (q : Position) → IsChild child q → (low : ℕ) (ps : List (Position × Sort)) → Rises low ps → position_number q < low → joined ps (follow child rest) ≡ joined ps rest
joined_passed child rest q is low [] rises under = refl
joined_passed child rest q is low (p ∷ ps) rises under =
    let first = rises.0 in
    let other : is_same_position q p.0 ≡ false = other_position q p.0 (λ same. omega arith) in
    ap (λ f. follow f (joined ps (follow child rest))) (is.elsewhere p.0 rest other)
    ∙ ap (follow (chosen p.0 rest)) (joined_passed child rest q is (suc (position_number p.0)) ps rises.1 (omega arith))

joined_first : (child rest : Forest) (q : Position) → IsChild child q → AllByRecursion (λ other. position_number q ≤ position_number other.position) (child_edges rest)
    → (low : ℕ) (ps : List (Position × Sort)) → Rises low ps → occurs q ps ≡ 1 → joined ps (follow child rest) ≡ follow child (joined ps rest)
joined_first child rest q is from low [] rises once = absurd (omega arith)
joined_first child rest q is from low (p ∷ ps) rises once =
    by_test (is_same_position q p.0) refl once (joined_first child rest q is from (suc (position_number p.0)) ps rises.1) where
      by_test : (b : Bool) → is_same_position q p.0 ≡ b → cond b 1 0 + occurs q ps ≡ 1 → (occurs q ps ≡ 1 → joined ps (follow child rest) ≡ follow child (joined ps rest))
          → follow (chosen p.0 (follow child rest)) (joined ps (follow child rest)) ≡ follow child (follow (chosen p.0 rest) (joined ps rest))
      by_test true same once later =
          let at : position_number q ≡ position_number p.0 = ap position_number (one_position q p.0 same) in
          ap (λ f. follow f (joined ps (follow child rest))) (is.here p.0 rest same)
          ∙ ap (follow (follow child (chosen p.0 rest))) (joined_passed child rest q is (suc (position_number p.0)) ps rises.1 (omega arith))
          ∙ follow_assoc child (chosen p.0 rest) (joined ps rest)
      by_test false other once later =
          let before : position_number p.0 < position_number q = by_order (cases_lt (position_number p.0) (position_number q)) in
          let empty : chosen p.0 rest ≡ none = chosen_none p.0 (position_number q) rest from before in
          ap (λ f. follow f (joined ps (follow child rest))) (is.elsewhere p.0 rest other ∙ empty)
          ∙ later (omega arith)
          ∙ sym (ap (λ f. follow child (follow f (joined ps rest))) empty)
        where
          by_order : (position_number p.0 < position_number q) ⊎ (position_number q ≤ position_number p.0) → position_number p.0 < position_number q
          by_order (inl before) = before
          by_order (inr after) = let nowhere = occurs_not q (suc (position_number p.0)) ps rises.1 (omega arith) in absurd (omega arith)

joined-none : (ps : List (Position × Sort)) → joined ps none ≡ none
joined-none [] = refl
joined-none (p ∷ ps) = joined-none ps

joined_is : (v : VertexOf) (forest : Forest) → IsWellSorted v forest → joined (positions v.ctor) forest ≡ forest
joined_is v none sorted = joined-none (positions v.ctor)
joined_is v (multi_ref e rest) sorted =
    let first = sorted.0 in
    joined_first (multi_ref e none) rest e.position (multi_ref_is e) first.in_table_order 0 (positions v.ctor) (positions_rise v.ctor) (child_once v e (child_edges rest) first)
    ∙ ap (multi_ref e) (joined_is v rest sorted.1)
joined_is v (cycle_ref e rest) sorted =
    let first = sorted.0 in
    joined_first (cycle_ref e none) rest e.position (cycle_ref_is e) first.in_table_order 0 (positions v.ctor) (positions_rise v.ctor) (child_once v e (child_edges rest) first)
    ∙ ap (cycle_ref e) (joined_is v rest sorted.1)
joined_is v (tree e below rest) sorted =
    let first = sorted.0 in
    joined_first (tree e below none) rest e.position (tree_is e below) first.in_table_order 0 (positions v.ctor) (positions_rise v.ctor) (child_once v e (child_edges rest) first)
    ∙ ap (tree e below) (joined_is v rest sorted.2)

-- ---- what stands under a vertex is read back from its nodes

-- nodes that begin with those of what stands under a vertex tell it, and what comes behind them
abbrev IsReadBack : VertexOf → Forest → Type 0
IsReadBack v forest = (other : Forest) → IsWellSorted v other → (depth : ℕ) (xs ys : List Node) → nodes_under v forest depth ++ xs ≡ nodes_under v other depth ++ ys → (forest ≡ other) × (xs ≡ ys)

-- this holds of what stands under each child
abbrev Below : (VertexOf → Forest → Type 0) → Forest → Type 0
Below P none = Unit {0}
Below P (multi_ref e rest) = Below P rest
Below P (cycle_ref e rest) = Below P rest
Below P (tree e below rest) = P e.target below × Below P rest

below-chosen : (P : VertexOf → Forest → Type 0) (p : Position) (forest : Forest) → Below P forest → Below P (chosen p forest)
below-chosen P p none all = tt
below-chosen P p (multi_ref e rest) all = by_test (is_same_position e.position p) (below-chosen P p rest all) where
  by_test : (b : Bool) → Below P (chosen p rest) → Below P (cond b (multi_ref e (chosen p rest)) (chosen p rest))
  by_test true later = later
  by_test false later = later
below-chosen P p (cycle_ref e rest) all = by_test (is_same_position e.position p) (below-chosen P p rest all) where
  by_test : (b : Bool) → Below P (chosen p rest) → Below P (cond b (cycle_ref e (chosen p rest)) (chosen p rest))
  by_test true later = later
  by_test false later = later
below-chosen P p (tree e below rest) all = by_test (is_same_position e.position p) (below-chosen P p rest all.1) where
  by_test : (b : Bool) → Below P (chosen p rest) → Below P (cond b (tree e below (chosen p rest)) (chosen p rest))
  by_test true later = (all.0, later)
  by_test false later = later

sorted_below : (v : VertexOf) (forest : Forest) → IsWellSorted v forest → Below IsWellSorted forest
sorted_below v none sorted = tt
sorted_below v (multi_ref e rest) sorted = sorted_below v rest sorted.1
sorted_below v (cycle_ref e rest) sorted = sorted_below v rest sorted.1
sorted_below v (tree e below rest) sorted = (sorted.1, sorted_below v rest sorted.2)

-- ---- nodes one by one

first_same : (m n : Node) (ms ns : List Node) → m ∷ ms ≡ n ∷ ns → m ≡ n
first_same m n ms ns same = cc

rest_same : (m n : Node) (ms ns : List Node) → m ∷ ms ≡ n ∷ ns → ms ≡ ns
rest_same m n ms ns same = cc

edge_same : (d e : Edge) → Some d ≡ Some e → d ≡ e
edge_same d e same = cc

-- children of one number are told apart by their nodes
children_read_back : (a b : Forest) → Below IsReadBack a → Below IsWellSorted b → width a ≡ width b → (depth : ℕ) (p : Position) (xs ys : List Node)
    → listed a depth p ++ xs ≡ listed b depth p ++ ys → (a ≡ b) × (xs ≡ ys)
children_read_back none none all sorted wide depth p xs ys same = (refl, same)
children_read_back none (multi_ref f more) all sorted wide depth p xs ys same = absurd (omega arith)
children_read_back none (cycle_ref f more) all sorted wide depth p xs ys same = absurd (omega arith)
children_read_back none (tree f under more) all sorted wide depth p xs ys same = absurd (omega arith)
children_read_back (multi_ref e rest) none all sorted wide depth p xs ys same = absurd (omega arith)
children_read_back (cycle_ref e rest) none all sorted wide depth p xs ys same = absurd (omega arith)
children_read_back (tree e below rest) none all sorted wide depth p xs ys same = absurd (omega arith)
children_read_back (multi_ref e rest) (multi_ref f more) all sorted wide depth p xs ys same =
    let head = first_same _ _ _ _ same in
    let edge : e ≡ f = edge_same e f (ap (λ (n : Node). n.edge) head) in
    let later = children_read_back rest more all sorted (omega arith) depth p xs ys (rest_same _ _ _ _ same) in
    (ap (λ d. multi_ref d rest) edge ∙ ap (multi_ref f) later.0, later.1)
children_read_back (multi_ref e rest) (cycle_ref f more) all sorted wide depth p xs ys same =
    let what : MultiRef e.target ≡ CycleRef f.target = ap (λ (n : Node). n.what) (first_same _ _ _ _ same) in absurd cc
children_read_back (multi_ref e rest) (tree f under more) all sorted wide depth p xs ys same =
    let what : MultiRef e.target ≡ Vertex f.target = ap (λ (n : Node). n.what) (first_same _ _ _ _ same) in absurd cc
children_read_back (cycle_ref e rest) (multi_ref f more) all sorted wide depth p xs ys same =
    let what : CycleRef e.target ≡ MultiRef f.target = ap (λ (n : Node). n.what) (first_same _ _ _ _ same) in absurd cc
children_read_back (cycle_ref e rest) (cycle_ref f more) all sorted wide depth p xs ys same =
    let head = first_same _ _ _ _ same in
    let edge : e ≡ f = edge_same e f (ap (λ (n : Node). n.edge) head) in
    let later = children_read_back rest more all sorted (omega arith) depth p xs ys (rest_same _ _ _ _ same) in
    (ap (λ d. cycle_ref d rest) edge ∙ ap (cycle_ref f) later.0, later.1)
children_read_back (cycle_ref e rest) (tree f under more) all sorted wide depth p xs ys same =
    let what : CycleRef e.target ≡ Vertex f.target = ap (λ (n : Node). n.what) (first_same _ _ _ _ same) in absurd cc
children_read_back (tree e below rest) (multi_ref f more) all sorted wide depth p xs ys same =
    let what : Vertex e.target ≡ MultiRef f.target = ap (λ (n : Node). n.what) (first_same _ _ _ _ same) in absurd cc
children_read_back (tree e below rest) (cycle_ref f more) all sorted wide depth p xs ys same =
    let what : Vertex e.target ≡ CycleRef f.target = ap (λ (n : Node). n.what) (first_same _ _ _ _ same) in absurd cc
children_read_back (tree e below rest) (tree f under more) all sorted wide depth p xs ys same =
    let head = first_same _ _ _ _ same in
    let edge : e ≡ f = edge_same e f (ap (λ (n : Node). n.edge) head) in
    let behind : (nodes_under e.target below (depth + 1) ++ listed rest depth p) ++ xs ≡ (nodes_under f.target under (depth + 1) ++ listed more depth p) ++ ys = rest_same _ _ _ _ same in
    let parted : nodes_under e.target below (depth + 1) ++ (listed rest depth p ++ xs) ≡ nodes_under e.target under (depth + 1) ++ (listed more depth p ++ ys) =
    sym (append_assoc (nodes_under e.target below (depth + 1)) (listed rest depth p) xs) ∙ behind ∙ append_assoc (nodes_under f.target under (depth + 1)) (listed more depth p) ys
    ∙ ap (λ (d : Edge). nodes_under d.target under (depth + 1) ++ (listed more depth p ++ ys)) (sym edge) in
    let first = all.0 under (subst (λ (d : Edge). IsWellSorted d.target under) (sym edge) sorted.0) (depth + 1) (listed rest depth p ++ xs) (listed more depth p ++ ys) parted in
    let later = children_read_back rest more all.1 sorted.1 (omega arith) depth p xs ys first.1 in
    (ap (λ d. tree d below rest) edge ∙ ap (λ u. tree f u rest) first.0 ∙ ap (tree f under) later.0, later.1)

-- the nodes of children begin with one that has an edge
begins_with_edge : (a : Forest) (n : ℕ) → width a ≡ suc n → (depth : ℕ) (p : Position) (node : Node) (xs ys : List Node) → node ∷ xs ≡ listed a depth p ++ ys → node.edge ≡ None → ⊥
begins_with_edge none n wide depth p node xs ys same without = omega arith
begins_with_edge (multi_ref e rest) n wide depth p node xs ys same without = let edge : node.edge ≡ Some e = ap (λ (m : Node). m.edge) (first_same _ _ _ _ same) in cc
begins_with_edge (cycle_ref e rest) n wide depth p node xs ys same without = let edge : node.edge ≡ Some e = ap (λ (m : Node). m.edge) (first_same _ _ _ _ same) in cc
begins_with_edge (tree e below rest) n wide depth p node xs ys same without = let edge : node.edge ≡ Some e = ap (λ (m : Node). m.edge) (first_same _ _ _ _ same) in cc

none_from_width : (a : Forest) → width a ≡ 0 → a ≡ none
none_from_width none wide = refl
none_from_width (multi_ref e rest) wide = absurd (omega arith)
none_from_width (cycle_ref e rest) wide = absurd (omega arith)
none_from_width (tree e below rest) wide = absurd (omega arith)

place_read_back : (a b : Forest) → Below IsReadBack a → Below IsWellSorted b → (depth : ℕ) (p : Position) (sort : Sort) (xs ys : List Node)
    → place_nodes (width a) (λ d. listed a d p) depth p sort ++ xs ≡ place_nodes (width b) (λ d. listed b d p) depth p sort ++ ys → (a ≡ b) × (xs ≡ ys)
place_read_back a b all sorted depth p sort xs ys = by_counts (width a) (width b) refl refl where
  by_counts : (m n : ℕ) → width a ≡ m → width b ≡ n → place_nodes m (λ d. listed a d p) depth p sort ++ xs ≡ place_nodes n (λ d. listed b d p) depth p sort ++ ys → (a ≡ b) × (xs ≡ ys)
  by_counts zero zero of_a of_b same = (none_from_width a of_a ∙ sym (none_from_width b of_b), rest_same _ _ _ _ same)
  by_counts zero (suc zero) of_a of_b same = absurd (begins_with_edge b zero of_b depth p (node_at depth p (Hole sort)) xs ys same refl)
  by_counts zero (suc (suc n)) of_a of_b same =
      let what : Hole sort ≡ Conflict sort (suc (suc n)) = ap (λ (m : Node). m.what) (first_same _ _ _ _ same) in absurd cc
  by_counts (suc zero) zero of_a of_b same = absurd (begins_with_edge a zero of_a depth p (node_at depth p (Hole sort)) ys xs (sym same) refl)
  by_counts (suc zero) (suc zero) of_a of_b same = children_read_back a b all sorted (of_a ∙ sym of_b) depth p xs ys same
  by_counts (suc zero) (suc (suc n)) of_a of_b same =
      absurd (begins_with_edge a zero of_a depth p (node_at depth p (Conflict sort (suc (suc n)))) (listed b (depth + 1) p ++ ys) xs (sym same) refl)
  by_counts (suc (suc m)) zero of_a of_b same =
      let what : Conflict sort (suc (suc m)) ≡ Hole sort = ap (λ (k : Node). k.what) (first_same _ _ _ _ same) in absurd cc
  by_counts (suc (suc m)) (suc zero) of_a of_b same =
      absurd (begins_with_edge b zero of_b depth p (node_at depth p (Conflict sort (suc (suc m)))) (listed a (depth + 1) p ++ xs) ys same refl)
  by_counts (suc (suc m)) (suc (suc n)) of_a of_b same =
      let what : Conflict sort (suc (suc m)) ≡ Conflict sort (suc (suc n)) = ap (λ (k : Node). k.what) (first_same _ _ _ _ same) in
      let counts : suc (suc m) ≡ suc (suc n) = cc in
      children_read_back a b all sorted (of_a ∙ counts ∙ sym of_b) (depth + 1) p xs ys (rest_same _ _ _ _ same)

places_read_back : (f g : Forest) → Below IsReadBack f → Below IsWellSorted g → (ps : List (Position × Sort)) (depth : ℕ) (xs ys : List Node)
    → places_nodes ps (count_at f) (child_nodes f) depth ++ xs ≡ places_nodes ps (count_at g) (child_nodes g) depth ++ ys → (joined ps f ≡ joined ps g) × (xs ≡ ys)
places_read_back f g all sorted [] depth xs ys same = (refl, same)
places_read_back f g all sorted (p ∷ ps) depth xs ys same =
    let more_f : List Node = places_nodes ps (count_at f) (child_nodes f) depth ++ xs in
    let more_g : List Node = places_nodes ps (count_at g) (child_nodes g) depth ++ ys in
    let of_f = place-chosen f depth p.0 p.1 in
    let of_g = place-chosen g depth p.0 p.1 in
    let parted : place_nodes (width (chosen p.0 f)) (λ d. listed (chosen p.0 f) d p.0) depth p.0 p.1 ++ more_f ≡ place_nodes (width (chosen p.0 g)) (λ d. listed (chosen p.0 g) d p.0) depth p.0 p.1 ++ more_g =
    sym (ap (λ ns. ns ++ more_f) of_f)
    ∙ sym (append_assoc (place_nodes (count_at f p.0) (λ d. child_nodes f d p.0) depth p.0 p.1) (places_nodes ps (count_at f) (child_nodes f) depth) xs)
    ∙ same
    ∙ append_assoc (place_nodes (count_at g p.0) (λ d. child_nodes g d p.0) depth p.0 p.1) (places_nodes ps (count_at g) (child_nodes g) depth) ys
    ∙ ap (λ ns. ns ++ more_g) of_g in
    let first = place_read_back (chosen p.0 f) (chosen p.0 g) (below-chosen IsReadBack p.0 f all) (below-chosen IsWellSorted p.0 g sorted) depth p.0 p.1 more_f more_g parted in
    let later = places_read_back f g all sorted ps depth xs ys first.1 in
    (ap (λ h. follow h (joined ps f)) first.0 ∙ ap (follow (chosen p.0 g)) later.0, later.1)

read_back_from_below : (v : VertexOf) (forest : Forest) → IsWellSorted v forest → Below IsReadBack forest → IsReadBack v forest
read_back_from_below v forest sorted all other other_sorted depth xs ys same =
    let parts = places_read_back forest other all (sorted_below v other other_sorted) (positions v.ctor) depth xs ys same in
    (sym (joined_is v forest sorted) ∙ parts.0 ∙ joined_is v other other_sorted, parts.1)

all_read_back : (v : VertexOf) (forest : Forest) → IsWellSorted v forest → Below IsReadBack forest
all_read_back v none sorted = tt
all_read_back v (multi_ref e rest) sorted = all_read_back v rest sorted.1
all_read_back v (cycle_ref e rest) sorted = all_read_back v rest sorted.1
all_read_back v (tree e below rest) sorted =
    (read_back_from_below e.target below sorted.1 (all_read_back e.target below sorted.1), all_read_back v rest sorted.2)

vertex_same : (v w : VertexOf) → Vertex v ≡ Vertex w → v ≡ w
vertex_same v w same = cc

pub one_tree : (v w : VertexOf) (f g : Forest) → IsWellSorted v f → IsWellSorted w g → tree_nodes v f ≡ tree_nodes w g → (v ≡ w) × (f ≡ g)
one_tree v w f g of_f of_g same =
    let vertex : v ≡ w = vertex_same v w (ap (λ (n : Node). n.what) (first_same (head_node v) (head_node w) (nodes_under v f 1) (nodes_under w g 1) same)) in
    let under : nodes_under v f 1 ≡ nodes_under v g 1 =
    rest_same (head_node v) (head_node w) (nodes_under v f 1) (nodes_under w g 1) same ∙ ap (λ (u : VertexOf). nodes_under u g 1) (sym vertex) in
    let sorted : IsWellSorted v g = subst (λ u. IsWellSorted u g) (sym vertex) of_g in
    let read = read_back_from_below v f of_f (all_read_back v f of_f) in
    (vertex, (read g sorted 1 [] [] (ap (λ ns. ns ++ []) under)).0)
