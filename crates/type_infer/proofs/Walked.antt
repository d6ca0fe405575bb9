-- Taking the nodes of a tree one by one gives its equations.
use Rattle.std.proofs.Common.{◌≡◌, ℕ, zero, suc, ◌+◌, Bool, true, false, List, [], ◌∷◌, ◌++◌, length, replicate, Option, None, Some, refl, sym, ap, subst, ◌∙◌, append_assoc, append-nil, arith, if◌then◌else◌}
use Rattle.std.proofs.lemmas.List.{length-append}
use Rattle.grove_sorts.specs.declared.ident.Ident.{Ident}
use Rattle.grove_sorts.specs.declared.ctor.Ctor.{Ctor}
use Rattle.grove_sorts.specs.declared.position.Position.{Position}
use Rattle.grove_sorts.specs.declared.sort.Sort.{Sort}
use Rattle.grove_sorts.specs.Ctor.{positions}
use Rattle.grove_sorts.specs.Position.{is_same_position}
use Rattle.grove_edits.specs.declared.vertex.Vertex.{Vertex as VertexOf}
use Rattle.grove_edits.specs.declared.edge.Edge.{Edge}
use Rattle.grove_terms.specs.declared.node.Node.{Node}
use Rattle.grove_terms.specs.declared.node.What.TheVariants.{Vertex, Hole, Conflict, MultiRef, CycleRef}
use Rattle.grove_terms.specs.Forest.{Forest, none, multi_ref, cycle_ref, tree}
use Rattle.grove_terms.specs.Nodes.{node_at, child_node, head_node, place_nodes, places_nodes, count_at, child_nodes, nodes_under, tree_nodes}
use Rattle.type_infer.specs.declared.tree.Place.{Place}
use Rattle.type_infer.specs.declared.tree.Place.TheVariants.{Plain, Binding, End}
use Rattle.type_infer.specs.Terms.{Variable}
use Rattle.type_infer.specs.Equations.{TermEquation}
use Rattle.type_infer.specs.TreeEquations.{first_variable, second_variable, third_variable, lines_at, line_at, Names, with_name, names_at, binder_of, line_equations, child_line, places_equations, children_equations, tree_equations}
use Rattle.type_infer.specs.Walking.{heads, five, at_position, Walk, walk, named, form_places, node_places, node_equations, behind, equations_from, list_equations, name_at}
use Rattle.type_infer.proofs.Lines.{firsts, lines_same, under_same, places_heads, children_heads}
use Rattle.type_infer.proofs.Agreeing.{equations_agree, places_agree, row_agrees}
use Rattle.type_infer.proofs.Binders.{Knows, knows_left, knows_right, knows_nodes, places_named, Opens, Fit, form_fits}

-- ---- no children have no equations

none_if : (b : Bool) (n : ℕ) (xs ys : List TermEquation) → (if b then suc n else n) ≡ 0 → (n ≡ 0 → ys ≡ []) → (if b then xs else ys) ≡ []
none_if true n xs ys h k = absurd (omega arith)
none_if false n xs ys h k = k h

no_equations : (f : Forest) (p : Position) (line : ℕ) (names : Names) → count_at f p ≡ 0 → children_equations f p line names ≡ []
no_equations none p line names h = refl
no_equations (multi_ref e rest) p line names h =
    none_if (is_same_position e.position p) (count_at rest p) (children_equations rest p (line + 1) names) (children_equations rest p line names) h (no_equations rest p line names)
no_equations (cycle_ref e rest) p line names h =
    none_if (is_same_position e.position p) (count_at rest p) (children_equations rest p (line + 1) names) (children_equations rest p line names) h (no_equations rest p line names)
no_equations (tree e below rest) p line names h =
    none_if (is_same_position e.position p) (count_at rest p)
    (line_equations e.target.ctor below line names
    ++ places_equations below (children_equations below) (λ q. names_at e.target.ctor below line q names) (positions e.target.ctor) (line + 1)
    ++ children_equations rest p (line + 1 + length (nodes_under e.target below 0)) names)
    (children_equations rest p line names) h (no_equations rest p line names)

module _ (find : ℕ → Option Ident) where
  -- ---- how the next place is entered

  -- the first node, with what is to come behind it
  abbrev first_of : Node → List Node → ℕ → Walk → List TermEquation
  first_of n ns line now = node_equations n.what (heads ns (line + 1)) line now.names ++ equations_from find ns (line + 1) (behind n.what (heads ns (line + 1)) line now)

  scope_ends : (ns : List Node) (line : ℕ) (places : List Place) (b : Ident × ℕ) (names : Names)
      → equations_from find ns line (walk (End ∷ places) (b ∷ names)) ≡ equations_from find ns line (walk places names)
  scope_ends [] line places b names = refl
  scope_ends (n ∷ ns) line places b names = refl

  unnamed : (ns : List Node) (line pattern variable : ℕ) (places : List Place) (names : Names) → find pattern ≡ None
      → equations_from find ns line (walk (Binding pattern variable ∷ places) names) ≡ equations_from find ns line (walk (Plain ∷ places) names)
  unnamed [] line pattern variable places names e = refl
  unnamed (n ∷ ns) line pattern variable places names e = ap (λ (x : Option Ident). first_of n ns line (named x variable places names)) e

  naming : (ns : List Node) (line pattern variable : ℕ) (x : Ident) (places : List Place) (names : Names) → find pattern ≡ Some x
      → equations_from find ns line (walk (Binding pattern variable ∷ places) names) ≡ equations_from find ns line (walk (Plain ∷ End ∷ places) ((x, variable) ∷ names))
  naming [] line pattern variable x places names e = refl
  naming (n ∷ ns) line pattern variable x places names e = ap (λ (y : Option Ident). first_of n ns line (named y variable places names)) e

  -- ---- a position

  -- taking the children at a position
  abbrev ChildrenRun : Forest → Position → Type 0
  ChildrenRun f p = (depth line : ℕ) (rest : List Node) (places : List Place) (names : Names) → Knows find (child_nodes f depth p) line
      → equations_from find (child_nodes f depth p ++ rest) line (walk (replicate (count_at f p) Plain ++ places) names)
      ≡ children_equations f p line names ++ equations_from find rest (line + length (child_nodes f depth p)) (walk places names)

  -- taking what stands at a position
  abbrev PlaceRuns : ℕ → Forest → Position → Type 0
  PlaceRuns n f p = (s : Sort) (depth line : ℕ) (rest : List Node) (places : List Place) (names : Names) → Knows find (place_nodes n (λ d. child_nodes f d p) depth p s) line
      → equations_from find (place_nodes n (λ d. child_nodes f d p) depth p s ++ rest) line (walk (Plain ∷ places) names)
      ≡ children_equations f p (child_line n line) names ++ equations_from find rest (line + length (place_nodes n (λ d. child_nodes f d p) depth p s)) (walk places names)

  place_runs : (n : ℕ) (f : Forest) (p : Position) → count_at f p ≡ n → ChildrenRun f p → PlaceRuns n f p
  place_runs zero f p e runs s depth line rest places names k =
      ap (λ (es : List TermEquation). es ++ equations_from find rest (line + 1) (walk places names)) (sym (no_equations f p line names e))
  place_runs (suc zero) f p e runs s depth line rest places names k =
      ap (λ c. equations_from find (child_nodes f depth p ++ rest) line (walk (replicate c Plain ++ places) names)) (sym e) ∙ runs depth line rest places names k
  place_runs (suc (suc n)) f p e runs s depth line rest places names k =
      let l : line + 1 + length (child_nodes f (depth + 1) p) ≡ line + suc (length (child_nodes f (depth + 1) p)) = omega arith in
      ap (λ c. equations_from find (child_nodes f (depth + 1) p ++ rest) (line + 1) (walk (replicate c Plain ++ places) names)) (sym e)
      ∙ runs (depth + 1) (line + 1) rest places names k.1
      ∙ ap (λ m. children_equations f p (line + 1) names ++ equations_from find rest m (walk places names)) l

  -- the same in the names of the place
  entered_runs : (n : ℕ) (f : Forest) (p : Position) → PlaceRuns n f p → (t : Place) (inner : Names) (s : Sort) (depth line : ℕ) (rest : List Node) (places : List Place) (names : Names)
      → Opens find names t inner → Knows find (place_nodes n (λ d. child_nodes f d p) depth p s) line
      → equations_from find (place_nodes n (λ d. child_nodes f d p) depth p s ++ rest) line (walk (t ∷ places) names)
      ≡ children_equations f p (child_line n line) inner ++ equations_from find rest (line + length (place_nodes n (λ d. child_nodes f d p) depth p s)) (walk places names)
  entered_runs n f p runs Plain inner s depth line rest places names opens k =
      runs s depth line rest places names k
      ∙ ap (λ (bs : Names). children_equations f p (child_line n line) bs ++ equations_from find rest (line + length (place_nodes n (λ d. child_nodes f d p) depth p s)) (walk places names)) opens
  entered_runs n f p runs End inner s depth line rest places names opens k = absurd opens
  entered_runs n f p runs (Binding pattern variable) inner s depth line rest places names opens k = by (find pattern) refl
    where
      nodes : List Node
      nodes = place_nodes n (λ d. child_nodes f d p) depth p s

      line_after : ℕ
      line_after = line + length (place_nodes n (λ d. child_nodes f d p) depth p s)

      by : (x : Option Ident) → find pattern ≡ x → equations_from find (place_nodes n (λ d. child_nodes f d p) depth p s ++ rest) line (walk (Binding pattern variable ∷ places) names)
          ≡ children_equations f p (child_line n line) inner ++ equations_from find rest (line + length (place_nodes n (λ d. child_nodes f d p) depth p s)) (walk places names)
      by None e =
          unnamed (place_nodes n (λ d. child_nodes f d p) depth p s ++ rest) line pattern variable places names e
          ∙ runs s depth line rest places names k
          ∙ ap (λ (bs : Names). children_equations f p (child_line n line) bs ++ equations_from find rest (line + length (place_nodes n (λ d. child_nodes f d p) depth p s)) (walk places names))
          (ap (λ (y : Option Ident). with_name y variable names) (sym e) ∙ opens)
      by (Some x) e =
          naming (place_nodes n (λ d. child_nodes f d p) depth p s ++ rest) line pattern variable x places names e
          ∙ runs s depth line rest (End ∷ places) ((x, variable) ∷ names) k
          ∙ ap (λ (es : List TermEquation). children_equations f p (child_line n line) ((x, variable) ∷ names) ++ es)
          (scope_ends rest (line + length (place_nodes n (λ d. child_nodes f d p) depth p s)) places (x, variable) names)
          ∙ ap (λ (bs : Names). children_equations f p (child_line n line) bs ++ equations_from find rest (line + length (place_nodes n (λ d. child_nodes f d p) depth p s)) (walk places names))
          (ap (λ (y : Option Ident). with_name y variable names) (sym e) ∙ opens)

  -- ---- the positions of a vertex

  places_run : (f : Forest) → ((p : Position) → ChildrenRun f p) → (scope : Position → Names) (ps : List (Position × Sort)) (ts : List Place) (depth line : ℕ) (rest : List Node) (places : List Place) (names : Names)
      → Fit find scope names ps ts → Knows find (places_nodes ps (count_at f) (child_nodes f) depth) line
      → equations_from find (places_nodes ps (count_at f) (child_nodes f) depth ++ rest) line (walk (ts ++ places) names)
      ≡ places_equations f (children_equations f) scope ps line ++ equations_from find rest (line + length (places_nodes ps (count_at f) (child_nodes f) depth)) (walk places names)
  places_run f each scope [] [] depth line rest places names fit k =
      let l : line ≡ line + 0 = omega arith in ap (λ m. equations_from find rest m (walk places names)) l
  places_run f each scope [] (t ∷ ts) depth line rest places names fit k = absurd fit
  places_run f each scope (p ∷ ps) [] depth line rest places names fit k = absurd fit
  places_run f each scope (p ∷ ps) (t ∷ ts) depth line rest places names fit k =
      let here : List Node = place_nodes (count_at f p.0) (λ d. child_nodes f d p.0) depth p.0 p.1 in
      let more : List Node = places_nodes ps (count_at f) (child_nodes f) depth in
      let own : List TermEquation = children_equations f p.0 (child_line (count_at f p.0) line) (scope p.0) in
      let others : List TermEquation = places_equations f (children_equations f) scope ps (line + lines_at f p) in
      let same : length here ≡ lines_at f p = lines_same f p depth in
      let l : line + lines_at f p + length more ≡ line + length (here ++ more) = (let x = length-append here more in omega (arith, x, same)) in
      let knows : Knows find more (line + lines_at f p) = subst (λ m. Knows find more (line + m)) same (knows_right find here more line k) in
      ap (λ ns. equations_from find ns line (walk (t ∷ (ts ++ places)) names)) (append_assoc here more rest)
      ∙ entered_runs (count_at f p.0) f p.0 (place_runs (count_at f p.0) f p.0 refl (each p.0)) t (scope p.0) p.1 depth line (more ++ rest) (ts ++ places) names fit.0 (knows_left find here more line k)
      ∙ ap (λ m. own ++ equations_from find (more ++ rest) (line + m) (walk (ts ++ places) names)) same
      ∙ ap (λ (es : List TermEquation). own ++ es) (places_run f each scope ps ts depth (line + lines_at f p) rest places names fit.1 knows)
      ∙ ap (λ m. own ++ (others ++ equations_from find rest m (walk places names))) l
      ∙ sym (append_assoc own others (equations_from find rest (line + length (here ++ more)) (walk places names)))

  -- ---- a vertex

  module _ (v : VertexOf) (f : Forest) (each : (p : Position) → ChildrenRun f p) where
    abbrev under : ℕ → List Node
    under depth = places_nodes (positions v.ctor) (count_at f) (child_nodes f) depth

    abbrev scope_in : ℕ → Names → Position → Names
    scope_in line names q = names_at v.ctor f line q names

    abbrev below_equations : ℕ → Names → List TermEquation
    below_equations line names = places_equations f (children_equations f) (scope_in line names) (positions v.ctor) (line + 1)

    own_equations : (line : ℕ) (names : Names) (vs : List ℕ)
        → node_equations (Vertex v) (firsts f (positions v.ctor) (line + 1) ++ vs) line names ≡ line_equations v.ctor f line names
    own_equations line names vs =
        equations_agree v.ctor _ _ (Variable (first_variable line)) (Variable (second_variable line)) (Variable (third_variable line)) (binder_of names v.ctor) (row_agrees v.ctor f line vs)

    own_places : (line : ℕ) (vs : List ℕ)
        → node_places (Vertex v) (firsts f (positions v.ctor) (line + 1) ++ vs) line ≡ form_places v.ctor (λ p. first_variable (line_at v.ctor f line p)) (first_variable line)
    own_places line vs = places_agree v.ctor _ _ (first_variable line) (row_agrees v.ctor f line vs)

    vertex_runs : (depth line : ℕ) (rest : List Node) (places : List Place) (names : Names) → Knows find (under depth) (line + 1)
        → first_of (head_node v) (under depth ++ rest) line (walk places names)
        ≡ line_equations v.ctor f line names ++ (below_equations line names ++ equations_from find rest (line + 1 + length (under depth)) (walk places names))
    vertex_runs depth line rest places names k =
        let more : List ℕ = heads rest (line + 1 + length (under depth)) in
        let is : heads (under depth ++ rest) (line + 1) ≡ firsts f (positions v.ctor) (line + 1) ++ more = places_heads f (positions v.ctor) depth (line + 1) rest (children_heads f) in
        ap (λ vs. node_equations (Vertex v) vs line names ++ equations_from find (under depth ++ rest) (line + 1) (walk (node_places (Vertex v) vs line ++ places) names)) is
        ∙ ap (λ (es : List TermEquation). es ++ equations_from find (under depth ++ rest) (line + 1) (walk (node_places (Vertex v) (firsts f (positions v.ctor) (line + 1) ++ more) line ++ places) names))
        (own_equations line names more)
        ∙ ap (λ (ts : List Place). line_equations v.ctor f line names ++ equations_from find (under depth ++ rest) (line + 1) (walk (ts ++ places) names)) (own_places line more)
        ∙ ap (λ (es : List TermEquation). line_equations v.ctor f line names ++ es)
        (places_run f each (scope_in line names) (positions v.ctor) (form_places v.ctor (λ p. first_variable (line_at v.ctor f line p)) (first_variable line)) depth (line + 1) rest places names
        (form_fits find v.ctor f line names (places_named find f (positions v.ctor) depth (line + 1) k)) k)

  -- ---- the children at a position

  run_if : (b : Bool) (n line : ℕ) (xs ys rest : List Node) (es gs : List TermEquation) (places : List Place) (names : Names)
      → Knows find (if b then xs else ys) line
      → (Knows find xs line → equations_from find (xs ++ rest) line (walk (Plain ∷ (replicate n Plain ++ places)) names) ≡ es ++ equations_from find rest (line + length xs) (walk places names))
      → (Knows find ys line → equations_from find (ys ++ rest) line (walk (replicate n Plain ++ places) names) ≡ gs ++ equations_from find rest (line + length ys) (walk places names))
      → equations_from find ((if b then xs else ys) ++ rest) line (walk (replicate (if b then suc n else n) Plain ++ places) names)
      ≡ (if b then es else gs) ++ equations_from find rest (line + length (if b then xs else ys)) (walk places names)
  run_if true n line xs ys rest es gs places names k h g = h k
  run_if false n line xs ys rest es gs places names k h g = g k

  next_line : (rest : List Node) (es : List TermEquation) (w : Walk) (line k : ℕ) → es ++ equations_from find rest (line + 1 + k) w ≡ es ++ equations_from find rest (line + suc k) w
  next_line rest es w line k = let l : line + 1 + k ≡ line + suc k = omega arith in ap (λ m. es ++ equations_from find rest m w) l

  children_run : (f : Forest) (p : Position) → ChildrenRun f p
  children_run none p depth line rest places names k = let l : line ≡ line + 0 = omega arith in ap (λ m. equations_from find rest m (walk places names)) l
  children_run (multi_ref e others) p depth line rest places names k =
      run_if (is_same_position e.position p) (count_at others p) line (child_node depth p e (MultiRef e.target) ∷ child_nodes others depth p) (child_nodes others depth p) rest
      (children_equations others p (line + 1) names) (children_equations others p line names) places names k
      (λ here. children_run others p depth (line + 1) rest places names here.1 ∙ next_line rest (children_equations others p (line + 1) names) (walk places names) line (length (child_nodes others depth p)))
      (children_run others p depth line rest places names)
  children_run (cycle_ref e others) p depth line rest places names k =
      run_if (is_same_position e.position p) (count_at others p) line (child_node depth p e (CycleRef e.target) ∷ child_nodes others depth p) (child_nodes others depth p) rest
      (children_equations others p (line + 1) names) (children_equations others p line names) places names k
      (λ here. children_run others p depth (line + 1) rest places names here.1 ∙ next_line rest (children_equations others p (line + 1) names) (walk places names) line (length (child_nodes others depth p)))
      (children_run others p depth line rest places names)
  children_run (tree e below others) p depth line rest places names k =
      let ps : List (Position × Sort) = positions e.target.ctor in
      let beneath : List Node = places_nodes ps (count_at below) (child_nodes below) (depth + 1) in
      let more : List Node = child_nodes others depth p in
      let size : ℕ = length (nodes_under e.target below 0) in
      let own : List TermEquation = line_equations e.target.ctor below line names in
      let inner : List TermEquation = places_equations below (children_equations below) (λ q. names_at e.target.ctor below line q names) ps (line + 1) in
      let later : List TermEquation = children_equations others p (line + 1 + size) names in
      let same : length beneath ≡ size = under_same below ps (depth + 1) 0 in
      let w : Walk = walk (replicate (count_at others p) Plain ++ places) names in
      let l : line + 1 + size + length more ≡ line + suc (length (beneath ++ more)) = (let x = length-append beneath more in omega (arith, x, same)) in
      run_if (is_same_position e.position p) (count_at others p) line (child_node depth p e (Vertex e.target) ∷ (beneath ++ more)) more rest
      (own ++ inner ++ later) (children_equations others p line names) places names k
      (λ here.
      let knows : Knows find more (line + 1 + size) = subst (λ m. Knows find more (line + 1 + m)) same (knows_right find beneath more (line + 1) here.1) in
      ap (λ ns. first_of (head_node e.target) ns line w) (append_assoc beneath more rest)
      ∙ vertex_runs e.target below (λ q. children_run below q) (depth + 1) line (more ++ rest) (replicate (count_at others p) Plain ++ places) names (knows_left find beneath more (line + 1) here.1)
      ∙ ap (λ m. own ++ (inner ++ equations_from find (more ++ rest) (line + 1 + m) w)) same
      ∙ ap (λ (es : List TermEquation). own ++ (inner ++ es)) (children_run others p depth (line + 1 + size) rest places names knows)
      ∙ ap (λ m. own ++ (inner ++ (later ++ equations_from find rest m (walk places names)))) l
      ∙ regroup own inner later (equations_from find rest (line + suc (length (beneath ++ more))) (walk places names)))
      (children_run others p depth line rest places names)
    where
      regroup : (a b c d : List TermEquation) → a ++ (b ++ (c ++ d)) ≡ (a ++ b ++ c) ++ d
      regroup a b c d = simp append_assoc

-- the nodes of a tree, one by one, give its equations
pub tree_listed : (v : VertexOf) (f : Forest) → list_equations (tree_nodes v f) ≡ tree_equations v f
tree_listed v f =
    let nodes : List Node = nodes_under v f 1 in
    let find : ℕ → Option Ident = name_at (tree_nodes v f) in
    let knows : Knows find (tree_nodes v f) 0 = knows_nodes [] (tree_nodes v f) (tree_nodes v f) refl in
    ap (λ ns. first_of find (head_node v) ns 0 (walk [] [])) (sym (append-nil nodes))
    ∙ vertex_runs find v f (children_run find f) 1 0 [] [] [] knows.1
    ∙ ap (λ (es : List TermEquation). line_equations v.ctor f 0 [] ++ es) (append-nil (places_equations f (children_equations f) (λ q. names_at v.ctor f 0 q []) (positions v.ctor) 1))

-- the same of any list that is that of a tree
pub nodes_listed : (nodes : List Node) (v : VertexOf) (f : Forest) → nodes ≡ tree_nodes v f → list_equations nodes ≡ tree_equations v f
nodes_listed nodes v f is = ap list_equations is ∙ tree_listed v f
