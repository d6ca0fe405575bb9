-- Where the lines of the positions of a vertex stand, in the list of a tree's nodes.
use Rattle.std.proofs.Common.{◌≡◌, ℕ, zero, suc, ◌+◌, ◌<◌, ◌≤◌, Bool, true, false, List, [], ◌∷◌, ◌++◌, length, drop, refl, sym, ap, subst, ◌∙◌, append_assoc, arith, if◌then◌else◌}
use Rattle.std.proofs.lemmas.List.{length-append}
use Rattle.grove_sorts.specs.declared.position.Position.{Position}
use Rattle.grove_sorts.specs.declared.sort.Sort.{Sort}
use Rattle.grove_sorts.specs.Ctor.{positions}
use Rattle.grove_sorts.specs.Position.{is_same_position}
use Rattle.grove_terms.specs.declared.node.Node.{Node}
use Rattle.grove_terms.specs.declared.node.What.TheVariants.{Vertex, Hole, Conflict, MultiRef, CycleRef}
use Rattle.grove_terms.specs.Forest.{Forest, none, multi_ref, cycle_ref, tree}
use Rattle.grove_terms.specs.Nodes.{node_at, child_node, place_nodes, places_nodes, count_at, child_nodes}
use Rattle.type_infer.specs.TreeEquations.{first_variable, lines_at}
use Rattle.type_infer.specs.Walking.{heads}

-- ---- how many lines there are does not depend on the depth

place_same : (n : ℕ) (children : ℕ → List Node) (d e : ℕ) (p : Position) (s : Sort) → ((a b : ℕ) → length (children a) ≡ length (children b))
    → length (place_nodes n children d p s) ≡ length (place_nodes n children e p s)
place_same zero children d e p s same = refl
place_same (suc zero) children d e p s same = same d e
place_same (suc (suc n)) children d e p s same = ap (λ (k : ℕ). suc k) (same (d + 1) (e + 1))

places_same : (ps : List (Position × Sort)) (counts : Position → ℕ) (children : ℕ → Position → List Node) (d e : ℕ) → ((p : Position) (a b : ℕ) → length (children a p) ≡ length (children b p))
    → length (places_nodes ps counts children d) ≡ length (places_nodes ps counts children e)
places_same [] counts children d e same = refl
places_same (p ∷ ps) counts children d e same =
    let here = place_same (counts p.0) (λ a. children a p.0) d e p.0 p.1 (same p.0) in
    let more = places_same ps counts children d e same in
    let x = length-append (place_nodes (counts p.0) (λ a. children a p.0) d p.0 p.1) (places_nodes ps counts children d) in
    let y = length-append (place_nodes (counts p.0) (λ a. children a p.0) e p.0 p.1) (places_nodes ps counts children e) in
    omega (arith, here, more, x, y)

same_if : (b : Bool) (xs ys us vs : List Node) → length xs ≡ length us → length ys ≡ length vs → length (if b then xs else ys) ≡ length (if b then us else vs)
same_if true xs ys us vs h k = h
same_if false xs ys us vs h k = k

pub children_same : (f : Forest) (p : Position) (a b : ℕ) → length (child_nodes f a p) ≡ length (child_nodes f b p)
children_same none p a b = refl
children_same (multi_ref e rest) p a b =
    same_if (is_same_position e.position p) (child_node a p e (MultiRef e.target) ∷ child_nodes rest a p) (child_nodes rest a p)
    (child_node b p e (MultiRef e.target) ∷ child_nodes rest b p) (child_nodes rest b p) (ap (λ (k : ℕ). suc k) (children_same rest p a b)) (children_same rest p a b)
children_same (cycle_ref e rest) p a b =
    same_if (is_same_position e.position p) (child_node a p e (CycleRef e.target) ∷ child_nodes rest a p) (child_nodes rest a p)
    (child_node b p e (CycleRef e.target) ∷ child_nodes rest b p) (child_nodes rest b p) (ap (λ (k : ℕ). suc k) (children_same rest p a b)) (children_same rest p a b)
children_same (tree e below rest) p a b =
    let under = places_same (positions e.target.ctor) (count_at below) (child_nodes below) (a + 1) (b + 1) (λ q. children_same below q) in
    let more = children_same rest p a b in
    let x = length-append (places_nodes (positions e.target.ctor) (count_at below) (child_nodes below) (a + 1)) (child_nodes rest a p) in
    let y = length-append (places_nodes (positions e.target.ctor) (count_at below) (child_nodes below) (b + 1)) (child_nodes rest b p) in
    same_if (is_same_position e.position p)
    (child_node a p e (Vertex e.target) ∷ (places_nodes (positions e.target.ctor) (count_at below) (child_nodes below) (a + 1) ++ child_nodes rest a p)) (child_nodes rest a p)
    (child_node b p e (Vertex e.target) ∷ (places_nodes (positions e.target.ctor) (count_at below) (child_nodes below) (b + 1) ++ child_nodes rest b p)) (child_nodes rest b p)
    (omega (arith, under, more, x, y)) more

-- the lines of a position are as many at any depth
pub lines_same : (f : Forest) (p : Position × Sort) (depth : ℕ) → length (place_nodes (count_at f p.0) (λ d. child_nodes f d p.0) depth p.0 p.1) ≡ lines_at f p
lines_same f p depth = place_same (count_at f p.0) (λ d. child_nodes f d p.0) depth 0 p.0 p.1 (children_same f p.0)

pub under_same : (f : Forest) (ps : List (Position × Sort)) (d e : ℕ) → length (places_nodes ps (count_at f) (child_nodes f) d) ≡ length (places_nodes ps (count_at f) (child_nodes f) e)
under_same f ps d e = places_same ps (count_at f) (child_nodes f) d e (λ q. children_same f q)

-- ---- the lines that stand under none of the others

count_if : (b : Bool) (n : ℕ) (xs ys : List Node) → n + 1 ≤ length xs → n ≤ length ys → (if b then suc n else n) ≤ length (if b then xs else ys)
count_if true n xs ys h k = omega (arith, h)
count_if false n xs ys h k = k

-- each child has a line
pub count_short : (f : Forest) (p : Position) (depth : ℕ) → count_at f p ≤ length (child_nodes f depth p)
count_short none p depth = omega arith
count_short (multi_ref e rest) p depth =
    let more = count_short rest p depth in
    count_if (is_same_position e.position p) (count_at rest p) (child_node depth p e (MultiRef e.target) ∷ child_nodes rest depth p) (child_nodes rest depth p) (omega (arith, more)) more
count_short (cycle_ref e rest) p depth =
    let more = count_short rest p depth in
    count_if (is_same_position e.position p) (count_at rest p) (child_node depth p e (CycleRef e.target) ∷ child_nodes rest depth p) (child_nodes rest depth p) (omega (arith, more)) more
count_short (tree e below rest) p depth =
    let more = count_short rest p depth in
    let x = length-append (places_nodes (positions e.target.ctor) (count_at below) (child_nodes below) (depth + 1)) (child_nodes rest depth p) in
    count_if (is_same_position e.position p) (count_at rest p)
    (child_node depth p e (Vertex e.target) ∷ (places_nodes (positions e.target.ctor) (count_at below) (child_nodes below) (depth + 1) ++ child_nodes rest depth p))
    (child_nodes rest depth p) (omega (arith, more, x)) more

first_head : (nodes : List Node) (line : ℕ) → 0 < length nodes → heads nodes line ≡ first_variable line ∷ drop 1 (heads nodes line)
first_head [] line some = absurd (omega (arith, some))
first_head (n ∷ ns) line some = refl

-- behind the children at a position
abbrev pub HeadsBehind : Forest → Position → Type 0
HeadsBehind f p = (depth line : ℕ) (rest : List Node) → drop (count_at f p) (heads (child_nodes f depth p ++ rest) line) ≡ heads rest (line + length (child_nodes f depth p))

-- a position has one such line
place_heads : (f : Forest) (p : Position) (s : Sort) (depth line : ℕ) (rest : List Node) → HeadsBehind f p
    → heads (place_nodes (count_at f p) (λ d. child_nodes f d p) depth p s ++ rest) line
    ≡ first_variable line ∷ heads rest (line + length (place_nodes (count_at f p) (λ d. child_nodes f d p) depth p s))
place_heads f p s depth line rest behind = by (count_at f p) refl
  where
    by : (n : ℕ) → count_at f p ≡ n → heads (place_nodes n (λ d. child_nodes f d p) depth p s ++ rest) line
        ≡ first_variable line ∷ heads rest (line + length (place_nodes n (λ d. child_nodes f d p) depth p s))
    by zero e = refl
    by (suc zero) e =
        let short = count_short f p depth in
        let whole = length-append (child_nodes f depth p) rest in
        first_head (child_nodes f depth p ++ rest) line (omega (arith, e, short, whole))
        ∙ ap (λ (vs : List ℕ). first_variable line ∷ vs) (ap (λ k. drop k (heads (child_nodes f depth p ++ rest) line)) (sym e) ∙ behind depth line rest)
    by (suc (suc n)) e =
        let l : line + 1 + length (child_nodes f (depth + 1) p) ≡ line + suc (length (child_nodes f (depth + 1) p)) = omega arith in
        ap (λ (vs : List ℕ). first_variable line ∷ vs)
        (ap (λ k. drop k (heads (child_nodes f (depth + 1) p ++ rest) (line + 1))) (sym e) ∙ behind (depth + 1) (line + 1) rest ∙ ap (heads rest) l)

-- the first variables of the lines of some positions
abbrev pub firsts : Forest → List (Position × Sort) → ℕ → List ℕ
firsts f [] line = []
firsts f (p ∷ ps) line = first_variable line ∷ firsts f ps (line + lines_at f p)

pub places_heads : (f : Forest) (ps : List (Position × Sort)) (depth line : ℕ) (rest : List Node) → ((p : Position) → HeadsBehind f p)
    → heads (places_nodes ps (count_at f) (child_nodes f) depth ++ rest) line
    ≡ firsts f ps line ++ heads rest (line + length (places_nodes ps (count_at f) (child_nodes f) depth))
places_heads f [] depth line rest behind = let l : line ≡ line + 0 = omega arith in ap (heads rest) l
places_heads f (p ∷ ps) depth line rest behind =
    let here : List Node = place_nodes (count_at f p.0) (λ d. child_nodes f d p.0) depth p.0 p.1 in
    let more : List Node = places_nodes ps (count_at f) (child_nodes f) depth in
    let l : line + lines_at f p + length more ≡ line + length (here ++ more) = (let x = length-append here more in let y = lines_same f p depth in omega (arith, x, y)) in
    ap (λ ns. heads ns line) (append_assoc here more rest)
    ∙ place_heads f p.0 p.1 depth line (more ++ rest) (behind p.0)
    ∙ ap (λ (vs : List ℕ). first_variable line ∷ vs)
    (ap (λ k. heads (more ++ rest) (line + k)) (lines_same f p depth) ∙ places_heads f ps depth (line + lines_at f p) rest behind ∙ ap (λ k. firsts f ps (line + lines_at f p) ++ heads rest k) l)

drop_firsts : (f : Forest) (ps : List (Position × Sort)) (line : ℕ) (vs : List ℕ) → drop (length ps) (firsts f ps line ++ vs) ≡ vs
drop_firsts f [] line vs = refl
drop_firsts f (p ∷ ps) line vs = drop_firsts f ps (line + lines_at f p) vs

heads_if : (b : Bool) (n line : ℕ) (xs ys rest : List Node) → drop (suc n) (heads (xs ++ rest) line) ≡ heads rest (line + length xs)
    → drop n (heads (ys ++ rest) line) ≡ heads rest (line + length ys)
    → drop (if b then suc n else n) (heads ((if b then xs else ys) ++ rest) line) ≡ heads rest (line + length (if b then xs else ys))
heads_if true n line xs ys rest h k = h
heads_if false n line xs ys rest h k = k

next_line : (rest : List Node) (line k : ℕ) → heads rest (line + 1 + k) ≡ heads rest (line + suc k)
next_line rest line k = let l : line + 1 + k ≡ line + suc k = omega arith in ap (heads rest) l

pub children_heads : (f : Forest) (p : Position) → HeadsBehind f p
children_heads none p depth line rest = let l : line ≡ line + 0 = omega arith in ap (heads rest) l
children_heads (multi_ref e others) p depth line rest =
    heads_if (is_same_position e.position p) (count_at others p) line (child_node depth p e (MultiRef e.target) ∷ child_nodes others depth p) (child_nodes others depth p) rest
    (children_heads others p depth (line + 1) rest ∙ next_line rest line (length (child_nodes others depth p))) (children_heads others p depth line rest)
children_heads (cycle_ref e others) p depth line rest =
    heads_if (is_same_position e.position p) (count_at others p) line (child_node depth p e (CycleRef e.target) ∷ child_nodes others depth p) (child_nodes others depth p) rest
    (children_heads others p depth (line + 1) rest ∙ next_line rest line (length (child_nodes others depth p))) (children_heads others p depth line rest)
children_heads (tree e below others) p depth line rest =
    let ps : List (Position × Sort) = positions e.target.ctor in
    let under : List Node = places_nodes ps (count_at below) (child_nodes below) (depth + 1) in
    let more : List Node = child_nodes others depth p in
    let l : line + 1 + length under + length more ≡ line + suc (length (under ++ more)) = (let x = length-append under more in omega (arith, x)) in
    heads_if (is_same_position e.position p) (count_at others p) line (child_node depth p e (Vertex e.target) ∷ (under ++ more)) more rest
    (ap (λ ns. drop (count_at others p) (drop (length ps) (heads ns (line + 1)))) (append_assoc under more rest)
    ∙ ap (λ vs. drop (count_at others p) (drop (length ps) vs)) (places_heads below ps (depth + 1) (line + 1) (more ++ rest) (λ q. children_heads below q))
    ∙ ap (λ vs. drop (count_at others p) vs) (drop_firsts below ps (line + 1) (heads (more ++ rest) (line + 1 + length under)))
    ∙ children_heads others p depth (line + 1 + length under) rest
    ∙ ap (heads rest) l)
    (children_heads others p depth line rest)
