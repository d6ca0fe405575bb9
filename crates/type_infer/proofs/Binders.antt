-- Which names the lines of a vertex bind.
use Rattle.std.proofs.Common.{◌≡◌, ℕ, zero, suc, ◌+◌, ◌*◌, ◌/◌, Bool, true, false, List, [], ◌∷◌, ◌++◌, length, replicate, Option, None, Some, refl, sym, ap, subst, ◌∙◌, append_assoc, arith, if◌then◌else◌}
use Rattle.std.specs.Prelude.{slice_get}
use Rattle.std.proofs.lemmas.List.{length-append}
use Rattle.grove_sorts.specs.declared.ident.Ident.{Ident}
use Rattle.grove_sorts.specs.declared.ctor.Ctor.{Ctor}
use Rattle.grove_sorts.specs.declared.ctor.Ctor.TheVariants as ctor
use Rattle.grove_sorts.specs.declared.position.Position.{Position}
use Rattle.grove_sorts.specs.declared.position.Position.TheVariants.{Annot, Def}
use Rattle.grove_sorts.specs.declared.sort.Sort.{Sort}
use Rattle.grove_sorts.specs.Ctor.{positions}
use Rattle.grove_sorts.specs.Position.{is_same_position}
use Rattle.grove_terms.specs.declared.node.Node.{Node}
use Rattle.grove_terms.specs.declared.node.What.TheVariants.{Vertex, Hole, Conflict, MultiRef, CycleRef}
use Rattle.grove_terms.specs.Forest.{Forest, none, multi_ref, cycle_ref, tree}
use Rattle.grove_terms.specs.Nodes.{node_at, child_node, place_nodes, places_nodes, count_at, child_nodes}
use Rattle.type_infer.specs.declared.tree.Place.{Place}
use Rattle.type_infer.specs.declared.tree.Place.TheVariants.{Plain, Binding, End}
use Rattle.type_infer.specs.TreeEquations.{first_variable, second_variable, third_variable, lines_at, line_at, Names, pattern_name, first_name, if_only, bound_name, with_name, names_at}
use Rattle.type_infer.specs.Walking.{name_of, name_in, name_at, form_places}
use Rattle.type_infer.proofs.Lines.{lines_same}

-- the names of the nodes are found by the variables of their lines
abbrev pub Knows : (ℕ → Option Ident) → List Node → ℕ → Type 0
Knows find [] line = Unit {0}
Knows find (n ∷ ns) line = (find (first_variable line) ≡ name_of n.what) × Knows find ns (line + 1)

pub knows_left : (find : ℕ → Option Ident) (xs ys : List Node) (line : ℕ) → Knows find (xs ++ ys) line → Knows find xs line
knows_left find [] ys line k = tt
knows_left find (x ∷ xs) ys line k = (k.0, knows_left find xs ys (line + 1) k.1)

pub knows_right : (find : ℕ → Option Ident) (xs ys : List Node) (line : ℕ) → Knows find (xs ++ ys) line → Knows find ys (line + length xs)
knows_right find [] ys line k = let l : line ≡ line + 0 = omega arith in subst (Knows find ys) l k
knows_right find (x ∷ xs) ys line k =
    let l : line + 1 + length xs ≡ line + suc (length xs) = omega arith in subst (Knows find ys) l (knows_right find xs ys (line + 1) k.1)

middle : (xs : List Node) (y : Node) (ys : List Node) → slice_get (xs ++ y ∷ ys) (length xs) ≡ Some y
middle [] y ys = refl
middle (x ∷ xs) y ys = middle xs y ys

pub knows_nodes : (before nodes whole : List Node) → whole ≡ before ++ nodes → Knows (name_at whole) nodes (length before)
knows_nodes before [] whole is = tt
knows_nodes before (n ∷ ns) whole is =
    let line : 3 * length before / 3 ≡ length before = omega arith in
    let l : length (before ++ n ∷ []) ≡ length before + 1 = (let x = length-append before (n ∷ []) in omega (arith, x)) in (
      ap (λ k. name_in (slice_get whole k)) line ∙ ap (λ (ns : List Node). name_in (slice_get ns (length before))) is ∙ ap name_in (middle before n ns),
      subst (Knows (name_at whole) ns) l (knows_nodes (before ++ n ∷ []) ns whole (is ∙ sym (append_assoc before (n ∷ []) ns))),
    )

-- ---- the name at a position

none_if : (b : Bool) (n : ℕ) (x y : Option Ident) → (if b then suc n else n) ≡ 0 → (n ≡ 0 → y ≡ None) → (if b then x else y) ≡ None
none_if true n x y h k = absurd (omega arith)
none_if false n x y h k = k h

zero_if : (b : Bool) (n : ℕ) → (if b then suc n else n) ≡ 0 → n ≡ 0
zero_if true n h = absurd (omega arith)
zero_if false n h = h

no_name : (f : Forest) (p : Position) → count_at f p ≡ 0 → first_name f p ≡ None
no_name none p h = refl
no_name (multi_ref e rest) p h = no_name rest p (zero_if (is_same_position e.position p) (count_at rest p) h)
no_name (cycle_ref e rest) p h = no_name rest p (zero_if (is_same_position e.position p) (count_at rest p) h)
no_name (tree e below rest) p h = none_if (is_same_position e.position p) (count_at rest p) (pattern_name e.target.ctor) (first_name rest p) h (no_name rest p)

module _ (find : ℕ → Option Ident) (line : ℕ) where
  reference_name : (b : Bool) (n : ℕ) (x : Node) (xs : List Node) (t : Option Ident) → name_of x.what ≡ None → (if b then suc n else n) ≡ 1
      → Knows find (if b then (x ∷ xs) else xs) line → (n ≡ 0 → t ≡ None) → (n ≡ 1 → Knows find xs line → find (first_variable line) ≡ t) → find (first_variable line) ≡ t
  reference_name true n x xs t is h k gone later = k.0 ∙ is ∙ sym (gone (omega arith))
  reference_name false n x xs t is h k gone later = later h k

  vertex_name : (b : Bool) (n : ℕ) (x : Node) (xs ys : List Node) (name t : Option Ident) → name_of x.what ≡ name → (if b then suc n else n) ≡ 1
      → Knows find (if b then (x ∷ xs) else ys) line → (n ≡ 1 → Knows find ys line → find (first_variable line) ≡ t) → find (first_variable line) ≡ (if b then name else t)
  vertex_name true n x xs ys name t is h k later = k.0 ∙ is
  vertex_name false n x xs ys name t is h k later = later h k

  child_name : (f : Forest) (p : Position) (depth : ℕ) → count_at f p ≡ 1 → Knows find (child_nodes f depth p) line → find (first_variable line) ≡ first_name f p
  child_name none p depth h k = absurd (omega arith)
  child_name (multi_ref e rest) p depth h k =
      reference_name (is_same_position e.position p) (count_at rest p) (child_node depth p e (MultiRef e.target)) (child_nodes rest depth p) (first_name rest p) refl h k
      (no_name rest p) (child_name rest p depth)
  child_name (cycle_ref e rest) p depth h k =
      reference_name (is_same_position e.position p) (count_at rest p) (child_node depth p e (CycleRef e.target)) (child_nodes rest depth p) (first_name rest p) refl h k
      (no_name rest p) (child_name rest p depth)
  child_name (tree e below rest) p depth h k =
      vertex_name (is_same_position e.position p) (count_at rest p) (child_node depth p e (Vertex e.target))
      (places_nodes (positions e.target.ctor) (count_at below) (child_nodes below) (depth + 1) ++ child_nodes rest depth p) (child_nodes rest depth p)
      (pattern_name e.target.ctor) (first_name rest p) refl h k (child_name rest p depth)

  place_name : (f : Forest) (p : Position) (s : Sort) (depth : ℕ) → Knows find (place_nodes (count_at f p) (λ d. child_nodes f d p) depth p s) line → find (first_variable line) ≡ bound_name f p
  place_name f p s depth = by (count_at f p) refl
    where
      by : (n : ℕ) → count_at f p ≡ n → Knows find (place_nodes n (λ d. child_nodes f d p) depth p s) line → find (first_variable line) ≡ if_only n (first_name f p)
      by zero e k = k.0
      by (suc zero) e k = child_name f p depth e k
      by (suc (suc n)) e k = k.0

-- at each of some positions the name that it binds is found
abbrev pub AreNamed : (ℕ → Option Ident) → Forest → List (Position × Sort) → ℕ → Type 0
AreNamed find f [] line = Unit {0}
AreNamed find f (p ∷ ps) line = (find (first_variable line) ≡ bound_name f p.0) × AreNamed find f ps (line + lines_at f p)

pub places_named : (find : ℕ → Option Ident) (f : Forest) (ps : List (Position × Sort)) (depth line : ℕ) → Knows find (places_nodes ps (count_at f) (child_nodes f) depth) line → AreNamed find f ps line
places_named find f [] depth line k = tt
places_named find f (p ∷ ps) depth line k =
    let here : List Node = place_nodes (count_at f p.0) (λ d. child_nodes f d p.0) depth p.0 p.1 in
    let more : List Node = places_nodes ps (count_at f) (child_nodes f) depth in (
      place_name find line f p.0 p.1 depth (knows_left find here more line k),
      places_named find f ps depth (line + lines_at f p) (subst (λ n. Knows find more (line + n)) (lines_same f p depth) (knows_right find here more line k)),
    )

-- ---- the names within a place

abbrev pub Opens : (ℕ → Option Ident) → Names → Place → Names → Type 0
Opens find names Plain inner = names ≡ inner
Opens find names (Binding pattern variable) inner = with_name (find pattern) variable names ≡ inner
Opens find names End inner = ⊥

-- each place has the names of its position
abbrev pub Fit : (ℕ → Option Ident) → (Position → Names) → Names → List (Position × Sort) → List Place → Type 0
Fit find scope names [] [] = Unit {0}
Fit find scope names [] (t ∷ ts) = ⊥
Fit find scope names (p ∷ ps) [] = ⊥
Fit find scope names (p ∷ ps) (t ∷ ts) = Opens find names t (scope p.0) × Fit find scope names ps ts

-- places that bind nothing have the names of the form
plain_fits : (find : ℕ → Option Ident) (names : Names) (ps : List (Position × Sort)) → Fit find (λ q. names) names ps (replicate (length ps) Plain)
plain_fits find names [] = tt
plain_fits find names (p ∷ ps) = (refl, plain_fits find names ps)

pub form_fits : (find : ℕ → Option Ident) (c : Ctor) (f : Forest) (line : ℕ) (names : Names) → AreNamed find f (positions c) (line + 1)
    → Fit find (λ q. names_at c f line q names) names (positions c) (form_places c (λ p. first_variable (line_at c f line p)) (first_variable line))
form_fits find ctor.Lam f line names k = (refl, (refl, (ap (λ x. with_name x (first_variable (line_at ctor.Lam f line Annot)) names) k.0, tt)))
form_fits find ctor.Let f line names k = (refl, (refl, (ap (λ x. with_name x (first_variable (line_at ctor.Let f line Def)) names) k.0, tt)))
form_fits find ctor.Case f line names k =
    (refl, (refl, (ap (λ x. with_name x (second_variable line) names) k.1.0, (refl, (ap (λ x. with_name x (third_variable line) names) k.1.1.1.0, tt)))))
form_fits find c f line names k = plain_fits find names (positions c)
