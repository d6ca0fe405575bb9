-- Descents from a root through inner vertices: no vertex stands on one twice, so none is longer than there are edges.
use Rattle.std.proofs.Common.{◌≡◌, suc, ◌≤◌, Bool, true, false, List, [], ◌∷◌, length, refl, sym, ap, ◌∙◌, arith}
use Rattle.std.specs.Prelude.{◌||◌, Some}
use Rattle.grove_sorts.proofs.Truths.{or_left, or_right, false_from}
use Rattle.grove_edits.specs.declared.vertex.Vertex.{Vertex}
use Rattle.grove_edits.specs.declared.edge.Edge.{Edge}
use Rattle.graph_words.specs.declared.class.Class.TheVariants.{Inner}
use Rattle.grove_edits.specs.Vertex.{is_same_vertex, stands_in}
use Rattle.graph_words.specs.Walk.{above}
use Rattle.graph_words.specs.Class.{class}
use Rattle.grove_edits.proofs.Vertices.{same_vertex_itself, same_vertex_exact}
use Rattle.graph_words.proofs.Endings.{AllStandIn, AreApart, target_list, length-target_list, target-from_above, length-AllStandIn}

-- vertices from the lowest up to a root, each of them but the root inner and below the next
abbrev pub IsDescent : List Edge → Vertex → List Vertex → Type 0
IsDescent live r [] = ⊥
IsDescent live r (v ∷ []) = v ≡ r
IsDescent live r (v ∷ w ∷ ws) = (class live v ≡ Inner) × (above live v ≡ Some w) × IsDescent live r (w ∷ ws)

or_split : (a b : Bool) → (a || b) ≡ true → (c : Bool) → a ≡ c → (c ≡ true → b ≡ true) → b ≡ true
or_split true b h true e f = f refl
or_split true b h false e f = absurd cc
or_split false b h c e f = h

-- where an inner vertex stands on a descent, the vertex above it stands on the descent behind it
above_later : (live : List Edge) (r t v : Vertex) (x : Vertex) (xs : List Vertex) → (class live r ≡ Inner → ⊥) → IsDescent live r (x ∷ xs) → class live t ≡ Inner → above live t ≡ Some v
    → stands_in t (x ∷ xs) ≡ true → stands_in v xs ≡ true
above_later live r t v x [] outer descent inner up h =
    let e : x ≡ t = same_vertex_exact x t (only (is_same_vertex x t) h) in
    absurd (outer (ap (class live) (sym descent ∙ e) ∙ inner)) where
      only : (a : Bool) → (a || false) ≡ true → a ≡ true
      only true h = refl
      only false h = absurd cc
above_later live r t v x (y ∷ ys) outer descent inner up h = by_test (above_later live r t v y ys outer descent.2 inner up) (is_same_vertex x t) refl h where
  some_same : (a b : Vertex) → Some a ≡ Some b → a ≡ b
  some_same a b e = cc

  by_test : (stands_in t (y ∷ ys) ≡ true → stands_in v ys ≡ true) → (b : Bool) → is_same_vertex x t ≡ b → (b || stands_in t (y ∷ ys)) ≡ true → stands_in v (y ∷ ys) ≡ true
  by_test later true same _ =
      let e : x ≡ t = same_vertex_exact x t same in
      let next : y ≡ v = some_same y v (sym descent.1 ∙ ap (above live) e ∙ up) in
      or_left (is_same_vertex y v) (stands_in v ys) (ap (λ z. is_same_vertex z v) next ∙ same_vertex_itself v)
  by_test later false other rest = or_right (is_same_vertex y v) (stands_in v ys) (later rest)

-- an inner vertex below the lowest of a descent does not stand on it
pub new_below : (live : List Edge) (r t v : Vertex) (vs : List Vertex) → (class live r ≡ Inner → ⊥) → IsDescent live r (v ∷ vs) → AreApart (v ∷ vs) → class live t ≡ Inner → above live t ≡ Some v
    → stands_in t (v ∷ vs) ≡ false
new_below live r t v vs outer descent apart inner up =
    false_from (stands_in t (v ∷ vs)) (λ h. let again = above_later live r t v v vs outer descent inner up h in let once = apart.0 in cc)

among_targets : (live : List Edge) (r : Vertex) (x : Vertex) (xs : List Vertex) → IsDescent live r (x ∷ xs) → AllStandIn (r ∷ target_list live) (x ∷ xs)
among_targets live r x [] descent = (or_left (is_same_vertex r x) (stands_in x (target_list live)) (ap (is_same_vertex r) descent ∙ same_vertex_itself r), tt)
among_targets live r x (y ∷ ys) descent =
    (or_right (is_same_vertex r x) (stands_in x (target_list live)) (target-from_above live x y descent.1), among_targets live r y ys descent.2)

-- a descent has at most one vertex more than there are edges
pub length-descent : (live : List Edge) (r : Vertex) (x : Vertex) (xs : List Vertex) → IsDescent live r (x ∷ xs) → AreApart (x ∷ xs) → length (x ∷ xs) ≤ suc (length live)
length-descent live r x xs descent apart =
    let short = length-AllStandIn (r ∷ target_list live) (x ∷ xs) apart (among_targets live r x xs descent) in
    omega (arith, short, length-target_list live)
