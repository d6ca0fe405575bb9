-- What a set of vertices says of their numbers.
use Rattle.std.proofs.Common.{◌≡◌, ℕ, ◌<◌, Bool, true, cond, List, [], ◌∷◌, ◌++◌, length, get_or, slice_get, Some, None, refl, sym, ap, subst, ◌∙◌}
use Rattle.std.specs.Prelude.{◌||◌, Option, IfSome}
use Rattle.std.specs.List.{IsDistinct, list_any, position}
use Rattle.std.proofs.lemmas.Option.{slice_get-get_or, slice_get_within, get_or_from_slice_get}
use Rattle.std.proofs.lemmas.Map.Keys.{any_passes_from_place}
use Rattle.indexmap.specs.IndexSet.{insert_key}
use Rattle.grove_edits.specs.declared.vertex.Vertex.{Vertex}
use Rattle.grove_edits.specs.contracts.vertex.VertexPartialEq.TheImpl as vertex_eq
use Rattle.grove_edits.specs.Vertex.{is_same_vertex, stands_in, root}
use Rattle.grove_edits.proofs.Vertices.{same_vertex_laws, same_vertex_exact, same_vertex_itself, eq_is_same_vertex}
use Rattle.edge_numbers.specs.Numbered.{with_vertex, IsNumberOfVertex}
use Rattle.edge_numbers.specs.Narrow.{NarrowEntries, numbered}
use Rattle.edge_numbers.proofs.Places.{place_found, place_only}

-- the set's test of vertices
abbrev pub eq : Vertex → Vertex → Bool
eq = vertex_eq.eq-value.it

same_tests : eq ≡ is_same_vertex
same_tests = λ j v k. eq_is_same_vertex v k j

pub once_from_set : (vs : List Vertex) → IsDistinct eq vs → IsDistinct is_same_vertex vs
once_from_set vs once = subst (λ test. IsDistinct test vs) same_tests once

pub once_in_set : (vs : List Vertex) → IsDistinct is_same_vertex vs → IsDistinct eq vs
once_in_set vs once = subst (λ test. IsDistinct test vs) (sym same_tests) once

pub any_is_stands_in : (vs : List Vertex) (v : Vertex) → list_any (eq v) vs ≡ stands_in v vs
any_is_stands_in [] v = refl
any_is_stands_in (w ∷ ws) v =
    let here : eq v w ≡ is_same_vertex w v = eq_is_same_vertex v w ∙ same_vertex_laws.symm v w in
    ap (λ b. b || list_any (eq v) ws) here ∙ ap (λ b. is_same_vertex w v || b) (any_is_stands_in ws v)

pub inserted_is : (vs : List Vertex) (v : Vertex) → insert_key eq vs v ≡ with_vertex v vs
inserted_is vs v = ap (λ b. cond b vs (vs ++ v ∷ [])) (any_is_stands_in vs v)

itself : (v : Vertex) → eq v v ≡ true
itself v = eq_is_same_vertex v v ∙ same_vertex_itself v

pub exact : (v w : Vertex) → eq v w ≡ true → v ≡ w
exact v w same = same_vertex_exact v w (sym (eq_is_same_vertex v w) ∙ same)

-- the index at which a vertex is found is its number
pub number_found : (vs : List Vertex) (v : Vertex) (n : ℕ) → position (eq v) vs ≡ Some n → slice_get vs n ≡ Some v
number_found vs v n is = place_found eq itself exact vs v n is

pub numbers_found : (vs : List Vertex) (v : Vertex) (o : Option ℕ) → o ≡ position (eq v) vs → IfSome o (λ n. slice_get vs n ≡ Some v)
numbers_found vs v None is = tt
numbers_found vs v (Some n) is = number_found vs v n (sym is)

pub number_only : (vs : List Vertex) (v : Vertex) (n : ℕ) → IsDistinct is_same_vertex vs → slice_get vs n ≡ Some v → position (eq v) vs ≡ Some n
number_only vs v n once at = place_only eq itself exact vs v n (once_in_set vs once) at

-- a vertex with a number stands among the vertices
pub numbered_stands : (vs : List Vertex) (v : Vertex) (n : ℕ) → slice_get vs n ≡ Some v → stands_in v vs ≡ true
numbered_stands vs v n at = sym (any_is_stands_in vs v) ∙ any_passes_from_place (eq v) vs n v at (itself v)

-- no vertex has two numbers
pub one_number : (vs : List Vertex) (i j : ℕ) → IsDistinct is_same_vertex vs → i < length vs → j < length vs → get_or vs i root ≡ get_or vs j root → i ≡ j
one_number vs i j once first second same =
    let at_first = number_only vs (get_or vs i root) i once (slice_get-get_or vs i root first) in
    let at_second = number_only vs (get_or vs i root) j once (slice_get-get_or vs j root second ∙ ap Some (sym same)) in
    let both : Some i ≡ Some j = sym at_first ∙ at_second in
    cc

-- ---- what is found among the vertices

pub vertex_numbers : (vs : List Vertex) (es : NarrowEntries) (v : Vertex) (o : Option ℕ) → IfSome o (λ n. slice_get vs n ≡ Some v) → IfSome o (IsNumberOfVertex (numbered vs es) v)
vertex_numbers vs es v None at = tt
vertex_numbers vs es v (Some n) at = (slice_get_within vs n v at, get_or_from_slice_get vs n v root at)

pub vertex_stands : (vs : List Vertex) (es : NarrowEntries) (v : Vertex) (n : ℕ) → IsNumberOfVertex (numbered vs es) v n → slice_get vs n ≡ Some v
vertex_stands vs es v n is = slice_get-get_or vs n root is.0 ∙ ap Some is.1

-- ---- what is entered

pub stood_before : (vs : List Vertex) (v : Vertex) (n : ℕ) → slice_get vs n ≡ Some v → vs ≡ with_vertex v vs
stood_before vs v n at = sym (ap (λ b. cond b vs (vs ++ v ∷ [])) (numbered_stands vs v n at))

-- what a set stored for a vertex is the vertex
pub number_stored : (vs : List Vertex) (n : ℕ) (v kept : Vertex) → slice_get vs n ≡ Some kept → eq v kept ≡ true → slice_get vs n ≡ Some v
number_stored vs n v kept at same = at ∙ ap Some (sym (exact v kept same))
