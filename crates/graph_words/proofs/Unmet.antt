-- How many edges lead to vertices that no walk has met.
use Rattle.std.proofs.Common.{◌≡◌, ℕ, suc, ◌+◌, ◌<◌, ◌≤◌, Bool, true, false, cond, List, [], ◌∷◌, length, refl, sym, ap, ◌∙◌, arith, is_none}
use Rattle.std.specs.Prelude.{None, Some}
use Rattle.grove_edits.specs.declared.vertex.Vertex.{Vertex}
use Rattle.grove_edits.specs.declared.edge.Edge.{Edge}
use Rattle.grove_edits.specs.Vertex.{is_same_vertex}
use Rattle.graph_words.specs.Live.{parents_of}
use Rattle.graph_words.specs.Walk.{only_source, above}
use Rattle.grove_edits.proofs.Vertices.{same_vertex_laws, same_vertex_exact}
use Rattle.graph_words.proofs.Up.{up, walk_len, walk_apart}
use Rattle.graph_words.specs.Met.{met_by, unmet}

-- before the first walk no vertex was met
pub unmet-none : (edges : List Edge) → unmet edges [] ≡ length edges
unmet-none [] = refl
unmet-none (e ∷ es) = ap suc (unmet-none es)

abbrev pub HasEntered : Vertex → ℕ → List (Vertex × ℕ) → List (Vertex × ℕ) → Type 0
HasEntered at number after then = (v : Vertex) → met_by then v ≡ cond (is_same_vertex at v) (Some number) (met_by after v)

-- an edge more: it leads to the vertex, and is counted no more, or it is counted as it was
one_more : (there now before : Bool) (e : Edge) (parents less more : List Edge) → length less + length parents ≡ length more
    → (there ≡ true → (now ≡ false) × (before ≡ true)) → (there ≡ false → now ≡ before)
    → length (cond now (e ∷ less) less) + length (cond there (e ∷ parents) parents) ≡ length (cond before (e ∷ more) more)
one_more true true before e parents less more sum met kept = let is = (met refl).0 in absurd cc
one_more true false true e parents less more sum met kept = let all : length less + suc (length parents) ≡ suc (length more) = omega arith in all
one_more true false false e parents less more sum met kept = let is = (met refl).1 in absurd cc
one_more false true true e parents less more sum met kept = let all : suc (length less) + length parents ≡ suc (length more) = omega arith in all
one_more false true false e parents less more sum met kept = let is = kept refl in absurd cc
one_more false false true e parents less more sum met kept = let is = kept refl in absurd cc
one_more false false false e parents less more sum met kept = sum

-- a vertex that is met takes the edges to it with it
pub unmet-entered : (edges : List Edge) (at : Vertex) (number : ℕ) (after then : List (Vertex × ℕ)) → met_by after at ≡ None → HasEntered at number after then
    → unmet edges then + length (parents_of at edges) ≡ unmet edges after
unmet-entered [] at number after then new entered = refl
unmet-entered (e ∷ es) at number after then new entered =
    one_more (is_same_vertex e.target at) (is_none (met_by then e.target)) (is_none (met_by after e.target)) e (parents_of at es) _ _ (unmet-entered es at number after then new entered)
    (λ same. (
      ap is_none (entered e.target) ∙ ap (λ b. is_none (cond b (Some number) (met_by after e.target))) (same_vertex_laws.symm at e.target ∙ same),
      ap is_none (ap (met_by after) (same_vertex_exact e.target at same) ∙ new),
    ))
    (λ other. ap is_none (entered e.target) ∙ ap (λ b. is_none (cond b (Some number) (met_by after e.target))) (same_vertex_laws.symm at e.target ∙ other))

sole_by : (ps : List Edge) (x : Vertex) → only_source ps ≡ Some x → length ps ≡ 1
sole_by [] x is = absurd cc
sole_by (p ∷ []) x is = refl
sole_by (p ∷ q ∷ ps) x is = absurd cc

-- a vertex with one above it has one edge to it
pub sole_parent : (edges : List Edge) (v x : Vertex) → above edges v ≡ Some x → length (parents_of v edges) ≡ 1
sole_parent edges v x is = sole_by (parents_of v edges) x is

-- a walk is no longer than a way back to its first vertex
pub no_longer : (edges : List Edge) (v : Vertex) (n : ℕ) → 0 < n → up edges n (Some v) ≡ Some v → walk_len edges v ≤ n
no_longer edges v n some return =
    let not_more : n < walk_len edges v → ⊥ = λ lt. walk_apart edges v 0 n some lt (sym return) in
    omega (arith, not_more)
