-- What is kept of vertices by their numbers: by which walk each was met, and whether it is marked.
use Rattle.std.proofs.Common.{◌≡◌, ℕ, zero, suc, Bool, true, false, cond, List, [], ◌∷◌, length, Option, Some, None, refl, sym, ap, ◌∙◌, arith}
use Rattle.std.specs.Prelude.{◌||◌, replicate, slice_get, slice_set}
use Rattle.std.specs.List.{AllByRecursion, IsDistinct, slice_index_or}
use Rattle.grove_edits.specs.declared.vertex.Vertex.{Vertex}
use Rattle.grove_edits.specs.Vertex.{is_same_vertex, stands_in}
use Rattle.grove_edits.proofs.Vertices.{same_vertex_exact, same_vertex_itself, same_vertex_laws}
use Rattle.graph_words.specs.Met.{met_by}
use Rattle.graph_words.proofs.Unmet.{HasEntered}
use Rattle.grove_decompose.specs.Met.{walk_at, met_of, marked}
use Rattle.grove_sorts.proofs.Truths.{or_again}

-- ---- a vertex that stands once

other_at : (x v : Vertex) (vs : List Vertex) (n : ℕ) → AllByRecursion (λ y. is_same_vertex x y ≡ false) vs → slice_get vs n ≡ Some v → is_same_vertex x v ≡ false
other_at x v [] n others at = absurd cc
other_at x v (y ∷ vs) zero others at = let one : y ≡ v = cc in ap (is_same_vertex x) (sym one) ∙ others.0
other_at x v (y ∷ vs) (suc n) others at = other_at x v vs n others.1 at

-- two numbers are those of two vertices
pub numbers_apart : (vs : List Vertex) → IsDistinct is_same_vertex vs → (a b : ℕ) (x y : Vertex) → slice_get vs a ≡ Some x → slice_get vs b ≡ Some y → (a ≡ b → ⊥) → is_same_vertex x y ≡ false
unfolding IsDistinct
numbers_apart [] distinct a b x y at other_at_b apart = absurd cc
numbers_apart (v ∷ vs) distinct zero zero x y at there apart = absurd (apart refl)
numbers_apart (v ∷ vs) distinct zero (suc b) x y at there apart =
    let one : v ≡ x = cc in
    ap (λ z. is_same_vertex z y) (sym one) ∙ other_at v y vs b distinct.0 there
numbers_apart (v ∷ vs) distinct (suc a) zero x y at there apart =
    let one : v ≡ y = cc in
    ap (is_same_vertex x) (sym one) ∙ same_vertex_laws.symm x v ∙ other_at v x vs a distinct.0 at
numbers_apart (v ∷ vs) distinct (suc a) (suc b) x y at there apart = numbers_apart vs distinct.1 a b x y at there (λ same. apart (ap suc same))

-- ---- vertices that were met

none_met : (v : Vertex) (vs : List Vertex) (marks : List ℕ) → AllByRecursion (λ y. is_same_vertex v y ≡ false) vs → met_by (met_of vs marks) v ≡ None
none_met v [] marks others = refl
none_met v (x ∷ vs) [] others = refl
none_met v (x ∷ vs) (zero ∷ marks) others = none_met v vs marks others.1
none_met v (x ∷ vs) (suc walk ∷ marks) others = ap (λ b. cond b (Some walk) (met_by (met_of vs marks) v)) others.0 ∙ none_met v vs marks others.1

pub met_at : (vs : List Vertex) → IsDistinct is_same_vertex vs → (marks : List ℕ) (n : ℕ) (v : Vertex) → slice_get vs n ≡ Some v → met_by (met_of vs marks) v ≡ walk_at marks n
unfolding IsDistinct
met_at [] distinct marks n v at = absurd cc
met_at (x ∷ vs) distinct [] n v at = refl
met_at (x ∷ vs) distinct (zero ∷ marks) zero v at = let one : x ≡ v = cc in ap (met_by (met_of vs marks)) (sym one) ∙ none_met x vs marks distinct.0
met_at (x ∷ vs) distinct (suc walk ∷ marks) zero v at =
    let one : x ≡ v = cc in
    let here : is_same_vertex v x ≡ true = ap (is_same_vertex v) one ∙ same_vertex_itself v in
    ap (λ b. cond b (Some walk) (met_by (met_of vs marks) v)) here
met_at (x ∷ vs) distinct (zero ∷ marks) (suc n) v at = met_at vs distinct.1 marks n v at
met_at (x ∷ vs) distinct (suc walk ∷ marks) (suc n) v at =
    let other : is_same_vertex v x ≡ false = same_vertex_laws.symm v x ∙ other_at x v vs n distinct.0 at in
    ap (λ b. cond b (Some walk) (met_by (met_of vs marks) v)) other ∙ met_at vs distinct.1 marks n v at

-- before the first walk no vertex was met
pub none_at_first : (vs : List Vertex) (n : ℕ) → met_of vs (replicate n 0) ≡ []
none_at_first [] n = refl
none_at_first (v ∷ vs) zero = refl
none_at_first (v ∷ vs) (suc n) = none_at_first vs n

entered_here : (x v : Vertex) (walk : ℕ) (rest : Option ℕ) → cond (is_same_vertex v x) (Some walk) rest ≡ cond (is_same_vertex x v) (Some walk) rest
entered_here x v walk rest = ap (λ b. cond b (Some walk) rest) (same_vertex_laws.symm v x)

entered_again : (a b : Bool) (walk earlier : ℕ) (rest : Option ℕ) → a ≡ b → cond a (Some walk) rest ≡ cond b (Some walk) (cond a (Some earlier) rest)
entered_again true true walk earlier rest same = refl
entered_again true false walk earlier rest same = absurd cc
entered_again false true walk earlier rest same = absurd cc
entered_again false false walk earlier rest same = refl

-- a vertex behind one that was met
entered_behind : (a b : Bool) (walk earlier : ℕ) (new rest : Option ℕ) → new ≡ cond b (Some walk) rest → (a ≡ true → b ≡ true → ⊥) → cond a (Some earlier) new ≡ cond b (Some walk) (cond a (Some earlier) rest)
entered_behind true true walk earlier new rest is apart = absurd (apart refl refl)
entered_behind true false walk earlier new rest is apart = refl
entered_behind false b walk earlier new rest is apart = is

-- the walk's number is noted at a vertex
pub entered_at : (vs : List Vertex) → IsDistinct is_same_vertex vs → (marks : List ℕ) (n walk : ℕ) (at : Vertex) → length marks ≡ length vs → slice_get vs n ≡ Some at
    → HasEntered at walk (met_of vs marks) (met_of vs (slice_set marks n (suc walk)))
unfolding IsDistinct
entered_at [] distinct marks n walk at all is v = absurd cc
entered_at (x ∷ vs) distinct [] n walk at all is v = absurd (omega (arith, all))
entered_at (x ∷ vs) distinct (zero ∷ marks) zero walk at all is v =
    let one : x ≡ at = cc in
    entered_here x v walk (met_by (met_of vs marks) v) ∙ ap (λ z. cond (is_same_vertex z v) (Some walk) (met_by (met_of vs marks) v)) one
entered_at (x ∷ vs) distinct (suc earlier ∷ marks) zero walk at all is v =
    let one : x ≡ at = cc in
    let same : is_same_vertex v x ≡ is_same_vertex at v = same_vertex_laws.symm v x ∙ ap (λ z. is_same_vertex z v) one in
    entered_again (is_same_vertex v x) (is_same_vertex at v) walk earlier (met_by (met_of vs marks) v) same
entered_at (x ∷ vs) distinct (zero ∷ marks) (suc n) walk at all is v = entered_at vs distinct.1 marks n walk at (omega (arith, all)) is v
entered_at (x ∷ vs) distinct (suc earlier ∷ marks) (suc n) walk at all is v =
    entered_behind (is_same_vertex v x) (is_same_vertex at v) walk earlier (met_by (met_of vs (slice_set marks n (suc walk))) v) (met_by (met_of vs marks) v)
    (entered_at vs distinct.1 marks n walk at (omega (arith, all)) is v)
    (λ first there.
    let one : x ≡ at = sym (same_vertex_exact v x first) ∙ sym (same_vertex_exact at v there) in
    let other : is_same_vertex x at ≡ false = other_at x at vs n distinct.0 is in
    let itself : is_same_vertex x at ≡ true = ap (is_same_vertex x) (sym one) ∙ same_vertex_itself x in
    cc)

-- ---- vertices that are marked

none_marked : (v : Vertex) (vs : List Vertex) (marks : List Bool) → AllByRecursion (λ y. is_same_vertex v y ≡ false) vs → stands_in v (marked vs marks) ≡ false
none_marked v [] marks others = refl
none_marked v (x ∷ vs) [] others = refl
none_marked v (x ∷ vs) (true ∷ marks) others = ap (λ b. b || stands_in v (marked vs marks)) (same_vertex_laws.symm x v ∙ others.0) ∙ none_marked v vs marks others.1
none_marked v (x ∷ vs) (false ∷ marks) others = none_marked v vs marks others.1

pub none_marked_first : (vs : List Vertex) (n : ℕ) → marked vs (replicate n false) ≡ []
none_marked_first [] n = refl
none_marked_first (v ∷ vs) zero = refl
none_marked_first (v ∷ vs) (suc n) = none_marked_first vs n

pub marked_at : (vs : List Vertex) → IsDistinct is_same_vertex vs → (marks : List Bool) (n : ℕ) (v : Vertex) → slice_get vs n ≡ Some v → stands_in v (marked vs marks) ≡ slice_index_or marks n false
unfolding IsDistinct
marked_at [] distinct marks n v at = absurd cc
marked_at (x ∷ vs) distinct [] n v at = refl
marked_at (x ∷ vs) distinct (true ∷ marks) zero v at =
    let one : x ≡ v = cc in
    ap (λ b. b || stands_in v (marked vs marks)) (ap (λ z. is_same_vertex z v) one ∙ same_vertex_itself v)
marked_at (x ∷ vs) distinct (false ∷ marks) zero v at = let one : x ≡ v = cc in ap (λ z. stands_in z (marked vs marks)) (sym one) ∙ none_marked x vs marks distinct.0
marked_at (x ∷ vs) distinct (true ∷ marks) (suc n) v at = ap (λ b. b || stands_in v (marked vs marks)) (other_at x v vs n distinct.0 at) ∙ marked_at vs distinct.1 marks n v at
marked_at (x ∷ vs) distinct (false ∷ marks) (suc n) v at = marked_at vs distinct.1 marks n v at

behind_first : (a b c d : Bool) → d ≡ (b || c) → (a || d) ≡ (b || (a || c))
behind_first true true c d is = refl
behind_first true false c d is = refl
behind_first false b c d is = is

-- one vertex more is marked
pub marked_more : (vs : List Vertex) (marks : List Bool) (n : ℕ) (root : Vertex) → length marks ≡ length vs → slice_get vs n ≡ Some root → (v : Vertex)
    → stands_in v (marked vs (slice_set marks n true)) ≡ (is_same_vertex root v || stands_in v (marked vs marks))
marked_more [] marks n root all is v = absurd cc
marked_more (x ∷ vs) [] n root all is v = absurd (omega (arith, all))
marked_more (x ∷ vs) (true ∷ marks) zero root all is v =
    let one : x ≡ root = cc in
    or_again (is_same_vertex x v) (stands_in v (marked vs marks)) ∙ ap (λ z. is_same_vertex z v || (is_same_vertex x v || stands_in v (marked vs marks))) one
marked_more (x ∷ vs) (false ∷ marks) zero root all is v = let one : x ≡ root = cc in ap (λ z. is_same_vertex z v || stands_in v (marked vs marks)) one
marked_more (x ∷ vs) (true ∷ marks) (suc n) root all is v =
    behind_first (is_same_vertex x v) (is_same_vertex root v) (stands_in v (marked vs marks)) (stands_in v (marked vs (slice_set marks n true))) (marked_more vs marks n root (omega (arith, all)) is v)
marked_more (x ∷ vs) (false ∷ marks) (suc n) root all is v = marked_more vs marks n root (omega (arith, all)) is v
