-- Sums over vertices that stand once among others, and the lengths of walks near an edit.
use Rattle.std.proofs.Common.{◌≡◌, inl, ℕ, ◌+◌, ◌≤◌, Bool, true, false, cond, List, [], ◌∷◌, length, sum_by, refl, sym, ap, ◌∙◌, arith}
use Rattle.std.specs.Prelude.{◌||◌, Option}
use Rattle.std.proofs.lemmas.List.Sums.{sum_by-cons}
use Rattle.std.proofs.lemmas.Bool.{or_left, or_right}
use Rattle.grove_edits.specs.declared.vertex.Vertex.{Vertex}
use Rattle.grove_edits.specs.declared.edge.Edge.{Edge}
use Rattle.grove_edits.specs.Vertex.{is_same_vertex, stands_in}
use Rattle.graph_words.specs.Walk.{GoesOn, walk}
use Rattle.grove_edits.proofs.Vertices.{same_vertex_exact, same_vertex_itself}
use Rattle.graph_words.proofs.Endings.{walk_is}
use Rattle.kept_records.proofs.OnWalks.{on_old_source, on_old_target, on_new_source, on_new_target}
use Rattle.kept_records.specs.Change.{is_on_walks, IsNear, StandOnce, AreNear, weight, near_size}

-- the list without the first that is the vertex
abbrev without : Vertex → List Vertex → List Vertex
without v [] = []
without v (x ∷ xs) = cond (is_same_vertex x v) xs (x ∷ without v xs)

sum_without : (f : Vertex → ℕ) (v : Vertex) (xs : List Vertex) → stands_in v xs ≡ true → sum_by f xs ≡ f v + sum_by f (without v xs)
sum_without f v [] stands = absurd cc
sum_without f v (x ∷ xs) stands = sum_by-cons f x xs ∙ by_test (is_same_vertex x v) refl stands (sum_without f v xs) where
  by_test : (b : Bool) → is_same_vertex x v ≡ b → (b || stands_in v xs) ≡ true → (stands_in v xs ≡ true → sum_by f xs ≡ f v + sum_by f (without v xs)) → f x + sum_by f xs ≡ f v + sum_by f (cond b xs (x ∷ without v xs))
  by_test true one h later = ap (λ y. f y + sum_by f xs) (same_vertex_exact x v one)
  by_test false other h later =
      let rest = later h in
      let first = sum_by-cons f x (without v xs) in
      omega (arith, rest, first)

stands_without : (v x : Vertex) (ys : List Vertex) → is_same_vertex v x ≡ false → stands_in x ys ≡ true → stands_in x (without v ys) ≡ true
stands_without v x [] other stands = absurd cc
stands_without v x (y ∷ ys) other stands = by_test (is_same_vertex y v) refl stands (stands_without v x ys other) where
  by_rest : (b : Bool) → (b || stands_in x ys) ≡ true → (stands_in x ys ≡ true → stands_in x (without v ys) ≡ true) → (b || stands_in x (without v ys)) ≡ true
  by_rest true h later = refl
  by_rest false h later = later h

  by_test : (b : Bool) → is_same_vertex y v ≡ b → (is_same_vertex y x || stands_in x ys) ≡ true → (stands_in x ys ≡ true → stands_in x (without v ys) ≡ true) → stands_in x (cond b ys (y ∷ without v ys)) ≡ true
  by_test true one h later =
      let differs : is_same_vertex y x ≡ false = ap (λ z. is_same_vertex z x) (same_vertex_exact y v one) ∙ other in
      sym (ap (λ b. b || stands_in x ys) differs) ∙ h
  by_test false not_one h later = by_rest (is_same_vertex y x) h later

-- what stands once, and all among others, sums to no more
pub sum_within : (f : Vertex → ℕ) (vs ws : List Vertex) → StandOnce vs → ((v : Vertex) → stands_in v vs ≡ true → stands_in v ws ≡ true) → sum_by f vs ≤ sum_by f ws
sum_within f [] ws once within = omega arith
sum_within f (v ∷ vs) ws once within =
    let here = sum_without f v ws (within v (or_left (is_same_vertex v v) (stands_in v vs) (same_vertex_itself v))) in
    let first = sum_by-cons f v vs in
    let rest = sum_within f vs (without v ws) once.1 later in
    omega (arith, here, first, rest)
  where
    differs : (x : Vertex) → stands_in x vs ≡ true → (b : Bool) → is_same_vertex v x ≡ b → b ≡ false
    differs x stands true one =
        let clash : true ≡ false = sym stands ∙ ap (λ z. stands_in z vs) (sym (same_vertex_exact v x one)) ∙ once.0 in absurd cc
    differs x stands false other = refl

    later : (x : Vertex) → stands_in x vs ≡ true → stands_in x (without v ws) ≡ true
    later x stands =
        let other : is_same_vertex v x ≡ false = differs x stands (is_same_vertex v x) refl in
        stands_without v x ws other (within x (or_right (is_same_vertex v x) (stands_in x vs) stands))

-- ---- walks

goes_once : (live : List Edge) (passed : List Vertex) (o : Option Vertex) (xs : List Vertex) → GoesOn live passed o xs → StandOnce xs × ((v : Vertex) → stands_in v passed ≡ true → stands_in v xs ≡ false)
goes_once live passed o [] g = (tt, λ v was. refl)
goes_once live passed o (x ∷ xs) g = step (goes_once live (x ∷ passed) _ xs g.2) where
  not_first : (v : Vertex) → stands_in v passed ≡ true → (b : Bool) → is_same_vertex x v ≡ b → b ≡ false
  not_first v was true one = let clash : true ≡ false = sym was ∙ ap (λ z. stands_in z passed) (sym (same_vertex_exact x v one)) ∙ g.1 in absurd cc
  not_first v was false other = refl

  step : StandOnce xs × ((v : Vertex) → stands_in v (x ∷ passed) ≡ true → stands_in v xs ≡ false) → StandOnce (x ∷ xs) × ((v : Vertex) → stands_in v passed ≡ true → stands_in v (x ∷ xs) ≡ false)
  step rest = (
    (rest.1 x (or_left (is_same_vertex x x) (stands_in x passed) (same_vertex_itself x)), rest.0),
    λ v was. ap (λ b. b || stands_in v xs) (not_first v was (is_same_vertex x v) refl) ∙ rest.1 v (or_right (is_same_vertex x v) (stands_in v passed) was),
  )

pub walk_once : (live : List Edge) (v : Vertex) → StandOnce (walk live v)
walk_once live v = (goes_once live [] _ (walk live v) (walk_is live v)).0

pub sum_of_ones : (xs : List Vertex) → sum_by (λ v. 1) xs ≡ length xs
sum_of_ones [] = refl
sum_of_ones (x ∷ xs) = let rest = sum_of_ones xs in let first = sum_by-cons (λ v. 1) x xs in omega (arith, rest, first)

ones_within : (old new : List Edge) (xs : List Vertex) → length xs ≤ near_size old new xs
ones_within old new [] = omega arith
ones_within old new (x ∷ xs) = let rest = ones_within old new xs in let first = sum_by-cons (weight old new) x xs in omega (arith, rest, first)

module _ (e : Edge) (old new : List Edge) (near : List Vertex) (are : AreNear e old new near) where
  -- vertices near the edit, each once, weigh no more than its size
  pub weight_within : (entered : List Vertex) → StandOnce entered → ((v : Vertex) → stands_in v entered ≡ true → IsNear e old new v) → sum_by (weight old new) entered ≤ near_size old new near
  weight_within entered once inside = sum_within (weight old new) entered near once (λ v stands. are.each v (inside v stands))

  -- and a list of some that stand on the walks is no longer
  pub length_within : (some : List Vertex) → StandOnce some → ((v : Vertex) → stands_in v some ≡ true → is_on_walks e old new v ≡ true) → length some ≤ near_size old new near
  length_within some once on =
      let few = sum_within (λ v. 1) some near once (λ v stands. are.each v (inl (on v stands))) in
      let a = sum_of_ones some in
      let b = sum_of_ones near in
      let c = ones_within old new near in
      omega (arith, few, a, b, c)

  -- each of the four walks is no longer than the size
  pub walks_within :
      (length (walk old e.source) ≤ near_size old new near) × (length (walk old e.target) ≤ near_size old new near)
      × (length (walk new e.source) ≤ near_size old new near) × (length (walk new e.target) ≤ near_size old new near)
  walks_within = (
    length_within (walk old e.source) (walk_once old e.source) (on_old_source e old new),
    length_within (walk old e.target) (walk_once old e.target) (on_old_target e old new),
    length_within (walk new e.source) (walk_once new e.source) (on_new_source e old new),
    length_within (walk new e.target) (walk_once new e.target) (on_new_target e old new),
  )
