-- With a vertex on one of the walks from the ends of an edge, the vertex above it is on one.
use Rattle.std.proofs.Common.{◌≡◌, ◌⊎◌, inl, inr, Bool, true, false, List, [], ◌∷◌, refl, sym, ap, subst, ◌∙◌}
use Rattle.std.specs.Prelude.{◌||◌, Option, Some}
use Rattle.std.proofs.lemmas.Bool.{or_cases, or_left, or_right}
use Rattle.grove_edits.specs.declared.vertex.Vertex.{Vertex}
use Rattle.grove_edits.specs.declared.edge.Edge.{Edge}
use Rattle.grove_edits.specs.Vertex.{is_same_vertex, stands_in}
use Rattle.graph_words.specs.Walk.{above, GoesOn, walk}
use Rattle.grove_edits.proofs.Vertices.{same_vertex_exact, same_vertex_itself}
use Rattle.graph_words.proofs.Endings.{walk_is}
use Rattle.graph_words.proofs.Returns.{some_same}
use Rattle.kept_records.specs.Change.{Changes, is_on_walks}
use Rattle.kept_records.proofs.Edits.{above_stays}

first_stands : (y : Vertex) (ys : List Vertex) (x : Vertex) → y ≡ x → stands_in x (y ∷ ys) ≡ true
first_stands y ys x one = or_left (is_same_vertex y x) (stands_in x ys) (ap (λ z. is_same_vertex z x) one ∙ same_vertex_itself x)

later_stands : (y : Vertex) (ys : List Vertex) (x : Vertex) → stands_in x ys ≡ true → stands_in x (y ∷ ys) ≡ true
later_stands y ys x h = or_right (is_same_vertex y x) (stands_in x ys) h

goes_closed : (live : List Edge) (passed : List Vertex) (o : Option Vertex) (xs : List Vertex) → GoesOn live passed o xs → (x w : Vertex) → stands_in x xs ≡ true → above live x ≡ Some w
    → (stands_in w xs ≡ true) ⊎ (stands_in w passed ≡ true)
goes_closed live passed o [] g x w stands up = absurd cc
goes_closed live passed o (y ∷ ys) g x w stands up = by_test (is_same_vertex y x) refl stands (goes_closed live (y ∷ passed) (above live y) ys g.2 x w) where
  -- the next vertex of a walk that has passed y is the one above y
  next_of : (zs : List Vertex) → GoesOn live (y ∷ passed) (Some w) zs → (stands_in w (y ∷ zs) ≡ true) ⊎ (stands_in w passed ≡ true)
  next_of [] end = by_end (is_same_vertex y w) refl end where
    by_end : (b : Bool) → is_same_vertex y w ≡ b → (b || stands_in w passed) ≡ true → (stands_in w (y ∷ []) ≡ true) ⊎ (stands_in w passed ≡ true)
    by_end true same h = inl (first_stands y [] w (same_vertex_exact y w same))
    by_end false other h = inr h
  next_of (z ∷ zs) goes = inl (later_stands y (z ∷ zs) w (first_stands z zs w (some_same z w (sym goes.0))))

  moved : (stands_in w ys ≡ true) ⊎ (stands_in w (y ∷ passed) ≡ true) → (stands_in w (y ∷ ys) ≡ true) ⊎ (stands_in w passed ≡ true)
  moved (inl h) = inl (later_stands y ys w h)
  moved (inr h) = by_end (is_same_vertex y w) refl h where
    by_end : (b : Bool) → is_same_vertex y w ≡ b → (b || stands_in w passed) ≡ true → (stands_in w (y ∷ ys) ≡ true) ⊎ (stands_in w passed ≡ true)
    by_end true same h = inl (first_stands y ys w (same_vertex_exact y w same))
    by_end false other h = inr h

  by_test : (b : Bool) → is_same_vertex y x ≡ b → (b || stands_in x ys) ≡ true → (stands_in x ys ≡ true → above live x ≡ Some w → (stands_in w ys ≡ true) ⊎ (stands_in w (y ∷ passed) ≡ true))
      → (stands_in w (y ∷ ys) ≡ true) ⊎ (stands_in w passed ≡ true)
  by_test true same h later =
      next_of ys (subst (λ (next : Option Vertex). GoesOn live (y ∷ passed) next ys) (ap (above live) (same_vertex_exact y x same) ∙ up) g.2)
  by_test false other h later = moved (later h up)

-- what stands above a vertex of a walk stands on the walk
pub walk_closed : (live : List Edge) (v x w : Vertex) → stands_in x (walk live v) ≡ true → above live x ≡ Some w → stands_in w (walk live v) ≡ true
walk_closed live v x w stands up = only (goes_closed live [] (Some v) (walk live v) (walk_is live v) x w stands up) where
  only : (stands_in w (walk live v) ≡ true) ⊎ (stands_in w [] ≡ true) → stands_in w (walk live v) ≡ true
  only (inl h) = h
  only (inr h) = absurd cc

pub begins_walk : (live : List Edge) (v : Vertex) → stands_in v (walk live v) ≡ true
begins_walk live v = first_stands v _ v refl

-- ---- the four walks

or_swapped : (a b : Bool) → (a || b) ≡ (b || a)
or_swapped true true = refl
or_swapped true false = refl
or_swapped false true = refl
or_swapped false false = refl

pub on_walks_back : (e : Edge) (old new : List Edge) (v : Vertex) → is_on_walks e old new v ≡ is_on_walks e new old v
on_walks_back e old new v = or_swapped (stands_in v (walk old e.source) || stands_in v (walk old e.target)) (stands_in v (walk new e.source) || stands_in v (walk new e.target))

pub source_on_walks : (e : Edge) (old new : List Edge) → is_on_walks e old new e.source ≡ true
source_on_walks e old new =
    or_left (stands_in e.source (walk old e.source) || stands_in e.source (walk old e.target)) (stands_in e.source (walk new e.source) || stands_in e.source (walk new e.target))
    (or_left (stands_in e.source (walk old e.source)) (stands_in e.source (walk old e.target)) (begins_walk old e.source))

pub on_new_target : (e : Edge) (old new : List Edge) (v : Vertex) → stands_in v (walk new e.target) ≡ true → is_on_walks e old new v ≡ true
on_new_target e old new v h =
    or_right (stands_in v (walk old e.source) || stands_in v (walk old e.target)) (stands_in v (walk new e.source) || stands_in v (walk new e.target))
    (or_right (stands_in v (walk new e.source)) (stands_in v (walk new e.target)) h)

pub on_new_source : (e : Edge) (old new : List Edge) (v : Vertex) → stands_in v (walk new e.source) ≡ true → is_on_walks e old new v ≡ true
on_new_source e old new v h =
    or_right (stands_in v (walk old e.source) || stands_in v (walk old e.target)) (stands_in v (walk new e.source) || stands_in v (walk new e.target))
    (or_left (stands_in v (walk new e.source)) (stands_in v (walk new e.target)) h)

pub on_old_source : (e : Edge) (old new : List Edge) (v : Vertex) → stands_in v (walk old e.source) ≡ true → is_on_walks e old new v ≡ true
on_old_source e old new v h =
    or_left (stands_in v (walk old e.source) || stands_in v (walk old e.target)) (stands_in v (walk new e.source) || stands_in v (walk new e.target))
    (or_left (stands_in v (walk old e.source)) (stands_in v (walk old e.target)) h)

pub on_old_target : (e : Edge) (old new : List Edge) (v : Vertex) → stands_in v (walk old e.target) ≡ true → is_on_walks e old new v ≡ true
on_old_target e old new v h =
    or_left (stands_in v (walk old e.source) || stands_in v (walk old e.target)) (stands_in v (walk new e.source) || stands_in v (walk new e.target))
    (or_right (stands_in v (walk old e.source)) (stands_in v (walk old e.target)) h)

pub target_on_walks : (e : Edge) (old new : List Edge) → is_on_walks e old new e.target ≡ true
target_on_walks e old new = on_new_target e old new e.target (begins_walk new e.target)

module _ (e : Edge) (old new : List Edge) (change : Changes e old new) where
  -- on a walk of the graph before, or the target, whose walk after the edit is one of the four
  from_old : (from x w : Vertex) → ((v : Vertex) → stands_in v (walk old from) ≡ true → is_on_walks e old new v ≡ true) → stands_in x (walk old from) ≡ true → above new x ≡ Some w → is_on_walks e old new w ≡ true
  from_old from x w on stands up = by_test (is_same_vertex e.target x) refl where
    by_test : (b : Bool) → is_same_vertex e.target x ≡ b → is_on_walks e old new w ≡ true
    by_test true same =
        let one : e.target ≡ x = same_vertex_exact e.target x same in
        on_new_target e old new w (walk_closed new e.target x w (ap (λ v. stands_in v (walk new e.target)) (sym one) ∙ begins_walk new e.target) up)
    by_test false other = on w (walk_closed old from x w stands (above_stays e old new change x other ∙ up))

  pub above_on_walks : (x w : Vertex) → is_on_walks e old new x ≡ true → above new x ≡ Some w → is_on_walks e old new w ≡ true
  above_on_walks x w on up = by_side (or_cases (stands_in x (walk old e.source) || stands_in x (walk old e.target)) (stands_in x (walk new e.source) || stands_in x (walk new e.target)) on) where
    by_old : (stands_in x (walk old e.source) ≡ true) ⊎ (stands_in x (walk old e.target) ≡ true) → is_on_walks e old new w ≡ true
    by_old (inl h) = from_old e.source x w (on_old_source e old new) h up
    by_old (inr h) = from_old e.target x w (on_old_target e old new) h up

    by_new : (stands_in x (walk new e.source) ≡ true) ⊎ (stands_in x (walk new e.target) ≡ true) → is_on_walks e old new w ≡ true
    by_new (inl h) = on_new_source e old new w (walk_closed new e.source x w h up)
    by_new (inr h) = on_new_target e old new w (walk_closed new e.target x w h up)

    by_side : ((stands_in x (walk old e.source) || stands_in x (walk old e.target)) ≡ true) ⊎ ((stands_in x (walk new e.source) || stands_in x (walk new e.target)) ≡ true) → is_on_walks e old new w ≡ true
    by_side (inl h) = by_old (or_cases (stands_in x (walk old e.source)) (stands_in x (walk old e.target)) h)
    by_side (inr h) = by_new (or_cases (stands_in x (walk new e.source)) (stands_in x (walk new e.target)) h)
