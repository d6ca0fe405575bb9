-- A walk ends, since each vertex on it but the last is the target of an edge.
use Rattle.std.proofs.Common.{◌≡◌, ℕ, zero, suc, ◌+◌, ◌<◌, ◌≤◌, Bool, true, false, cond, List, [], ◌∷◌, length, map, refl, sym, ap, subst, ◌∙◌, arith}
use Rattle.std.specs.Prelude.{◌||◌, Option, None, Some}
use Rattle.grove_edits.specs.declared.vertex.Vertex.{Vertex}
use Rattle.grove_edits.specs.declared.edge.Edge.{Edge}
use Rattle.graph_words.specs.Live.{parents_of}
use Rattle.grove_edits.specs.Vertex.{is_same_vertex, stands_in}
use Rattle.graph_words.specs.Walk.{only_source, above, IsEnd, GoesOn, IsWalk, walk_on, walk}
use Rattle.grove_edits.proofs.Vertices.{same_vertex_exact, same_vertex_itself}

-- ---- more distinct vertices than a list has do not all stand in it

-- the list without the first that is the vertex
abbrev without : Vertex → List Vertex → List Vertex
without v [] = []
without v (x ∷ xs) = cond (is_same_vertex x v) xs (x ∷ without v xs)

abbrev pub AllStandIn : List Vertex → List Vertex → Type 0
AllStandIn ys [] = Unit {0}
AllStandIn ys (x ∷ xs) = (stands_in x ys ≡ true) × AllStandIn ys xs

-- no vertex stands among those after it
abbrev pub AreApart : List Vertex → Type 0
AreApart [] = Unit {0}
AreApart (x ∷ xs) = (stands_in x xs ≡ false) × AreApart xs

length-without : (v : Vertex) (ys : List Vertex) → stands_in v ys ≡ true → length ys ≡ suc (length (without v ys))
length-without v [] h = absurd cc
length-without v (y ∷ ys) h =
    elim (is_same_vertex y v) as (λ b. (b || stands_in v ys) ≡ true → suc (length ys) ≡ suc (length (cond b ys (y ∷ without v ys)))) [
      | true ↦ λ _. refl
      | false ↦ λ rest. ap suc (length-without v ys rest)
    ] h

stands_in-without : (v x : Vertex) (ys : List Vertex) → is_same_vertex v x ≡ false → stands_in x ys ≡ true → stands_in x (without v ys) ≡ true
stands_in-without v x [] other h = h
stands_in-without v x (y ∷ ys) other h =
    elim (is_same_vertex y v) as (λ b. is_same_vertex y v ≡ b → stands_in x (cond b ys (y ∷ without v ys)) ≡ true) [
      | true ↦ λ same.
          let e = same_vertex_exact y v same in
          let not_first : is_same_vertex y x ≡ false = ap (λ z. is_same_vertex z x) e ∙ other in
          sym (ap (λ b. b || stands_in x ys) not_first) ∙ h
      | false ↦ λ _.
          elim (is_same_vertex y x) as (λ b. (b || stands_in x ys) ≡ true → (b || stands_in x (without v ys)) ≡ true) [
            | true ↦ λ _. refl
            | false ↦ λ rest. stands_in-without v x ys other rest
          ] h
    ] refl

AllStandIn-without : (v : Vertex) (ys xs : List Vertex) → stands_in v xs ≡ false → AllStandIn ys xs → AllStandIn (without v ys) xs
AllStandIn-without v ys [] apart all = tt
AllStandIn-without v ys (x ∷ xs) apart all =
    let parts = neither (is_same_vertex x v) (stands_in v xs) apart in
    (stands_in-without v x ys (other_way x v parts.0) all.0, AllStandIn-without v ys xs parts.1 all.1) where
      neither : (a b : Bool) → (a || b) ≡ false → (a ≡ false) × (b ≡ false)
      neither true b h = absurd cc
      neither false b h = (refl, h)

      other_way : (x v : Vertex) → is_same_vertex x v ≡ false → is_same_vertex v x ≡ false
      other_way x v other =
          elim (is_same_vertex v x) as (λ b. is_same_vertex v x ≡ b → b ≡ false) [
            | true ↦ λ same. let e = same_vertex_exact v x same in sym (same_vertex_itself x) ∙ ap (is_same_vertex x) (sym e) ∙ other
            | false ↦ λ _. refl
          ] refl

pub length-AllStandIn : (ys xs : List Vertex) → AreApart xs → AllStandIn ys xs → length xs ≤ length ys
length-AllStandIn ys [] apart all = omega arith
length-AllStandIn ys (x ∷ xs) apart all =
    let shorter = length-AllStandIn (without x ys) xs apart.1 (AllStandIn-without x ys xs apart.0 all.1) in
    let one = length-without x ys all.0 in
    omega arith

-- ---- a walk that has passed more vertices than there are edges has ended

abbrev pub target_list : List Edge → List Vertex
target_list edges = map (λ e. e.target) edges

pub length-target_list : (edges : List Edge) → length (target_list edges) ≡ length edges
length-target_list [] = refl
length-target_list (e ∷ es) = ap suc (length-target_list es)

-- a vertex below another is the target of an edge
pub target-from_above : (edges : List Edge) (v x : Vertex) → above edges v ≡ Some x → stands_in v (target_list edges) ≡ true
target-from_above [] v x h = absurd cc
target-from_above (e ∷ es) v x h =
    elim (is_same_vertex e.target v) as (λ b. only_source (cond b (e ∷ parents_of v es) (parents_of v es)) ≡ Some x → (b || stands_in v (target_list es)) ≡ true) [
      | true ↦ λ _. refl
      | false ↦ λ rest. target-from_above es v x rest
    ] h

-- what a walk adds where there is no next vertex
none_added : (most : ℕ) (edges : List Edge) (passed : List Vertex) → GoesOn edges passed None (walk_on most edges passed None)
none_added zero edges passed = tt
none_added (suc most) edges passed = tt

-- a walk goes on to its end, if there are steps left for each edge whose target it has not passed
goes_on : (most : ℕ) (edges : List Edge) (passed : List Vertex) (next : Option Vertex) → AreApart passed → AllStandIn (target_list edges) passed
    → length edges < length passed + most → GoesOn edges passed next (walk_on most edges passed next)
goes_on most edges passed None apart all enough = none_added most edges passed
goes_on zero edges passed (Some v) apart all enough =
    let few = length-AllStandIn (target_list edges) passed apart all in
    absurd (omega (arith, few, length-target_list edges))
goes_on (suc most) edges passed (Some v) apart all enough =
    elim (stands_in v passed) as (λ b. stands_in v passed ≡ b → GoesOn edges passed (Some v) (cond b [] (v ∷ walk_on most edges (v ∷ passed) (above edges v)))) [
      | true ↦ λ was. was
      | false ↦ λ new. (
        refl,
        new,
        elim (above edges v) as (λ next. above edges v ≡ next → GoesOn edges (v ∷ passed) next (walk_on most edges (v ∷ passed) next)) [
          | None ↦ λ _. none_added most edges (v ∷ passed)
          | Some x ↦ λ is. goes_on most edges (v ∷ passed) (Some x) (new, apart) (target-from_above edges v x is, all) (omega arith)
        ] refl,
      )
    ] refl

pub walk_is : (edges : List Edge) (v : Vertex) → IsWalk edges v (walk edges v)
walk_is edges v = goes_on (suc (length edges)) edges [] (Some v) tt tt (omega arith)

-- ---- there is one walk

some_same : (x y : Vertex) → Some x ≡ Some y → x ≡ y
some_same x y e = cc

same_goes_on : (edges : List Edge) (passed : List Vertex) (next : Option Vertex) (xs ys : List Vertex) → GoesOn edges passed next xs → GoesOn edges passed next ys → xs ≡ ys
same_goes_on edges passed next [] [] one other = refl
same_goes_on edges passed next [] (y ∷ ys) one other = absurd (ended passed next y other.0 one other.1) where
  ended : (passed : List Vertex) (next : Option Vertex) (y : Vertex) → next ≡ Some y → IsEnd passed next → stands_in y passed ≡ false → ⊥
  ended passed None y is end new = cc
  ended passed (Some x) y is end new = let e = some_same x y is in let was = ap (λ z. stands_in z passed) e in cc
same_goes_on edges passed next (x ∷ xs) [] one other = absurd (ended passed next x one.0 other one.1) where
  ended : (passed : List Vertex) (next : Option Vertex) (y : Vertex) → next ≡ Some y → IsEnd passed next → stands_in y passed ≡ false → ⊥
  ended passed None y is end new = cc
  ended passed (Some x) y is end new = let e = some_same x y is in let was = ap (λ z. stands_in z passed) e in cc
same_goes_on edges passed next (x ∷ xs) (y ∷ ys) one other =
    let e : y ≡ x = some_same y x (sym other.0 ∙ one.0) in
    let moved : GoesOn edges (x ∷ passed) (above edges x) ys = subst (λ z. GoesOn edges (z ∷ passed) (above edges z) ys) e other.2 in
    ap (λ zs. x ∷ zs) (same_goes_on edges (x ∷ passed) (above edges x) xs ys one.2 moved) ∙ ap (λ z. z ∷ ys) (sym e)

pub walk_is_one : (edges : List Edge) (v : Vertex) (xs : List Vertex) → IsWalk edges v xs → xs ≡ walk edges v
walk_is_one edges v xs is = same_goes_on edges [] (Some v) xs (walk edges v) is (walk_is edges v)
