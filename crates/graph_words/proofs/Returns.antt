-- Where the walk up from a vertex comes back to it, and the vertices on the way are greater, the vertex is the root of its cycle.
use Rattle.std.proofs.Common.{◌≡◌, ℕ, zero, suc, ◌+◌, ◌-◌, ◌<◌, ◌≤◌, true, false, refl, sym, ap, subst, ◌∙◌, arith}
use Rattle.std.specs.Prelude.{◌&&◌, List, Option, None, Some}
use Rattle.std.specs.declared.cmp.Ordering.TheVariants.{Less}
use Rattle.std.specs.Ordering.{is_gt}
use Rattle.grove_edits.specs.declared.vertex.Vertex.{Vertex}
use Rattle.grove_edits.specs.declared.edge.Edge.{Edge}
use Rattle.grove_edits.specs.Vertex.{vertex_cmp}
use Rattle.graph_words.specs.Walk.{above, above_last, walk}
use Rattle.graph_words.specs.Class.{is_vertex_of, is_least, is_cycle_root}
use Rattle.grove_edits.proofs.Vertices.{vertex_cmp_itself, same_vertex_itself}
use Rattle.graph_words.proofs.Up.{up, next_above, up-along, up_none_along, walk_len, walk_apart, walk_back, walk_last, walk_least_from}

-- the vertices above are greater, so many steps up
abbrev pub AllGreater : List Edge → Vertex → ℕ → Type 0
AllGreater edges v n = (i : ℕ) (x : Vertex) → 0 < i → i ≤ n → up edges i (Some v) ≡ Some x → vertex_cmp v x ≡ Less

pub some_same : (x y : Vertex) → Some x ≡ Some y → x ≡ y
some_same x y e = cc

pub walk_len_pos : (edges : List Edge) (v : Vertex) → 0 < walk_len edges v
walk_len_pos edges v = omega arith

pub not_itself : (edges : List Edge) (v : Vertex) (n i : ℕ) → AllGreater edges v n → 0 < i → i ≤ n → up edges i (Some v) ≡ Some v → ⊥
not_itself edges v n i greater pos within at =
    let less = greater i v pos within at in
    let equal = vertex_cmp_itself v in
    cc

-- one step up from where the walk stands
pub up_from : (edges : List Edge) (v from : Vertex) (n : ℕ) (o : Option Vertex) → up edges n (Some v) ≡ Some from → above edges from ≡ o → up edges (suc n) (Some v) ≡ o
up_from edges v from n o at next = ap (next_above edges) at ∙ next

not_shorter : (edges : List Edge) (v : Vertex) (n t : ℕ) → AllGreater edges v n → up edges (suc n) (Some v) ≡ Some v → 0 < t → walk_len edges v + t ≡ suc n → ⊥
not_shorter edges v n t greater at pos sum =
    let there : up edges (walk_len edges v + t) (Some v) ≡ Some v = ap (λ i. up edges i (Some v)) sum ∙ at in
    elim (up edges (walk_len edges v) (Some v)) as (λ o. up edges (walk_len edges v) (Some v) ≡ o → ⊥) [
      | None ↦ λ is. let none = up_none_along edges (Some v) (walk_len edges v) t is in cc
      | Some y ↦ λ is.
          let was = walk_back edges v y is in
          let same : up edges was.0 (Some v) ≡ up edges (walk_len edges v) (Some v) = was.2 ∙ sym is in
          let again = up-along edges (Some v) was.0 (walk_len edges v) t same in
          let lt = was.1 in
          not_itself edges v n (was.0 + t) greater (omega arith) (omega arith) (again ∙ there)
    ] refl

length_from_back : (edges : List Edge) (v : Vertex) (n : ℕ) → AllGreater edges v n → up edges (suc n) (Some v) ≡ Some v → walk_len edges v ≡ suc n
length_from_back edges v n greater at =
    let no_more : suc n < walk_len edges v → ⊥ = λ lt. walk_apart edges v 0 (suc n) (omega arith) lt (sym at) in
    let no_less : walk_len edges v < suc n → ⊥ = λ lt. not_shorter edges v n (suc n - walk_len edges v) greater at (omega arith) (omega arith) in
    omega (arith, no_more, no_less)

not_after : (edges : List Edge) (v : Vertex) (n : ℕ) → AllGreater edges v n → (i : ℕ) (x : Vertex) → i < suc n → up edges i (Some v) ≡ Some x → is_gt (vertex_cmp v x) ≡ false
not_after edges v n greater zero x lt at = ap (λ z. is_gt (vertex_cmp v z)) (sym (some_same v x at)) ∙ ap is_gt (vertex_cmp_itself v)
not_after edges v n greater (suc i) x lt at = ap is_gt (greater (suc i) x (omega arith) (omega arith) at)

-- a vertex to which the walk comes back from greater vertices alone is the root of its cycle
pub root_from_return : (edges : List Edge) (v : Vertex) (n : ℕ) → up edges (suc n) (Some v) ≡ Some v → AllGreater edges v n → is_cycle_root edges v ≡ true
root_from_return edges v n back greater =
    let long = length_from_back edges v n greater back in
    let last : above_last edges (walk edges v) ≡ Some v = walk_last edges v ∙ ap (λ i. up edges i (Some v)) long ∙ back in
    let least : is_least v (walk edges v) ≡ true = walk_least_from edges v (λ i x lt found. not_after edges v n greater i x (subst (λ m. i < m) long lt) found) in
    let first : is_vertex_of v (above_last edges (walk edges v)) ≡ true = ap (is_vertex_of v) last ∙ same_vertex_itself v in
    ap (λ b. b && is_least v (walk edges v)) first ∙ least

pub root_from_back : (edges : List Edge) (v from : Vertex) (n : ℕ) → up edges n (Some v) ≡ Some from → above edges from ≡ Some v → AllGreater edges v n → is_cycle_root edges v ≡ true
root_from_back edges v from n at next greater = root_from_return edges v n (up_from edges v from n (Some v) at next) greater
