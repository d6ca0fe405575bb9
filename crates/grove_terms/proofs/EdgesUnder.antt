-- The edges under a vertex are the live edges from it, each once.
use Rattle.std.proofs.Common.{◌≡◌, ℕ, ◌+◌, Bool, true, false, cond, ◌&&◌, List, [], ◌∷◌, filter, refl, sym, ap, ◌∙◌, arith}
use Rattle.std.specs.List.{AllByRecursion}
use Rattle.grove_sorts.specs.declared.position.Position.{Position}
use Rattle.grove_sorts.specs.declared.sort.Sort.{Sort}
use Rattle.grove_sorts.specs.Ctor.{positions}
use Rattle.grove_edits.specs.declared.vertex.Vertex.{Vertex}
use Rattle.grove_edits.specs.declared.edge.Edge.{Edge}
use Rattle.grove_edits.specs.Edge.{IsWellFormed}
use Rattle.graph_words.specs.Live.{children_of}
use Rattle.grove_edits.specs.Vertex.{is_same_vertex}
use Rattle.grove_sorts.specs.Position.{is_same_position}
use Rattle.grove_edits.proofs.Vertices.{same_vertex_exact}
use Rattle.grove_terms.specs.Forest.{edges_from, edges_under}
use Rattle.grove_terms.proofs.Table.{occurs, occurs_once}
use Rattle.grove_terms.proofs.Totals.{total, total-append, spread, spread_all}

-- the live edges from a vertex
abbrev pub edges_of : Vertex → List Edge → List Edge
edges_of u live = filter (λ e. is_same_vertex e.source u) live

total-children_of : (f : Edge → ℕ) (u : Vertex) (p : Position) (live : List Edge) → total f (children_of u p live) ≡ total (λ e. cond (is_same_position e.position p) (f e) 0) (edges_of u live)
total-children_of f u p [] = refl
total-children_of f u p (e ∷ live) = by_tests (is_same_vertex e.source u) (is_same_position e.position p) refl (total-children_of f u p live) where
  by_tests : (a b : Bool) → is_same_position e.position p ≡ b
      → total f (children_of u p live) ≡ total (λ x. cond (is_same_position x.position p) (f x) 0) (edges_of u live)
      → total f (cond (a && b) (e ∷ children_of u p live) (children_of u p live)) ≡ total (λ x. cond (is_same_position x.position p) (f x) 0) (cond a (e ∷ edges_of u live) (edges_of u live))
  by_tests false b is rest = rest
  by_tests true true is rest = let here : cond (is_same_position e.position p) (f e) 0 ≡ f e = ap (λ b. cond b (f e) 0) is in omega arith
  by_tests true false is rest = let here : cond (is_same_position e.position p) (f e) 0 ≡ 0 = ap (λ b. cond b (f e) 0) is in omega arith

total-edges_from : (f : Edge → ℕ) (u : Vertex) (live : List Edge) (ps : List (Position × Sort)) → total f (edges_from live u ps) ≡ spread (λ e. e.position) f ps (edges_of u live)
total-edges_from f u live [] = refl
total-edges_from f u live (p ∷ ps) =
    total-append f (children_of u p.0 live) (edges_from live u ps)
    ∙ ap (λ n. n + total f (edges_from live u ps)) (total-children_of f u p.0 live)
    ∙ ap (λ n. total (λ e. cond (is_same_position e.position p.0) (f e) 0) (edges_of u live) + n) (total-edges_from f u live ps)

placed_once : (u : Vertex) (live : List Edge) → AllByRecursion IsWellFormed live → AllByRecursion (λ e. occurs e.position (positions u.ctor) ≡ 1) (edges_of u live)
placed_once u [] well = tt
placed_once u (e ∷ live) well = by_test (is_same_vertex e.source u) refl (placed_once u live well.1) where
  by_test : (b : Bool) → is_same_vertex e.source u ≡ b → AllByRecursion (λ x. occurs x.position (positions u.ctor) ≡ 1) (edges_of u live)
      → AllByRecursion (λ x. occurs x.position (positions u.ctor) ≡ 1) (cond b (e ∷ edges_of u live) (edges_of u live))
  by_test true same rest = (ap (λ (x : Vertex). occurs e.position (positions x.ctor)) (sym (same_vertex_exact e.source u same)) ∙ occurs_once e well.0, rest)
  by_test false other rest = rest

pub total-edges_under : (f : Edge → ℕ) (u : Vertex) (live : List Edge) → AllByRecursion IsWellFormed live → total f (edges_under live u) ≡ total f (edges_of u live)
total-edges_under f u live well =
    total-edges_from f u live (positions u.ctor) ∙ spread_all (λ e. e.position) f (positions u.ctor) (edges_of u live) (placed_once u live well)
