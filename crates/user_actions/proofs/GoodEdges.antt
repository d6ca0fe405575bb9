-- What well-formed edges have, and what makes an edge well formed.
use Rattle.std.proofs.Common.{◌≡◌, ◌<◌, Bool, true, false, cond, List, [], ◌∷◌, refl, sym, ap, subst, ◌∙◌, inl, inr, ◌⊎◌, arith, lt-ltb}
use borrow.Author.Tests.{ltb-true}
use Rattle.std.specs.Prelude.{◌&&◌, ◌||◌, ◌==◌, nat_lt, Some, is_none, is_some}
use Rattle.std.specs.List.{list_any}
use Rattle.grove_sorts.specs.declared.sort.Sort.{Sort}
use Rattle.grove_sorts.specs.declared.sort.Sort.TheVariants.{Top, Exp, Pat, Typ}
use Rattle.grove_sorts.specs.declared.position.Position.{Position}
use Rattle.grove_sorts.specs.declared.ctor.Ctor.{Ctor}
use Rattle.grove_sorts.specs.declared.ctor.Ctor.TheVariants.{Root}
use Rattle.grove_sorts.specs.Position.{position_number}
use Rattle.grove_sorts.specs.Ctor.{sort_at, sort_in, positions, sort_of_ctor}
use Rattle.grove_edits.specs.declared.vertex.Vertex.{Vertex}
use Rattle.grove_edits.specs.declared.edge.Edge.{Edge}
use Rattle.grove_edits.specs.Vertex.{is_vertex, is_root, VertexInRange}
use Rattle.grove_edits.specs.Edge.{is_sort, has_good_vertices, has_position, has_sort, IsWellFormed, EdgeInRange}
use Rattle.grove_edits.specs.Graph.{Graph}
use Rattle.graph_words.specs.Whole.{IsVertexOf}
use Rattle.grove_edits.proofs.WellFormed.{good_vertices, place_fits, no_fault}
use Rattle.user_actions.specs.Good.{AreWellFormed, AreInRange}
use Rattle.grove_sorts.proofs.Truths.{both_true, and_true}

-- ---- the sort at a position

sort_itself : (s : Sort) → is_sort (Some s) s ≡ true
sort_itself Top = refl
sort_itself Exp = refl
sort_itself Pat = refl
sort_itself Typ = refl

-- no position wants a root
abbrev wants_root : List (Position × Sort) → Bool
wants_root entries = list_any (λ entry. is_sort (Some Top) entry.1) entries

none_wants_root : (ctor : Ctor) → wants_root (positions ctor) ≡ false
none_wants_root Root = refl
none_wants_root _ = refl

in_not_top : (entries : List (Position × Sort)) → wants_root entries ≡ false → (p : Position) (s : Sort) → sort_in entries p ≡ Some s → s ≡ Top → ⊥
in_not_top [] none p s is top = cc
in_not_top ((q, t) ∷ entries) none p s is top = by_tests (is_sort (Some Top) t) refl none (position_number q == position_number p) is (λ rest later. in_not_top entries rest p s later top) where
  by_tests : (a : Bool) → is_sort (Some Top) t ≡ a → (a || wants_root entries) ≡ false → (b : Bool) → cond b (Some t) (sort_in entries p) ≡ Some s → (wants_root entries ≡ false → sort_in entries p ≡ Some s → ⊥) → ⊥
  by_tests true root h b found later = cc
  by_tests false other h true found later = let one : t ≡ s = cc in let root : is_sort (Some Top) t ≡ true = ap (is_sort (Some Top)) (one ∙ top) in cc
  by_tests false other h false found later = later h found

-- what stands at a position is no root
pub no_root_at : (ctor : Ctor) (p : Position) (child : Ctor) → sort_at ctor p ≡ Some (sort_of_ctor child) → is_root child ≡ false
no_root_at ctor p child is = by_ctor child (λ top. in_not_top (positions ctor) (none_wants_root ctor) p (sort_of_ctor child) is top) where
  by_ctor : (k : Ctor) → (sort_of_ctor k ≡ Top → ⊥) → is_root k ≡ false
  by_ctor Root not = absurd (not refl)
  by_ctor _ not = refl

-- ---- the parts of a well-formed edge

pub record HasParts (e : Edge) : Type 0 where
  pub author : 0 < e.name.author
  pub counter : 0 < e.name.counter
  pub source : is_vertex e.source ≡ true
  pub target : is_vertex e.target ≡ true
  pub sort : sort_at e.source.ctor e.position ≡ Some (sort_of_ctor e.target.ctor)

pub parts_of : (e : Edge) → IsWellFormed e → HasParts e
parts_of e well =
    let p1 = both_true (nat_lt 0 e.name.author && nat_lt 0 e.name.counter && is_vertex e.source) (is_vertex e.target) (good_vertices e well) in
    let p2 = both_true (nat_lt 0 e.name.author && nat_lt 0 e.name.counter) (is_vertex e.source) p1.0 in
    let p3 = both_true (nat_lt 0 e.name.author) (nat_lt 0 e.name.counter) p2.0 in
    record {
      author = ltb-true 0 e.name.author p3.0;
      counter = ltb-true 0 e.name.counter p3.1;
      source = p2.1;
      target = p1.1;
      sort = place_fits e well;
    }

pub well_formed_from : (e : Edge) → HasParts e → IsWellFormed e
well_formed_from e parts =
    let p3 = and_true (nat_lt 0 e.name.author) (nat_lt 0 e.name.counter) (lt-ltb 0 e.name.author parts.author) (lt-ltb 0 e.name.counter parts.counter) in
    let p2 = and_true (nat_lt 0 e.name.author && nat_lt 0 e.name.counter) (is_vertex e.source) p3 parts.source in
    let good : has_good_vertices e ≡ true = and_true (nat_lt 0 e.name.author && nat_lt 0 e.name.counter && is_vertex e.source) (is_vertex e.target) p2 parts.target in
    let position : has_position e ≡ true = ap is_some parts.sort in
    let sort : has_sort e ≡ true = ap (λ o. is_sort o (sort_of_ctor e.target.ctor)) parts.sort ∙ sort_itself (sort_of_ctor e.target.ctor) in
    ap is_none (no_fault e good position sort)

-- ---- the vertices of a graph

pub vertex_good : (g : Graph) → AreWellFormed g → (v : Vertex) → IsVertexOf g v → is_vertex v ≡ true
vertex_good g well v (inl is) = ap is_vertex is
vertex_good g well v (inr end) = by_end end.0 (parts_of end.0 (well end.0 end.1)) end.2 where
  by_end : (e : Edge) → HasParts e → (e.source ≡ v) ⊎ (e.target ≡ v) → is_vertex v ≡ true
  by_end e parts (inl source) = ap is_vertex (sym source) ∙ parts.source
  by_end e parts (inr target) = ap is_vertex (sym target) ∙ parts.target

pub vertex_in_range : (g : Graph) → AreInRange g → (v : Vertex) → IsVertexOf g v → VertexInRange v
vertex_in_range g ranged v (inl is) = subst VertexInRange (sym is) (omega arith, omega arith, omega arith)
vertex_in_range g ranged v (inr end) = by_end end.0 (ranged end.0 end.1) end.2 where
  by_end : (e : Edge) → EdgeInRange e → (e.source ≡ v) ⊎ (e.target ≡ v) → VertexInRange v
  by_end e in_range (inl source) = subst VertexInRange source in_range.2
  by_end e in_range (inr target) = subst VertexInRange target in_range.3
