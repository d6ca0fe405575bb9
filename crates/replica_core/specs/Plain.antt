-- Plain edits as edits, where their edges are well formed and have numbers in their ranges.
use Rattle.std.specs.Prelude.{◌≡◌, ◌^◌, Bool, true, false, ◌&&◌, nat_lt, List, [], ◌∷◌, Option, None, Some, is_none, refl}
use Rattle.std.proofs.lemmas.Bool.{ltb-true}
use Rattle.grove_sorts.proofs.Truths.{both_true}
use Rattle.grove_edits.specs.declared.vertex.Vertex.{Vertex}
use Rattle.grove_edits.specs.declared.edge.Edge.{Edge}
use Rattle.grove_edits.specs.declared.edit.Edit.{Edit}
use Rattle.grove_edits.specs.declared.edit.EditKind.{EditKind}
use Rattle.grove_edits.specs.Vertex.{literal, VertexInRange}
use Rattle.grove_edits.specs.Edge.{edge_fault, EdgeInRange}
use Rattle.grove_edits.proofs.WellFormed.{edit_made}
use Rattle.user_actions.specs.PlainEdits.{PlainEdit}

abbrev pub is_vertex_in_range : Vertex → Bool
is_vertex_in_range v = nat_lt v.name.author (2 ^ 32) && (nat_lt v.name.counter (2 ^ 64) && nat_lt (literal v.ctor) (2 ^ 64))

abbrev pub is_edge_in_range : Edge → Bool
is_edge_in_range e = nat_lt e.name.author (2 ^ 32) && (nat_lt e.name.counter (2 ^ 64) && (is_vertex_in_range e.source && is_vertex_in_range e.target))

vertex_in_range : (v : Vertex) → is_vertex_in_range v ≡ true → VertexInRange v
vertex_in_range v h =
    let author = both_true (nat_lt v.name.author (2 ^ 32)) (nat_lt v.name.counter (2 ^ 64) && nat_lt (literal v.ctor) (2 ^ 64)) h in
    let others = both_true (nat_lt v.name.counter (2 ^ 64)) (nat_lt (literal v.ctor) (2 ^ 64)) author.1 in
    (ltb-true v.name.author (2 ^ 32) author.0, ltb-true v.name.counter (2 ^ 64) others.0, ltb-true (literal v.ctor) (2 ^ 64) others.1)

pub edge_in_range : (e : Edge) → is_edge_in_range e ≡ true → EdgeInRange e
edge_in_range e h =
    let author = both_true (nat_lt e.name.author (2 ^ 32)) (nat_lt e.name.counter (2 ^ 64) && (is_vertex_in_range e.source && is_vertex_in_range e.target)) h in
    let counter = both_true (nat_lt e.name.counter (2 ^ 64)) (is_vertex_in_range e.source && is_vertex_in_range e.target) author.1 in
    let ends = both_true (is_vertex_in_range e.source) (is_vertex_in_range e.target) counter.1 in (
      ltb-true e.name.author (2 ^ 32) author.0,
      ltb-true e.name.counter (2 ^ 64) counter.0,
      vertex_in_range e.source ends.0,
      vertex_in_range e.target ends.1,
    )

abbrev pub edit_where : EditKind → (e : Edge) → (good within : Bool) → is_none (edge_fault e) ≡ good → is_edge_in_range e ≡ within → Option Edit
edit_where kind e true true well_formed in_range = Some (edit_made kind e well_formed (edge_in_range e in_range))
edit_where kind e true false well_formed in_range = None
edit_where kind e false within well_formed in_range = None

-- the edit of this kind of an edge, or none where the edge is not well formed or has a number that is out of its range
abbrev pub edit_of : EditKind → Edge → Option Edit
edit_of kind e = edit_where kind e (is_none (edge_fault e)) (is_edge_in_range e) refl refl

abbrev pub and_some : {X : Type 0} → Option X → List X → List X
and_some None xs = xs
and_some (Some x) xs = x ∷ xs

-- plain edits as edits
abbrev pub as_edits : List PlainEdit → List Edit
as_edits [] = []
as_edits (p ∷ ps) = and_some (edit_of p.0 p.1) (as_edits ps)
