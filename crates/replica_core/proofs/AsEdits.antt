-- Edits as plain edits are themselves.
use Rattle.std.proofs.Common.{◌≡◌, ◌^◌, Bool, true, false, List, [], ◌∷◌, map, refl, ap, ◌∙◌}
use Rattle.std.specs.Prelude.{◌&&◌, Option, Some, is_none, nat_lt}
use Rattle.std.proofs.lemmas.Bool.{lt-ltb}
use Rattle.grove_edits.specs.declared.vertex.Vertex.{Vertex}
use Rattle.grove_edits.specs.declared.edge.Edge.{Edge}
use Rattle.grove_edits.specs.declared.edit.Edit.{Edit}
use Rattle.grove_edits.specs.declared.edit.EditKind.{EditKind}
use Rattle.grove_edits.specs.Vertex.{literal, VertexInRange}
use Rattle.grove_edits.specs.Edge.{edge_fault, IsWellFormed, EdgeInRange}
use Rattle.grove_edits.specs.Edit.{edit_edge, edit_kind}
use Rattle.grove_edits.proofs.Unique.{edit_from_fields}
use Rattle.grove_edits.proofs.WellFormed.{edge_made}
use Rattle.user_actions.specs.PlainEdits.{plain}
use Rattle.grove_sorts.proofs.Truths.{and_true}
use Rattle.replica_core.specs.Plain.{is_vertex_in_range, is_edge_in_range, edge_in_range, edit_where, edit_of, and_some, as_edits}

vertex_passes : (v : Vertex) → VertexInRange v → is_vertex_in_range v ≡ true
vertex_passes v within =
    and_true (nat_lt v.name.author (2 ^ 32)) (nat_lt v.name.counter (2 ^ 64) && nat_lt (literal v.ctor) (2 ^ 64)) (lt-ltb v.name.author (2 ^ 32) within.0)
    (and_true (nat_lt v.name.counter (2 ^ 64)) (nat_lt (literal v.ctor) (2 ^ 64)) (lt-ltb v.name.counter (2 ^ 64) within.1) (lt-ltb (literal v.ctor) (2 ^ 64) within.2))

edge_passes : (e : Edge) → EdgeInRange e → is_edge_in_range e ≡ true
edge_passes e within =
    and_true (nat_lt e.name.author (2 ^ 32)) (nat_lt e.name.counter (2 ^ 64) && (is_vertex_in_range e.source && is_vertex_in_range e.target)) (lt-ltb e.name.author (2 ^ 32) within.0)
    (and_true (nat_lt e.name.counter (2 ^ 64)) (is_vertex_in_range e.source && is_vertex_in_range e.target) (lt-ltb e.name.counter (2 ^ 64) within.1)
    (and_true (is_vertex_in_range e.source) (is_vertex_in_range e.target) (vertex_passes e.source within.2) (vertex_passes e.target within.3)))

-- an edge that is well formed and in range has an edit of each kind
pub record IsEditOf (kind : EditKind) (e : Edge) (o : Option Edit) : Type 0 where
  pub edit : Edit
  pub is : o ≡ Some edit
  pub edge : edit_edge edit ≡ e
  pub kind_is : edit_kind edit ≡ kind

pub some_edit : (kind : EditKind) (e : Edge) → IsWellFormed e → EdgeInRange e → IsEditOf kind e (edit_of kind e)
some_edit kind e good within = by_tests (is_none (edge_fault e)) (is_edge_in_range e) refl refl good (edge_passes e within) where
  by_tests : (b c : Bool) → (p : is_none (edge_fault e) ≡ b) → (q : is_edge_in_range e ≡ c) → b ≡ true → c ≡ true → IsEditOf kind e (edit_where kind e b c p q)
  by_tests true true p q h i = record { edit = _; is = refl; edge = edge_made kind e p (edge_in_range e q); kind_is = refl }
  by_tests true false p q h i = absurd cc
  by_tests false c p q h i = absurd cc

pub edit_itself : (edit : Edit) → edit_of (edit_kind edit) (edit_edge edit) ≡ Some edit
edit_itself edit =
    let found = some_edit (edit_kind edit) (edit_edge edit) edit.well_formed edit.in_range in
    found.is ∙ ap Some (edit_from_fields found.edit edit found.kind_is found.edge)

pub as_edits-plain : (edits : List Edit) → as_edits (map plain edits) ≡ edits
as_edits-plain [] = refl
as_edits-plain (edit ∷ edits) = ap (λ o. and_some o (as_edits (map plain edits))) (edit_itself edit) ∙ ap (λ (es : List Edit). edit ∷ es) (as_edits-plain edits)
