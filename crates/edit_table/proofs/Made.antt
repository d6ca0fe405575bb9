-- The edit of a good edge has that edge, and each edit is that of its kind and edge.
use Rattle.std.proofs.Common.{◌≡◌, ◌^◌, Bool, true, false, refl, ap, ◌∙◌}
use Rattle.std.specs.Prelude.{is_none, nat_lt}
use Rattle.std.proofs.lemmas.Bool.{lt-ltb}
use Rattle.grove_names.specs.declared.name.Name.{Name}
use Rattle.grove_sorts.specs.declared.plain.Plain.{Plain}
use Rattle.grove_sorts.specs.declared.position.Position.{Position}
use Rattle.grove_sorts.specs.Plain.{plain_of}
use Rattle.grove_sorts.proofs.Truths.{both_true, and_true}
use Rattle.grove_edits.specs.declared.vertex.Vertex.{Vertex}
use Rattle.grove_edits.specs.declared.edge.Edge.{Edge}
use Rattle.grove_edits.specs.declared.edit.Edit.{Edit}
use Rattle.grove_edits.specs.declared.edit.EditKind.{EditKind}
use Rattle.grove_edits.specs.Vertex.{VertexInRange, literal}
use Rattle.grove_edits.specs.Edge.{edge_fault, edge_from, EdgeInRange}
use Rattle.grove_edits.specs.Edit.{edit_edge, edit_kind}
use Rattle.grove_edits.proofs.WellFormed.{remade}
use Rattle.grove_edits.proofs.Unique.{edit_from_fields}
use Rattle.edit_table.specs.Made.{is_good, lies_in_range, made, made_by}

by_good : (kind : EditKind) (name source : Name) (branch : Plain) (position : Position) (target : Vertex) (good : Bool) (is : is_good (edge_from name source branch position target) ≡ good)
    → good ≡ true
    → (edit_edge (made_by kind name source branch position target good is) ≡ edge_from name source branch position target)
    × (edit_kind (made_by kind name source branch position target good is) ≡ kind)
unfolding made_by
by_good kind name source branch position target true is good = (refl, refl)
by_good kind name source branch position target false is good = absurd cc

module _ (kind : EditKind) (e : Edge) (good : is_good e ≡ true) where
  again : edge_from e.name e.source.name (plain_of e.source.ctor) e.position e.target ≡ e
  again = remade e (both_true (is_none (edge_fault e)) _ good).0

  both : (edit_edge (made kind e) ≡ edge_from e.name e.source.name (plain_of e.source.ctor) e.position e.target) × (edit_kind (made kind e) ≡ kind)
  unfolding made
  both = by_good kind e.name e.source.name (plain_of e.source.ctor) e.position e.target _ refl (ap is_good again ∙ good)

  pub made-edge : edit_edge (made kind e) ≡ e
  made-edge = both.0 ∙ again

  pub made-kind : edit_kind (made kind e) ≡ kind
  made-kind = both.1

vertex_in_range : (v : Vertex) → VertexInRange v → lies_in_range v ≡ true
vertex_in_range v in_range =
    and_true (nat_lt v.name.author (2 ^ 32)) _ (lt-ltb v.name.author (2 ^ 32) in_range.0)
    (and_true (nat_lt v.name.counter (2 ^ 64)) _ (lt-ltb v.name.counter (2 ^ 64) in_range.1) (lt-ltb (literal v.ctor) (2 ^ 64) in_range.2))

-- the edge of an edit is good
pub edit_is_good : (edit : Edit) → is_good (edit_edge edit) ≡ true
edit_is_good edit =
    let e = edit_edge edit in
    let in_range : EdgeInRange e = edit.in_range in
    and_true (is_none (edge_fault e)) _ edit.well_formed
    (and_true (nat_lt e.name.author (2 ^ 32)) _ (lt-ltb e.name.author (2 ^ 32) in_range.0)
    (and_true (nat_lt e.name.counter (2 ^ 64)) _ (lt-ltb e.name.counter (2 ^ 64) in_range.1)
    (and_true (lies_in_range e.source) _ (vertex_in_range e.source in_range.2) (vertex_in_range e.target in_range.3))))

pub made_again : (edit : Edit) → made (edit_kind edit) (edit_edge edit) ≡ edit
made_again edit =
    edit_from_fields (made (edit_kind edit) (edit_edge edit)) edit (made-kind (edit_kind edit) (edit_edge edit) (edit_is_good edit))
    (made-edge (edit_kind edit) (edit_edge edit) (edit_is_good edit))
