-- Inner model, which no public contract cites: the edit of an edge that is well formed and in range.
use Rattle.std.specs.Prelude.{◌≡◌, ◌^◌, Bool, true, false, ◌&&◌, nat_lt, is_none, refl}
use Rattle.std.proofs.lemmas.Bool.{ltb-true}
use Rattle.grove_names.specs.declared.name.Name.{Name}
use Rattle.grove_sorts.specs.declared.plain.Plain.{Plain}
use Rattle.grove_sorts.specs.declared.plain.Plain.TheVariants.{Root}
use Rattle.grove_sorts.specs.declared.ctor.Ctor.TheVariants.{LitTrue}
use Rattle.grove_sorts.specs.declared.position.Position.{Position}
use Rattle.grove_sorts.specs.declared.position.Position.TheVariants.{Main}
use Rattle.grove_sorts.specs.Plain.{plain_of}
use Rattle.grove_sorts.proofs.Truths.{both_true}
use Rattle.grove_edits.specs.declared.vertex.Vertex.{Vertex}
use Rattle.grove_edits.specs.declared.edge.Edge.{Edge}
use Rattle.grove_edits.specs.declared.edit.Edit.{Edit}
use Rattle.grove_edits.specs.declared.edit.EditKind.{EditKind}
use Rattle.grove_edits.specs.declared.edit.EditKind.TheVariants.{Insert}
use Rattle.grove_edits.specs.Vertex.{VertexInRange, literal}
use Rattle.grove_edits.specs.Edge.{edge_fault, edge_from, EdgeInRange}

abbrev pub lies_in_range : Vertex → Bool
lies_in_range v = nat_lt v.name.author (2 ^ 32) && (nat_lt v.name.counter (2 ^ 64) && nat_lt (literal v.ctor) (2 ^ 64))

-- the edge is well formed, and its numbers lie in their ranges
abbrev pub is_good : Edge → Bool
is_good e =
    is_none (edge_fault e) && (nat_lt e.name.author (2 ^ 32) && (nat_lt e.name.counter (2 ^ 64) && (lies_in_range e.source && lies_in_range e.target)))

vertex_range : (v : Vertex) → lies_in_range v ≡ true → VertexInRange v
vertex_range v is =
    let one = both_true (nat_lt v.name.author (2 ^ 32)) _ is in
    let two = both_true (nat_lt v.name.counter (2 ^ 64)) _ one.1 in
    (ltb-true v.name.author (2 ^ 32) one.0, ltb-true v.name.counter (2 ^ 64) two.0, ltb-true (literal v.ctor) (2 ^ 64) two.1)

pub edge_range : (e : Edge) → is_good e ≡ true → EdgeInRange e
edge_range e is =
    let one = both_true (is_none (edge_fault e)) _ is in
    let two = both_true (nat_lt e.name.author (2 ^ 32)) _ one.1 in
    let three = both_true (nat_lt e.name.counter (2 ^ 64)) _ two.1 in
    let four = both_true (lies_in_range e.source) _ three.1 in
    (ltb-true e.name.author (2 ^ 32) two.0, ltb-true e.name.counter (2 ^ 64) three.0, vertex_range e.source four.0, vertex_range e.target four.1)

abbrev some_name : Name
some_name = record { author = 1; counter = 1 }

abbrev some_target : Vertex
some_target = record { name = some_name; ctor = LitTrue }

-- an edit that is there where an edge is not good
pub some_edit : Edit
some_edit = record {
  name = some_name;
  source = record { author = 0; counter = 0 };
  branch = Root;
  position = Main;
  target = some_target;
  kind = Insert;
  well_formed = refl;
  in_range = edge_range (edge_from some_name (record { author = 0; counter = 0 }) Root Main some_target) refl;
}

unfoldable pub made_by : EditKind → (name source : Name) (branch : Plain) (position : Position) (target : Vertex) (good : Bool)
    → is_good (edge_from name source branch position target) ≡ good → Edit
made_by kind name source branch position target true is = record {
  name = name;
  source = source;
  branch = branch;
  position = position;
  target = target;
  kind = kind;
  well_formed = (both_true (is_none (edge_fault (edge_from name source branch position target))) _ is).0;
  in_range = edge_range (edge_from name source branch position target) is;
}
made_by kind name source branch position target false is = some_edit

-- the edit of this kind and a good edge
unfoldable pub made : EditKind → Edge → Edit
made kind e = made_by kind e.name e.source.name (plain_of e.source.ctor) e.position e.target _ refl
