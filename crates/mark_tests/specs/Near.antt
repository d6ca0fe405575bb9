-- A function that is applied to 1 and has `true` for its body, before and after its parameter gets the type of numbers.
use Rattle.std.specs.Prelude.{◌≡◌, ℕ, true, List, [], ◌∷◌, refl}
use Rattle.grove_names.specs.declared.name.Name.{Name}
use Rattle.grove_sorts.specs.declared.ctor.Ctor.TheVariants.{Ap, Lam, Num, LitTrue, TNum}
use Rattle.grove_sorts.specs.declared.plain.Plain.{Plain}
use Rattle.grove_sorts.specs.declared.plain.Plain.TheVariants as plain
use Rattle.grove_sorts.specs.declared.position.Position.{Position}
use Rattle.grove_sorts.specs.declared.position.Position.TheVariants.{Main, Fun, Arg, Annot, Body}
use Rattle.grove_edits.specs.declared.vertex.Vertex.{Vertex}
use Rattle.grove_edits.specs.declared.edge.Edge.{Edge}
use Rattle.grove_edits.specs.declared.edit.Edit.{Edit}
use Rattle.grove_edits.specs.declared.edit.EditKind.TheVariants.{Insert}
use Rattle.grove_edits.specs.Vertex.{root}
use Rattle.grove_edits.specs.Edge.{IsWellFormed, edge_from}
use Rattle.grove_edits.specs.Edit.{edit_edge}
use Rattle.edit_table.specs.Made.{is_good, edge_range}

abbrev pub name : ℕ → ℕ → Name
name author counter = record { author = author; counter = counter }

abbrev pub application : Vertex
application = record { name = name 2 1; ctor = Ap }

abbrev pub function : Vertex
function = record { name = name 2 3; ctor = Lam }

abbrev pub argument : Vertex
argument = record { name = name 2 5; ctor = Num 1 }

abbrev pub body : Vertex
body = record { name = name 2 7; ctor = LitTrue }

abbrev pub annotation : Vertex
annotation = record { name = name 1 1; ctor = TNum }

-- the insertion of a well-formed edge
abbrev insertion : (name source : Name) (branch : Plain) (position : Position) (target : Vertex)
    → IsWellFormed (edge_from name source branch position target) → is_good (edge_from name source branch position target) ≡ true → Edit
insertion name source branch position target well good = record {
  name = name;
  source = source;
  branch = branch;
  position = position;
  target = target;
  kind = Insert;
  well_formed = well;
  in_range = edge_range (edge_from name source branch position target) good;
}

abbrev pub to_application : Edit
to_application = insertion (name 2 2) root.name plain.Root Main application refl refl

abbrev pub to_function : Edit
to_function = insertion (name 2 4) application.name plain.Ap Fun function refl refl

abbrev pub to_argument : Edit
to_argument = insertion (name 2 6) application.name plain.Ap Arg argument refl refl

abbrev pub to_body : Edit
to_body = insertion (name 2 8) function.name plain.Lam Body body refl refl

abbrev pub to_annotation : Edit
to_annotation = insertion (name 1 2) function.name plain.Lam Annot annotation refl refl

abbrev pub edits : List Edit
edits = to_application ∷ to_function ∷ to_argument ∷ to_body ∷ []

-- the live edges before the edit
abbrev pub before : List Edge
before = edit_edge to_application ∷ edit_edge to_function ∷ edit_edge to_argument ∷ edit_edge to_body ∷ []

-- and after it
abbrev pub after : List Edge
after = edit_edge to_annotation ∷ before

-- the vertices near the edit
abbrev pub near : List Vertex
near = annotation ∷ root ∷ application ∷ function ∷ argument ∷ []
