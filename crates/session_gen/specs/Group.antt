-- The edges of a group of generated loads, as values.
use Rattle.std.specs.Prelude.{ℕ, ◌+◌, ◌*◌, ◌%◌, Bool, not, ◌&&◌, IsTrue}
use Rattle.grove_names.specs.declared.name.Name.{Name}
use Rattle.grove_sorts.specs.declared.ctor.Ctor.{Ctor}
use Rattle.grove_sorts.specs.declared.position.Position.{Position}
use Rattle.grove_sorts.specs.declared.version.Version.TheVariants.{One}
use Rattle.grove_sorts.specs.Ctor.{sort_at, sort_of_ctor}
use Rattle.grove_sorts.specs.Version.{IsCtorOf, IsPositionOf}
use Rattle.grove_edits.specs.declared.edge.Edge.{Edge}
use Rattle.grove_edits.specs.declared.vertex.Vertex.{Vertex}
use Rattle.grove_edits.specs.Edge.{is_sort}
use Rattle.grove_edits.specs.Vertex.{is_root}

abbrev pub name_in : ℕ → ℕ → Name
name_in group counter = record { author = 1 + group % 3; counter = 20 * group + counter }

abbrev pub vertex_in : ℕ → ℕ → Ctor → Vertex
vertex_in group i ctor = record { name = name_in group i; ctor = ctor }

-- the edge with a number from a position of one vertex of the group to another
abbrev pub edge_in : ℕ → ℕ → ℕ → Ctor → Position → ℕ → Ctor → Edge
edge_in group number source source_ctor position target target_ctor =
    record { name = name_in group (10 + number); source = vertex_in group source source_ctor; position = position; target = vertex_in group target target_ctor }

-- neither end is a root, and the target has the sort that the position wants
abbrev pub fits : Ctor → Position → Ctor → Bool
fits source position target = not (is_root source) && not (is_root target) && is_sort (sort_at source position) (sort_of_ctor target)
