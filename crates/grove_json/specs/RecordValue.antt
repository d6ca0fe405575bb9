-- The JSON value of what marking says of a vertex, wherever it stands.
use Rattle.std.specs.Prelude.{Option, codes}
use Rattle.serde_json.specs.Data.{Data, string, object, member, no_members}
use Rattle.grove_names.specs.Name.{name_text}
use Rattle.grove_sorts.specs.Ctor.{ctor_text, sort_of_ctor}
use Rattle.grove_edits.specs.declared.vertex.Vertex.{Vertex}
use Rattle.type_core.specs.Typ.{Typ}
use Rattle.mark_step.specs.declared.node.Mark.{Mark}
use Rattle.mark_step.specs.Expression.{Wanted}
use Rattle.grove_printer.specs.Print.{mark_text, mode_column, type_column}

-- the members of the node of a vertex that do not tell where it stands
abbrev pub record_value : Vertex → Option Wanted → Option Typ → Mark → Data
record_value v wanted typ mark =
    object
    (member (codes "mark") (string (mark_text mark))
    (member (codes "mode") (string (mode_column (sort_of_ctor v.ctor) wanted))
    (member (codes "type") (string (type_column typ))
    (member (codes "vertex") (string (name_text v.name))
    (member (codes "what") (string (ctor_text v.ctor)) no_members)))))
