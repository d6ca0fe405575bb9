-- The vertex that a lent one is.
use Rattle.grove_sorts.specs.declared.ctor.Ctor.{Ctor}
use Rattle.grove_sorts.specs.declared.ctor.Ctor.TheVariants.{Num}
use Rattle.grove_edits.specs.declared.vertex.Vertex.{Vertex}
use Rattle.edit_table.specs.declared.lent_ctor.LentCtor.{LentCtor}
use Rattle.edit_table.specs.declared.lent_ctor.LentCtor.TheVariants.{At, Literal}
use Rattle.edit_table.specs.declared.lent_vertex.LentVertex.{LentVertex}

abbrev pub lent_ctor : LentCtor → Ctor
lent_ctor (At ctor) = ctor.now
lent_ctor (Literal n) = Num n

abbrev pub lent_vertex : LentVertex → Vertex
lent_vertex v = record { name = v.name; ctor = lent_ctor v.ctor }
