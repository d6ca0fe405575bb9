-- Inner model, which no public contract cites: what a step up finds, as seen from the vertex that the walk began with.
use Rattle.std.specs.Prelude.{Option, None, Some}
use Rattle.std.specs.declared.cmp.Ordering.{Ordering}
use Rattle.std.specs.declared.cmp.Ordering.TheVariants.{Less, Equal, Greater}
use Rattle.grove_edits.specs.declared.vertex.Vertex.{Vertex}
use Rattle.grove_edits.specs.Vertex.{vertex_cmp}
use Rattle.unicycle_roots.specs.declared.step_up.StepUp.{StepUp}
use Rattle.unicycle_roots.specs.declared.step_up.StepUp.TheVariants.{ToGreater, Back, ToNoCycle}

abbrev pub found_by : Ordering → Vertex → StepUp
found_by Less x = ToGreater x
found_by Equal x = Back
found_by Greater x = ToNoCycle

abbrev pub found : Vertex → Option Vertex → StepUp
found v None = ToNoCycle
found v (Some x) = found_by (vertex_cmp v x) x
