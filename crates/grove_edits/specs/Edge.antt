-- What edges are well formed, the first fault of one that is not, and their order.
-- The promise of the commands rests on these definitions.
use Rattle.std.specs.Prelude.{◌<◌, ◌^◌, Bool, true, false, ◌&&◌, nat_lt, Option, Some, None, IsTrue, is_none, is_some, if◌then◌else◌}
use Rattle.std.specs.declared.cmp.Ordering.{Ordering}
use Rattle.std.specs.Ordering.{ordering_then}
use Rattle.grove_names.specs.declared.name.Name.{Name}
use Rattle.grove_names.specs.Name.{name_cmp}
use Rattle.grove_sorts.specs.declared.sort.Sort.{Sort}
use Rattle.grove_sorts.specs.declared.sort.Sort.TheVariants.{Top, Exp, Pat, Typ}
use Rattle.grove_sorts.specs.declared.plain.Plain.{Plain}
use Rattle.grove_sorts.specs.declared.position.Position.{Position}
use Rattle.grove_sorts.specs.Plain.{plain_ctor}
use Rattle.grove_sorts.specs.Position.{position_cmp}
use Rattle.grove_sorts.specs.Ctor.{sort_of_ctor, sort_at}
use Rattle.grove_sorts.specs.declared.version.Version.{Version}
use Rattle.grove_sorts.specs.Version.{IsCtorOf, IsPositionOf}
use Rattle.grove_edits.specs.declared.vertex.Vertex.{Vertex}
use Rattle.grove_edits.specs.declared.edge.Edge.{Edge}
use Rattle.grove_edits.specs.declared.edge.EdgeFault.{EdgeFault}
use Rattle.grove_edits.specs.declared.edge.EdgeFault.TheVariants.{BadVertex, NoPosition, WrongSort}
use Rattle.grove_edits.specs.Vertex.{is_vertex, VertexInRange, vertex_cmp}

-- an author named the edge, and both its ends are well formed
abbrev pub has_good_vertices : Edge → Bool
has_good_vertices e = nat_lt 0 e.name.author && nat_lt 0 e.name.counter && is_vertex e.source && is_vertex e.target

-- the source's constructor has the position
abbrev pub has_position : Edge → Bool
has_position e = is_some (sort_at e.source.ctor e.position)

abbrev pub is_sort : Option Sort → Sort → Bool
is_sort (Some Top) Top = true
is_sort (Some Exp) Exp = true
is_sort (Some Pat) Pat = true
is_sort (Some Typ) Typ = true
is_sort _ _ = false

-- the target has the sort that the position wants
abbrev pub has_sort : Edge → Bool
has_sort e = is_sort (sort_at e.source.ctor e.position) (sort_of_ctor e.target.ctor)

-- the first fault that applies, or none where the edge is well formed
abbrev pub edge_fault : Edge → Option EdgeFault
edge_fault e =
    if has_good_vertices e then
    (if has_position e then (if has_sort e then None else Some WrongSort) else Some NoPosition)
    else Some BadVertex

abbrev pub IsWellFormed : Edge → Type 0
IsWellFormed e = IsTrue (is_none (edge_fault e))

-- the numbers lie in their ranges, as those of every edge of the program do
abbrev pub EdgeInRange : Edge → Type 0
EdgeInRange e = (e.name.author < 2 ^ 32) × (e.name.counter < 2 ^ 64) × VertexInRange e.source × VertexInRange e.target

-- all that a version has to know of the edge is of the version
abbrev pub IsEdgeOf : Version → Edge → Type 0
IsEdgeOf version e = IsCtorOf version e.source.ctor × IsPositionOf version e.position × IsCtorOf version e.target.ctor

-- the edge of these parts, whose source has a constructor with positions
abbrev pub edge_from : Name → Name → Plain → Position → Vertex → Edge
edge_from name source branch position target =
    record { name = name; source = record { name = source; ctor = plain_ctor branch }; position = position; target = target }

-- edges are ordered by name, source, position and target
abbrev pub edge_cmp : Edge → Edge → Ordering
edge_cmp a b =
    ordering_then (name_cmp a.name b.name)
    (ordering_then (vertex_cmp a.source b.source) (ordering_then (position_cmp a.position b.position) (vertex_cmp a.target b.target)))
