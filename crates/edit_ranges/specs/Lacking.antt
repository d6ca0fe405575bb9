-- What a replica lacks by what it told, and where that is enough.
use Rattle.std.specs.Prelude.{◌≡◌, ◌≢◌, Bool, not, List, filter}
use Rattle.edge_lattice.specs.declared.state.State.TheVariants.{Absent}
use Rattle.grove_edits.specs.declared.edge.Edge.{Edge}
use Rattle.grove_edits.specs.declared.edit.Edit.{Edit}
use Rattle.grove_edits.specs.declared.edit.EditKind.{EditKind}
use Rattle.grove_edits.specs.declared.edit.EditKind.TheVariants.{Insert, Delete}
use Rattle.grove_edits.specs.Edit.{edit_edge, edit_kind}
use Rattle.grove_edits.specs.Graph.{Graph}
use Rattle.edit_ranges.specs.declared.told.Told.{Told}
use Rattle.edit_ranges.specs.declared.told.Told.TheVariants.{Named, Deleted}
use Rattle.edit_ranges.specs.declared.name_range.NameRange.{NameRange}
use Rattle.edit_ranges.specs.Ranges.{tell}
use Rattle.edit_ranges.specs.Summary.{IsHad}

-- what is told of the name of an edit's edge once the edit is taken
abbrev pub told_by : EditKind → Told
told_by Insert = Named
told_by Delete = Deleted

-- the ranges tell that the edit is taken
abbrev pub is_taken : List NameRange → Edit → Bool
is_taken told edit = tell told (told_by (edit_kind edit)) (edit_edge edit).name

-- the edits of which that is not told
abbrev pub lacking : List NameRange → List Edit → List Edit
lacking told edits = filter (λ edit. not (is_taken told edit)) edits

-- each edge of the first graph whose name the second has stands in the second too
abbrev pub IsKnownByName : Graph → Graph → Type 0
IsKnownByName g h = (e : Edge) → g e ≢ Absent → IsHad h e.name → h e ≢ Absent

-- no two edges have one name, and no edge has the name of a vertex at an end of an edge
pub record AreNamesOnce (g : Graph) : Type 0 where
  pub one_edge : (e f : Edge) → g e ≢ Absent → g f ≢ Absent → e.name ≡ f.name → e ≡ f
  pub no_source : (e f : Edge) → g e ≢ Absent → g f ≢ Absent → e.name ≢ f.source.name
  pub no_target : (e f : Edge) → g e ≢ Absent → g f ≢ Absent → e.name ≢ f.target.name
