-- The one line of each edit, and the first fault of a line that is none.
-- The promise of the commands rests on these definitions.
use Rattle.std.specs.Prelude.{◌≡◌, ◌≢◌, ℕ, List, [], ◌∷◌, ◌++◌, Some}
use Rattle.grove_names.specs.Name.{name_text}
use Rattle.grove_sorts.specs.Ctor.{ctor_text}
use Rattle.grove_sorts.specs.Position.{position_text}
use Rattle.grove_sorts.specs.declared.version.Version.{Version}
use Rattle.grove_edits.specs.declared.edge.Edge.{Edge}
use Rattle.grove_edits.specs.declared.edge.EdgeFault.{EdgeFault}
use Rattle.grove_edits.specs.declared.edit.Edit.{Edit}
use Rattle.grove_edits.specs.declared.edit.EditKind.{EditKind}
use Rattle.grove_edits.specs.declared.edit.EditKind.TheVariants.{Insert, Delete}
use Rattle.grove_edits.specs.Edge.{EdgeInRange, IsEdgeOf, edge_fault}
use Rattle.grove_edits.specs.Edit.{edit_edge, edit_kind}
use Rattle.edit_text.specs.declared.line_fault.LineFault.{LineFault}
use Rattle.edit_text.specs.FaultOfEdge.{IsFaultBy}

-- parts with a space between each two
abbrev pub spaced : List (List ℕ) → List ℕ
spaced [] = []
spaced (part ∷ []) = part
spaced (part ∷ next ∷ parts) = part ++ 32 ∷ spaced (next ∷ parts)

-- new bytes begin with the old ones
abbrev pub Extends : List ℕ → List ℕ → Type 0
Extends old new = (more : List ℕ) × (new ≡ old ++ more)

-- the edge's name, the source's name and constructor, the position, the target's name and constructor
abbrev pub edge_parts : Edge → List (List ℕ)
edge_parts edge =
    name_text edge.name ∷ name_text edge.source.name ∷ ctor_text edge.source.ctor
    ∷ position_text edge.position ∷ name_text edge.target.name ∷ ctor_text edge.target.ctor ∷ []

-- `+` for an insertion and `-` for a deletion
abbrev pub sign : EditKind → ℕ
sign Insert = 43
sign Delete = 45

-- a line without its LF, of an edge that may not be well formed
abbrev pub form : EditKind → Edge → List ℕ
form kind edge = sign kind ∷ spaced (edge_parts edge)

-- the line, without its LF, is that of the edit, of whose edge the version knows all
abbrev pub Spells : Version → List ℕ → Edit → Type 0
Spells version line edit = (line ≡ form (edit_kind edit) (edit_edge edit)) × IsEdgeOf version (edit_edge edit)

-- the line has the form of an edit, and its edge, of which the version knows all, has this first fault
abbrev pub HasEdgeFault : Version → List ℕ → EdgeFault → Type 0
HasEdgeFault version line fault =
    (kind : EditKind) × (edge : Edge) × EdgeInRange edge × IsEdgeOf version edge × (line ≡ form kind edge) × (edge_fault edge ≡ Some fault)

-- the line has the form of no edge of which the version knows all
abbrev pub HasNoForm : Version → List ℕ → Type 0
HasNoForm version line = (kind : EditKind) (edge : Edge) → EdgeInRange edge → IsEdgeOf version edge → line ≢ form kind edge

-- the first fault of the line
pub record HasFault (version : Version) (line : List ℕ) (fault : LineFault) : Type 0 where
  pub told : IsFaultBy (HasNoForm version line) (HasEdgeFault version line) fault
