-- What a line of a session says by itself, in a version of the text: each statement has one line.
-- The promise of the commands rests on these definitions.
use Rattle.std.specs.Prelude.{◌≡◌, ◌≢◌, ℕ, ◌<◌, ◌^◌, Bool, if◌then◌else◌, List, [], ◌∷◌, ◌++◌, Some, codes, decimal}
use Rattle.grove_sorts.specs.declared.ident.Ident.{Ident}
use Rattle.grove_sorts.specs.Ident.{ident_bytes}
use Rattle.grove_sorts.specs.Identifier.{IsIdentifier}
use Rattle.grove_sorts.specs.declared.version.Version.{Version}
use Rattle.grove_sorts.specs.declared.version.Version.TheVariants.{One, Two}
use Rattle.grove_edits.specs.declared.edge.Edge.{Edge}
use Rattle.grove_edits.specs.declared.edge.EdgeFault.{EdgeFault}
use Rattle.grove_edits.specs.declared.edit.EditKind.{EditKind}
use Rattle.grove_edits.specs.Edge.{EdgeInRange, IsEdgeOf, edge_fault}
use Rattle.grove_edits.specs.Edit.{edit_edge, edit_kind}
use Rattle.edit_text.specs.declared.line_fault.LineFault.{LineFault}
use Rattle.edit_text.specs.FaultOfEdge.{IsFaultBy}
use Rattle.edit_text.specs.Line.{spaced, form}
use Rattle.session_script.specs.declared.statement.Statement.{Statement}
use Rattle.session_script.specs.declared.statement.Statement.TheVariants.{Session, Replica, Author, Load, Block, End, Act, Send, Show}
use Rattle.session_script.specs.Action.{action_line, IsAuthor, ActionInRange, IsActionOf}

-- what the first line ends with
abbrev pub version_end : Version → List ℕ
version_end One = []
version_end Two = codes " 2"

-- the first line of a session tells the version of the others
abbrev pub head_line : Version → List ℕ
head_line version = codes "session" ++ version_end version

abbrev pub direction : Bool → List ℕ
direction reverse = if reverse then codes "reverse" else codes "forward"

abbrev pub repetition : Bool → List ℕ
repetition twice = if twice then codes "twice" else codes "once"

-- the parts of a `send` line behind the names of both replicas
abbrev pub send_terms : ℕ → ℕ → Bool → Bool → ℕ → List (List ℕ)
send_terms skip take reverse twice cut =
    codes "skip" ∷ decimal skip ∷ codes "take" ∷ decimal take ∷ direction reverse ∷ repetition twice ∷ codes "cut" ∷ decimal cut ∷ []

-- a line that loads an edit of an edge, which may not be well formed
abbrev pub load_line : List ℕ → EditKind → Edge → List ℕ
load_line replica kind edge = spaced (codes "load" ∷ replica ∷ form kind edge ∷ [])

abbrev pub send_line : List ℕ → List ℕ → ℕ → ℕ → Bool → Bool → ℕ → List ℕ
send_line from to skip take reverse twice cut = spaced (codes "send" ∷ from ∷ to ∷ send_terms skip take reverse twice cut)

-- the line of a statement, without its LF
abbrev pub statement_text : Statement → List ℕ
statement_text (Session version) = head_line version
statement_text (Replica replica) = spaced (codes "replica" ∷ ident_bytes replica ∷ [])
statement_text (Author author replica) = spaced (codes "author" ∷ decimal author ∷ ident_bytes replica ∷ [])
statement_text (Load replica edit) = load_line (ident_bytes replica) (edit_kind edit) (edit_edge edit)
statement_text Block = codes "block"
statement_text End = codes "end"
statement_text (Act author action) = action_line author action
statement_text (Send send) = send_line (ident_bytes send.from) (ident_bytes send.to) send.skip send.take send.reverse send.twice send.cut
statement_text Show = codes "show"

-- the numbers lie in their ranges, as those of every statement that is read do
abbrev pub InRange : Statement → Type 0
InRange (Author author replica) = IsAuthor author
InRange (Act author action) = IsAuthor author × ActionInRange action
InRange (Send send) = (send.skip < 2 ^ 64) × (send.take < 2 ^ 64) × (send.cut < 2 ^ 64)
InRange _ = Unit {0}

-- the version allows so long a name of a replica
abbrev pub IsReplicaOf : Version → Ident → Type 0
IsReplicaOf version replica = IsIdentifier version (ident_bytes replica)

-- the version knows all that a statement names
abbrev pub IsStatementOf : Version → Statement → Type 0
IsStatementOf version (Replica replica) = IsReplicaOf version replica
IsStatementOf version (Author author replica) = IsReplicaOf version replica
IsStatementOf version (Load replica edit) = IsReplicaOf version replica × IsEdgeOf version (edit_edge edit)
IsStatementOf version (Act author action) = IsActionOf version action
IsStatementOf version (Send send) = IsReplicaOf version send.from × IsReplicaOf version send.to
IsStatementOf version _ = Unit {0}

-- a line, without its LF, says this in the version
pub record Says (version : Version) (line : List ℕ) (statement : Statement) : Type 0 where
  pub in_range : InRange statement
  pub of_version : IsStatementOf version statement
  pub text : line ≡ statement_text statement

-- a line loads an edit of an edge that is not well formed, and has this first fault
pub record LoadsBadEdge (version : Version) (line : List ℕ) (fault : EdgeFault) : Type 0 where
  pub replica : Ident
  pub kind : EditKind
  pub edge : Edge
  pub in_range : EdgeInRange edge
  pub replica_of_version : IsReplicaOf version replica
  pub edge_of_version : IsEdgeOf version edge
  pub text : line ≡ load_line (ident_bytes replica) kind edge
  pub has_fault : edge_fault edge ≡ Some fault

-- a line says nothing, and does not load an edit of an edge either
pub record SaysNothing (version : Version) (line : List ℕ) : Type 0 where
  pub no_statement : (statement : Statement) → InRange statement → IsStatementOf version statement → line ≢ statement_text statement
  pub no_load : (replica : Ident) (kind : EditKind) (edge : Edge) → EdgeInRange edge → IsReplicaOf version replica → IsEdgeOf version edge → line ≢ load_line (ident_bytes replica) kind edge

-- a line has no form: it says nothing, or it loads an edit of an edge that is not well formed
abbrev pub HasFormFault : Version → List ℕ → LineFault → Type 0
HasFormFault version line fault = IsFaultBy (SaysNothing version line) (LoadsBadEdge version line) fault
