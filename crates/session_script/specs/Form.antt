-- Why a line is no statement of a version, wherever it stands.
use Rattle.std.specs.Prelude.{◌≡◌, ◌≢◌, ℕ, Bool, List, ◌∷◌, ◌++◌, Some}
use Rattle.grove_sorts.specs.declared.ident.Ident.{Ident}
use Rattle.grove_sorts.specs.Ident.{ident_bytes}
use Rattle.grove_sorts.specs.declared.version.Version.{Version}
use Rattle.grove_edits.specs.declared.edge.Edge.{Edge}
use Rattle.grove_edits.specs.declared.edge.EdgeFault.{EdgeFault}
use Rattle.grove_edits.specs.declared.edit.EditKind.{EditKind}
use Rattle.grove_edits.specs.Edge.{EdgeInRange, IsEdgeOf, edge_fault}
use Rattle.edit_text.specs.Line.{spaced, form}
use Rattle.edit_text.specs.declared.line_fault.LineFault.{LineFault}
use Rattle.edit_text.specs.FaultOfEdge.{IsFaultBy}
use Rattle.session_script.specs.declared.statement.SendText.{SendText}
use Rattle.session_script.specs.declared.statement.Statement.{Statement}
use Rattle.session_script.specs.declared.statement.Statement.TheVariants.{Replica, Author, Load, Act, Send}
use Rattle.session_script.specs.Statement.{send_terms, IsReplicaOf}

-- a statement of one word
abbrev pub IsOneWord : Statement → Type 0
IsOneWord (Replica replica) = ⊥
IsOneWord (Author author replica) = ⊥
IsOneWord (Load replica edit) = ⊥
IsOneWord (Act author action) = ⊥
IsOneWord (Send send) = ⊥
IsOneWord _ = Unit {0}

-- one of several words that loads no edit
abbrev pub IsOther : Statement → Type 0
IsOther (Replica replica) = Unit {0}
IsOther (Author author replica) = Unit {0}
IsOther (Act author action) = Unit {0}
IsOther (Send send) = Unit {0}
IsOther _ = ⊥

-- what stands behind the word of a line that loads an edit has this fault
abbrev pub LoadsBad : Version → List ℕ → EdgeFault → Type 0
LoadsBad version text fault =
    (replica : Ident) × (kind : EditKind) × (edge : Edge) × EdgeInRange edge × IsReplicaOf version replica × IsEdgeOf version edge
    × (text ≡ ident_bytes replica ++ 32 ∷ form kind edge) × (edge_fault edge ≡ Some fault)

-- and here it loads no edit of any edge
abbrev pub LoadsNothing : Version → List ℕ → Type 0
LoadsNothing version text =
    (replica : Ident) (kind : EditKind) (edge : Edge) → EdgeInRange edge → IsReplicaOf version replica → IsEdgeOf version edge → text ≢ ident_bytes replica ++ 32 ∷ form kind edge

abbrev pub HasLoadFault : Version → List ℕ → LineFault → Type 0
HasLoadFault version text fault = IsFaultBy (LoadsNothing version text) (LoadsBad version text) fault

-- the text of a `send` line behind both names
abbrev pub terms_rest : ℕ → ℕ → Bool → Bool → ℕ → List ℕ
terms_rest skip take reverse twice cut = spaced (send_terms skip take reverse twice cut)

-- and behind its first word
abbrev pub send_rest : SendText → List ℕ
send_rest send = ident_bytes send.from ++ 32 ∷ (ident_bytes send.to ++ 32 ∷ terms_rest send.skip send.take send.reverse send.twice send.cut)
