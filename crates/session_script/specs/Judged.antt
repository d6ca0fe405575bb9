-- That a text spells a session or has a first bad line.
use Rattle.std.specs.Prelude.{◌≡◌, ◌⊎◌, ℕ, List, ◌++◌}
use Rattle.grove_sorts.specs.declared.version.Version.{Version}
use Rattle.session_script.specs.declared.script_kind.ScriptKind.{ScriptKind}
use Rattle.session_script.specs.declared.session.Session.{Session}
use Rattle.session_script.specs.declared.statement.Statement.{Statement}
use Rattle.session_script.specs.Order.{version_of}
use Rattle.session_script.specs.Script.{script_text, BeginSession, IsBad}
use Rattle.session_script.specs.Session.{Spells}

-- the text spells a session, or it has a first bad line
abbrev pub HasSessionOrFault : List ℕ → Type 0
HasSessionOrFault text = ((session : Session) × Spells text session) ⊎ ((line : ℕ) × (kind : ScriptKind) × IsBad text line kind)

-- so does each text that has these lines behind those of statements which begin a session and tell the version
abbrev pub AreJudged : Version → List ℕ → Type 0
AreJudged version lines = (before : List Statement) → BeginSession before → version_of before ≡ version → HasSessionOrFault (script_text before ++ lines)
