-- Where a text that is no session's goes wrong.
-- The promise of the commands rests on these definitions.
use Rattle.std.specs.Prelude.{◌≡◌, ◌≢◌, ◌⊎◌, ℕ, ◌+◌, true, false, List, [], ◌∷◌, ◌++◌, length, Some}
use Rattle.std.specs.List.{flat_map, AllByRecursion}
use Rattle.text_parts.specs.Separated.{Lacks}
use Rattle.edit_text.specs.declared.line_fault.LineFault.{LineFault}
use Rattle.edit_text.specs.declared.line_fault.LineFault.TheVariants as lines
use Rattle.session_script.specs.declared.script_kind.ScriptFault.{ScriptFault}
use Rattle.session_script.specs.declared.script_kind.ScriptFault.TheVariants as faults
use Rattle.session_script.specs.declared.script_kind.ScriptKind.{ScriptKind}
use Rattle.session_script.specs.declared.script_kind.ScriptKind.TheVariants.{Syntax, BadVertex, NoPosition, WrongSort, Rest, Unended}
use Rattle.session_script.specs.declared.statement.Statement.{Statement}
use Rattle.session_script.specs.Statement.{statement_text, InRange, IsStatementOf, Says, HasFormFault}
use Rattle.session_script.specs.Order.{version_of, statement_fault, GoOn, is_ended}

abbrev pub ended_line : Statement → List ℕ
ended_line statement = statement_text statement ++ 10 ∷ []

-- the lines of some statements, each ended by an LF
abbrev pub script_text : List Statement → List ℕ
script_text statements = flat_map ended_line statements

-- each of the statements, which stand behind others, is of the version that those before it tell
abbrev pub AreKnown : List Statement → List Statement → Type 0
AreKnown before [] = Unit {0}
AreKnown before (statement ∷ statements) = IsStatementOf (version_of before) statement × AreKnown (before ++ statement ∷ []) statements

-- the statements begin a session: they are in range and of its version, and none has a fault behind those before it
pub record BeginSession (statements : List Statement) : Type 0 where
  pub in_range : AllByRecursion InRange statements
  pub of_version : AreKnown [] statements
  pub good : GoOn [] statements

-- a line says what has a fault behind the statements before
pub record SaysWrong (before : List Statement) (line : List ℕ) (kind : ScriptKind) : Type 0 where
  pub statement : Statement
  pub says : Says (version_of before) line statement
  pub has_fault : statement_fault before statement ≡ Some kind

-- the faults of lines among those of sessions
abbrev pub kind_of_line : LineFault → ScriptKind
kind_of_line lines.Syntax = Syntax
kind_of_line lines.BadVertex = BadVertex
kind_of_line lines.NoPosition = NoPosition
kind_of_line lines.WrongSort = WrongSort

-- a line has this first fault behind the statements before: first whether it has a form, then whether the edit that it loads is
-- well formed, and then what it says
abbrev pub HasLineFault : List Statement → List ℕ → ScriptKind → Type 0
HasLineFault before line kind = ((fault : LineFault) × HasFormFault (version_of before) line fault × (kind ≡ kind_of_line fault)) ⊎ SaysWrong before line kind

-- behind the lines of statements that begin a session, an LF ends a line that has a fault there
pub record HasBadLine (text : List ℕ) (line : ℕ) (kind : ScriptKind) : Type 0 where
  pub before : List Statement
  pub bad : List ℕ
  pub after : List ℕ
  pub begin : BeginSession before
  pub parts : text ≡ script_text before ++ (bad ++ 10 ∷ after)
  pub one_line : Lacks 10 bad
  pub has_fault : HasLineFault before bad kind
  pub number : line ≡ length before + 1

-- behind them stand bytes that no LF ends
pub record HasRest (text : List ℕ) (line : ℕ) : Type 0 where
  pub before : List Statement
  pub rest : List ℕ
  pub begin : BeginSession before
  pub parts : text ≡ script_text before ++ rest
  pub unended : Lacks 10 rest
  pub something : rest ≢ []
  pub number : line ≡ length before + 1

-- nothing stands behind them, and a session may not end there
pub record IsUnended (text : List ℕ) (line : ℕ) : Type 0 where
  pub before : List Statement
  pub begin : BeginSession before
  pub parts : text ≡ script_text before
  pub not_ended : is_ended before ≡ false
  pub number : line ≡ length before + 1

-- the first bad line of a text, and what is wrong with it
abbrev pub IsBad : List ℕ → ℕ → ScriptKind → Type 0
IsBad text line Rest = HasRest text line
IsBad text line Unended = IsUnended text line
IsBad text line kind = HasBadLine text line kind

-- the text is the lines of statements after which a session may end
pub record IsWhole (text : List ℕ) : Type 0 where
  pub statements : List Statement
  pub begin : BeginSession statements
  pub ended : is_ended statements ≡ true
  pub parts : text ≡ script_text statements

-- why a text was not read; want of memory says nothing of it
abbrev pub HasScriptFault : List ℕ → ScriptFault → Type 0
HasScriptFault text (faults.Bad line kind) = IsBad text line kind
HasScriptFault text faults.NoMemory = Unit {0}
