-- The faults of inputs: those of sessions and of lines among them, and their words.
use Rattle.std.specs.Prelude.{ℕ, List, Option, Some, None, codes}
use Rattle.edit_text.specs.declared.line_fault.LineFault.{LineFault}
use Rattle.edit_text.specs.declared.line_fault.LineFault.TheVariants as lines
use Rattle.grove_calls.specs.declared.fault.Fault.{Fault}
use Rattle.session_script.specs.declared.script_kind.ScriptKind.{ScriptKind}
use Rattle.session_script.specs.declared.script_kind.ScriptKind.TheVariants as kinds
use Rattle.session_script.specs.Script.{kind_of_line}
use Rattle.grove_calls.specs.declared.fault.Fault.TheVariants.{Syntax, BadVertex, NoPosition, WrongSort, OutOfPlace, UnknownReplica, RepeatedReplica, UnknownAuthor, RepeatedAuthor, TooMany, Rest, Unended}

-- those of sessions
abbrev pub fault_of_kind : ScriptKind → Fault
fault_of_kind kinds.Syntax = Syntax
fault_of_kind kinds.BadVertex = BadVertex
fault_of_kind kinds.NoPosition = NoPosition
fault_of_kind kinds.WrongSort = WrongSort
fault_of_kind kinds.OutOfPlace = OutOfPlace
fault_of_kind kinds.UnknownReplica = UnknownReplica
fault_of_kind kinds.RepeatedReplica = RepeatedReplica
fault_of_kind kinds.UnknownAuthor = UnknownAuthor
fault_of_kind kinds.RepeatedAuthor = RepeatedAuthor
fault_of_kind kinds.TooMany = TooMany
fault_of_kind kinds.Rest = Rest
fault_of_kind kinds.Unended = Unended

-- and those of lines, which sessions have too
abbrev pub fault_of_line : LineFault → Fault
fault_of_line fault = fault_of_kind (kind_of_line fault)

-- the fault of a line that a fault is
abbrev pub line_fault_in : Fault → Option LineFault
line_fault_in Syntax = Some lines.Syntax
line_fault_in BadVertex = Some lines.BadVertex
line_fault_in NoPosition = Some lines.NoPosition
line_fault_in WrongSort = Some lines.WrongSort
line_fault_in _ = None

-- its name in a fault line
abbrev pub fault_word : Fault → List ℕ
fault_word Syntax = codes "syntax"
fault_word BadVertex = codes "bad-vertex"
fault_word NoPosition = codes "no-position"
fault_word WrongSort = codes "wrong-sort"
fault_word OutOfPlace = codes "out-of-place"
fault_word UnknownReplica = codes "unknown-replica"
fault_word RepeatedReplica = codes "repeated-replica"
fault_word UnknownAuthor = codes "unknown-author"
fault_word RepeatedAuthor = codes "repeated-author"
fault_word TooMany = codes "too-many"
fault_word Rest = codes "rest"
fault_word Unended = codes "unended"
