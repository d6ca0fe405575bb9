-- What a block opens of its replicas: the lists that it asks for, and whose authors cut.
use Rattle.std.specs.Prelude.{ℕ, ◌+◌, ◌==◌, ◌&&◌, ◌||◌, Bool, true, false, if◌then◌else◌, List, [], ◌∷◌}
use Rattle.std.specs.List.{list_any}
use Rattle.grove_edits.specs.declared.action.Action.{Action}
use Rattle.grove_edits.specs.declared.action.Action.TheVariants.{Cut}
use Rattle.grove_edits.specs.declared.edit.Edit.{Edit}
use Rattle.session_script.specs.declared.author.Declared.{Declared}
use Rattle.session_script.specs.declared.line.Line.{Line}
use Rattle.session_script.specs.declared.line.Line.TheVariants as line
use Rattle.replica_core.specs.Content.{Content}

abbrev pub is_cut : Action → Bool
is_cut (Cut edge) = true
is_cut _ = false

-- the author acts on the replica
abbrev pub acts_at : ℕ → ℕ → Declared → Bool
acts_at author replica declared = (declared.author == author) && (declared.replica == replica)

-- an author of the replica cuts by the line
abbrev pub cuts_by : List Declared → ℕ → Line → Bool
cuts_by authors replica (line.Author author action) = is_cut action && list_any (acts_at author replica) authors
cuts_by authors replica (line.Send send) = false

-- by one of the lines
abbrev pub cuts_at : List Declared → List Line → ℕ → Bool
cuts_at authors lines replica = list_any (cuts_by authors replica) lines

abbrev pub sends_by : ℕ → Line → Bool
sends_by replica (line.Author author action) = false
sends_by replica (line.Send send) = send.from == replica

-- the replica sends something by one of the lines
abbrev pub sends_from : List Line → ℕ → Bool
sends_from lines replica = list_any (sends_by replica) lines

-- a block with these lines asks what the replica opens with
abbrev pub asks_of : List Declared → List Line → ℕ → Bool
asks_of authors lines replica = sends_from lines replica || cuts_at authors lines replica

-- what it opens with where that is asked, else nothing
abbrev pub listed : Bool → List Edit → List Edit
listed asked edits = if asked then edits else []

-- of the replicas from a number on
abbrev pub all_listed : List Declared → List Line → ℕ → List Content → List (List Edit)
all_listed authors lines replica [] = []
all_listed authors lines replica (content ∷ more) = listed (asks_of authors lines replica) content.edits ∷ all_listed authors lines (replica + 1) more
