-- Who is at work in a block: the authors with their lines, and the `send` lines with their pieces.
use Rattle.std.specs.Prelude.{◌≡◌, ◌≢◌, ◌⊎◌, ℕ, ◌+◌, ◌^◌, ◌<◌, ◌==◌, List, [], ◌∷◌, ◌++◌, length, map, slice_get, Some, if◌then◌else◌}
use Rattle.grove_edits.specs.declared.edit.Edit.{Edit}
use Rattle.grove_edits.specs.declared.action.Action.{Action}
use Rattle.grove_edits.specs.declared.actor.Actor.{Actor}
use Rattle.grove_edits.specs.declared.actor.Actor.TheVariants as actor
use Rattle.grove_edits.specs.declared.command.Command.{Command}
use Rattle.grove_edits.specs.declared.command.Command.TheVariants.{Act}
use Rattle.edit_text.specs.Text.{text_of}
use Rattle.session_script.specs.declared.author.Declared.{Declared}
use Rattle.session_script.specs.declared.line.Line.{Line}
use Rattle.session_script.specs.declared.line.SendLine.{SendLine}
use Rattle.replica_exchange.specs.Send.{sent_bytes, joined, ArePieces, edits_by_piece}
use Rattle.author_desk.specs.Asks.{AllFrom}
use Rattle.author_desk.specs.declared.cuts.Cuts.{Cuts}
use Rattle.author_desk.specs.declared.cuts.Cuts.TheVariants.{Empty}
use Rattle.author_desk.specs.Cuts.{HandsOver}
use Rattle.author_desk.specs.Lines.{slots_cut}
use Rattle.session_run.specs.declared.author_lines.AuthorLines.{AuthorLines}
use Rattle.session_run.specs.declared.worker.Worker.{Worker}
use Rattle.session_run.specs.declared.worker.Worker.TheVariants as worker
use Rattle.session_run.specs.Calls.{actions_of, takes}

-- who acts where, and what the author does
abbrev pub told : AuthorLines → Declared × List Action
told lines = (lines.declared, lines.actions.items)

-- what a declared author does in a block
abbrev pub told_in : List Line → Declared → Declared × List Action
told_in lines declared = (declared, actions_of declared.author lines)

-- with an action more, if it is the author's
abbrev pub with_action : ℕ → Action → Declared × List Action → Declared × List Action
with_action author action t = (t.0, if author == t.0.author then t.1 ++ action ∷ [] else t.1)

-- the declared authors in order, each with its actions in the lines
abbrev pub AreLinesOf : List Declared → List Line → List AuthorLines → Type 0
AreLinesOf authors lines all = map told all ≡ map (told_in lines) authors

abbrev pub authors_told : List AuthorLines → List ℕ
authors_told all = map (λ lines. lines.declared.author) all

abbrev pub first_calls_told : List AuthorLines → List ℕ
first_calls_told all = map (λ lines. lines.first_call) all

-- the numbers of an author's calls fit
abbrev pub HasNumbers : AuthorLines → Type 0
HasNumbers lines = lines.first_call + length lines.actions.items < 2 ^ 64

abbrev pub actor_of : Worker → Actor
actor_of (worker.Author lines) = actor.Author lines.now.declared.author
actor_of (worker.Send number pieces) = actor.Send number

-- how many calls a worker makes
abbrev pub calls_of : Worker → ℕ
calls_of (worker.Author lines) = length lines.now.actions.items
calls_of (worker.Send number pieces) = length pieces

-- how many seats at the board it takes: authors raise the edges that they cut
abbrev pub seats_of : Worker → ℕ
seats_of (worker.Author lines) = 1
seats_of (worker.Send number pieces) = 0

-- the slots of the opening edges that it cuts
abbrev pub slots_of : List Edit → Worker → List ℕ
slots_of opening (worker.Author lines) = slots_cut opening lines.now.actions.items
slots_of opening (worker.Send number pieces) = []

-- what its cuts are made on: some were split off for an author, and a `send` line has none
abbrev pub HandsTo : Worker → Cuts → Cuts → Cuts → Type 0
HandsTo (worker.Author lines) before after given = HandsOver before after given
HandsTo (worker.Send number pieces) before after given = (after ≡ before) × (given ≡ Empty)

-- the numbers of its calls fit, and its pieces are those of the lines of some edits
abbrev pub CanWork : Worker → Type 0
CanWork (worker.Author lines) = HasNumbers lines.now
CanWork (worker.Send number pieces) = (edits : List Edit) × (joined pieces ≡ text_of edits)

-- the calls of an author's lines in the block are among these, by author and number
abbrev pub AsksAmong : (ℕ → ℕ → Type 0) → AuthorLines → Type 0
AsksAmong may lines = AllFrom (may lines.declared.author) lines.first_call (length lines.actions.items)

-- a worker asks for these calls alone. The pieces of a `send` line wait for no gate
abbrev pub WorkerAsksAmong : (ℕ → ℕ → Type 0) → Worker → Type 0
WorkerAsksAmong may (worker.Author lines) = AsksAmong may lines.now
WorkerAsksAmong may (worker.Send number pieces) = Unit {0}

-- a worker's commands: the author's actions, or the pieces with their edits
abbrev pub AreCommandsOf : Worker → List Command → Type 0
AreCommandsOf (worker.Author lines) commands = commands ≡ map Act lines.now.actions.items
AreCommandsOf (worker.Send number pieces) commands =
    (edits : List Edit) → joined pieces ≡ text_of edits → commands ≡ takes 1 pieces (edits_by_piece edits pieces)

-- the worker is the author with these lines
abbrev pub IsAuthorWorker : AuthorLines → Worker → Type 0
IsAuthorWorker lines (worker.Author mine) = mine.now ≡ lines
IsAuthorWorker lines (worker.Send number pieces) = ⊥

-- the worker is the `send` line with this number, with its pieces
abbrev pub IsPieceWorker : List (List Edit) → ℕ → SendLine → Worker → Type 0
IsPieceWorker sources number send (worker.Author lines) = ⊥
IsPieceWorker sources number send (worker.Send mine pieces) =
    (mine ≡ number) × ((list : List Edit) × (slice_get sources send.from ≡ Some list) × ArePieces send.cut (sent_bytes send list) pieces)

-- the author has no worker at the replica: it acts elsewhere, or has no action
abbrev pub IsIdle : ℕ → AuthorLines → Type 0
IsIdle replica lines = (lines.declared.replica ≢ replica) ⊎ (lines.actions.items ≡ [])

-- the author acts on the replica, and has actions
abbrev pub IsAtWork : ℕ → AuthorLines → Type 0
IsAtWork replica lines = (lines.declared.replica ≡ replica) × (lines.actions.items ≢ [])

-- the workers of all authors at a replica, in order
abbrev pub AreForAuthors : ℕ → List AuthorLines → List Worker → Type 0
AreForAuthors replica [] workers = workers ≡ []
AreForAuthors replica (lines ∷ all) workers =
    (IsIdle replica lines × AreForAuthors replica all workers)
    ⊎ ((one : Worker) × (rest : List Worker) × IsAtWork replica lines × IsAuthorWorker lines one × AreForAuthors replica all rest × (workers ≡ one ∷ rest))

-- an author adds its worker, if it has one
abbrev pub AddsAuthor : ℕ → AuthorLines → List Worker → List Worker → Type 0
AddsAuthor replica lines before after =
    (IsIdle replica lines × (after ≡ before))
    ⊎ ((one : Worker) × IsAtWork replica lines × IsAuthorWorker lines one × (after ≡ before ++ one ∷ []))

-- the workers of `send` lines at a replica, in order, of which the first line has this number
abbrev pub AreForSends : List (List Edit) → ℕ → ℕ → List SendLine → List Worker → Type 0
AreForSends sources replica number [] workers = workers ≡ []
AreForSends sources replica number (send ∷ sends) workers =
    ((send.to ≢ replica) × AreForSends sources replica (number + 1) sends workers)
    ⊎ ((one : Worker) × (rest : List Worker) × (send.to ≡ replica) × IsPieceWorker sources number send one
    × AreForSends sources replica (number + 1) sends rest × (workers ≡ one ∷ rest))

-- a `send` line adds its worker, if it goes to the replica
abbrev pub AddsSend : List (List Edit) → ℕ → ℕ → SendLine → List Worker → List Worker → Type 0
AddsSend sources replica number send before after =
    ((send.to ≢ replica) × (after ≡ before))
    ⊎ ((one : Worker) × (send.to ≡ replica) × IsPieceWorker sources number send one × (after ≡ before ++ one ∷ []))
