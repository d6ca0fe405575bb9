-- What a block asks of one replica: the commands of its authors and those of the `send` lines to it, each actor's in order.
-- The promise of the commands rests on these definitions.
use Rattle.std.specs.Prelude.{◌≡◌, ℕ, ◌+◌, ◌==◌, if◌then◌else◌, List, [], ◌∷◌, map, slice_get, Some}
use Rattle.std.specs.List.{AllByRecursion, Contains}
use Rattle.grove_edits.specs.declared.edit.Edit.{Edit}
use Rattle.grove_edits.specs.declared.action.Action.{Action}
use Rattle.grove_edits.specs.declared.actor.Actor.{Actor}
use Rattle.grove_edits.specs.declared.actor.Actor.TheVariants as actor
use Rattle.grove_edits.specs.declared.command.Command.{Command}
use Rattle.grove_edits.specs.declared.command.Command.TheVariants.{Act, Take}
use Rattle.shared_replica.specs.declared.journal.Entry.{Entry}
use Rattle.shared_replica.specs.Passes.{calls_by}
use Rattle.session_script.specs.declared.author.Declared.{Declared}
use Rattle.session_script.specs.declared.line.Line.{Line}
use Rattle.session_script.specs.declared.line.Line.TheVariants as line
use Rattle.session_script.specs.declared.line.SendLine.{SendLine}
use Rattle.replica_exchange.specs.Send.{sent_edits, sent_bytes, ArePieces, edits_by_piece}

-- a block at one replica: the session's authors, the block's lines, the number of its first `send` line in the session, the
-- canonical lists of the replicas as the block opened, and the replica's number
pub record Stage : Type 0 where
  pub authors : List Declared
  pub lines : List Line
  pub first_send : ℕ
  pub sources : List (List Edit)
  pub replica : ℕ

-- an author's actions in a block, in order
abbrev pub actions_of : ℕ → List Line → List Action
actions_of author [] = []
actions_of author (line.Author n action ∷ lines) = if n == author then action ∷ actions_of author lines else actions_of author lines
actions_of author (line.Send send ∷ lines) = actions_of author lines

-- its `send` lines, in order
abbrev pub sends_of : List Line → List SendLine
sends_of [] = []
sends_of (line.Author n action ∷ lines) = sends_of lines
sends_of (line.Send send ∷ lines) = send ∷ sends_of lines

-- the author acts on the replica
abbrev pub ActsHere : Stage → ℕ → Type 0
ActsHere stage author = Contains stage.authors (record { author = author; replica = stage.replica })

-- the number is that of a `send` line of the block, counted over the session, which goes to the replica
pub record SendsHere (stage : Stage) (number : ℕ) (send : SendLine) : Type 0 where
  pub index : ℕ
  pub is_number : number ≡ stage.first_send + index
  pub is_line : slice_get (sends_of stage.lines) index ≡ Some send
  pub is_here : send.to ≡ stage.replica

-- pieces as commands, numbered from one on
abbrev pub takes : ℕ → List (List ℕ) → List (List Edit) → List Command
takes piece (bytes ∷ more) (edits ∷ others) = Take piece bytes edits ∷ takes (piece + 1) more others
takes piece _ _ = []

-- the commands are the pieces of a `send` line, in order, each with its number, its bytes and its edits
pub record AreTakes (sources : List (List Edit)) (send : SendLine) (commands : List Command) : Type 0 where
  pub list : List Edit
  pub pieces : List (List ℕ)
  pub is_source : slice_get sources send.from ≡ Some list
  pub are_pieces : ArePieces send.cut (sent_bytes send list) pieces
  pub are_takes : commands ≡ takes 1 pieces (edits_by_piece (sent_edits send list) pieces)

-- an author of the replica, or a `send` line to it
abbrev pub MayCall : Stage → Actor → Type 0
MayCall stage actor.Host = ⊥
MayCall stage (actor.Author author) = ActsHere stage author
MayCall stage (actor.Send number) = (send : SendLine) × SendsHere stage number send

module _ {M E R : Type 0} where
  -- an actor's commands, in order
  abbrev pub commands_by : Actor → List (Entry M Command E R) → List Command
  commands_by actor journal = map (λ call. call.command) (calls_by actor journal)

  -- the entries are those of the block at the replica: each author's lines once and in order, the pieces of each `send` line in
  -- order, and no others
  pub record AreCalls (stage : Stage) (journal : List (Entry M Command E R)) : Type 0 where
    pub authors : (author : ℕ) → ActsHere stage author → commands_by (actor.Author author) journal ≡ map Act (actions_of author stage.lines)
    pub sends : (number : ℕ) (send : SendLine) → SendsHere stage number send → AreTakes stage.sources send (commands_by (actor.Send number) journal)
    pub no_other : AllByRecursion (λ entry. MayCall stage entry.actor) journal
