-- What a block needs that it can be run, and what it leaves at each replica.
use Rattle.std.specs.Prelude.{ℕ, ◌<◌, ◌≤◌, List}
use Rattle.std.specs.List.{Contains}
use Rattle.grove_edits.specs.declared.actor.Actor.{Actor}
use Rattle.grove_edits.specs.declared.command.Command.{Command}
use Rattle.shared_replica.specs.declared.journal.Entry.{Entry}
use Rattle.shared_replica.specs.Solos.{Replays}
use Rattle.session_script.specs.declared.author.Declared.{Declared}
use Rattle.session_script.specs.declared.line.Line.{Line}
use Rattle.session_script.specs.declared.line.Line.TheVariants as line
use Rattle.session_script.specs.declared.line.SendLine.{SendLine}
use Rattle.session_script.specs.Session.{author_numbers}
use Rattle.session_run.specs.Calls.{Stage, AreCalls}

-- an author of at least 1, who acts on one of so many replicas
abbrev pub IsPlaced : ℕ → Declared → Type 0
IsPlaced replicas declared = (1 ≤ declared.author) × (declared.replica < replicas)

-- between two of so many replicas, in pieces of at least a byte
abbrev pub CanSend : ℕ → SendLine → Type 0
CanSend replicas send = (send.from < replicas) × (send.to < replicas) × (1 ≤ send.cut)

-- a declared author's line, or a `send` line of this kind
abbrev pub CanRun : List Declared → ℕ → Line → Type 0
CanRun authors replicas (line.Author author action) = Contains (author_numbers authors) author
CanRun authors replicas (line.Send send) = CanSend replicas send

module _ {M E R : Type 0} (after : M → Actor → Command → M) (effect : M → Actor → Command → E) (reply : M → Actor → Command → R) where
  -- the machine of a replica ran a block: its journal has what the block asks of the replica, and each entry is the machine's step
  -- at that point
  pub record HasRun (stage : Stage) (first : M) (journal : List (Entry M Command E R)) (last : M) : Type 0 where
    pub calls : AreCalls stage journal
    pub replays : Replays after effect reply first journal last
