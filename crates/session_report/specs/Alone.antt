-- Sessions in whose blocks nobody meets anybody else: each replica is asked by one actor at most.
use Rattle.std.specs.Prelude.{◌≡◌, ◌≢◌, ℕ, ◌<◌, List, [], ◌∷◌, ◌++◌, length}
use Rattle.grove_edits.specs.declared.edit.Edit.{Edit}
use Rattle.grove_edits.specs.declared.actor.Actor.{Actor}
use Rattle.grove_edits.specs.declared.actor.Actor.TheVariants.{Host, Author, Send}
use Rattle.session_script.specs.declared.item.Block.{Block}
use Rattle.session_script.specs.declared.item.Item.{Item}
use Rattle.session_script.specs.declared.item.Item.TheVariants as item
use Rattle.session_script.specs.declared.line.SendLine.{SendLine}
use Rattle.session_script.specs.declared.session.Session.{Session}
use Rattle.session_run.specs.Calls.{Stage, ActsHere, SendsHere, actions_of}
use Rattle.session_report.specs.Legal.{stage_at}

-- an author of the replica who has a line in the block, or a `send` line to the replica
abbrev pub Asks : Stage → Actor → Type 0
Asks stage Host = ⊥
Asks stage (Author author) = ActsHere stage author × (actions_of author stage.lines ≢ [])
Asks stage (Send number) = (send : SendLine) × SendsHere stage number send

abbrev pub HasOneActor : Stage → Type 0
HasOneActor stage = (a b : Actor) → Asks stage a → Asks stage b → a ≡ b

-- each block of the session has one actor at most at each replica, whatever is sent
abbrev pub IsWithoutMeetings : Session → Type 0
IsWithoutMeetings session =
    (before after : List Item) (block : Block) (sources : List (List Edit)) (replica : ℕ) → session.items ≡ before ++ item.Block block ∷ after → replica < length session.replicas
    → HasOneActor (stage_at session before block.lines sources replica)
