-- Which journals of a block at a replica are legal.
-- The promise of the commands rests on these definitions.
use Rattle.std.specs.Prelude.{◌≡◌, ℕ, List, [], ◌∷◌, ◌++◌, length, filter}
use Rattle.std.specs.List.{flat_map}
use Rattle.grove_edits.specs.declared.edge.Edge.{Edge}
use Rattle.grove_edits.specs.declared.edit.Edit.{Edit}
use Rattle.grove_edits.specs.Graph.{Graph, graph}
use Rattle.grove_edits.specs.declared.action.Action.{Action}
use Rattle.grove_edits.specs.declared.actor.Actor.{Actor}
use Rattle.grove_edits.specs.declared.actor.Actor.TheVariants.{Author, Send}
use Rattle.grove_edits.specs.declared.answer.Answer.{Answer}
use Rattle.grove_edits.specs.declared.answer.Answer.TheVariants.{Taken}
use Rattle.grove_edits.specs.declared.command.Command.{Command}
use Rattle.grove_edits.specs.declared.command.Command.TheVariants.{Act, Take}
use Rattle.user_actions.specs.Lists.{ArePresent}
use Rattle.user_actions.specs.Plan.{IsPlan}
use Rattle.shared_replica.specs.declared.journal.Entry.{Entry}
use Rattle.shared_replica.specs.Passes.{same_actor}
use Rattle.session_run.specs.Calls.{Stage, AreCalls}

-- edits and an answer are the plan of an author's action on the graph of now, in a block that opened on another graph
pub record IsPlanNow (opened now : Graph) (author : ℕ) (action : Action) (edits : List Edit) (answer : Answer) : Type 0 where
  pub opening : List Edge
  pub are_present : ArePresent opened opening
  pub is_plan : IsPlan now opening author action edits answer

-- an author's action has the edits and the answer of its plan; a piece has its own edits, and the answer tells how many
abbrev pub IsPlanned : Graph → Graph → Actor → Command → List Edit → Answer → Type 0
IsPlanned opened now (Author author) (Act action) edits answer = IsPlanNow opened now author action edits answer
IsPlanned opened now (Send number) (Take piece bytes taken) edits answer = (edits ≡ taken) × (answer ≡ Taken (length taken))
IsPlanned opened now actor command edits answer = ⊥

-- the entries of a machine that takes edits
abbrev pub Entries : Type 0 → Type 0
Entries M = List (Entry M Command (List Edit) Answer)

module _ {M : Type 0} where
  -- each entry is planned at the graph of the edits taken before it
  abbrev pub ArePlanned : Graph → List Edit → Entries M → Type 0
  ArePlanned opened taken [] = Unit {0}
  ArePlanned opened taken (entry ∷ entries) =
      IsPlanned opened (graph taken) entry.actor entry.command entry.effect entry.reply × ArePlanned opened (taken ++ entry.effect) entries

  -- a journal is legal for a block at a replica that had taken these edits as the block opened
  pub record IsLegal (stage : Stage) (opening : List Edit) (journal : Entries M) : Type 0 where
    pub calls : AreCalls stage journal
    pub planned : ArePlanned (graph opening) opening journal

  -- what the entries did, in order
  abbrev pub edits_of : Entries M → List Edit
  edits_of journal = flat_map (λ entry. entry.effect) journal

  -- the entries of an actor, in order
  abbrev pub entries_by : Actor → Entries M → Entries M
  entries_by actor journal = filter (λ entry. same_actor entry.actor actor) journal

  -- who asks in an entry, and what
  abbrev pub asked : Entry M Command (List Edit) Answer → Actor × Command
  asked entry = (entry.actor, entry.command)
