-- What workers leave in the passes that call a machine, and in its journal.
use Rattle.std.specs.Prelude.{◌≡◌, ℕ, ◌+◌, List, [], ◌∷◌, ◌++◌, length, map, Result, OnOk}
use Rattle.std.specs.List.{AllByRecursion, flat_map}
use Rattle.grove_edits.specs.declared.action.Action.{Action}
use Rattle.grove_edits.specs.declared.edit.Edit.{Edit}
use Rattle.grove_edits.specs.declared.actor.Actor.{Actor}
use Rattle.grove_edits.specs.declared.actor.Actor.TheVariants.{Host}
use Rattle.grove_edits.specs.declared.actor.Actor.TheVariants as actor
use Rattle.grove_edits.specs.declared.command.Command.{Command}
use Rattle.grove_edits.specs.declared.command.Command.TheVariants.{Act}
use Rattle.shared_replica.specs.declared.journal.Entry.{Entry}
use Rattle.shared_replica.specs.Passes.{Call, Passing, calls_by, AreNamed, StandsOnce}
use Rattle.author_desk.specs.declared.cuts.Cuts.{Cuts}
use Rattle.author_desk.specs.Cuts.{opening_edits, Raises, KeepsSeat}
use Rattle.author_desk.specs.Together.{StandInOrder}
use Rattle.author_desk.specs.Turns.{turns_of, commands_of}
use Rattle.session_run.specs.declared.worker.Worker.{Worker}
use Rattle.session_run.specs.declared.worker.Worker.TheVariants as worker
use Rattle.session_run.specs.Workers.{actor_of, slots_of, AreCommandsOf}

module _ {M E R : Type 0} where
  -- the pass made these calls, whatever else it has seen
  pub record Makes (before after : Passing M Command E R) (calls : List (Call Command R)) : Type 0 where
    pub shared : after.shared ≡ before.shared
    pub actor : after.actor ≡ before.actor
    pub parts : after.parts ≡ before.parts
    pub joined : after.joined ≡ before.joined
    pub made : after.made ≡ before.made ++ calls
    pub left : after.calls + length calls ≡ before.calls

  -- the pass made no call, and has as many parts as before
  pub record Keeps (before after : Passing M Command E R) : Type 0 where
    pub shared : after.shared ≡ before.shared
    pub actor : after.actor ≡ before.actor
    pub parts : after.parts ≡ before.parts
    pub made : after.made ≡ before.made

module _ {R : Type 0} where
  -- the workers in order, each with calls of just its commands
  abbrev pub HaveRun : List Worker → List (Actor × List (Call Command R)) → Type 0
  HaveRun [] [] = Unit {0}
  HaveRun [] (t ∷ ts) = ⊥
  HaveRun (w ∷ ws) [] = ⊥
  HaveRun (w ∷ ws) (t ∷ ts) = (t.0 ≡ actor_of w) × AreCommandsOf w (commands_of t.1) × HaveRun ws ts

module _ {M E R : Type 0} where
  -- the journal has the calls of the workers, and none of the host
  pub record IsJournalOf (workers : List Worker) (journal : List (Entry M Command E R)) : Type 0 where
    pub made : List (Actor × List (Call Command R))
    pub have_run : HaveRun workers made
    pub named : AreNamed journal ((Host, []) ∷ made)
    pub exact : (actor : Actor) (calls : List (Call Command R)) → StandsOnce actor calls ((Host, []) ∷ made) → calls_by actor journal ≡ calls

module _ {M E R : Type 0} where
  -- calls of the lines of these turns stand in the journal as entries of the author, each turn in what is left behind the one before it
  abbrev pub LinesStand : ℕ → List (Entry M Command E R) → List (List Action) → Type 0
  LinesStand author journal lines = (turns : List (List (Call Command R))) × (map commands_of turns ≡ map (map Act) lines) × StandInOrder (actor.Author author) journal turns

  -- those of an author's turns stand so
  abbrev pub StandsIn : List Edit → List (Entry M Command E R) → Worker → Type 0
  StandsIn opening journal (worker.Author lines) = LinesStand lines.now.declared.author journal (turns_of opening lines.now.actions.items)
  StandsIn opening journal (worker.Send number pieces) = Unit {0}

module _ {M E R X : Type 0} where
  -- the worker made calls and kept its seat. Where memory sufficed these were just its commands, in its turns, and the slots that it cuts
  -- are raised
  pub record HasWorked (worker : Worker) (before after : Passing M Command E R) (cuts cuts' : Cuts) (done : Result (Unit {0}) X) : Type 0 where
    pub calls : List (Call Command R)
    pub makes : Makes before after calls
    pub keeps_seat : KeepsSeat cuts cuts'
    pub commands : OnOk done (AreCommandsOf worker (commands_of calls))
    pub raised : OnOk done (Raises cuts cuts' (slots_of (opening_edits cuts) worker))
    pub stands : OnOk done (StandsIn (opening_edits cuts) after.seen worker)

  -- the same of some workers, of which this pass and these cuts took in what each had
  pub record HaveWorked (workers : List Worker) (before after : Passing M Command E R) (cuts cuts' : Cuts) (done : Result (Unit {0}) X) : Type 0 where
    pub keeps : Keeps before after
    pub keeps_seat : KeepsSeat cuts cuts'
    pub joined : OnOk done ((more : List (Actor × List (Call Command R))) × HaveRun workers more × (after.joined ≡ before.joined ++ more))
    pub raised : OnOk done (Raises cuts cuts' (flat_map (slots_of (opening_edits cuts)) workers))
    pub stand : OnOk done (AllByRecursion (StandsIn (opening_edits cuts) after.seen) workers)
