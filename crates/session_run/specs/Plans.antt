-- What a block asks of all replicas, sorted by who asks it.
use Rattle.std.specs.Prelude.{◌≡◌, ℕ, ◌+◌, ◌^◌, ◌<◌, List, [], ◌∷◌, ◌++◌, length, slice_get, Some, Result, Ok, IfOk, OnOk}
use Rattle.std.specs.Global.{Vec}
use Rattle.std.specs.List.{AllByRecursion}
use Rattle.grove_edits.specs.declared.actor.Actor.{Actor}
use Rattle.grove_edits.specs.declared.command.Command.{Command}
use Rattle.shared_replica.specs.declared.journal.Entry.{Entry}
use Rattle.session_script.specs.Session.{AllDiffer}
use Rattle.author_desk.specs.declared.cuts.Cuts.{Cuts}
use Rattle.author_desk.specs.Cuts.{opening_edits, CanRaise, HasPartsFor, Raises, KeepsSeat}
use Rattle.session_run.specs.declared.block.Plan.{Plan}
use Rattle.session_run.specs.declared.worker.Worker.{Worker}
use Rattle.session_run.specs.Boards.{slots_at, TurnsStand}
use Rattle.session_run.specs.Calls.{Stage, sends_of}
use Rattle.session_run.specs.Workers.{AreLinesOf, AreForAuthors, HasNumbers, authors_told}
use Rattle.session_run.specs.Run.{CanSend, HasRun}

-- the plan is that of the block, whichever the replica
pub record IsPlanOf (stage : Stage) (plan : Plan) : Type 0 where
  pub sources : plan.sources.now ≡ stage.sources
  pub lines : AreLinesOf stage.authors stage.lines plan.lines.now
  pub sends : plan.sends.now ≡ sends_of stage.lines
  pub first_send : plan.first_send ≡ stage.first_send

-- no author stands twice in the plan, the numbers of all calls and `send` lines fit, and the `send` lines can be sent
pub record CanRunPlan (plan : Plan) : Type 0 where
  pub once : AllDiffer (authors_told plan.lines.now)
  pub calls : AllByRecursion HasNumbers plan.lines.now
  pub sends : AllByRecursion (CanSend (length plan.sources.now)) plan.sends.now
  pub numbers : plan.first_send + length plan.sends.now < 2 ^ 32

abbrev pub at_replica : Stage → ℕ → Stage
at_replica stage replica = record stage { replica = replica }

-- the cuts of a replica can raise, and their seat has a part for each author who is at work there, beside its own
pub record FitsPlan (plan : Plan) (replica : ℕ) (cuts : Cuts) : Type 0 where
  pub can_raise : CanRaise cuts
  pub parts : (authors : List Worker) → AreForAuthors replica plan.lines.now authors → HasPartsFor (length authors) cuts

abbrev pub EachFits : Plan → List Cuts → Type 0
EachFits plan all = (replica : ℕ) (cuts : Cuts) → slice_get all replica ≡ Some cuts → FitsPlan plan replica cuts

abbrev pub EachKeepsSeat : List Cuts → List Cuts → Type 0
EachKeepsSeat all all' = (replica : ℕ) (cuts cuts' : Cuts) → slice_get all replica ≡ Some cuts → slice_get all' replica ≡ Some cuts' → KeepsSeat cuts cuts'

-- each seat raised what the authors at its replica cut
abbrev pub EachRaises : Stage → List Cuts → List Cuts → Type 0
EachRaises stage all all' = (replica : ℕ) (cuts cuts' : Cuts) → slice_get all replica ≡ Some cuts → slice_get all' replica ≡ Some cuts' → Raises cuts cuts' (slots_at (at_replica stage replica) (opening_edits cuts))

module _ {M E R : Type 0} where
  -- the turns of the authors at each replica stand together
  abbrev pub EachTurnsStand : Stage → List Cuts → List (List (Entry M Command E R)) → Type 0
  EachTurnsStand stage all journals = (replica : ℕ) (cuts : Cuts) (journal : List (Entry M Command E R)) → slice_get all replica ≡ Some cuts → slice_get journals replica ≡ Some journal
      → TurnsStand (at_replica stage replica) (opening_edits cuts) journal

module _ {M E R X : Type 0} where
  -- all are those of the others and then those of the last replica
  pub record AppendsReplica (others : Result (Vec M × Vec (List (Entry M Command E R))) X) (ran : Result (M × List (Entry M Command E R)) X) (all : Vec M × Vec (List (Entry M Command E R))) : Type 0 where
    pub front : Vec M × Vec (List (Entry M Command E R))
    pub last : M × List (Entry M Command E R)
    pub are_others : others ≡ Ok front
    pub is_last : ran ≡ Ok last
    pub machines : all.0.items ≡ front.0.items ++ last.0 ∷ []
    pub journals : all.1.items ≡ front.1.items ++ last.1 ∷ []

module _ {M E R : Type 0} (after : M → Actor → Command → M) (effect : M → Actor → Command → E) (reply : M → Actor → Command → R) where
  -- the machine of each replica ran the block
  abbrev pub EachHasRun : Stage → List M → List M → List (List (Entry M Command E R)) → Type 0
  EachHasRun stage firsts lasts journals =
      (replica : ℕ) (first last : M) (journal : List (Entry M Command E R))
      → slice_get firsts replica ≡ Some first → slice_get lasts replica ≡ Some last → slice_get journals replica ≡ Some journal
      → HasRun after effect reply (at_replica stage replica) first journal last

  -- a replica ran a plan, whatever the block of the plan is
  pub record HasRunPlan {X : Type 0} (plan : Plan) (replica : ℕ) (first : M) (cuts cuts' : Cuts) (ran : Result (M × List (Entry M Command E R)) X) : Type 0 where
    pub keeps_seat : KeepsSeat cuts cuts'
    pub has_run : IfOk ran (λ r. (stage : Stage) → IsPlanOf stage plan → HasRun after effect reply (at_replica stage replica) first r.1 r.0)
    pub raised : OnOk ran ((stage : Stage) → IsPlanOf stage plan → Raises cuts cuts' (slots_at (at_replica stage replica) (opening_edits cuts)))
    pub stand : IfOk ran (λ r. (stage : Stage) → IsPlanOf stage plan → TurnsStand (at_replica stage replica) (opening_edits cuts) r.1)

  -- all replicas ran it
  pub record HaveRunPlan {X : Type 0} (plan : Plan) (firsts : List M) (all all' : List Cuts) (ran : Result (Vec M × Vec (List (Entry M Command E R))) X) : Type 0 where
    pub as_many_cuts : length all' ≡ length all
    pub keep_seats : EachKeepsSeat all all'
    pub as_many : IfOk ran (λ r. length r.0.items ≡ length firsts)
    pub as_many_journals : IfOk ran (λ r. length r.1.items ≡ length firsts)
    pub have_run : IfOk ran (λ r. (stage : Stage) → IsPlanOf stage plan → EachHasRun stage firsts r.0.items r.1.items)
    pub raised : OnOk ran ((stage : Stage) → IsPlanOf stage plan → EachRaises stage all all')
    pub stand : IfOk ran (λ r. (stage : Stage) → IsPlanOf stage plan → EachTurnsStand stage all r.1.items)
