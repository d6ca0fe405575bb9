-- The step of a replica as a machine.
use Rattle.std.specs.Prelude.{ℕ, List, [], length, nat_lt, if◌then◌else◌}
use Rattle.grove_edits.specs.declared.edit.Edit.{Edit}
use Rattle.grove_edits.specs.declared.action.Action.{Action}
use Rattle.grove_edits.specs.declared.actor.Actor.{Actor}
use Rattle.grove_edits.specs.declared.actor.Actor.TheVariants.{Host, Author, Send}
use Rattle.grove_edits.specs.declared.answer.Answer.{Answer}
use Rattle.grove_edits.specs.declared.answer.Answer.TheVariants.{Done, Taken}
use Rattle.grove_edits.specs.declared.command.Command.{Command}
use Rattle.grove_edits.specs.declared.command.Command.TheVariants.{Act, Take}
use Rattle.user_actions.specs.Plan.{Planned, plan}
use Rattle.replica_core.specs.Content.{Content, with_taken}
use Rattle.replica_core.specs.Lists.{lists_of}
use Rattle.replica_core.specs.Plain.{as_edits}

-- the plan of an author's action
abbrev pub plan_of : Content → ℕ → Action → Planned
plan_of content author action = plan (lists_of content.edits) content.opening author action

abbrev pub nothing_planned : Planned
nothing_planned = record { edits = []; answer = Done }

-- nobody plans anything but an author, whose number is at least 1
abbrev pub plan_by : Content → Actor → Action → Planned
plan_by content Host action = nothing_planned
plan_by content (Author author) action = if nat_lt 0 author then plan_of content author action else nothing_planned
plan_by content (Send number) action = nothing_planned

-- the edits of a step: those of the plan, or those that are taken, whoever the actor is
abbrev pub effect : Content → Actor → Command → List Edit
effect content actor (Act action) = as_edits (plan_by content actor action).edits
effect content actor (Take piece bytes edits) = edits

-- and what is answered: that of the plan, or how many edits were taken
abbrev pub reply : Content → Actor → Command → Answer
reply content actor (Act action) = (plan_by content actor action).answer
reply content actor (Take piece bytes edits) = Taken (length edits)

-- a step takes its edits
abbrev pub after : Content → Actor → Command → Content
after content actor command = with_taken (effect content actor command) content
