use Rattle.type_core.specs.TypeTable.{KeepsTypes}
use Rattle.type_core.proofs.MeetLemmas.{IsMeeting, meeting_size}
use Rattle.type_core.proofs.table.TypeTable.meet_of_consistent.Given as goal

abbrev pub invariant-loop-step : goal.invariant-loop-step
invariant-loop-step l = record {
  kept : KeepsTypes l.fn.self l.self;
  meeting : IsMeeting l.self l.fn.pairing l.waiting.items l.step;
}

abbrev pub decreases-loop-step : goal.decreases-loop-step
decreases-loop-step l = meeting_size l.self l.waiting.items l.step
