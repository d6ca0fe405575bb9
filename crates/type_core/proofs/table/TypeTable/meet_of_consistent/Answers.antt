use Rattle.std.proofs.Common.{sym, subst, ◌∙◌}
use Rattle.type_core.specs.declared.meeting.Step.TheVariants.{Waits}
use Rattle.type_core.proofs.NodeLemmas.{KeepsTypes-trans}
use Rattle.type_core.proofs.MeetLemmas.{IsMeeting, IsPairingOf-kept, is_consistent-kept, not_apart, met_smaller, IsMeeting-parts, parts_smaller, last_within, IsMeeting-first, first_smaller, first_within, last_meet, IsMeeting-second, second_smaller}
use Rattle.type_core.proofs.table.TypeTable.meet_of_consistent.Goals as goal

pub loop-step-smaller-in-Met : goal.loop-step-smaller-in-Met
loop-step-smaller-in-Met c = met_smaller _ _ _ _ c.loop-step.invariant.meeting _ c.in-Waits.is c.in-Met.meet

pub unreachable-requires : goal.unreachable-requires
unreachable-requires c =
    not_apart _ _ _ _ c.loop-step.invariant.meeting _ c.in-Waits.is (is_consistent-kept _ _ c.loop-step.invariant.kept c.args.pairing c.requires.within ∙ c.requires.consistent) c.in-Clash.ensures

pub loop-step-smaller-in-Parts : goal.loop-step-smaller-in-Parts
loop-step-smaller-in-Parts c =
    parts_smaller _ _ _ _ c.loop-step.invariant.meeting _ c.in-Waits.is _ _ _ c.in-Parts.ensures _ c.in_ok-push-in-Parts.ensures.items

pub loop-step-preserved-in-Parts : goal.loop-step-preserved-in-Parts
loop-step-preserved-in-Parts c = record {
  kept = c.loop-step.invariant.kept;
  meeting = subst (λ waiting. IsMeeting c.loop-step.self c.args.pairing waiting (Waits c.in-Parts.first)) (sym c.in_ok-push-in-Parts.ensures.items)
      (IsMeeting-parts _ _ _ _ c.loop-step.invariant.meeting _ c.in-Waits.is _ _ _ c.in-Parts.ensures);
}

pub loop-step-smaller-in-First : goal.loop-step-smaller-in-First
loop-step-smaller-in-First c =
    first_smaller _ _ _ _ c.loop-step.invariant.meeting _ c.in-Done.is _ _ c.in-Some.ensures.items _ c.in-First.is _ c.in_ok-push-in-First.ensures.items

pub loop-step-preserved-in-First : goal.loop-step-preserved-in-First
loop-step-preserved-in-First c = record {
  kept = c.loop-step.invariant.kept;
  meeting = subst (λ waiting. IsMeeting c.loop-step.self c.args.pairing waiting (Waits c.in-First.second)) (sym c.in_ok-push-in-First.ensures.items)
      (IsMeeting-first _ _ _ _ c.loop-step.invariant.meeting _ c.in-Done.is _ _ c.in-Some.ensures.items _ c.in-First.is);
}

pub meet_of_parts-requires-clause-within : goal.meet_of_parts-requires-clause-within
meet_of_parts-requires-clause-within c = last_within _ _ _ _ c.loop-step.invariant.meeting _ c.in-Done.is _ _ c.in-Some.ensures.items

pub meet_of_parts-requires-clause-first : goal.meet_of_parts-requires-clause-first
meet_of_parts-requires-clause-first c = first_within _ _ _ _ c.loop-step.invariant.meeting _ c.in-Done.is _ _ c.in-Some.ensures.items _ c.in-Second.is

pub meet_of_parts-requires-clause-meet : goal.meet_of_parts-requires-clause-meet
meet_of_parts-requires-clause-meet c = last_meet _ _ _ _ c.loop-step.invariant.meeting _ c.in-Done.is _ _ c.in-Some.ensures.items _ c.in-Second.is

pub loop-step-smaller : goal.loop-step-smaller
loop-step-smaller c =
    second_smaller _ _ _ _ c.loop-step.invariant.meeting _ c.in-Done.is _ _ c.in-Some.ensures.items _ c.in-Second.is _ c.meet_of_parts.ensures.kept c.in_ok-both-in-Second.both

pub loop-step-preserved : goal.loop-step-preserved
loop-step-preserved c = record {
  kept = KeepsTypes-trans c.args.self.now c.loop-step.self c.meet_of_parts.new.self c.loop-step.invariant.kept c.meet_of_parts.ensures.kept;
  meeting = IsMeeting-second _ _ _ _ c.loop-step.invariant.meeting _ c.in-Done.is _ _ c.in-Some.ensures.items _ c.in-Second.is _ c.meet_of_parts.ensures.kept c.in_ok-both-in-Second.both
      (IsPairingOf-kept _ _ c.loop-step.invariant.kept c.args.pairing c.requires.within) c.in_ok-both-in-Second.ensures.number c.in_ok-both-in-Second.ensures.meet;
}
