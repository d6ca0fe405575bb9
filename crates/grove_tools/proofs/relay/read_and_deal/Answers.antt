use Rattle.grove_tools.proofs.relay.read_and_deal.Goals as goal

pub returns-clause-dealt : goal.returns-clause-dealt
returns-clause-dealt c = record {
  version = c.in_ok-edits.ensures.spelled.0;
  edits = c.in_ok-edits.edits;
  spelled = c.in_ok-edits.ensures.spelled.1;
  dealt = c.in_ok-deal.ensures;
}
