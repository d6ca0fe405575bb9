use Rattle.std.proofs.Common.{inr, refl}
use Rattle.grove_edits.specs.Edit.{edit_edge}
use Rattle.mark_tests.specs.Near.{to_body}
use Rattle.mark_tests.proofs.Near.{body_is_far}
use Rattle.mark_tests.proofs.NearSize.{live_before, live_after, near_are, size}
use Rattle.mark_tests.proofs.near_tests.what_is_near_is_told_by_hand.Goals as goal

pub returns : goal.returns
returns c = record {
  live_before = live_before;
  live_after = live_after;
  near = near_are;
  off_the_walks = refl;
  is_there = inr (edit_edge to_body, (λ is. cc), inr refl);
  far = body_is_far;
  size = size;
}
