use Rattle.std.proofs.Common.{◌≡◌, ℕ, ◌≤◌, List, Some, length, slice_get}
use Rattle.std.specs.Prelude.{vec_capacity}
use Rattle.grove_edits.specs.declared.edit.Edit.{Edit}
use Rattle.grove_tools.specs.Relay.{dealt_to}
use Rattle.grove_tools.proofs.relay.deal.Given as goal

-- each sender so far has its edits
pub record Dealt (l : goal.Live-loop-sender) : Type 0 where
  pub many : length l.lists.items ≡ l.sender
  pub room : l.senders ≤ vec_capacity l.lists
  pub each : (sender : ℕ) (list : List Edit) → slice_get l.lists.items sender ≡ Some list → list ≡ dealt_to l.senders sender 0 l.edits

abbrev pub invariant-loop-sender : goal.invariant-loop-sender
invariant-loop-sender l = Dealt l
