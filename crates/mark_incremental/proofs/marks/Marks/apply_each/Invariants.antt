-- The edits so far are applied, and can be taken back.
use Rattle.std.proofs.Common.{◌≡◌, ◌≤◌, length, take, drop, vec_len, vec_capacity}
use Rattle.std.specs.Prelude.{reverse}
use Rattle.grove_edits.specs.Graph.{graph, graph_join, IsSame}
use Rattle.graph_words.specs.States.{state_in}
use Rattle.mark_incremental.specs.Standing.{StandFor}
use Rattle.mark_incremental.specs.Receipts.{held, HaveLed}
use Rattle.mark_incremental.proofs.AllApplied.{IsSpent}
use Rattle.mark_incremental.proofs.marks.Marks.apply_each.Given as goal

abbrev pub invariant-loop-edit : goal.invariant-loop-edit
invariant-loop-edit g l = record {
  stand : StandFor (state_in l.graph) l.self;
  joined : IsSame (state_in l.graph) (graph_join (state_in l.initial.graph) (graph (take l.edit-index l.edits)));
  led : HaveLed (reverse l.receipts.items) (held l.initial.graph l.initial.self) (held l.graph l.self);
  spent : IsSpent (state_in l.initial.graph) l.edits l.initial.steps (state_in l.graph) (drop l.edit-index l.edits) l.steps;
  count : vec_len l.receipts ≡ l.edit-index;
  room : length l.edits ≤ vec_capacity l.receipts;
}
