-- The heads so far are those of the vertices so far.
use Rattle.std.proofs.Common.{◌≡◌, ◌+◌, ◌*◌, ◌≤◌, take, not}
use Rattle.std.specs.Prelude.{filter}
use Rattle.live_graph.specs.Live.{live}
use Rattle.kept_records.specs.Local.{is_inner}
use Rattle.mark_incremental.proofs.heads.heads_among.Given as goal

abbrev pub invariant-loop-vertex : goal.invariant-loop-vertex
invariant-loop-vertex g l = record {
  heads : l.heads.items ≡ filter (λ v. not (is_inner (live l.graph) v)) (take l.vertex-index l.vertices);
  ticks : l.steps ≤ l.fn.steps + 3 * l.vertex-index;
}
