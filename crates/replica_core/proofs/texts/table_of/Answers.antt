use Rattle.std.proofs.Common.{refl}
use Rattle.grove_edits.specs.Graph.{graph}
use Rattle.grove_edits.proofs.Unique.{canonical_once}
use Rattle.replica_core.proofs.texts.table_of.Goals as goal

pub returns : goal.returns
returns c =
    canonical_once (graph c.args.edits) c.in_ok-table.table.edits c.args.edits c.in_ok-table.ensures (record { in_order = c.requires; same = λ e. refl })
