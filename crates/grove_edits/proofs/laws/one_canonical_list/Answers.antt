use Rattle.std.proofs.Common.{◌∙◌}
use Rattle.grove_edits.specs.Graph.{graph}
use Rattle.grove_edits.proofs.Graphs.{graph-same_edits}
use Rattle.grove_edits.proofs.Unique.{canonical_once}
use Rattle.grove_edits.proofs.laws.one_canonical_list.Goals as goal

pub returns-clause-one : goal.returns-clause-one
returns-clause-one c = canonical_once

pub returns-clause-same_edits : goal.returns-clause-same_edits
returns-clause-same_edits c = λ a b x y same of_a of_b.
    canonical_once (graph b) x y (record { in_order = of_a.in_order; same = λ e. of_a.same e ∙ graph-same_edits a b same.0 same.1 e }) of_b
