use Rattle.std.proofs.Common.{List, refl, subst}
use Rattle.grove_edits.specs.declared.edit.Edit.{Edit}
use Rattle.grove_edits.specs.Graph.{graph}
use Rattle.grove_edits.proofs.Unique.{canonical_once}
use Rattle.grove_answers.specs.Counts.{AreCounts}
use Rattle.session_answers.proofs.summarizing.counts_of.Goals as goal

pub returns : goal.returns
returns c =
    let edits = c.args.edits.now in
    let same = canonical_once (graph edits) c.in_ok-table.table.edits edits c.in_ok-table.ensures (record { in_order = c.requires; same = λ e. refl }) in
    subst (λ (es : List Edit). AreCounts (graph es) c.in_ok-grove_counts.field-0) same c.in_ok-grove_counts.ensures
