use Rattle.std.proofs.Common.{refl}
use Rattle.grove_edits.specs.Edit.{edit_edge}
use Rattle.grove_edits.proofs.CanonicalLists.{begins_with-first}
use Rattle.grove_edits.proofs.canonical.begins_with_edge.Goals as goal

pub returns-in-len1-up : goal.returns-in-len1-up
returns-in-len1-up c =
    begins_with-first (edit_edge c.args.edit.now) (edit_edge c.first-item.result) c.args.edits.now c.first-item.result c.have_same_edge.result refl c.in-len1-up.len_at_least c.first-item.is c.have_same_edge.ensures
