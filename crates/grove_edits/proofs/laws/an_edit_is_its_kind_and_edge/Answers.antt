use Rattle.grove_edits.proofs.Unique.{edit_from_fields}
use Rattle.grove_edits.proofs.laws.an_edit_is_its_kind_and_edge.Goals as goal

pub returns : goal.returns
returns c = edit_from_fields
